-- Demand 2, its second half: the round trip through the calls. Assumes nothing.
use Prim.Native.Nat.{ℕ, ◌+◌, ◌≤◌}
use mathlib.Core.Path.{◌≡◌, refl, sym, ap, ◌∙◌, fun_ext}
use mathlib.Core.List.{List, [], ◌∷◌}
use mathlib.Core.Bool.{Bool, true, false, ◌&&◌}
use mathlib.Core.Option.{Option, none, some}
use native.Mathlib.Omega.{arith}
use borrow.Author.Tests.{le-leb, leb-true, eqb-true, eqb-false}
use lib.Dec.{leb, eqb}
use lib.ListN.{length, take, drop, get_or}
use lib.Seq.{take-append_seam}
use Rattle.form.specs.Layout.{key_of}
use Rattle.form.specs.Num.{◌and◌}
use Rattle.form.specs.Model.{Rec, Store, Owner, number, place, key, owner_after, no_owner, sorted, encode, split, mark_in, valid_or, decode}
use Rattle.form.specs.Order.{keep, find_record}
use Rattle.form.specs.Checks.{on_store, checked, finding, on_font, on_character}
use Rattle.store.specs.Answer.{After, refuse, Telling, untold}
use Rattle.form.specs.Records.{records_of}
use Rattle.store.specs.Calls.{fresh, kept_of, onto, making_fresh, characters_of, telling_font, telling_character}
use Rattle.store.specs.Drawing.{drawing_row, drawing_picture}
use Rattle.form.proofs.Numbers.{both}
use Rattle.form.proofs.RecordBytes.{guard_is}
use Rattle.form.proofs.Codec.{store_of, sorted_inv}
use Rattle.form.proofs.Order.{place_small}
use Rattle.form.proofs.Lookup.{find_other}
use Rattle.store.proofs.Holds.{valid_decode}
use Rattle.stream.specs.Reading.{Reading, reading}
use Rattle.stream.specs.Written.{WriteOut, unwritten, written, writing_font}
use Rattle.stream.specs.RoundTrip.{only_font, restored}
use Rattle.form.proofs.FontRecords.{of_in, of_out}
use Rattle.stream.proofs.RoundTrip.{round_trip}
use Rattle.profile.specs.Profile.{rules, broken_in, unchecked, checking_profile, writing_profiled}
use Rattle.profile.specs.declared.check.ProfileChecked.{ProfileChecked}
use Rattle.profile.proofs.Search.{same_broken}
use Rattle.profile.proofs.Profile.{profiled}
use Rattle.marlinfold.specs.Calls.{make_fresh, write_font, read_stream, check_profile, write_profiled, Outcome, answered, of_writing, of_check, outcome, Answer, leaves}
use Rattle.marlinfold.specs.Demands.{stream_by, stream_of, Again, RoundTrip, ProfiledComesBack}

-- ── the font's records alone answer as all do
find_of : (rs : List Rec) (n p k : ℕ) (u : Owner) → sorted k u rs ≡ true → p ≤ 256 → find_record (key_of n p) (records_of n rs) ≡ find_record (key_of n p) rs
find_of [] n p k u o l = unfold records_of keep in refl
find_of (r ∷ rs) n p k u o l =
    let w = sorted_inv k u r rs o in
    go (place_small u r w.ok) (find_of rs n p (key r + 1) (owner_after u r) w.rest l) (eqb (number r) n) refl
  where
    go : place r ≤ 256 → find_record (key_of n p) (records_of n rs) ≡ find_record (key_of n p) rs → (t : Bool) → eqb (number r) n ≡ t → find_record (key_of n p) (records_of n (r ∷ rs)) ≡ find_record (key_of n p) (r ∷ rs)
    go s i true q = ap (find_record (key_of n p)) (of_in n r rs (eqb-true (number r) n q)) ∙ (unfold find_record in rw i)
    go s i false q =
        let e : number r ≡ n → ⊥ = eqb-false (number r) n q in
        ap (find_record (key_of n p)) (of_out n r rs e) ∙ i ∙ sym (find_other (key_of n p) r rs (λ x. e (omega (arith, x))))

of_twice : (rs : List Rec) (n : ℕ) → records_of n (records_of n rs) ≡ records_of n rs
of_twice [] n = unfold records_of keep in refl
of_twice (r ∷ rs) n = go (of_twice rs n) (eqb (number r) n) refl
  where
    go : records_of n (records_of n rs) ≡ records_of n rs → (t : Bool) → eqb (number r) n ≡ t → records_of n (records_of n (r ∷ rs)) ≡ records_of n (r ∷ rs)
    go i true q =
        let e = eqb-true (number r) n q in
        ap (records_of n) (of_in n r rs e) ∙ of_in n r (records_of n rs) e ∙ ap (λ (l : List Rec). r ∷ l) i ∙ sym (of_in n r rs e)
    go i false q = let e = of_out n r rs (eqb-false (number r) n q) in ap (records_of n) e ∙ i ∙ sym e

characters_in : (n : ℕ) (r : Rec) (a b : List Rec) → characters_of n a ≡ characters_of n b → characters_of n (r ∷ a) ≡ characters_of n (r ∷ b)
unfolding characters_of keep
characters_in n r a b i = rw i

characters_out : (n : ℕ) (r : Rec) (rs : List Rec) → eqb (number r) n ≡ false → characters_of n (r ∷ rs) ≡ characters_of n rs
unfolding characters_of keep ◌and◌
characters_out n r rs q = rw q

characters_of_lem : (rs : List Rec) (n : ℕ) → characters_of n (records_of n rs) ≡ characters_of n rs
characters_of_lem [] n = unfold records_of keep in refl
characters_of_lem (r ∷ rs) n = go (characters_of_lem rs n) (eqb (number r) n) refl
  where
    go : characters_of n (records_of n rs) ≡ characters_of n rs → (t : Bool) → eqb (number r) n ≡ t → characters_of n (records_of n (r ∷ rs)) ≡ characters_of n (r ∷ rs)
    go i true q = ap (characters_of n) (of_in n r rs (eqb-true (number r) n q)) ∙ characters_in n r (records_of n rs) rs i
    go i false q = ap (characters_of n) (of_out n r rs (eqb-false (number r) n q)) ∙ i ∙ sym (characters_out n r rs q)

broken_of : (rs : List Rec) (n : ℕ) (h : List ℕ) → sorted 0 no_owner rs ≡ true → broken_in n h (records_of n rs) ≡ broken_in n h rs
unfolding broken_in
broken_of rs n h o = same_broken rules 1 h (λ c. find_record (key_of n (c + 1)) (records_of n rs)) (λ c. find_record (key_of n (c + 1)) rs) (λ c l. find_of rs n (c + 1) 0 no_owner o (omega arith))

and_false : (t : Bool) → (t && false) ≡ false
and_false true = refl
and_false false = refl

-- ── a call on the font, before and after
module _ {A : Type 0} (refuse : ℕ → A) (n : ℕ) (s u : List ℕ) (st : Store) (e : decode s ≡ some st) (e' : decode u ≡ some (only_font n st)) (o : sorted 0 no_owner st.recs ≡ true) where
  on_font_lem : (f : Store → Rec → A) → ((r : Rec) → f (only_font n st) r ≡ f st r) → on_font refuse n u f ≡ on_font refuse n s f
  unfolding on_font on_store
  on_font_lem f i = rw (e, e', find_of st.recs n 0 0 no_owner o (omega arith)) (ap (λ (g : Rec → A). checked refuse (leb n 32767) 2 (finding refuse (find_record (key_of n 0) st.recs) 6 g)) (fun_ext i))

  on_character_lem : (c : ℕ) (f : Rec → A) → on_character refuse n c u (λ st. f) ≡ on_character refuse n c s (λ st. f)
  unfolding on_character on_store
  on_character_lem c f = go (leb c 255) refl
    where
      go : (t : Bool) → leb c 255 ≡ t → on_character refuse n c u (λ st. f) ≡ on_character refuse n c s (λ st. f)
      go true q = unfold on_character on_store in rw (e, e', find_of st.recs n 0 0 no_owner o (omega arith), find_of st.recs n (c + 1) 0 no_owner o (omega (arith, leb-true c 255 q)))
      go false q = unfold on_character on_store in rw (e, e', q, and_false (leb n 32767))

-- ── writing that is done
-- what a font that is written was written from
record Wrote (n : ℕ) (out s : List ℕ) : Type 0 where
  store : Store
  from : decode s ≡ some store
  head : Rec
  there : find_record (key_of n 0) store.recs ≡ some head
  stream : stream_of n out s ≡ written n store.recs

none_wrote : (n : ℕ) (out s : List ℕ) → decode s ≡ none → (writing_font n s out).refusal ≡ 1
unfolding writing_font on_font on_store
none_wrote n out s e = rw e

module _ (n : ℕ) (out s : List ℕ) (st : Store) (e : decode s ≡ some st) where
  abbrev rest : Rec → WriteOut
  rest r = checked (unwritten out) (leb (length (written n st.recs)) (length out)) 12 (record { refusal = 0; count = length (written n st.recs); out = onto (written n st.recs) out })

  write_is : writing_font n s out ≡ checked (unwritten out) (leb n 32767) 2 (finding (unwritten out) (find_record (key_of n 0) st.recs) 6 rest)
  unfolding writing_font on_font on_store
  write_is = rw e

  some_wrote : (writing_font n s out).refusal ≡ 0 → Wrote n out s
  some_wrote z = go (leb n 32767) refl (find_record (key_of n 0) st.recs) refl (leb (length (written n st.recs)) (length out)) refl
    where
      go : (a : Bool) → leb n 32767 ≡ a → (o : Option Rec) → find_record (key_of n 0) st.recs ≡ o → (b : Bool) → leb (length (written n st.recs)) (length out) ≡ b → Wrote n out s
      go false p o q b r = let y : (writing_font n s out).refusal ≡ 2 = ap (λ (w : WriteOut). w.refusal) write_is ∙ rw p in absurd (omega (arith, y, z))
      go true p none q b r = unfold finding in let y : (writing_font n s out).refusal ≡ 6 = ap (λ (w : WriteOut). w.refusal) write_is ∙ rw (p, q) in absurd (omega (arith, y, z))
      go true p (some h) q false r = unfold finding in let y : (writing_font n s out).refusal ≡ 12 = ap (λ (w : WriteOut). w.refusal) write_is ∙ rw (p, q, r) in absurd (omega (arith, y, z))
      go true p (some h) q true r = unfold finding in
          let w : writing_font n s out ≡ record { refusal = 0; count = length (written n st.recs); out = onto (written n st.recs) out } = write_is ∙ rw (p, q, r) in
          record {
            store = st;
            from = e;
            head = h;
            there = q;
            stream = ap (λ (x : WriteOut). take x.count x.out) w ∙ take-append_seam (written n st.recs) (drop (length (written n st.recs)) out);
          }

wrote : (n : ℕ) (out s : List ℕ) → (writing_font n s out).refusal ≡ 0 → Wrote n out s
wrote n out s z = go (decode s) refl
  where
    go : (o : Option Store) → decode s ≡ o → Wrote n out s
    go none e = absurd (omega (arith, sym z ∙ none_wrote n out s e))
    go (some st) e = some_wrote n out s st e z

-- ── a fresh store of the same length
sized : (s : List ℕ) (st : Store) → decode s ≡ some st → st.size ≡ length s
unfolding decode valid_or
sized s st e = go (split (drop 12 s)) (guard_is _ _ st e)
  where
    go : (o : Option (List Rec)) → valid_or (length s) (mark_in s) (drop 12 s) o ≡ some st → st.size ≡ length s
    go none q = let z : ◌≡◌ {A = ℕ} 0 1 = unfold valid_or in cc in absurd (omega arith)
    go (some rs) q = let i : store_of s rs ≡ st = cc (guard_is _ _ st q) in ap (λ (x : Store). x.size) (sym i)

made : (t : List ℕ) → 12 ≤ length t → length t ≤ 65536 → leaves make_fresh t ≡ encode (fresh (length t))
unfolding making_fresh
made t a b =
    let q : leb 12 (length t) and leb (length t) 65536 ≡ true = both (leb 12 (length t)) (leb (length t) 65536) (le-leb 12 (length t) a) (le-leb (length t) 65536 b) in
    rw (q, leaves)

-- ── the claim
-- what a caller is told
abbrev told_as : Telling → Answer
told_as a = record { refusal = a.refusal; numbers = a.count ∷ []; out = a.out }

abbrev drawn_as : After → Answer
drawn_as a = record { refusal = a.answer; numbers = []; out = a.bytes }

abbrev written_as : WriteOut → Answer
written_as a = record { refusal = a.refusal; numbers = a.count ∷ []; out = a.out }

abbrev check_as : ProfileChecked → Answer
check_as a = record { refusal = a.refusal; numbers = a.rule ∷ a.code ∷ []; out = [] }

again : (n : ℕ) (s u : List ℕ) (st : Store) → decode s ≡ some st → decode u ≡ some (only_font n st) → Again n s u
unfolding telling_font telling_character drawing_row drawing_picture writing_font written checking_profile writing_profiled
again n s u st e e' =
    let o = (valid_decode s st e).order in
    record {
      store = st;
      before = e;
      afterwards = e';
      font_told = λ out. ap told_as (on_font_lem (untold out) n s u st e e' o _ (λ r. rw (characters_of_lem st.recs n)));
      character_told = λ c out. ap told_as (on_character_lem (untold out) n s u st e e' o c _);
      row_drawn = λ c row out. ap drawn_as (on_character_lem (refuse out) n s u st e e' o c _);
      picture_drawn = λ c out. ap drawn_as (on_character_lem (refuse out) n s u st e e' o c _);
      font_written = λ out. ap written_as (on_font_lem (unwritten out) n s u st e e' o _ (λ r. rw (of_twice st.recs n)));
      profile_checked = ap check_as (on_font_lem unchecked n s u st e e' o _ (λ r. rw (broken_of st.recs n (kept_of r) o)));
      profiled_written = λ out. ap written_as (on_font_lem (unwritten out) n s u st e e' o _ (λ r. rw (of_twice st.recs n, broken_of st.recs n (kept_of r) o)));
    }

pub demand2 : RoundTrip
demand2 n out s t z l =
    let w = wrote n out s z in
    let st = w.store in
    let v = valid_decode s st w.from in
    let long : length t ≡ st.size = l ∙ sym (sized s st w.from) in
    let f : leaves make_fresh t ≡ encode (fresh st.size) = made t (omega (arith, v.room)) (omega (arith, v.small)) ∙ ap (λ (k : ℕ). encode (fresh k)) long in
    let r = round_trip s st w.from n w.head w.there in
    let all : reading (stream_of n out s) (leaves make_fresh t) ≡ restored n st = rw (f, w.stream) r.0 in (
      ap (λ (x : Reading). x.answer.refusal) all,
      ap (λ (x : Reading). x.answer.refused) all,
      again n s (reading (stream_of n out s) (leaves make_fresh t)).bytes st w.from (ap (λ (x : Reading). decode x.bytes) all ∙ r.1),
    )

-- ── W-207: what the second call writes meets the profile when it is read
pub profiled_comes_back : ProfiledComesBack
profiled_comes_back n out s t z l =
    let p = profiled n s out z in
    let same : outcome (write_profiled n out) s ≡ outcome (write_font n out) s = ap (of_writing s) p.0 in
    let met : outcome (check_profile n) s ≡ answered 0 (0 ∷ 0 ∷ []) s [] = ap (of_check s) p.1 in
    let d = demand2 n out s t (sym (ap (λ (o : Outcome). o.refusal) same) ∙ z) l in
    let stream : stream_by (write_profiled n out) s ≡ stream_of n out s = ap (λ (o : Outcome). take (get_or o.numbers 0 0) o.out) same in
    let o = outcome (read_stream (stream_of n out s)) (leaves make_fresh t) in
    rw stream (met, same, d.0, d.1, d.2, ap (λ (a : Answer). answered a.refusal a.numbers o.store a.out) (d.2.profile_checked ∙ ap check_as p.1))
