-- A font that was written, read into a fresh store of the same length, is there again with all its characters. Assumes nothing.
use Prim.Native.Nat.{ℕ, ◌+◌, ◌≤◌, ◌<◌}
use mathlib.Core.Path.{◌≡◌, refl, sym, ap, ◌∙◌, subst}
use mathlib.Core.List.{List, [], ◌∷◌, ◌++◌, append_assoc}
use mathlib.Core.Option.{some}
use mathlib.Core.Bool.{Bool, true, false, cond}
use native.Mathlib.Omega.{arith}
use borrow.Author.Tests.{leb-false}
use lib.Dec.{leb, eqb}
use Rattle.blocks.specs.Header.{orientation, is_kept_header, own_header}
use Rattle.blocks.specs.Character.{is_kept_first}
use Rattle.blocks.proofs.HeaderBytes.{own_length, own_within}
use Rattle.blocks.proofs.KeptHeader.{is_kept_length as header_length_lem}
use Rattle.form.specs.Layout.{font_record, key_of, mark_record}
use Rattle.form.specs.Model.{Rec, font, character, Store, Owner, number, place, key, owner_after, no_owner, sorted, held_of, held_under, is_kept, allowed, encode, decode, total, size_of, Valid}
use Rattle.form.specs.Checks.{on_store}
use Rattle.form.specs.Order.{keep, below, from, after, find_record}
use Rattle.form.specs.Records.{records_of}
use Rattle.store.specs.Calls.{fresh}
use Rattle.store.proofs.Holds.{valid_decode}
use Rattle.form.proofs.RecordBytes.{allowed_char, allowed_font}
use Rattle.store.proofs.Appends.{fresh_valid, first_store, font_laid}
use Rattle.form.proofs.Codec.{decode_encode, sorted_inv}
use Rattle.form.proofs.Order.{sorted_from}
use Rattle.form.proofs.Lookup.{found, font_at_lem}
use Rattle.stream.specs.RoundTrip.{commands_of, commands_in, mark_after, only_font, restored, FontComesBack}
use Rattle.stream.specs.Written.{written_record, written_run, written}
use Rattle.stream.specs.Writing.{set_font, font_block_command}
use Rattle.stream.specs.Reading.{Ended, reading_of, end_answer, reading}
use Rattle.stream.proofs.Words.{reads, target, all_done, on_number, on_font_lem}
use Rattle.stream.proofs.Refills.{Chars, finished, filled, run_read}
use Rattle.form.proofs.FontRecords.{of_in, of_out, none_of}

-- ── the records of a font in a store
kept_at : (t o : ℕ) → t ≡ o → (h d : List ℕ) → is_kept_first h t ≡ true → is_kept (held_of h d) ≡ true → is_kept (held_under o h d) ≡ true
unfolding held_under
kept_at t o e h d a b = rw (← e, a) b

-- behind a font its own characters stand first, and none of its number comes later
chars_of : (ts : List Rec) (n : ℕ) (g : List ℕ) (k : ℕ) (u : Owner) → sorted k u ts ≡ true → u.owner ≡ n + 1 → u.orientation ≡ orientation g → key_of n 0 < k → Chars n g k (records_of n ts)
unfolding number place owner_after
chars_of [] n g k u o p q l = subst (Chars n g k) (sym (none_of [] n (key_of (n + 1) 0) u (unfold sorted in refl) (omega arith))) tt
chars_of (font m h ∷ ts) n g k u o p q l =
    let w = sorted_inv k u (font m h) ts o in
    let above : n < m = omega (arith, w.least) in
    let e : records_of n (font m h ∷ ts) ≡ [] = of_out n (font m h) ts (λ e. omega (arith, e)) ∙ none_of ts n (key (font m h) + 1) (owner_after u (font m h)) w.rest (omega arith) in
    subst (Chars n g k) (sym e) tt
chars_of (character m c h d ∷ ts) n g k u o p q l =
    let w = sorted_inv k u (character m c h d) ts o in
    let a = allowed_char u m c h d w.ok in
    let is : m ≡ n = omega (arith, a.owner) in
    let rest = chars_of ts n g (key_of n (c + 1) + 1) u (subst (λ (x : ℕ). sorted (key_of x (c + 1) + 1) u ts ≡ true) is w.rest) p q (omega arith) in
    subst (Chars n g k) (sym (of_in n (character m c h d) ts is)) (is, a.code, omega (arith, w.least), kept_at u.orientation (orientation g) q h d a.kept a.whole, rest)

of_same : (n : ℕ) (r : Rec) (a b : List Rec) → records_of n a ≡ records_of n b → records_of n (r ∷ a) ≡ records_of n (r ∷ b)
unfolding records_of keep
of_same n r a b i = rw i

of_from : (rs : List Rec) (n : ℕ) → records_of n (from (key_of n 0) rs) ≡ records_of n rs
unfolding keep
of_from [] n = refl
of_from (r ∷ rs) n = go (leb (key_of n 0) (key r)) refl (of_from rs n)
  where
    go : (t : Bool) → leb (key_of n 0) (key r) ≡ t → records_of n (from (key_of n 0) rs) ≡ records_of n rs → records_of n (cond t (r ∷ from (key_of n 0) rs) (from (key_of n 0) rs)) ≡ records_of n (r ∷ rs)
    go true q i = of_same n r (from (key_of n 0) rs) rs i
    go false q i = i ∙ sym (of_out n r rs (λ e. omega (arith, e, leb-false (key_of n 0) (key r) q)))

total_of : (rs : List Rec) (n : ℕ) → total (records_of n rs) ≤ total rs
unfolding records_of keep total
total_of [] n = omega arith
total_of (r ∷ rs) n = go (eqb (number r) n) (total_of rs n)
  where
    go : (t : Bool) → total (records_of n rs) ≤ total rs → total (cond t (r ∷ records_of n rs) (records_of n rs)) ≤ total (r ∷ rs)
    go true h = unfold total in omega arith
    go false h = unfold total in omega arith

-- the font itself, then its characters
pub record Kept (n : ℕ) (g : List ℕ) (rs : List Rec) : Type 0 where
  pub rest : List Rec
  pub are : records_of n rs ≡ font n g ∷ rest
  pub chars : Chars n g (key_of n 0 + 1) rest

pub kept_of_lem : (n : ℕ) (g : List ℕ) (rs : List Rec) → sorted 0 no_owner rs ≡ true → find_record (key_of n 0) rs ≡ some (font n g) → Kept n g rs
unfolding number place owner_after
kept_of_lem n g rs o f =
    let x = found (key_of n 0) 0 no_owner (font n g) rs o f in
    let t = from (key_of n 0 + 1) rs in
    let u = after no_owner (below (key_of n 0) rs) in
    let s : sorted (key_of n 0) u (font n g ∷ t) ≡ true = subst (λ (l : List Rec). sorted (key_of n 0) u l ≡ true) x.rest (sorted_from (key_of n 0) 0 no_owner rs o) in
    let w = sorted_inv (key_of n 0) u (font n g) t s in
    record {
      rest = records_of n t;
      are = sym (of_from rs n) ∙ ap (records_of n) x.rest ∙ of_in n (font n g) t refl;
      chars = chars_of t n g (key_of n 0 + 1) (owner_after u (font n g)) w.rest refl refl (omega arith);
    }

-- ── the round trip
module _ (n : ℕ) (g : List ℕ) (st : Store) (v : Valid st) (low : n ≤ 32767) (ok : is_kept_header g ≡ true) (w : Kept n g st.recs) where
  fits : mark_record + font_record + total w.rest ≤ st.size
  unfolding total size_of
  fits =
      let t : total (font n g ∷ w.rest) ≤ total st.recs = subst (λ (l : List Rec). total l ≤ total st.recs) w.are (total_of st.recs n) in
      omega (arith, v.room)

  font_read : (reads [] (written_run (font n g ∷ w.rest)) (target 0 0) (all_done 0 (encode (fresh st.size))) ≡ finished (commands_in (font n g ∷ w.rest)) (filled (font n g ∷ w.rest) (fresh st.size))) × Valid (filled (font n g ∷ w.rest) (fresh st.size))
  unfolding written_run written_record commands_in commands_of mark_after total size_of
  font_read =
      let z = font_laid n g st.size low ok (omega (arith, fits)) v.small in
      let s1 = first_store n g st.size in
      let y = run_read n g low w.rest (key_of n 0 + 1) w.chars s1 z.1 (omega (arith, fits)) (set_font n ++ font_block_command (own_header g)) 0 2 in (
        ap (λ (l : List ℕ). reads [] l (target 0 0) (all_done 0 (encode (fresh st.size)))) (append_assoc (set_font n) (font_block_command (own_header g)) (written_run w.rest))
            ∙ on_number [] (font_block_command (own_header g) ++ written_run w.rest) 0 0 0 (encode (fresh st.size)) n low
            ∙ on_font_lem (set_font n) (written_run w.rest) n 0 1 (encode (fresh st.size)) (own_header g) s1 (omega (arith, own_length g (omega (arith, header_length_lem g ok)), (own_within g).1)) z.0
            ∙ y.0,
        y.1,
      )

  restores : (reading (written n st.recs) (encode (fresh st.size)) ≡ restored n st) × (decode (encode (only_font n st)) ≡ some (only_font n st))
  unfolding reading on_store written end_answer
  restores =
      let f : Valid (fresh st.size) = fresh_valid st.size (omega (arith, fits)) v.small in
      rw (decode_encode (fresh st.size) f, w.are) (ap (λ (x : Ended). reading_of x) font_read.0, decode_encode (filled (font n g ∷ w.rest) (fresh st.size)) font_read.1)

pub round_trip : FontComesBack
round_trip s st e n r f =
    let v = valid_decode s st e in
    let x = found (key_of n 0) 0 no_owner r st.recs v.order f in
    let y = font_at_lem n _ r x.ok x.is in
    let o = allowed_font _ n y.0 (subst (λ (z : Rec). allowed (after no_owner (below (key_of n 0) st.recs)) z ≡ true) y.1 x.ok) in
    restores n y.0 st v o.0 o.1 (kept_of_lem n y.0 st.recs v.order (f ∙ ap some y.1))
