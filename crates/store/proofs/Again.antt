-- A call leaves a store a store, whatever it answers; and what it leaves of the fonts. Assumes nothing.
use mathlib.Core.Path.{◌≡◌, refl, sym, ap, ◌∙◌, subst}
use Rattle.std.specs.Prelude.{Ok, Err}
use mathlib.Core.List.{List, [], ◌∷◌, ◌++◌}
use mathlib.Core.Bool.{Bool, true, false, cond}
use mathlib.Core.Option.{Option, none, some}
use Prim.Native.Nat.{ℕ, ◌+◌, ◌<◌, ◌≤◌}
use native.Mathlib.Omega.{arith}
use lib.ListN.{length, drop}
use lib.Dec.{leb, eqb}
use borrow.Author.Tests.{leb-true, le-leb, eq-eqb, eqb-true}
use Rattle.blocks.specs.Check.{Check, verdict}
use Rattle.blocks.specs.Header.{orientation, header_checks, read_header, kept_header}
use Rattle.blocks.specs.Character.{class, width, height, character_length, kind_of, first_checks, read_first, kept_first, is_kept_first, descriptor_bytes, continuation_bytes}
use Rattle.pictures.specs.Size.{runs_class, data_limit}
use Rattle.pictures.specs.Picture.{Judged, judge, PastRun, kept_data}
use Rattle.blocks.specs.declared.character.Kind.{Kind}
use Rattle.blocks.specs.declared.character.Kind.TheVariants.{First, Continuation, Unknown}
use Rattle.std.specs.Prelude.{Some, None}
use Rattle.pictures.specs.Runs.{past_width}
use Rattle.blocks.proofs.KeptHeader.{kept_header_lem}
use Rattle.blocks.proofs.KeptFirst.{kept_first_lem}
use Rattle.pictures.proofs.KeptData.{held_whole, held_unfinished, judged_past, past_class}
use Rattle.form.specs.Layout.{key_of, last_code, last_font, least_store, mark_record, most_store}
use Rattle.form.specs.Num.{◌and◌}
use Rattle.form.specs.Model.{Rec, font, character, Mark, Store, no_owner, sorted, mark_ok, held_under, is_kept, run, encode, decode, total, Valid}
use Rattle.form.specs.Order.{find_record}
use Rattle.form.specs.Records.{is_store, records_in}
use Rattle.form.specs.Fonts.{Font, fonts_in, fonts_of, fonts_with, fonts_after}
use Rattle.form.specs.Checks.{on_store, checked, taking, finding, numbered, on_font, on_character}
use Rattle.store.specs.Answer.{After, no_run, refuse, done}
use Rattle.store.specs.Calls.{fresh, making_fresh, used, with_font, put_font, removing_font, store_without_character, removing_character, store_without_font, downloading_font, with_character, kept_of, data_of}
use Rattle.store.specs.Download.{names, refuse_run, within_width, without_font, by_kind, judged_of, kept_of_data, mark_for, put_character, downloading_character}
use Rattle.store.specs.BadRuns.{Sent, by_first, by_more, BadRunIn, ChecksPassed}
use Rattle.store.specs.Putting.{putting_font, placing, receiving, receiving_first, receiving_more, receiving_block, putting_block}
use Rattle.form.proofs.Numbers.{both_l, both_r}
use Rattle.form.proofs.Codec.{decode_encode}
use Rattle.form.proofs.RecordBytes.{kept_sides, kept_class}
use Rattle.store.proofs.Holds.{valid_decode}
use Rattle.form.proofs.Lookup.{found, font_at_lem, char_at, kept_under}
use Rattle.store.proofs.Replaced.{no_font, new_font, new_char}
use Rattle.store.proofs.Changed.{total_replaced, valid_font, valid_char, valid_cut}
use Rattle.store.proofs.Downloads.{new_allowed, mark_new}
use Rattle.store.proofs.FirstBlocks.{block_short}
use Rattle.store.proofs.Receives.{in_range_lem}
use Rattle.store.proofs.Leaves.{fonts_font, fonts_char}
use Rattle.form.proofs.Locates.{is_store_lem, store_is}

encoded : (st : Store) → Valid st → is_store (encode st) ≡ true
encoded st v = store_is (encode st) st (decode_encode st v)

fonts_encoded : (st : Store) → Valid st → fonts_of (encode st) ≡ fonts_in st.recs
unfolding fonts_of records_in
fonts_encoded st v = rw (decode_encode st v)

fonts_of_lem : (s : List ℕ) (st : Store) → decode s ≡ some st → fonts_of s ≡ fonts_in st.recs
unfolding fonts_of records_in
fonts_of_lem s st e = rw e

-- a store, where font n gave way to new ones if the answer is k
abbrev Left : ℕ → ℕ → List Font → List ℕ → After → Type 0
Left k n new s a = (is_store a.bytes ≡ true) × (fonts_of a.bytes ≡ fonts_after k n new a.answer (fonts_of s))

-- ── what holds of a call's answers: of its refusals, and of what stands behind each check
module _ (s : List ℕ) (P : After → Type 0) where
  abbrev Each : List Check → Type 0
  Each [] = Unit {0}
  Each (c ∷ cs) = P (refuse s c.number) × Each cs

  by_check : (t : Bool) (m : ℕ) (a : After) → P (refuse s m) → (t ≡ true → P a) → P (checked (refuse s) t m a)
  by_check true m a r f = f refl
  by_check false m a r f = r

  by_verdict : (cs : List Check) (a : After) → Each cs → (verdict cs ≡ Ok tt → P a) → P (taking (refuse s) (verdict cs) a)
  by_verdict [] a o f = f refl
  by_verdict (c ∷ cs) a o f = go c.holds refl (by_verdict cs a o.1)
    where
      go : (t : Bool) → c.holds ≡ t → ((verdict cs ≡ Ok tt → P a) → P (taking (refuse s) (verdict cs) a)) → P (taking (refuse s) (cond t (verdict cs) (Err c.number)) a)
      go true q ih = ih (λ e. f (rw q e))
      go false q ih = o.0

  by_find : (o : Option Rec) (m : ℕ) (f : Rec → After) → P (refuse s m) → ((r : Rec) → o ≡ some r → P (f r)) → P (finding (refuse s) o m f)
  unfolding finding
  by_find none m f r g = r
  by_find (some x) m f r g = g x refl

  by_kind_lem : (x : Kind) (first more : (List ℕ → List ℕ → After) → After) (both : List ℕ → List ℕ → After) → P (refuse s 4) → (x ≡ First → P (first both)) → (x ≡ Continuation → P (more both)) → P (by_kind (refuse s) x first more both)
  by_kind_lem First first more both r f g = f refl
  by_kind_lem Continuation first more both r f g = g refl
  by_kind_lem Unknown first more both r f g = r

-- a refusal with another number than k leaves what was a store
refusal : (k n : ℕ) (new : List Font) (s : List ℕ) → is_store s ≡ true → (m : ℕ) → eqb m k ≡ false → Left k n new s (refuse s m)
refusal k n new s is m e = (is, rw e)

-- a font with its characters gave way
with_left : (n k : ℕ) (new : List Rec) (s : List ℕ) (st : Store) → decode s ≡ some st → Valid (with_font n new st) → Left k n (fonts_in new) s (record { answer = k; bad = no_run; bytes = encode (with_font n new st) })
with_left n k new s st e v = (
  encoded (with_font n new st) v,
  fonts_encoded (with_font n new st) v ∙ fonts_font n new st.recs ∙ ap (fonts_with n (fonts_in new)) (sym (fonts_of_lem s st e)) ∙ sym (ap (λ (t : Bool). cond t (fonts_with n (fonts_in new) (fonts_of s)) (fonts_of s)) (eq-eqb k k refl)),
)

-- ── a font block
module _ (st : Store) (v : Valid st) where
  pub removed_valid : (n : ℕ) → Valid (store_without_font n st)
  unfolding total
  removed_valid n =
      let fits : used (store_without_font n st) ≤ st.size = omega (arith, total_replaced (key_of n 0) (key_of (n + 1) 0) [] st.recs v.order (omega arith), v.room) in
      valid_font n [] st v no_font fits

  pub put_valid : (n : ℕ) (b : List ℕ) → n ≤ last_font → read_header b ≡ Ok tt → used (put_font n (kept_header b) st) ≤ st.size → Valid (put_font n (kept_header b) st)
  put_valid n b l e fits = valid_font n (font n (kept_header b) ∷ []) st v (new_font (kept_header b) l (kept_header_lem b e)) fits

-- the font that a block brings
abbrev pub font_by : ℕ → List ℕ → List Font
font_by n b = record { number = n; kept = kept_header b } ∷ []

-- whatever holds of its refusals, and of an accepted block
module _ (n : ℕ) (b s : List ℕ) (is : is_store s ≡ true) (P : After → Type 0) (no : (m : ℕ) → eqb m 0 ≡ false → eqb m 8 ≡ false → P (refuse s m))
    (put : (st : Store) → decode s ≡ some st → Valid st → Valid (put_font n (kept_header b) st) → P (done (put_font n (kept_header b) st))) where
  pub font_answers : P (downloading_font n b s)
  unfolding downloading_font on_store read_header
  font_answers =
      let w = is_store_lem s is in
      let st = w.0 in
      let v = valid_decode s st w.1 in
      rw w.1
      (by_check s P (leb n last_font) 2 _ (no 2 refl refl) (λ l. by_verdict s P (header_checks b) _ (no 3 refl refl, (no 4 refl refl, (no 5 refl refl, tt))) (λ e.
      by_check s P (leb (used (put_font n (kept_header b) st)) st.size) 10 _ (no 10 refl refl) (λ f. put st w.1 v (put_valid st v n b (leb-true _ _ l) e (leb-true _ _ f))))))

pub font_leaves : (n : ℕ) (b s : List ℕ) → is_store s ≡ true → Left 0 n (font_by n b) s (downloading_font n b s)
unfolding fonts_in
font_leaves n b s is = font_answers n b s is (Left 0 n (font_by n b) s) (λ m e f. refusal 0 n (font_by n b) s is m e) (λ st e v x. with_left n 0 (font n (kept_header b) ∷ []) s st e x)

-- ── a character block
-- what a character that is to be placed finds
pub record Guest (n c : ℕ) (s h d : List ℕ) (st : Store) : Type 0 where
  pub is : decode s ≡ some st
  pub valid : Valid st
  pub low : n ≤ last_font
  pub code : c ≤ last_code
  pub header : List ℕ
  pub there : find_record (key_of n 0) st.recs ≡ some (font n header)
  pub ok : is_kept (held_under (orientation header) h d) ≡ true

module _ (n c : ℕ) (s h d : List ℕ) (st : Store) (g : Guest n c s h d st) where
  pub placed_valid : used (put_character n c h d st) ≤ st.size → Valid (put_character n c h d st)
  placed_valid fits =
      let ok = new_allowed n c g.header h d g.low g.code g.ok in
      valid_char n c g.header (character n c h d ∷ []) st g.valid g.code g.there (new_char h d ok) fits (mark_for n c h d) (mark_new n c h d st.recs g.low g.code)

  -- it stands, or its font goes
  placed_answers : (P : After → Type 0) → (Valid (put_character n c h d st) → P (done (put_character n c h d st))) → (Valid (store_without_font n st) → P (record { answer = 10; bad = no_run; bytes = encode (store_without_font n st) })) → P (placing n c h d st)
  unfolding placing
  placed_answers P f x = go (leb (used (put_character n c h d st)) st.size) refl
    where
      go : (t : Bool) → leb (used (put_character n c h d st)) st.size ≡ t → P (checked (without_font n st) t 10 (done (put_character n c h d st)))
      go true q = f (placed_valid (leb-true _ _ q))
      go false q = x (removed_valid st g.valid n)

-- what a block that is accepted, but for its room, brings: the data that it stands for, which has no run past the width, and what is kept of it
pub record Brought (n c : ℕ) (b s h d : List ℕ) (st : Store) : Type 0 where
  pub guest : Guest n c s h (kept_of_data h d) st
  pub sent : Sent n c b st h d
  pub fits : (row filled run : ℕ) → judged_of h d ≡ Err (past_width row filled run) → ⊥

-- the numbers by which it is refused, on a store, with nothing else told and nothing changed
abbrev pub AtEach : (ℕ → Type 0) → Type 0
AtEach P = P 2 × P 3 × P 4 × P 5 × P 6 × P 7 × P 9

-- the mark names this character
names_mark : (n c : ℕ) (m : Mark) → names n c m ≡ true → m ≡ record { on = 1; font_of = n; code_of = c }
names_mark n c m e =
    let q = both_r (eqb m.on 1) (eqb m.font_of n and eqb m.code_of c) e in
    let on : m.on ≡ 1 = eqb-true _ _ (both_l (eqb m.on 1) _ e) in
    let font : m.font_of ≡ n = eqb-true _ _ (both_l (eqb m.font_of n) _ q) in
    let code : m.code_of ≡ c = eqb-true _ _ (both_r (eqb m.font_of n) (eqb m.code_of c) q) in
    rw (← on, ← font, ← code)

-- whatever holds of its refusals, of the numbers of a run past the width, of a character that stands, and of a font that goes for lack of room
module _ (n c : ℕ) (b s : List ℕ) (is : is_store s ≡ true) (P : After → Type 0) (no : AtEach (λ m. P (refuse s m)))
    (past : (row filled run : ℕ) (x : BadRunIn n c b s row filled run) → ChecksPassed n c b x.store → P (refuse_run s row filled run))
    (put : (st : Store) (h d : List ℕ) → Brought n c b s h d st → Valid (put_character n c h (kept_of_data h d) st) → P (done (put_character n c h (kept_of_data h d) st)))
    (gone : (st : Store) (h d : List ℕ) → Brought n c b s h d st → Valid (store_without_font n st) → P (record { answer = 10; bad = no_run; bytes = encode (store_without_font n st) })) where
  module _ (st : Store) (e : decode s ≡ some st) (v : Valid st) (low : n ≤ last_font) (code : c ≤ last_code) (long : character_length b ≡ true) (g : List ℕ) (there : find_record (key_of n 0) st.recs ≡ some (font n g)) where
    placed_by : (h d : List ℕ) → Sent n c b st h d → ((row filled run : ℕ) → judged_of h d ≡ Err (past_width row filled run) → ⊥) → is_kept (held_under (orientation g) h (kept_of_data h d)) ≡ true
        → P (placing n c h (kept_of_data h d) st)
    placed_by h d y i ok =
        let x : Brought n c b s h d st = record { guest = record { is = e; valid = v; low = low; code = code; header = g; there = there; ok = ok }; sent = y; fits = i } in
        placed_answers n c s h (kept_of_data h d) st x.guest P (put st h d x) (gone st h d x)

    received_by : (h d : List ℕ) → Sent n c b st h d → (kind_of b ≡ First → read_first b (orientation g) ≡ Ok tt) → is_kept_first h (orientation g) ≡ true → P (receiving n c h d s st)
    unfolding receiving held_under
    received_by h d y r f = go (judge (class h) (width h) (height h) d) refl
      where
        kept : List ℕ
        kept = kept_data (class h) (width h) (height h) d

        go : (j : Judged) → judge (class h) (width h) (height h) d ≡ j → P (within_width s j (checked (refuse s) (leb (length kept) data_limit) 9 (placing n c h kept st)))
        go (Ok (Some m)) q = by_check s P (leb (length kept) data_limit) 9 _ no.6 (λ l. placed_by h d y (λ row a r z. let v : ◌≡◌ {A = ℕ} 0 1 = cc in absurd (omega arith)) (rw (f, held_whole (class h) (width h) (height h) d m q (leb-true _ _ l))))
        go (Ok None) q = by_check s P (leb (length kept) data_limit) 9 _ no.6 (λ l. placed_by h d y (λ row a r z. let v : ◌≡◌ {A = ℕ} 0 1 = cc in absurd (omega arith)) (rw (f, held_unfinished (class h) (width h) (height h) d q (leb-true _ _ l))))
        go (Err p) q = past p.row p.filled p.run (bad_run (judged_past (class h) (width h) (height h) d p.row p.filled p.run sides.0 sides.1 q)) passed
          where
            sides : (0 < width h) × (0 < height h)
            sides = kept_sides h (orientation g) f

            runs : class h ≡ runs_class
            runs = let k = kept_class h (orientation g) f in omega (arith, k.0, k.1, past_class (class h) (width h) (height h) d p.row p.filled p.run q)

            passed : ChecksPassed n c b st
            passed = let l = block_short b long in record { low = low; code = code; long = l.0; short = l.1; font = font n g; there = there; first = r }

            bad_run : PastRun (width h) 0 d p.row p.filled p.run × (p.row < height h) → BadRunIn n c b s p.row p.filled p.run
            bad_run x = record { store = st; is = e; descriptor = h; sent = d; stands = y; by_runs = runs; past = x.0; below = x.1 }

    first_by : kind_of b ≡ First → P (receiving_first n c g b s st)
    unfolding receiving_first read_first
    first_by f = by_verdict s P (first_checks b (orientation g)) _ (no.1, (no.2, (no.3, (no.6, tt)))) (λ e. received_by (kept_first b) (drop descriptor_bytes b) (by_first f) (λ z. e) (kept_first_lem b (orientation g) f e))

    more_by : kind_of b ≡ Continuation → P (receiving_more n c b s st)
    unfolding receiving_more
    more_by k = by_check s P (names n c st.mark) 7 _ no.5 (λ t. by_find s P (find_record (key_of n (c + 1)) st.recs) 7 _ no.5 (λ r q.
        let f = found (key_of n (c + 1)) 0 no_owner r st.recs v.order q in
        let y = char_at n c _ r code f.ok f.is in
        subst (λ (x : Rec). P (receiving n c (kept_of x) (data_of x ++ drop continuation_bytes b) s st)) (sym y.2) (received_by y.0 (y.1 ++ drop continuation_bytes b) (by_more (character n c y.0 y.1) k (names_mark n c st.mark t) (q ∙ ap some y.2)) (λ z. let o : ◌≡◌ {A = ℕ} 0 1 = cc in absurd (omega arith)) (kept_under n c g y.0 y.1 st.recs v.order code there (q ∙ ap some y.2)))))

  pub character_answers : P (downloading_character n c b s)
  unfolding downloading_character receiving_block receiving_first receiving_more receiving placing on_store
  character_answers =
      let w = is_store_lem s is in
      let st = w.0 in
      let v = valid_decode s st w.1 in
      rw w.1
      (by_check s P (numbered n c) 2 _ no.0 (λ l. let i = in_range_lem n c l in
      by_check s P (character_length b) 3 _ no.1 (λ e.
      by_find s P (find_record (key_of n 0) st.recs) 6 _ no.4 (λ r q. block st w.1 v r i.0 i.1 e q))))
    where
      block : (st : Store) → decode s ≡ some st → Valid st → (r : Rec) → n ≤ last_font → c ≤ last_code → character_length b ≡ true → find_record (key_of n 0) st.recs ≡ some r → P (receiving_block n c (kept_of r) b s st)
      block st d v r low code l q =
          let f = found (key_of n 0) 0 no_owner r st.recs v.order q in
          let y = font_at_lem n _ r f.ok f.is in
          let t : find_record (key_of n 0) st.recs ≡ some (font n y.0) = q ∙ ap some y.1 in
          subst (λ (x : Rec). P (receiving_block n c (kept_of x) b s st)) (sym y.1)
          (by_kind_lem s P (kind_of b) _ _ (λ h d. receiving n c h d s st) no.2 (λ e. first_by st d v low code l y.0 t e) (λ e. more_by st d v low code l y.0 t e))

pub character_leaves : (n c : ℕ) (b s : List ℕ) → is_store s ≡ true → Left 10 n [] s (downloading_character n c b s)
unfolding fonts_in
character_leaves n c b s is =
    character_answers n c b s is (Left 10 n [] s) (refusal 10 n [] s is 2 refl, refusal 10 n [] s is 3 refl, refusal 10 n [] s is 4 refl, refusal 10 n [] s is 5 refl, refusal 10 n [] s is 6 refl, refusal 10 n [] s is 7 refl, refusal 10 n [] s is 9 refl)
    (λ row f x y z. refusal 10 n [] s is 8 refl)
    (λ st h d x a.
    let k = kept_of_data h d in
    let g = x.guest in
    (encoded (put_character n c h k st) a, fonts_encoded (put_character n c h k st) a ∙ fonts_char n c (character n c h k ∷ []) st.recs g.valid.order g.code refl ∙ sym (fonts_of_lem s st g.is)))
    (λ st h d x a. with_left n 10 [] s st x.guest.is a)

-- ── making fresh, removing
pub fresh_leaves : (s : List ℕ) → (making_fresh s).answer ≡ 0 → (is_store (making_fresh s).bytes ≡ true) × (fonts_of (making_fresh s).bytes ≡ [])
unfolding making_fresh
fresh_leaves s e = go (leb least_store (length s) and leb (length s) most_store) refl e
  where
    valid : least_store ≤ length s → length s ≤ most_store → Valid (fresh (length s))
    valid a b = record { order = unfold sorted in refl; marked = unfold mark_ok ◌and◌ in refl; small = b; room = unfold total in a }

    go : (t : Bool) → (leb least_store (length s) and leb (length s) most_store) ≡ t → (checked (refuse s) t 1 (done (fresh (length s)))).answer ≡ 0
        → (is_store (checked (refuse s) t 1 (done (fresh (length s)))).bytes ≡ true) × (fonts_of (checked (refuse s) t 1 (done (fresh (length s)))).bytes ≡ [])
    go true q z =
        let v = valid (leb-true _ _ (both_l (leb least_store (length s)) (leb (length s) most_store) q)) (leb-true _ _ (both_r (leb least_store (length s)) (leb (length s) most_store) q)) in
        (encoded (fresh (length s)) v, fonts_encoded (fresh (length s)) v ∙ (unfold fonts_in in refl))
    go false q z = absurd (omega (arith, z))

-- whatever holds of a font removal's refusals, and of one that is done
module _ (n : ℕ) (s : List ℕ) (is : is_store s ≡ true) (P : After → Type 0) (no : (m : ℕ) → eqb m 0 ≡ false → P (refuse s m))
    (gone : (st : Store) → decode s ≡ some st → Valid (store_without_font n st) → P (done (store_without_font n st))) where
  pub removed_answers : P (removing_font n s)
  unfolding removing_font on_font on_store
  removed_answers =
      let w = is_store_lem s is in
      let v = removed_valid w.0 (valid_decode s w.0 w.1) n in
      rw w.1
      (by_check s P (leb n last_font) 2 _ (no 2 refl) (λ l. by_find s P (find_record (key_of n 0) w.0.recs) 6 _ (no 6 refl) (λ r q. gone w.0 w.1 v)))

pub removed_leaves : (n : ℕ) (s : List ℕ) → is_store s ≡ true → Left 0 n [] s (removing_font n s)
unfolding fonts_in
removed_leaves n s is = removed_answers n s is (Left 0 n [] s) (refusal 0 n [] s is) (with_left n 0 [] s)

cut_valid : (n c : ℕ) (st : Store) → Valid st → (r : Rec) → c ≤ last_code → find_record (key_of n 0) st.recs ≡ some r → Valid (store_without_character n c st)
unfolding run total
cut_valid n c st v r code q =
    let f = found (key_of n 0) 0 no_owner r st.recs v.order q in
    let y = font_at_lem n _ r f.ok f.is in
    let fits : mark_record + total (with_character n c [] st.recs) ≤ st.size = omega (arith, total_replaced (key_of n (c + 1)) (key_of n (c + 1) + 1) [] st.recs v.order (omega arith), v.room) in
    valid_cut n c y.0 st v code (q ∙ ap some y.1) fits

-- the same for the removal of a character
module _ (n c : ℕ) (s : List ℕ) (is : is_store s ≡ true) (P : After → Type 0) (no : (m : ℕ) → eqb m 0 ≡ false → P (refuse s m))
    (cut : (st : Store) → decode s ≡ some st → Valid st → c ≤ last_code → Valid (store_without_character n c st) → P (done (store_without_character n c st))) where
  pub cut_answers : P (removing_character n c s)
  unfolding removing_character on_character on_store
  cut_answers =
      let w = is_store_lem s is in
      let v = valid_decode s w.0 w.1 in
      rw w.1
      (by_check s P (numbered n c) 2 _ (no 2 refl) (λ l.
      let code = (in_range_lem n c l).1 in
      by_find s P (find_record (key_of n 0) w.0.recs) 6 _ (no 6 refl) (λ r q.
      by_find s P (find_record (key_of n (c + 1)) w.0.recs) 7 _ (no 7 refl) (λ x y. cut w.0 w.1 v code (cut_valid n c w.0 v r code q)))))

-- a store with the fonts that it had
abbrev Same : List ℕ → After → Type 0
Same s a = (is_store a.bytes ≡ true) × (fonts_of a.bytes ≡ fonts_of s)

pub cut_leaves : (n c : ℕ) (s : List ℕ) → is_store s ≡ true → Same s (removing_character n c s)
unfolding fonts_in
cut_leaves n c s is =
    cut_answers n c s is (Same s) (λ m e. (is, refl))
    (λ st d v code a. (encoded (store_without_character n c st) a, fonts_encoded (store_without_character n c st) a ∙ fonts_char n c [] st.recs v.order code refl ∙ sym (fonts_of_lem s st d)))

-- ── the calls on a known store, by the code's findings
module _ (n : ℕ) (b s : List ℕ) (k : is_store s ≡ true) (l : n ≤ last_font) where
  pub known_refused : (m : ℕ) → read_header b ≡ Err m → downloading_font n b s ≡ refuse s m
  unfolding downloading_font on_store
  known_refused m e = rw ((is_store_lem s k).1, le-leb n last_font l, e)

  pub known_taken : read_header b ≡ Ok tt → downloading_font n b s ≡ putting_font n b s
  unfolding downloading_font putting_font on_store
  known_taken e = rw ((is_store_lem s k).1, le-leb n last_font l, e)

  pub known_block : (c : ℕ) → c ≤ last_code → downloading_character n c b s ≡ putting_block n c b s
  unfolding downloading_character putting_block receiving_block receiving placing on_store
  known_block c m = rw ((is_store_lem s k).1, le-leb n last_font l, le-leb c last_code m)
