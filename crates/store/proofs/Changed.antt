-- The bytes after records were replaced are those of the changed store, which is valid. Assumes nothing.
use mathlib.Core.Path.{◌≡◌, refl, sym, ap, ◌∙◌}
use mathlib.Core.List.{List, [], ◌∷◌, ◌++◌}
use mathlib.Core.Bool.{Bool, true, false, cond}
use mathlib.Core.Option.{some}
use Prim.Native.Nat.{ℕ, ◌+◌, ◌-◌, ◌≤◌}
use native.Mathlib.Omega.{arith}
use lib.ListN.{length, drop, replicate, length-append, length-replicate}
use lib.Dec.{eqb}
use Rattle.form.specs.Layout.{key_of, last_code, font_characters_at, font_record, mark_record}
use Rattle.form.specs.Model.{Rec, font, Mark, Store, no_characters, tally_of, tally_bytes, tally_in, bytes_of, run, mark_bytes, encode, no_owner, sorted, opened, unfinished, mark_ok, size_of, total, Valid}
use Rattle.form.specs.Num.{◌and◌}
use Rattle.form.specs.Order.{below, from, find_record, replaced}
use Rattle.change.specs.Put.{with_bytes}
use Rattle.change.specs.Change.{spliced_at, tally_by, recount, Recounting, recounted, unmarked_for}
use Rattle.store.specs.Calls.{closed_for, closed_at, with_font, used, with_character, store_without_character}
use Rattle.form.proofs.Codec.{spare, encode_parts, mark_length, mark_fits, length_run, tally_total, tally_fits}
use Rattle.form.proofs.Totals.{run_append, total_append, total_at}
use Rattle.store.proofs.Tallies.{no_font_below, no_font_from, font_off, font_fresh, Apart, retally, tally_there, Gone, gone, new_one, char_apart, char_had, char_off, char_recount}
use Rattle.form.specs.declared.tally.Tally.{Tally}
use Rattle.form.proofs.Lookup.{below_mono}
use Rattle.store.proofs.Replaced.{NewFont, no_font, new_font, font_replaced, NewChar, no_char, char_replaced}
use Rattle.change.proofs.Splices.{replace_bytes}
use Rattle.store.proofs.Marks.{Small, mark_key, closed_for_lem, closed_at_lem, unmark_for}

pub spare_is : (st : Store) → sorted 0 no_owner st.recs ≡ true → spare st ≡ st.size - (mark_record + total st.recs)
spare_is st o =
    let R = run (tally_of st.recs) st.recs in
    omega (arith, length-append (mark_bytes st.mark) R, mark_length st.mark, length_run (tally_of st.recs) 0 no_owner st.recs o)

pub small_mark : (st : Store) → Valid st → Small st.mark
small_mark st v = let f = mark_fits st.mark st.recs v.marked in record { on = f.0; number = f.1; code = f.2 }

-- the store with other records and another mark
abbrev pub changed : Mark → List Rec → Store → Store
changed m rs st = record { size = st.size; mark = m; recs = rs }

pub encode_changed : (m : Mark) (rs : List Rec) (st : Store) → sorted 0 no_owner rs ≡ true
    → encode (changed m rs st) ≡ mark_bytes m ++ (run (tally_of rs) rs ++ replicate (st.size - (mark_record + total rs)) 0)
encode_changed m rs st o = encode_parts (changed m rs st) ∙ ap (λ (k : ℕ). mark_bytes m ++ (run (tally_of rs) rs ++ replicate k 0)) (spare_is (changed m rs st) o)

-- what is gained and what is lost
pub total_replaced : (lo hi : ℕ) (new rs : List Rec) → sorted 0 no_owner rs ≡ true → lo ≤ hi
    → total (replaced lo hi new rs) + (mark_record + total (below hi rs) - (mark_record + total (below lo rs))) ≡ total rs + total new
total_replaced lo hi new rs e m =
    omega (arith, total_append (below lo rs) (new ++ from hi rs), total_append new (from hi rs), total_at hi 0 no_owner rs e, below_mono lo hi 0 no_owner rs e m)

module _ (lo hi : ℕ) (new : List Rec) (st : Store) (v : Valid st) (m : lo ≤ hi) (o : sorted 0 no_owner (replaced lo hi new st.recs) ≡ true)
    (fits : mark_record + total (replaced lo hi new st.recs) ≤ st.size) where
  pub valid_changed : (k : Mark) → mark_ok k (replaced lo hi new st.recs) ≡ true → Valid (changed k (replaced lo hi new st.recs) st)
  valid_changed k q = record { order = o; marked = q; small = v.small; room = fits }

  -- the bytes blk put in, where the other fonts' numbers stay
  pub bytes_changed : (blk : List ℕ) → length blk ≡ total new
      → with_bytes (spliced_at (mark_record + total (below lo st.recs)) (mark_record + total (below hi st.recs) - (mark_record + total (below lo st.recs))) (mark_record + total st.recs) (total new) (encode st)) (mark_record + total (below lo st.recs)) blk
      ≡ mark_bytes st.mark ++ ((run (tally_of st.recs) (below lo st.recs) ++ (blk ++ run (tally_of st.recs) (from hi st.recs))) ++ replicate (st.size - (mark_record + total (replaced lo hi new st.recs))) 0)
  bytes_changed blk l =
      let rs = st.recs in
      let T = tally_of rs in
      let old = mark_record + total (below hi rs) - (mark_record + total (below lo rs)) in
      let tr = total_replaced lo hi new rs v.order m in
      let sp = spare_is st v.order in
      let room = v.room in
      let z : old + spare st - total new ≡ st.size - (mark_record + total (replaced lo hi new rs)) = omega arith in
      rw (encode_parts st) (replace_bytes T lo hi (spare st) (mark_bytes st.mark) blk rs v.order m (mark_length st.mark) (total new) l (omega arith))
      ∙ ap (λ (k : ℕ). mark_bytes st.mark ++ ((run T (below lo rs) ++ (blk ++ run T (from hi rs))) ++ replicate k 0)) z

-- ── a font with its characters
new_closed : (n k : ℕ) (new : List Rec) → NewFont n new → opened k new ≡ false
unfolding opened unfinished
new_closed n k new no_font = refl
new_closed n k new (new_font h a b) = and_false (lib.Dec.eqb (Rattle.form.specs.Model.key (font n h)) k)
  where
    and_false : (a : Bool) → mathlib.Core.Bool.◌||◌ (a and false) false ≡ false
    and_false true = unfold ◌and◌ in refl
    and_false false = unfold ◌and◌ in refl

-- a font's bytes, with no characters
abbrev pub new_bytes : List Rec → List ℕ
new_bytes new = run (λ m. no_characters) new

new_bytes_lem : (n : ℕ) (new : List Rec) (T : ℕ → Tally) → NewFont n new → T n ≡ no_characters → run T new ≡ new_bytes new
unfolding run bytes_of
new_bytes_lem n new T no_font e = refl
new_bytes_lem n new T (new_font h a b) e = rw e

module _ (n : ℕ) (new : List Rec) (st : Store) (v : Valid st) (w : NewFont n new) (fits : used (with_font n new st) ≤ st.size) where
  abbrev font_recs : List Rec
  font_recs = replaced (key_of n 0) (key_of (n + 1) 0) new st.recs

  font_order : sorted 0 no_owner font_recs ≡ true
  font_order = font_replaced st.recs v.order n new w

  pub valid_font : Valid (with_font n new st)
  valid_font =
      valid_changed (key_of n 0) (key_of (n + 1) 0) new st v (omega arith) font_order fits (closed_for n st.mark)
      (closed_for_lem n st.mark new st.recs v.order v.marked (new_closed n (mark_key st.mark) new w))

  -- the records' bytes with the numbers of the other fonts as they were
  font_run : run (tally_of font_recs) font_recs ≡ run (tally_of st.recs) (below (key_of n 0) st.recs) ++ (new_bytes new ++ run (tally_of st.recs) (from (key_of (n + 1) 0) st.recs))
  font_run =
      let rs = st.recs in
      let lo = key_of n 0 in
      let hi = key_of (n + 1) 0 in
      let S = tally_of font_recs in
      let off = font_off rs v.order n new w in
      run_append S (below lo rs) (new ++ from hi rs) ∙ ap (λ (l : List ℕ). run S (below lo rs) ++ l) (run_append S new (from hi rs))
      ∙ rw (← (no_font_below n lo rs v.order (omega arith) (tally_of rs) S off), ← (no_font_from n hi rs v.order (omega arith) (tally_of rs) S off), new_bytes_lem n new S w (font_fresh rs v.order n new w))

  pub bytes_font : length (new_bytes new) ≡ total new
      → unmarked_for n (with_bytes (spliced_at (mark_record + total (below (key_of n 0) st.recs)) (mark_record + total (below (key_of (n + 1) 0) st.recs) - (mark_record + total (below (key_of n 0) st.recs))) (mark_record + total st.recs) (total new) (encode st)) (mark_record + total (below (key_of n 0) st.recs)) (new_bytes new))
      ≡ encode (with_font n new st)
  bytes_font l =
      let Z : List ℕ = replicate (st.size - (mark_record + total font_recs)) 0 in
      ap (unmarked_for n)
      (bytes_changed (key_of n 0) (key_of (n + 1) 0) new st v (omega arith) font_order fits (new_bytes new) l ∙ ap (λ (x : List ℕ). mark_bytes st.mark ++ (x ++ Z)) (sym font_run))
      ∙ unmark_for n st.mark (run (tally_of font_recs) font_recs ++ Z) (small_mark st v) ∙ sym (encode_changed (closed_for n st.mark) font_recs st font_order)

-- ── one character
-- the buffer where the records were changed, but not yet the numbers of the character's font
abbrev pub uncounted : ℕ → ℕ → List Rec → Store → List ℕ
uncounted n c new st = mark_bytes st.mark ++ (run (tally_of st.recs) (with_character n c new st.recs) ++ replicate (st.size - (mark_record + total (with_character n c new st.recs))) 0)

-- the length of the character's record, 0 where there is none
abbrev pub length_at : ℕ → ℕ → Store → ℕ
length_at n c st = mark_record + total (below (key_of n (c + 1) + 1) st.recs) - (mark_record + total (below (key_of n (c + 1)) st.recs))

module _ (n c : ℕ) (h : List ℕ) (new : List Rec) (st : Store) (v : Valid st) (b : c ≤ last_code) (f : find_record (key_of n 0) st.recs ≡ some (font n h)) (w : NewChar n c h new)
    (fits : mark_record + total (with_character n c new st.recs) ≤ st.size) where
  pub order_char : sorted 0 no_owner (with_character n c new st.recs) ≡ true
  order_char = char_replaced st.recs v.order n c h new b f w

  pub valid_char : (m : Mark) → mark_ok m (with_character n c new st.recs) ≡ true → Valid (changed m (with_character n c new st.recs) st)
  valid_char m q = valid_changed (key_of n (c + 1)) (key_of n (c + 1) + 1) new st v (omega arith) order_char fits m q

  pub bytes_char : length (run (tally_of st.recs) new) ≡ total new
      → with_bytes (spliced_at (mark_record + total (below (key_of n (c + 1)) st.recs)) (length_at n c st) (mark_record + total st.recs) (total new) (encode st)) (mark_record + total (below (key_of n (c + 1)) st.recs)) (run (tally_of st.recs) new)
      ≡ uncounted n c new st
  bytes_char l =
      let rs = st.recs in
      let T = tally_of rs in
      let k = key_of n (c + 1) in
      let e : run T (with_character n c new rs) ≡ run T (below k rs) ++ (run T new ++ run T (from (k + 1) rs)) = run_append T (below k rs) (new ++ from (k + 1) rs) ∙ ap (λ (x : List ℕ). run T (below k rs) ++ x) (run_append T new (from (k + 1) rs)) in
      bytes_changed k (k + 1) new st v (omega arith) order_char fits (run T new) l ∙ ap (λ (x : List ℕ). mark_bytes st.mark ++ (x ++ replicate (st.size - (mark_record + total (with_character n c new rs))) 0)) (sym e)

  abbrev was : Gone n (key_of n (c + 1)) st.recs
  was = gone n c st.recs v.order b

  length_was : length_at n c st ≡ total was.recs
  length_was = omega (arith, was.size)

  at_font_lem : Apart n h (with_character n c new st.recs) (below (key_of n 0) st.recs) (below (key_of n (c + 1)) (from (key_of n 0 + 1) st.recs) ++ (new ++ from (key_of n (c + 1) + 1) st.recs))
  at_font_lem = char_apart n c h new st.recs v.order b w f

  held : tally_in (drop (mark_record + total (below (key_of n 0) st.recs)) (uncounted n c new st)) ≡ tally_of st.recs n
  held = tally_there n h _ (below (key_of n 0) st.recs) _ at_font_lem (mark_bytes st.mark) _ (mark_length st.mark) (tally_of st.recs) (tally_fits st.recs (omega (arith, v.room, v.small)))

  -- the font's numbers made true
  pub bytes_counted : recounted (mark_record + total (below (key_of n 0) st.recs)) (length_at n c st) (total new) (uncounted n c new st)
      ≡ mark_bytes st.mark ++ (run (tally_of (with_character n c new st.recs)) (with_character n c new st.recs) ++ replicate (st.size - (mark_record + total (with_character n c new st.recs))) 0)
  unfolding recounted
  bytes_counted =
      let rs = st.recs in
      let S = tally_of (with_character n c new rs) in
      let at = mark_record + total (below (key_of n 0) rs) in
      let e : recount (length_at n c st) (total new) (tally_in (drop at (uncounted n c new st))) ≡ S n =
      ap (λ (t : Tally). recount (length_at n c st) (total new) t) held ∙ ap (λ (k : ℕ). recount k (total new) (tally_of rs n)) length_was ∙ sym (char_recount n c h new rs v.order b w) in
      ap (λ (t : Tally). with_bytes (uncounted n c new st) (at + font_characters_at) (tally_bytes t)) e
      ∙ retally n h _ (below (key_of n 0) rs) _ at_font_lem (mark_bytes st.mark) _ (mark_length st.mark) (tally_of rs) S (char_off n c h new rs v.order b w)

  uncounted_length : length (uncounted n c new st) ≡ st.size
  uncounted_length =
      let R = run (tally_of st.recs) (with_character n c new st.recs) in
      let z = st.size - (mark_record + total (with_character n c new st.recs)) in
      omega (arith, length-append (mark_bytes st.mark) (R ++ replicate z 0), length-append R (replicate z 0), length-replicate {A = ℕ} z 0, mark_length st.mark, length_run (tally_of st.recs) 0 no_owner (with_character n c new st.recs) order_char)

  -- which can be done
  pub recounting : Recounting (uncounted n c new st) (mark_record + total (below (key_of n 0) st.recs)) (length_at n c st) (total new)
  recounting =
      let rs = st.recs in
      let had = char_had n c h new rs v.order b w in
      let t = tally_total n rs in
      let p : (tally_in (drop (mark_record + total (below (key_of n 0) rs)) (uncounted n c new st))).characters ≡ (tally_of rs n).characters = ap (λ (t : Tally). t.characters) held in
      let q : (tally_in (drop (mark_record + total (below (key_of n 0) rs)) (uncounted n c new st))).bytes ≡ (tally_of rs n).bytes = ap (λ (t : Tally). t.bytes) held in
      let one : (tally_by (total new)).characters ≤ 1 = few (eqb (total new) 0) in
      let sp : total (below (key_of n 0) rs) + font_record ≤ total (with_character n c new rs) = font_before in
      record {
        room = omega (arith, uncounted_length, sp);
        was = rw length_was was.one.shape;
        is = (new_one n c h new w).shape;
        small = omega (arith, new_total, v.small);
        characters = rw (p, length_was) had.0;
        bytes = rw (q, length_was) had.1;
        few = rw p (omega (arith, v.room, v.small));
        short = rw q (omega (arith, v.room, v.small, new_total));
      }
    where
      few : (t : Bool) → cond t 0 1 ≤ 1
      few true = omega arith
      few false = omega arith

      new_total : total new ≤ st.size
      new_total = omega (arith, fits, total_append (below (key_of n (c + 1)) st.recs) (new ++ from (key_of n (c + 1) + 1) st.recs), total_append new (from (key_of n (c + 1) + 1) st.recs))

      font_before : total (below (key_of n 0) st.recs) + font_record ≤ total (with_character n c new st.recs)
      font_before = unfold total size_of in omega (arith, ap total at_font_lem.are, total_append (below (key_of n 0) st.recs) (font n h ∷ (below (key_of n (c + 1)) (from (key_of n 0 + 1) st.recs) ++ (new ++ from (key_of n (c + 1) + 1) st.recs))))

pub valid_cut : (n c : ℕ) (h : List ℕ) (st : Store) (v : Valid st) → c ≤ last_code → find_record (key_of n 0) st.recs ≡ some (font n h) → mark_record + total (with_character n c [] st.recs) ≤ st.size → Valid (store_without_character n c st)
valid_cut n c h st v b f fits = valid_char n c h [] st v b f no_char fits (closed_at n c st.mark) (closed_at_lem n c st.mark st.recs b v.order v.marked)
