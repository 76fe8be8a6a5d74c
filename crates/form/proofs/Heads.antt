-- The record at a place of a buffer, by its fields. Assumes nothing.
use mathlib.Core.Path.{◌≡◌, sym, ◌∙◌}
use mathlib.Core.List.{List}
use mathlib.Core.Bool.{true, false, cond}
use Prim.Native.Nat.{ℕ, ◌+◌, ◌-◌, ◌<◌, ◌≤◌}
use native.Mathlib.Omega.{arith}
use lib.ListN.{length, get_or, take, drop, length-drop, length-take}
use lib.Seq.{drop-drop, get_or-take, get_or-drop}
use lib.Dec.{eqb, leb}
use borrow.Author.Tests.{le-leb, lt-leb, eq-eqb, ne_eqb, lt-ltb, le-ltb}
use Rattle.blocks.specs.Header.{is_kept_header, header_bytes, orientation_at}
use Rattle.pictures.specs.declared.picture.Held.{Held}
use Rattle.pictures.specs.declared.picture.Held.TheVariants.{Foreign}
use Rattle.blocks.specs.Character.{descriptor_bytes}
use Rattle.form.specs.Layout.{character_kept_at, character_kind, character_record, code_at, font_kept_at, font_kind, font_orientation_at, font_record, kind_at, last_code, last_font, number_at}
use Rattle.form.specs.Num.{◌and◌, field}
use Rattle.form.specs.Model.{Owner, owner_after, allowed, held_of, held_under, is_kept, is_unfinished, unfinished, number, place, no_characters, tally_in, only_if, head_rec, size_of}
use Rattle.form.specs.Walk.{head_of, tally_held, seen, Heading}
use Rattle.form.specs.declared.walk.Head.TheVariants.{End, Rec as HeadRec, Bad}
use Rattle.form.proofs.Fields.{field_drop}
use Rattle.form.proofs.RecordBytes.{cond_same, guard_none, held_kept}

-- a part of a slice, as the record at a place has it
pub part_at : (at j k e : ℕ) (s : List ℕ) → e ≡ j + k → take (at + e - (at + j)) (drop (at + j) s) ≡ take k (drop j (drop at s))
part_at at j k e s q = let n : at + e - (at + j) ≡ k = omega arith in rw (n, drop-drop j at s)

module _ (u : Owner) (s : List ℕ) (at : ℕ) where
  pub look_short : length s - at < character_record → head_of u (drop at s) ≡ End
  unfolding head_of
  look_short h = rw (lt-ltb (length (drop at s)) character_record (omega (arith, length-drop at s)))

  pub look_zero : field 4 at s ≡ 0 → head_of u (drop at s) ≡ End
  unfolding head_of
  look_zero e = simp (eq-eqb (field 4 0 (drop at s)) 0 e, cond_same)

  past : character_record ≤ length s - at → (field 4 at s ≡ 0 → ⊥) → head_of u (drop at s) ≡ seen u (drop at s) (head_rec (drop at s))
  unfolding head_of
  past h e = rw (le-ltb (length (drop at s)) character_record (omega (arith, length-drop at s)), ne_eqb (field 4 0 (drop at s)) 0 e)

  -- a length beyond the buffer, or a kind that is none
  pub look_long : character_record ≤ length s - at → (field 4 at s ≡ 0 → ⊥) → length s - at < field 4 at s → head_of u (drop at s) ≡ Bad
  unfolding head_rec only_if seen
  look_long h e l = past h e ∙ rw (lt-leb (field 4 0 (drop at s)) (length (drop at s)) (omega (arith, length-drop at s)))

  pub look_other : character_record ≤ length s - at → (field 4 at s ≡ 0 → ⊥) → (field 2 (at + kind_at) s ≡ font_kind → ⊥) → (field 2 (at + kind_at) s ≡ character_kind → ⊥) → head_of u (drop at s) ≡ Bad
  unfolding head_rec only_if seen
  look_other h e a b =
      past h e ∙ rw (field_drop 2 kind_at at s, ne_eqb (field 2 (at + kind_at) s) font_kind a, ne_eqb (field 2 (at + kind_at) s) character_kind b) (rw guard_none)

  module _ (len : ℕ) (g : Heading s at len) where
    here : head_of u (drop at s) ≡ seen u (drop at s) (head_rec (drop at s))
    here = past (omega (arith, g.room)) (λ e. omega (arith, g.is, g.some))

    fits : leb (field 4 0 (drop at s)) (length (drop at s)) ≡ true
    fits = le-leb (field 4 0 (drop at s)) (length (drop at s)) (omega (arith, length-drop at s, g.is, g.fits))

    -- ── a font
    pub font_long : field 2 (at + kind_at) s ≡ font_kind → (len ≡ font_record → ⊥) → head_of u (drop at s) ≡ Bad
    unfolding head_rec only_if seen
    font_long k n = here ∙ rw (fits, field_drop 2 kind_at at s, k, ne_eqb (field 4 0 (drop at s)) font_record (λ e. n (sym g.is ∙ e)))

    pub font_is : field 2 (at + kind_at) s ≡ font_kind → len ≡ font_record
        → head_of u (drop at s)
        ≡ cond (leb (field 2 (at + number_at) s) last_font and is_kept_header (take header_bytes (drop font_kept_at (drop at s))))
        (HeadRec (record { font = field 2 (at + number_at) s; place = 0; len = font_record; orientation = get_or s (at + font_orientation_at) 0; unfinished = false; held = tally_in (drop at s) })) Bad
    unfolding head_rec only_if seen tally_held allowed number place size_of owner_after unfinished
    font_is k l =
        let o : get_or (take header_bytes (drop font_kept_at (drop at s))) orientation_at 0 ≡ get_or s (at + font_orientation_at) 0 = get_or-take header_bytes (drop font_kept_at (drop at s)) orientation_at 0 (omega arith) ∙ get_or-drop font_kept_at (drop at s) orientation_at 0 ∙ get_or-drop at s font_orientation_at 0 in
        here ∙ rw (fits, field_drop 2 kind_at at s, k, eq-eqb (field 4 0 (drop at s)) font_record (g.is ∙ l), field_drop 2 number_at at s, o)

    -- ── a character
    pub char_short : field 2 (at + kind_at) s ≡ character_kind → len < character_record → head_of u (drop at s) ≡ Bad
    unfolding head_rec only_if seen
    char_short k l = here ∙ rw (fits, field_drop 2 kind_at at s, k, lt-leb character_record (field 4 0 (drop at s)) (omega (arith, g.is)))

    abbrev descriptor : List ℕ
    descriptor = take descriptor_bytes (drop character_kept_at (drop at s))

    abbrev picture : List ℕ
    picture = take (len - character_record) (drop character_record (drop at s))

    pub char_is : field 2 (at + kind_at) s ≡ character_kind → character_record ≤ len
        → head_of u (drop at s)
        ≡ cond (eqb u.owner (field 2 (at + number_at) s + 1) and leb (field 2 (at + number_at) s) last_font and leb (field 2 (at + code_at) s) last_code and is_kept (held_under u.orientation descriptor picture))
        (HeadRec (record { font = field 2 (at + number_at) s; place = field 2 (at + code_at) s + 1; len = len; orientation = u.orientation; unfinished = is_unfinished (held_of descriptor picture); held = no_characters })) Bad
    unfolding head_rec only_if seen tally_held allowed number place size_of owner_after unfinished
    char_is k l =
        let i : field 4 0 (drop at s) ≡ len = g.is in
        let m : character_record + length (take (len - character_record) (drop character_record (drop at s))) ≡ len = simp (length-take, length-drop) (omega (arith, g.fits)) in
        here ∙ rw (fits, field_drop 2 kind_at at s, k, i, le-leb character_record len l, field_drop 2 number_at at s, field_drop 2 code_at at s, m)

    pub char_kept : field 2 (at + kind_at) s ≡ character_kind → character_record ≤ len → u.owner ≡ field 2 (at + number_at) s + 1 → field 2 (at + number_at) s ≤ last_font → field 2 (at + code_at) s ≤ last_code
        → (x : Held) → held_under u.orientation descriptor picture ≡ x → is_kept x ≡ true
        → head_of u (drop at s) ≡ HeadRec (record { font = field 2 (at + number_at) s; place = field 2 (at + code_at) s + 1; len = len; orientation = u.orientation; unfinished = is_unfinished x; held = no_characters })
    unfolding ◌and◌
    char_kept k l o n c x e y =
        let w = held_kept u.orientation descriptor picture (rw e y) in
        char_is k l ∙ rw (eq-eqb u.owner (field 2 (at + number_at) s + 1) o, le-leb _ _ n, le-leb _ _ c, ← w.1, e, y)

    pub char_foreign : field 2 (at + kind_at) s ≡ character_kind → character_record ≤ len → u.owner ≡ field 2 (at + number_at) s + 1 → field 2 (at + number_at) s ≤ last_font → field 2 (at + code_at) s ≤ last_code
        → held_under u.orientation descriptor picture ≡ Foreign → head_of u (drop at s) ≡ Bad
    unfolding ◌and◌
    char_foreign k l o n c e = char_is k l ∙ rw (eq-eqb u.owner (field 2 (at + number_at) s + 1) o, le-leb _ _ n, le-leb _ _ c, e)

    -- a number that is wrong
    pub char_owner : field 2 (at + kind_at) s ≡ character_kind → character_record ≤ len → (u.owner ≡ field 2 (at + number_at) s + 1 → ⊥) → head_of u (drop at s) ≡ Bad
    unfolding ◌and◌
    char_owner k l o = char_is k l ∙ rw (ne_eqb u.owner (field 2 (at + number_at) s + 1) o)

    pub char_low : field 2 (at + kind_at) s ≡ character_kind → character_record ≤ len → u.owner ≡ field 2 (at + number_at) s + 1 → last_font < field 2 (at + number_at) s → head_of u (drop at s) ≡ Bad
    unfolding ◌and◌
    char_low k l o n = char_is k l ∙ rw (eq-eqb u.owner (field 2 (at + number_at) s + 1) o, lt-leb _ _ n)

    pub char_code : field 2 (at + kind_at) s ≡ character_kind → character_record ≤ len → u.owner ≡ field 2 (at + number_at) s + 1 → field 2 (at + number_at) s ≤ last_font → last_code < field 2 (at + code_at) s → head_of u (drop at s) ≡ Bad
    unfolding ◌and◌
    char_code k l o n c = char_is k l ∙ rw (eq-eqb u.owner (field 2 (at + number_at) s + 1) o, le-leb _ _ n, lt-leb _ _ c)
