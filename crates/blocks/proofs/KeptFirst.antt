-- What is kept of an accepted first block's descriptor is just what `is_kept_first` tests, and keeping it again changes nothing. Assumes nothing.
use Prim.Native.Nat.{ℕ, ◌+◌, ◌≤◌}
use mathlib.Core.Path.{◌≡◌, refl, sym, ap, ◌∙◌, subst}
use mathlib.Core.List.{List, ◌++◌}
use mathlib.Core.Bool.{Bool, true, false, not, ◌&&◌}
use native.Mathlib.Omega.{arith}
use borrow.Author.Tests.{eqb-true, leb-true, le-leb, not-true}
use lib.Dec.{T, ltb, ltb→lt, eqb}
use lib.ListN.{length, set, take, drop, length-set, length-take, length-append}
use lib.Seq.{get_or-set_same, get_or-take, length-take-le, take_all, take-append_seam, drop-append_seam}
use Rattle.blocks.specs.Field.{byte, negative}
use Rattle.blocks.specs.Character.{descriptor_bytes, format_at, continued_at, descriptor_size_at, class_at, orientation_at, reserved_at, left_offset_at, top_offset_at, width_at, height_at, delta_x_at, format, continued, descriptor_size, class, delta_x, character_format, size_taken, kind_of, taken_class, held_class, first_length, first_form, first_fields, first_size, first_checks, read_first, fix_first, kept_first, fixed_first, is_kept_first, KeptDescriptors}
use Rattle.std.specs.Prelude.{Ok, Err}
use Rattle.blocks.specs.declared.character.Kind.TheVariants.{First, Continuation, Unknown}
use Rattle.blocks.proofs.Checks.{taken}
use Rattle.pictures.proofs.Tests.{both}
use Rattle.blocks.proofs.Fields.{other, floor_other, floor_length, floor_zero, stay}

pub first_long : (b : List ℕ) (o : ℕ) → read_first b o ≡ Ok tt → descriptor_bytes ≤ length b
unfolding read_first
first_long b o e = leb-true descriptor_bytes (length b) (taken (first_checks b o) e).0

-- the form is judged before the fields
pub form_refused : (b : List ℕ) (o : ℕ) → first_length b ≡ true → first_form b ≡ false → read_first b o ≡ Err 4
unfolding read_first
form_refused b o l e = rw (l, e)

pub kept_length : (b : List ℕ) → descriptor_bytes ≤ length b → length (kept_first b) ≡ descriptor_bytes
unfolding fix_first kept_first
kept_length b h = simp (floor_length, length-set) (length-take-le descriptor_bytes b h)

-- the bytes that the rules do not change
pub kept_other : (b : List ℕ) (j : ℕ) → T (ltb j descriptor_bytes) → T (not (eqb j reserved_at)) → T (not (eqb j delta_x_at)) → T (not (eqb j (delta_x_at + 1))) → byte (kept_first b) j ≡ byte b j
unfolding fix_first kept_first
kept_other b j h p q r =
    floor_other delta_x_at j (set (take descriptor_bytes b) reserved_at 0) q r ∙ other reserved_at 0 j (take descriptor_bytes b) p ∙ get_or-take descriptor_bytes b j 0 (ltb→lt j descriptor_bytes h)

kept_zero : (b : List ℕ) → descriptor_bytes ≤ length b → (byte (kept_first b) reserved_at ≡ 0) × (negative 16 (delta_x (kept_first b)) ≡ false)
unfolding fix_first kept_first
kept_zero b h =
    let e : length (take descriptor_bytes b) ≡ descriptor_bytes = length-take-le descriptor_bytes b h in
    let v = set (take descriptor_bytes b) reserved_at 0 in
    let l : length v ≡ descriptor_bytes = simp length-set e in (
      floor_other delta_x_at reserved_at v tt tt ∙ get_or-set_same (take descriptor_bytes b) reserved_at 0 0 (omega arith),
      floor_zero delta_x_at v (omega arith),
    )

kept_tests : (b : List ℕ) (o : ℕ)
    → (first_form (kept_first b) ≡ first_form b) × (first_fields (kept_first b) o ≡ first_fields b o) × (first_size (kept_first b) ≡ first_size b)
kept_tests b o = (
  simp (kept_other b descriptor_size_at tt tt tt tt, kept_other b class_at tt tt tt tt),
  simp (
    kept_other b orientation_at tt tt tt tt,
    kept_other b left_offset_at tt tt tt tt,
    kept_other b (left_offset_at + 1) tt tt tt tt,
    kept_other b top_offset_at tt tt tt tt,
    kept_other b (top_offset_at + 1) tt tt tt tt,
    kept_other b width_at tt tt tt tt,
    kept_other b (width_at + 1) tt tt tt tt,
    kept_other b height_at tt tt tt tt,
    kept_other b (height_at + 1) tt tt tt tt,
  ),
  simp (kept_other b width_at tt tt tt tt, kept_other b (width_at + 1) tt tt tt tt, kept_other b height_at tt tt tt tt, kept_other b (height_at + 1) tt tt tt tt),
)

-- a first block begins with 4 and 0
pub first_begins : (b : List ℕ) → kind_of b ≡ First → (format b ≡ character_format) × (continued b ≡ 0)
unfolding kind_of
first_begins b e = go (eqb (format b) character_format) refl (eqb (continued b) 0) refl
  where
    go : (s : Bool) → eqb (format b) character_format ≡ s → (t : Bool) → eqb (continued b) 0 ≡ t → (format b ≡ character_format) × (continued b ≡ 0)
    go true p true q = (eqb-true _ _ p, eqb-true _ _ q)
    go true p false q = let z : Continuation ≡ First = rw (p, q) at e in let y : ◌≡◌ {A = ℕ} 0 1 = cc in absurd (omega arith)
    go false p t q = let z : Unknown ≡ First = rw p at e in let y : ◌≡◌ {A = ℕ} 0 1 = cc in absurd (omega arith)

-- a class that a first block is taken with is one that a store holds
taken_held : (k : ℕ) → taken_class k ≡ true → held_class k ≡ true
taken_held k e = e

-- what a store holds is taken again
held_taken : (k : ℕ) → held_class k ≡ true → taken_class k ≡ true
held_taken k e = e

-- what an accepted first block leaves passes the test
pub kept_first_lem : (b : List ℕ) (o : ℕ) → kind_of b ≡ First → read_first b o ≡ Ok tt → is_kept_first (kept_first b) o ≡ true
unfolding read_first is_kept_first
kept_first_lem b o f e =
    let p = taken (first_checks b o) e in
    let long = first_long b o e in
    let z = kept_zero b long in
    let t = kept_tests b o in
    let g = first_begins b f in
    let m = both (eqb (descriptor_size b) size_taken) (taken_class (class b)) p.1.0 in
    simp (
      kept_length b long,
      t.1,
      t.2,
      kept_other b descriptor_size_at tt tt tt tt,
      m.0,
      kept_other b class_at tt tt tt tt,
      taken_held (class b) m.1,
      p.1.1.0,
      p.1.1.1.0,
      z.0,
      z.1,
      kept_other b format_at tt tt tt tt,
      kept_other b continued_at tt tt tt tt,
      g.0,
      g.1,
    )

-- what passes the test is a first block that is accepted, and is what is kept of itself
module _ (k : List ℕ) (o : ℕ) (e : is_kept_first k o ≡ true) where
  pub is_kept_length : length k ≡ descriptor_bytes
  unfolding is_kept_first
  is_kept_length = eqb-true _ _ (both (eqb (length k) descriptor_bytes) _ e).0

  is_kept_parts : (fixed_first k ≡ true) × (held_class (class k) ≡ true) × (first_fields k o ≡ true) × (first_size k ≡ true)
  unfolding is_kept_first
  is_kept_parts =
      let p = both (eqb (length k) descriptor_bytes) (fixed_first k && (held_class (class k) && (first_fields k o && first_size k))) e in
      let q = both (fixed_first k) (held_class (class k) && (first_fields k o && first_size k)) p.1 in
      let r = both (held_class (class k)) (first_fields k o && first_size k) q.1 in
      let s = both (first_fields k o) (first_size k) r.1 in
      (q.0, r.0, s.0, s.1)

  is_kept_fixed : (format k ≡ character_format) × (continued k ≡ 0) × (descriptor_size k ≡ size_taken) × (byte k reserved_at ≡ 0) × (negative 16 (delta_x k) ≡ false)
  is_kept_fixed =
      let f = eqb (format k) character_format in
      let g = eqb (continued k) 0 in
      let i = eqb (descriptor_size k) size_taken in
      let h = eqb (byte k reserved_at) 0 in
      let p = both (f && g && i && h) (not (negative 16 (delta_x k))) is_kept_parts.0 in
      let q = both (f && g && i) h p.0 in
      let r = both (f && g) i q.0 in
      let s = both f g r.0 in
      (eqb-true _ _ s.0, eqb-true _ _ s.1, eqb-true _ _ r.1, eqb-true _ _ q.1, not-true _ p.1)

  is_kept_form : first_form k ≡ true
  is_kept_form = simp (is_kept_fixed.2, held_taken (class k) is_kept_parts.1)

  is_kept_kind : kind_of k ≡ First
  unfolding kind_of
  is_kept_kind = simp (is_kept_fixed.0, is_kept_fixed.1)

  is_kept_read : read_first k o ≡ Ok tt
  unfolding read_first
  is_kept_read = let p = is_kept_parts in simp (is_kept_length, is_kept_form, p.2, p.3)

  is_kept_again : kept_first k ≡ k
  unfolding kept_first fix_first
  is_kept_again =
      let p = is_kept_fixed in
      let l = is_kept_length in
      simp (take_all descriptor_bytes k (omega arith), stay reserved_at 0 k p.3, p.4)

  pub is_kept_first_lem : (kind_of k ≡ First) × (read_first k o ≡ Ok tt) × (kept_first k ≡ k)
  is_kept_first_lem = (is_kept_kind, is_kept_read, is_kept_again)

  -- the same with data behind it
  module _ (d : List ℕ) where
    behind_again : kept_first (k ++ d) ≡ k
    unfolding kept_first
    behind_again =
        let t : take descriptor_bytes (k ++ d) ≡ k = subst (λ (n : ℕ). take n (k ++ d) ≡ k) is_kept_length (take-append_seam k d) in
        let u : take descriptor_bytes k ≡ k = take_all descriptor_bytes k (omega (arith, is_kept_length)) in
        ap fix_first (t ∙ sym u) ∙ is_kept_again

    behind_kind : kind_of (k ++ d) ≡ First
    unfolding kind_of
    behind_kind =
        let a : format (k ++ d) ≡ format k = sym (kept_other (k ++ d) format_at tt tt tt tt) ∙ ap format behind_again in
        let b : continued (k ++ d) ≡ continued k = sym (kept_other (k ++ d) continued_at tt tt tt tt) ∙ ap continued behind_again in
        simp (a, b, is_kept_fixed.0, is_kept_fixed.1)

    behind_read : read_first (k ++ d) o ≡ Ok tt
    unfolding read_first
    behind_read =
        let t = kept_tests (k ++ d) o in
        let p = is_kept_parts in
        let form : first_form (k ++ d) ≡ true = sym t.0 ∙ ap first_form behind_again ∙ is_kept_form in
        let fields : first_fields (k ++ d) o ≡ true = sym t.1 ∙ ap (λ (l : List ℕ). first_fields l o) behind_again ∙ p.2 in
        let size : first_size (k ++ d) ≡ true = sym t.2 ∙ ap first_size behind_again ∙ p.3 in
        let long : first_length (k ++ d) ≡ true = le-leb descriptor_bytes (length (k ++ d)) (omega (arith, length-append k d, is_kept_length)) in
        simp (long, form, fields, size)

    pub is_kept_block : (kind_of (k ++ d) ≡ First) × (read_first (k ++ d) o ≡ Ok tt) × (kept_first (k ++ d) ≡ k) × (drop descriptor_bytes (k ++ d) ≡ d)
    is_kept_block = (behind_kind, behind_read, behind_again, subst (λ (n : ℕ). drop n (k ++ d) ≡ d) is_kept_length (drop-append_seam k d))

-- ── a block by what is kept of its descriptor
-- the descriptor alone is of the same kind, and the same is kept of it
pub bare_kind : (b : List ℕ) → kind_of (take descriptor_bytes b) ≡ kind_of b
unfolding kind_of
bare_kind b = simp (get_or-take descriptor_bytes b format_at 0 (omega arith), get_or-take descriptor_bytes b continued_at 0 (omega arith))

pub bare_kept : (b : List ℕ) → kept_first (take descriptor_bytes b) ≡ kept_first b
unfolding kept_first
bare_kept b = ap fix_first (take_all descriptor_bytes (take descriptor_bytes b) (simp length-take (omega arith)))

-- a first block whose kept descriptor passes the test is accepted
pub kept_read : (b : List ℕ) (o : ℕ) → is_kept_first (kept_first b) o ≡ true → read_first b o ≡ Ok tt
unfolding read_first kept_first fix_first
kept_read b o e =
    let t = kept_tests b o in
    let p = taken (first_checks (kept_first b) o) (is_kept_first_lem (kept_first b) o e).1 in
    let l : length (kept_first b) ≡ descriptor_bytes = is_kept_length (kept_first b) o e in
    let long : descriptor_bytes ≤ length b = omega (arith, simp (floor_length, length-set, length-take) at l) in
    simp (le-leb descriptor_bytes (length b) long, sym t.0 ∙ p.1.0, sym t.1 ∙ p.1.1.0, sym t.2 ∙ p.1.1.1.0)

pub kept_descriptors : KeptDescriptors
kept_descriptors = (kept_first_lem, is_kept_first_lem)
