-- What is kept of an accepted header is just what `is_kept_header` tests, and what is kept of its own bytes is the header again. Assumes nothing.
use Prim.Native.Nat.{ℕ, ◌/◌, ◌%◌, ◌≤◌}
use mathlib.Core.Path.{◌≡◌, refl, ap, sym, ◌∙◌}
use mathlib.Core.List.{List, [], ◌∷◌}
use mathlib.Core.Bool.{Bool, true, false, ◌&&◌, ◌||◌}
use native.Mathlib.Omega.{arith}
use borrow.Author.Tests.{eqb-true, eq-eqb}
use lib.Dec.{T, leb, ltb, ltb→lt, eqb}
use lib.ListN.{length, take, drop, length-drop, take-append-drop}
use lib.Seq.{get_or-take, get_or-drop, length-take-le, take_all, take-take}
use Rattle.blocks.specs.Field.{byte, word, is_word}
use Rattle.blocks.specs.Header.{block_limit, plain_bytes, header_bytes, descriptor_size_at, format_at, reserved_at, x_resolution_at, y_resolution_at, descriptor_size, format, pitch, height, plain_format, coarse_resolution, pitch_limit, height_limit, says_resolution, own_bytes, header_fields, both_are, header_resolution, header_checks, read_header, coarse_bytes, first_bytes, fix_header, kept_header, fixed_header, is_kept_header, own_header, KeptHeaders}
use Rattle.std.specs.Prelude.{Ok}
use Rattle.blocks.proofs.Checks.{taken, within_low}
use Rattle.pictures.proofs.Tests.{both}
use Rattle.blocks.proofs.Fields.{stay}
use Rattle.blocks.proofs.HeaderBytes.{own_fine, own_plain, own_within, first_length_lem, first_byte, first_fine, first_plain, apart, holds, changed_places, fix_other, fix_length, fix_own, fix_size, fix_reserved, fix_caps, same_fields}

pub header_long : (b : List ℕ) → read_header b ≡ Ok tt → own_bytes b ≤ length b
unfolding read_header
header_long b e = within_low (own_bytes b) block_limit (length b) (taken (header_checks b) e).0

-- a format that does not say the resolution and is taken is 0
plain_format_lem : (b : List ℕ) → (eqb (format b) plain_format || says_resolution b) ≡ true → says_resolution b ≡ false → format b ≡ 0
plain_format_lem b e f = eqb-true (format b) plain_format (go (eqb (format b) plain_format) (rw f at e))
  where
    go : (t : Bool) → (t || false) ≡ true → t ≡ true
    go true q = refl
    go false q = q

-- ---- what an accepted block leaves
module _ (b : List ℕ) (h : own_bytes b ≤ length b) where
  pub kept_length : length (kept_header b) ≡ header_bytes
  unfolding kept_header
  kept_length = fix_length (first_bytes b) ∙ first_length_lem b h

  -- the bytes that the rules do not change
  pub kept_other : (j : ℕ) → T (ltb j plain_bytes && apart j changed_places) → byte (kept_header b) j ≡ byte b j
  unfolding kept_header
  kept_other j t =
      let p = holds (ltb j plain_bytes) _ t in
      fix_other (first_bytes b) j p.1 ∙ first_byte b h j (ltb→lt j plain_bytes p.0)

  first_own : own_bytes (first_bytes b) ≡ own_bytes b
  unfolding own_bytes
  first_own = rw (first_byte b h format_at (omega arith))

  kept_fixed : (eqb (descriptor_size (kept_header b)) (own_bytes (kept_header b)) ≡ true) × (byte (kept_header b) reserved_at ≡ 0)
      × (leb (pitch (kept_header b)) pitch_limit ≡ true) × (leb (height (kept_header b)) height_limit ≡ true)
  unfolding kept_header
  kept_fixed =
      let l = first_bytes b in
      let n : plain_bytes ≤ length l = omega (arith, first_length_lem b h) in
      (eq-eqb _ _ (fix_size l n ∙ sym (fix_own l)), fix_reserved l n, (fix_caps l n).0, (fix_caps l n).1)

  -- the format and the resolution
  abbrev Resolved : Type 0
  Resolved = (((eqb (format (kept_header b)) plain_format && both_are coarse_resolution (kept_header b)) || says_resolution (kept_header b)) ≡ true) × (header_resolution (kept_header b) ≡ true)

  kept_fine : says_resolution b ≡ true → header_resolution b ≡ true → Resolved
  unfolding kept_header
  kept_fine e r =
      let f : format b ≡ 20 = eqb-true _ _ e in
      let at : (j : ℕ) → T (ltb j header_bytes && apart j changed_places) → byte (fix_header (first_bytes b)) j ≡ byte b j = λ j t.
      let p = holds (ltb j header_bytes) _ t in fix_other (first_bytes b) j p.1 ∙ first_fine b h e j (ltb→lt j header_bytes p.0) in (
        rw (at format_at tt, f),
        rw (at format_at tt, at 64 tt, at 65 tt, at 66 tt, at 67 tt) r,
      )

  kept_plain : says_resolution b ≡ false → (eqb (format b) plain_format || says_resolution b) ≡ true → Resolved
  unfolding kept_header
  kept_plain e t =
      let l = first_bytes b in
      let f : byte (fix_header l) format_at ≡ 0 = fix_other l format_at tt ∙ first_byte b h format_at (omega arith) ∙ plain_format_lem b t e in (
        rw (
          f,
          fix_other l 64 tt ∙ first_plain b h e 0,
          fix_other l 65 tt ∙ first_plain b h e 1,
          fix_other l 66 tt ∙ first_plain b h e 2,
          fix_other l 67 tt ∙ first_plain b h e 3,
        ),
        rw f,
      )

  kept_resolved : (eqb (format b) plain_format || says_resolution b) ≡ true → header_resolution b ≡ true → Resolved
  kept_resolved t r = go (says_resolution b) refl
    where
      go : (u : Bool) → says_resolution b ≡ u → Resolved
      go true e = kept_fine e r
      go false e = kept_plain e t

-- what an accepted block leaves passes the test
pub kept_header_lem : (b : List ℕ) → read_header b ≡ Ok tt → is_kept_header (kept_header b) ≡ true
unfolding read_header is_kept_header
kept_header_lem b e =
    let p = taken (header_checks b) e in
    let h = header_long b e in
    let f = both (header_fields b) (header_resolution b) p.1.1.0 in
    let r = kept_resolved b h (both (eqb (format b) plain_format || says_resolution b) _ p.1.0).0 f.1 in
    let z = kept_fixed b h in
    rw (
      kept_length b h,
      r.0,
      r.1,
      z.0,
      z.1,
      z.2,
      z.3,
      same_fields (kept_header b) b (kept_other b h),
      f.0,
    )

-- what passes the test is what is kept of its own bytes, which are accepted
module _ (k : List ℕ) (e : is_kept_header k ≡ true) where
  pub is_kept_length : length k ≡ header_bytes
  unfolding is_kept_header
  is_kept_length = eqb-true _ _ (both (eqb (length k) header_bytes) (fixed_header k && (header_fields k && header_resolution k)) e).0

  is_kept_parts : (fixed_header k ≡ true) × (header_fields k ≡ true) × (header_resolution k ≡ true)
  unfolding is_kept_header
  is_kept_parts =
      let p = both (fixed_header k) (header_fields k && header_resolution k) (both (eqb (length k) header_bytes) (fixed_header k && (header_fields k && header_resolution k)) e).1 in
      let q = both (header_fields k) (header_resolution k) p.1 in
      (p.0, q.0, q.1)

  abbrev formed : Bool
  formed = (eqb (format k) plain_format && both_are coarse_resolution k) || says_resolution k

  is_kept_fixed :
      (formed ≡ true) × (descriptor_size k ≡ own_bytes k) × (byte k reserved_at ≡ 0) × (leb (pitch k) pitch_limit ≡ true) × (leb (height k) height_limit ≡ true)
  is_kept_fixed =
      let f = formed in
      let g = eqb (descriptor_size k) (own_bytes k) in
      let h = eqb (byte k reserved_at) 0 in
      let i = leb (pitch k) pitch_limit in
      let j = leb (height k) height_limit in
      let p = both (f && g && h && i) j is_kept_parts.0 in
      let q = both (f && g && h) i p.0 in
      let r = both (f && g) h q.0 in
      let s = both f g r.0 in
      (s.0, eqb-true _ _ s.1, eqb-true _ _ r.1, q.1, p.1)

  -- it stands as the rules leave it
  is_kept_again : fix_header k ≡ k
  unfolding fix_header
  is_kept_again =
      let p = is_kept_fixed in
      let high : byte k 0 ≡ own_bytes k / 256 = omega (arith, p.1, (own_within k).1) in
      let low : byte k 1 ≡ own_bytes k % 256 = omega (arith, p.1, (own_within k).1) in
      simp (stay 0 (own_bytes k / 256) k high, stay 1 (own_bytes k % 256) k low, stay reserved_at 0 k p.2, p.3, p.4)

  -- a format 20 header has all of it
  module _ (says : says_resolution k ≡ true) where
    own_all : own_header k ≡ k
    unfolding own_header
    own_all = take_all (own_bytes k) k (omega (arith, is_kept_length, own_fine k says))

    fine_read : read_header k ≡ Ok tt
    unfolding read_header
    fine_read =
        let f : format k ≡ 20 = eqb-true _ _ says in
        rw (is_kept_length, is_kept_fixed.1, own_fine k says, is_kept_parts.1, is_kept_parts.2, f)

    fine_again : kept_header k ≡ k
    unfolding kept_header first_bytes
    fine_again = rw (says, take_all header_bytes k (omega (arith, is_kept_length))) is_kept_again

  -- one of format 0 lacks the four bytes that it got
  module _ (says : says_resolution k ≡ false) where
    plain_parts : (format k ≡ 0) × (both_are coarse_resolution k ≡ true)
    plain_parts =
        let q = both (eqb (format k) plain_format) (both_are coarse_resolution k) (go (eqb (format k) plain_format && both_are coarse_resolution k) (rw says at is_kept_fixed.0)) in
        (eqb-true _ _ q.0, q.1)
      where
        go : (t : Bool) → (t || false) ≡ true → t ≡ true
        go true q = refl
        go false q = q

    coarse_behind : drop plain_bytes k ≡ coarse_bytes
    coarse_behind =
        let x = is_word x_resolution_at coarse_resolution k in
        let y = is_word y_resolution_at coarse_resolution k in
        let q = both x y plain_parts.1 in
        let a = both (eqb (byte k 64) 1) (eqb (byte k 65) 44) q.0 in
        let c = both (eqb (byte k 66) 1) (eqb (byte k 67) 44) q.1 in
        four (drop plain_bytes k) (omega (arith, length-drop plain_bytes k, is_kept_length))
        (get_or-drop plain_bytes k 0 0 ∙ eqb-true _ _ a.0) (get_or-drop plain_bytes k 1 0 ∙ eqb-true _ _ a.1)
        (get_or-drop plain_bytes k 2 0 ∙ eqb-true _ _ c.0) (get_or-drop plain_bytes k 3 0 ∙ eqb-true _ _ c.1)
      where
        four : (l : List ℕ) → length l ≡ 4 → byte l 0 ≡ 1 → byte l 1 ≡ 44 → byte l 2 ≡ 1 → byte l 3 ≡ 44 → l ≡ coarse_bytes
        four [] n p q r s = absurd (omega arith)
        four (a ∷ []) n p q r s = absurd (omega arith)
        four (a ∷ b ∷ []) n p q r s = absurd (omega arith)
        four (a ∷ b ∷ c ∷ []) n p q r s = absurd (omega arith)
        four (a ∷ b ∷ c ∷ d ∷ []) n p q r s = rw (p, q, r, s)
        four (a ∷ b ∷ c ∷ d ∷ f ∷ l) n p q r s = absurd (omega arith)

    own_first : own_header k ≡ take plain_bytes k
    unfolding own_header
    own_first = ap (λ (n : ℕ). take n k) (own_plain k says)

    plain_byte : (j : ℕ) → T (ltb j plain_bytes) → byte (take plain_bytes k) j ≡ byte k j
    plain_byte j t = get_or-take plain_bytes k j 0 (ltb→lt j plain_bytes t)

    plain_read : read_header (take plain_bytes k) ≡ Ok tt
    unfolding read_header own_bytes
    plain_read =
        let l : length (take plain_bytes k) ≡ plain_bytes = length-take-le plain_bytes k (omega (arith, is_kept_length)) in
        let f : byte (take plain_bytes k) format_at ≡ 0 = plain_byte format_at tt ∙ plain_parts.0 in
        let w : word (take plain_bytes k) descriptor_size_at ≡ plain_bytes = rw (plain_byte 0 tt, plain_byte 1 tt) (is_kept_fixed.1 ∙ own_plain k says) in
        rw (l, f, w, same_fields (take plain_bytes k) k (λ j t. plain_byte j (holds (ltb j plain_bytes) _ t).0), is_kept_parts.1)

    plain_again : kept_header (take plain_bytes k) ≡ k
    unfolding kept_header first_bytes
    plain_again =
        let f : says_resolution (take plain_bytes k) ≡ false = rw (plain_byte format_at tt) says in
        rw (f, take-take plain_bytes plain_bytes k (omega arith), ← coarse_behind, take-append-drop plain_bytes k) is_kept_again

  pub is_kept_header_lem : (read_header (own_header k) ≡ Ok tt) × (kept_header (own_header k) ≡ k)
  is_kept_header_lem = go (says_resolution k) refl
    where
      go : (t : Bool) → says_resolution k ≡ t → (read_header (own_header k) ≡ Ok tt) × (kept_header (own_header k) ≡ k)
      go true q = rw (own_all q) (fine_read q, fine_again q)
      go false q = rw (own_first q) (plain_read q, plain_again q)

pub kept_headers : KeptHeaders
kept_headers = (kept_header_lem, is_kept_header_lem)
