-- The bytes of a header: how many it has, which are kept, and what the rules change of them. Assumes nothing.
use Prim.Native.Nat.{ℕ, suc, ◌+◌, ◌≤◌, ◌<◌}
use mathlib.Core.Path.{◌≡◌, refl, ap, ◌∙◌}
use mathlib.Core.List.{List, [], ◌∷◌, ◌++◌}
use mathlib.Core.Bool.{Bool, true, false, not, ◌&&◌, cond}
use native.Mathlib.Omega.{arith}
use lib.Dec.{T, leb, ltb, eqb}
use lib.ListN.{length, set, take, length-set, length-append, get_or-append}
use lib.Seq.{get_or-set_same, get_or-append-add, get_or-take, length-take-le}
use Rattle.blocks.specs.Field.{byte, put_word, cap_extended}
use Rattle.blocks.specs.Header.{plain_bytes, header_bytes, descriptor_size_at, format_at, font_type_at, style_high_at, reserved_at, baseline_at, cell_width_at, cell_height_at, orientation_at, spacing_at, symbol_set_at, pitch_at, height_at, style_low_at, stroke_weight_at, pitch_extended_at, height_extended_at, x_resolution_at, y_resolution_at, descriptor_size, pitch, height, coarse_resolution, pitch_limit, height_limit, says_resolution, own_bytes, header_fields, coarse_bytes, first_bytes, fix_header, own_header}
use Rattle.blocks.proofs.Fields.{other, put_other, put_at, cap_other, cap_length, cap_low}

-- ---- lists: a change behind a front of n, and what stands there
set_past : (p q : List ℕ) (n i a : ℕ) → length p ≡ n → set (p ++ q) (n + i) a ≡ p ++ set q i a
set_past p q n i a e = rw (← e) (go p)
  where
    go : (r : List ℕ) → set (r ++ q) (length r + i) a ≡ r ++ set q i a
    go [] = let z : 0 + i ≡ i = omega arith in ap (λ (n : ℕ). set q n a) z
    go (x ∷ r) = let z : suc (length r) + i ≡ suc (length r + i) = omega arith in ap (λ (n : ℕ). set (x ∷ (r ++ q)) n a) z ∙ ap (λ (t : List ℕ). x ∷ t) (go r)

get_d_past : (p q : List ℕ) (n i : ℕ) → length p ≡ n → byte (p ++ q) (n + i) ≡ byte q i
get_d_past p q n i e = rw (← e) (get_or-append-add p q i 0)

-- ---- how many bytes a header has
pub own_fine : (b : List ℕ) → says_resolution b ≡ true → own_bytes b ≡ header_bytes
unfolding own_bytes
own_fine b e = rw e

pub own_plain : (b : List ℕ) → says_resolution b ≡ false → own_bytes b ≡ plain_bytes
unfolding own_bytes
own_plain b e = rw e

pub own_within : (b : List ℕ) → (plain_bytes ≤ own_bytes b) × (own_bytes b ≤ header_bytes)
unfolding own_bytes
own_within b = go (says_resolution b)
  where
    go : (t : Bool) → (plain_bytes ≤ cond t header_bytes plain_bytes) × (cond t header_bytes plain_bytes ≤ header_bytes)
    go true = (omega arith, omega arith)
    go false = (omega arith, omega arith)

pub own_length : (k : List ℕ) → header_bytes ≤ length k → length (own_header k) ≡ own_bytes k
unfolding own_header
own_length k h = length-take-le (own_bytes k) k (omega (arith, (own_within k).1))

-- ---- the bytes that the rules then change
module _ (b : List ℕ) (h : own_bytes b ≤ length b) where
  long : plain_bytes ≤ length b
  long = omega (arith, (own_within b).0)

  pub first_length_lem : length (first_bytes b) ≡ header_bytes
  unfolding first_bytes
  first_length_lem = go (says_resolution b) refl
    where
      go : (t : Bool) → says_resolution b ≡ t → length (cond t (take header_bytes b) (take plain_bytes b ++ coarse_bytes)) ≡ header_bytes
      go true e = length-take-le header_bytes b (omega (arith, own_fine b e))
      go false e = omega (arith, length-append (take plain_bytes b) coarse_bytes, length-take-le plain_bytes b long)

  pub first_byte : (j : ℕ) → j < plain_bytes → byte (first_bytes b) j ≡ byte b j
  unfolding first_bytes
  first_byte j l = go (says_resolution b)
    where
      go : (t : Bool) → byte (cond t (take header_bytes b) (take plain_bytes b ++ coarse_bytes)) j ≡ byte b j
      go true = get_or-take header_bytes b j 0 (omega arith)
      go false =
          get_or-append (take plain_bytes b) coarse_bytes 0 j (omega (arith, length-take-le plain_bytes b long)) ∙ get_or-take plain_bytes b j 0 l

  -- the resolution: what a format 20 block says, or 300 and 300
  pub first_fine : says_resolution b ≡ true → (j : ℕ) → j < header_bytes → byte (first_bytes b) j ≡ byte b j
  unfolding first_bytes
  first_fine e j l = rw e (get_or-take header_bytes b j 0 l)

  pub first_plain : says_resolution b ≡ false → (i : ℕ) → byte (first_bytes b) (plain_bytes + i) ≡ byte coarse_bytes i
  unfolding first_bytes
  first_plain e i = rw e (get_d_past (take plain_bytes b) coarse_bytes plain_bytes i (length-take-le plain_bytes b long))

-- 300 and 300 put behind the 64 bytes of a format 0 header
pub put_coarse : (p o : List ℕ) → length p ≡ plain_bytes → length o ≡ 4
    → put_word y_resolution_at coarse_resolution (put_word x_resolution_at coarse_resolution (p ++ o)) ≡ p ++ coarse_bytes
put_coarse p [] l n = absurd (omega arith)
put_coarse p (a ∷ []) l n = absurd (omega arith)
put_coarse p (a ∷ b ∷ []) l n = absurd (omega arith)
put_coarse p (a ∷ b ∷ c ∷ []) l n = absurd (omega arith)
put_coarse p (a ∷ b ∷ c ∷ d ∷ []) l n =
    rw (
      set_past p (a ∷ b ∷ c ∷ d ∷ []) plain_bytes 0 1 l,
      set_past p (1 ∷ b ∷ c ∷ d ∷ []) plain_bytes 1 44 l,
      set_past p (1 ∷ 44 ∷ c ∷ d ∷ []) plain_bytes 2 1 l,
      set_past p (1 ∷ 44 ∷ 1 ∷ d ∷ []) plain_bytes 3 44 l,
    )
put_coarse p (a ∷ b ∷ c ∷ d ∷ e ∷ o) l n = absurd (omega arith)

-- ---- what the rules change
-- a place that is none of those in a list
abbrev pub apart : ℕ → List ℕ → Bool
apart j [] = true
apart j (i ∷ is) = not (eqb j i) && apart j is

pub holds : (s t : Bool) → T (s && t) → T s × T t
holds true t h = (tt, h)
holds false t h = absurd h

-- where the rules change bytes
abbrev pub changed_places : List ℕ
changed_places = descriptor_size_at ∷ (descriptor_size_at + 1) ∷ reserved_at ∷ pitch_at ∷ (pitch_at + 1) ∷ height_at ∷ (height_at + 1) ∷ pitch_extended_at ∷ height_extended_at ∷ []

module _ (l : List ℕ) where
  pub fix_other : (j : ℕ) → T (apart j changed_places) → byte (fix_header l) j ≡ byte l j
  unfolding fix_header
  fix_other j p =
      let s₀ = holds (not (eqb j descriptor_size_at)) _ p in
      let s₁ = holds (not (eqb j (descriptor_size_at + 1))) _ s₀.1 in
      let r = holds (not (eqb j reserved_at)) _ s₁.1 in
      let p₀ = holds (not (eqb j pitch_at)) _ r.1 in
      let p₁ = holds (not (eqb j (pitch_at + 1))) _ p₀.1 in
      let h₀ = holds (not (eqb j height_at)) _ p₁.1 in
      let h₁ = holds (not (eqb j (height_at + 1))) _ h₀.1 in
      let pₓ = holds (not (eqb j pitch_extended_at)) _ h₁.1 in
      let hₓ = holds (not (eqb j height_extended_at)) _ pₓ.1 in
      let u = put_word descriptor_size_at (own_bytes l) l in
      let v = set u reserved_at 0 in
      cap_other height_at height_extended_at height_limit j (cap_extended pitch_at pitch_extended_at pitch_limit v) h₀.0 h₁.0 hₓ.0
      ∙ cap_other pitch_at pitch_extended_at pitch_limit j v p₀.0 p₁.0 pₓ.0
      ∙ other reserved_at 0 j u r.0
      ∙ put_other descriptor_size_at (own_bytes l) j l s₀.0 s₁.0

  pub fix_length : length (fix_header l) ≡ length l
  unfolding fix_header
  fix_length = simp (cap_length, length-set)

  pub fix_own : own_bytes (fix_header l) ≡ own_bytes l
  unfolding own_bytes
  fix_own = rw (fix_other format_at tt)

  module _ (h : plain_bytes ≤ length l) where
    -- descriptor size 64 or 68, and byte 5 zero
    pub fix_size : descriptor_size (fix_header l) ≡ own_bytes l
    unfolding fix_header
    fix_size =
        let u = put_word descriptor_size_at (own_bytes l) l in
        let v = set u reserved_at 0 in
        let w = cap_extended pitch_at pitch_extended_at pitch_limit v in
        rw (
          cap_other height_at height_extended_at height_limit 0 w tt tt tt,
          cap_other pitch_at pitch_extended_at pitch_limit 0 v tt tt tt,
          other reserved_at 0 0 u tt,
          cap_other height_at height_extended_at height_limit 1 w tt tt tt,
          cap_other pitch_at pitch_extended_at pitch_limit 1 v tt tt tt,
          other reserved_at 0 1 u tt,
        ) (put_at descriptor_size_at (own_bytes l) l (omega arith))

    pub fix_reserved : byte (fix_header l) reserved_at ≡ 0
    unfolding fix_header
    fix_reserved =
        let u = put_word descriptor_size_at (own_bytes l) l in
        let v = set u reserved_at 0 in
        cap_other height_at height_extended_at height_limit reserved_at (cap_extended pitch_at pitch_extended_at pitch_limit v) tt tt tt
        ∙ cap_other pitch_at pitch_extended_at pitch_limit reserved_at v tt tt tt
        ∙ get_or-set_same u reserved_at 0 0 (simp length-set (omega arith))

    -- pitch and height at most their limits
    pub fix_caps : (leb (pitch (fix_header l)) pitch_limit ≡ true) × (leb (height (fix_header l)) height_limit ≡ true)
    unfolding fix_header
    fix_caps =
        let v = set (put_word descriptor_size_at (own_bytes l) l) reserved_at 0 in
        let w = cap_extended pitch_at pitch_extended_at pitch_limit v in
        let e : length v ≡ length l = simp length-set in (
          rw (cap_other height_at height_extended_at height_limit pitch_at w tt tt tt, cap_other height_at height_extended_at height_limit (pitch_at + 1) w tt tt tt) (cap_low pitch_at pitch_extended_at pitch_limit v (omega arith) tt tt),
          cap_low height_at height_extended_at height_limit w (rw (cap_length pitch_at pitch_extended_at pitch_limit v) (omega arith)) tt tt,
        )

-- headers with the same bytes where the fields stand have the same fields
pub same_fields : (x y : List ℕ) → ((j : ℕ) → T (ltb j plain_bytes && apart j changed_places) → byte x j ≡ byte y j) → header_fields x ≡ header_fields y
same_fields x y e =
    simp (
      e font_type_at tt,
      e style_high_at tt,
      e style_low_at tt,
      e cell_width_at tt,
      e (cell_width_at + 1) tt,
      e cell_height_at tt,
      e (cell_height_at + 1) tt,
      e baseline_at tt,
      e (baseline_at + 1) tt,
      e orientation_at tt,
      e spacing_at tt,
      e symbol_set_at tt,
      e (symbol_set_at + 1) tt,
      e stroke_weight_at tt,
    )
