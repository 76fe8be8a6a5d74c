-- Laws of bits that are added place by place. Assumes nothing.
use Prim.Native.Nat.{ℕ, zero, suc, ◌+◌, ◌*◌, ◌/◌, ◌%◌, ◌^◌, ◌<◌, min, max}
use mathlib.Core.Path.{◌≡◌, refl, ◌∙◌}
use native.Mathlib.Omega.{arith}
use lib.Bits.{differ, bit_and, bit_or, bit_xor, and_step, or_step, xor_step}
use lib.Count.{ones, ones_step}

-- the bit and the rest of a number by its digits
lowest : (x y d : ℕ) → x ≡ y * 2 + d → d < 2 → (x % 2 ≡ d) × (x / 2 ≡ y)
lowest x y d e l = (omega (arith, e), omega (arith, e))

ones_by : (x y d : ℕ) → x ≡ y * 2 + d → d < 2 → ones x ≡ d + ones y
ones_by x y d e l = let p = lowest x y d e l in ones_step x ∙ rw (p.0, p.1)

-- two bits
differ_bit : (x y : ℕ) → x < 2 → y < 2 → differ x y < 2
differ_bit zero y p q = q
differ_bit (suc zero) zero p q = p
differ_bit (suc zero) (suc zero) p q = omega arith
differ_bit (suc (suc x)) y p q = absurd (omega arith)
differ_bit (suc zero) (suc (suc y)) p q = absurd (omega arith)

-- three bits
bits_three : (x y z : ℕ) → x < 2 → y < 2 → z < 2 → differ (differ x y) z + 2 * max (min x y) (min (differ x y) z) ≡ x + y + z
bits_three zero zero zero p q r = refl
bits_three zero zero (suc zero) p q r = refl
bits_three zero (suc zero) zero p q r = refl
bits_three zero (suc zero) (suc zero) p q r = refl
bits_three (suc zero) zero zero p q r = refl
bits_three (suc zero) zero (suc zero) p q r = refl
bits_three (suc zero) (suc zero) zero p q r = refl
bits_three (suc zero) (suc zero) (suc zero) p q r = refl
bits_three (suc (suc x)) y z p q r = absurd (omega arith)
bits_three zero (suc (suc y)) z p q r = absurd (omega arith)
bits_three (suc zero) (suc (suc y)) z p q r = absurd (omega arith)
bits_three zero zero (suc (suc z)) p q r = absurd (omega arith)
bits_three zero (suc zero) (suc (suc z)) p q r = absurd (omega arith)
bits_three (suc zero) zero (suc (suc z)) p q r = absurd (omega arith)
bits_three (suc zero) (suc zero) (suc (suc z)) p q r = absurd (omega arith)

abbrev lows : ℕ → ℕ → ℕ → ℕ
lows a b c = bit_xor (bit_xor a b) c

abbrev highs : ℕ → ℕ → ℕ → ℕ
highs a b c = bit_or (bit_and a b) (bit_and (bit_xor a b) c)

-- of numbers of k bits: the low bits of the sums, and twice the high ones
pub three_ones : (k a b c : ℕ) → a < 2 ^ k → b < 2 ^ k → c < 2 ^ k → ones (lows a b c) + 2 * ones (highs a b c) ≡ ones a + ones b + ones c
three_ones zero a b c p q r = none a b c (omega arith) (omega arith) (omega arith)
  where
    none : (a b c : ℕ) → a ≡ 0 → b ≡ 0 → c ≡ 0 → ones (lows a b c) + 2 * ones (highs a b c) ≡ ones a + ones b + ones c
    none a b c x y z = rw (x, y, z) (unfold ones in refl)
three_ones (suc k) a b c p q r =
    let x : ℕ = a % 2 in
    let y : ℕ = b % 2 in
    let z : ℕ = c % 2 in
    let i = three_ones k (a / 2) (b / 2) (c / 2) (omega arith) (omega arith) (omega arith) in
    let xy : differ x y < 2 = differ_bit x y (omega arith) (omega arith) in
    let eo = lowest (bit_xor a b) (bit_xor (a / 2) (b / 2)) (differ x y) (xor_step a b) xy in
    let ea = lowest (bit_and a b) (bit_and (a / 2) (b / 2)) (min x y) (and_step a b) (omega arith) in
    let el : ones (lows a b c) ≡ differ (differ x y) z + ones (lows (a / 2) (b / 2) (c / 2)) =
    ones_by (lows a b c) (lows (a / 2) (b / 2) (c / 2)) (differ (differ x y) z) (xor_step (bit_xor a b) c ∙ rw (eo.0, eo.1)) (differ_bit (differ x y) z xy (omega arith)) in
    let ec = lowest (bit_and (bit_xor a b) c) (bit_and (bit_xor (a / 2) (b / 2)) (c / 2)) (min (differ x y) z) (and_step (bit_xor a b) c ∙ rw (eo.0, eo.1)) (omega arith) in
    let eh : ones (highs a b c) ≡ max (min x y) (min (differ x y) z) + ones (highs (a / 2) (b / 2) (c / 2)) =
    ones_by (highs a b c) (highs (a / 2) (b / 2) (c / 2)) (max (min x y) (min (differ x y) z)) (or_step (bit_and a b) (bit_and (bit_xor a b) c) ∙ rw (ea.0, ea.1, ec.0, ec.1)) (omega arith) in
    omega (arith, i, el, eh, bits_three x y z (omega arith) (omega arith) (omega arith), ones_step a, ones_step b, ones_step c)
