-- Laws of the masked swaps: where each of the 64 bits of a block comes from is computed, once, over all of them. Assumes nothing.
use Prim.Native.Nat.{ℕ, zero, suc, ◌+◌, ◌*◌, ◌-◌, ◌^◌, ◌%◌, ◌/◌, ◌<◌, ◌≤◌, min, max}
use mathlib.Core.Path.{◌≡◌, refl, sym, ap, ◌∙◌}
use mathlib.Core.Bool.{Bool, true, false, ◌&&◌, cond}
use native.Mathlib.Nat.{zero-div}
use native.Mathlib.Omega.{arith}
use borrow.Author.Tests.{leb-true, leb-false, eqb-true, eqb-false}
use lib.Dec.{T, ltb, leb, eqb, eqb→eq, ltb→lt}
use lib.Bits.{bit_and, bit_or, and_step, or_step, and_shr, or_shr}
use lib.Pow.{shl-shr}
use Rattle.turning.specs.Block.{swapped, block_dot}
use Rattle.turning.proofs.Table.{left, right}
use Rattle.turning.proofs.DotLaws.{digit, digit_shr, digit_low, digit_above}

-- ---- bits of a number
and_digit : (a b k : ℕ) → digit k (bit_and a b) ≡ min (digit k a) (digit k b)
and_digit a b k = rw (and_shr a b k) (omega (arith, and_step (a / 2 ^ k) (b / 2 ^ k)))

or_digit : (a b k : ℕ) → digit k (bit_or a b) ≡ max (digit k a) (digit k b)
or_digit a b k = rw (or_shr a b k) (omega (arith, or_step (a / 2 ^ k) (b / 2 ^ k)))

-- moved up by s, where k is below s, and where it is not
up_none : (a s k : ℕ) → k < 64 → k < s → digit k (a * 2 ^ s % 2 ^ 64) ≡ 0
up_none a s k l m =
    let e : 63 - k + (1 + k) ≡ 64 = omega arith in
    let f : s - k - 1 + (1 + k) ≡ s = omega arith in
    let z : a * 2 ^ s + 0 ≡ a * 2 ^ s = omega arith in
    (rw e at (digit_low k (63 - k) (a * 2 ^ s))) ∙ (rw (f, z) at (digit_above a (s - k - 1) k 0)) ∙ rw (zero-div (2 ^ k))

up_from : (a s k : ℕ) → k < 64 → s ≤ k → digit k (a * 2 ^ s % 2 ^ 64) ≡ digit (k - s) a
up_from a s k l m =
    let e : 63 - k + (1 + k) ≡ 64 = omega arith in
    let f : s + (k - s) ≡ k = omega arith in
    (rw e at (digit_low k (63 - k) (a * 2 ^ s))) ∙ sym (rw f at (digit_shr (k - s) s (a * 2 ^ s))) ∙ rw (shl-shr a s)

-- ---- one swap
-- the bit that comes up to place k
below : ℕ → ℕ → ℕ → ℕ
below up by k = cond (leb by k) (digit (k - by) up) 0

-- just one bit comes to place k
single : ℕ → ℕ → ℕ → ℕ → Bool
single stay up by k = eqb (digit k stay + digit k up + below up by k) 1

-- the place that it comes from
from : ℕ → ℕ → ℕ → ℕ → ℕ
from stay up by k = cond (eqb (digit k stay) 1) k (cond (eqb (digit k up) 1) (by + k) (k - by))

lower : (x up by k : ℕ) → k < 64 → digit k (bit_and x up * 2 ^ by % 2 ^ 64) ≡ min (digit (k - by) x) (below up by k)
unfolding below
lower x up by k l = go (leb by k) refl
  where
    go : (b : Bool) → leb by k ≡ b → digit k (bit_and x up * 2 ^ by % 2 ^ 64) ≡ min (digit (k - by) x) (cond b (digit (k - by) up) 0)
    go true e = up_from (bit_and x up) by k l (leb-true by k e) ∙ and_digit x up (k - by)
    go false e = up_none (bit_and x up) by k l (leb-false by k e) ∙ omega arith

swap_digit : (x stay up by k : ℕ) → k < 64
    → digit k (swapped x stay up by) ≡ max (max (min (digit k x) (digit k stay)) (min (digit (k - by) x) (below up by k))) (min (digit (by + k) x) (digit k up))
unfolding swapped
swap_digit x stay up by k l =
    or_digit (bit_or (bit_and x stay) (bit_and x up * 2 ^ by % 2 ^ 64)) (bit_and (x / 2 ^ by) up) k
    ∙ rw (or_digit (bit_and x stay) (bit_and x up * 2 ^ by % 2 ^ 64) k, and_digit x stay k, lower x up by k l, and_digit (x / 2 ^ by) up k, digit_shr k by x)

moved : (x stay up by k : ℕ) → k < 64 → T (single stay up by k) → digit k (swapped x stay up by) ≡ digit (from stay up by k) x
unfolding single from
moved x stay up by k l t =
    swap_digit x stay up by k l ∙ go (eqb (digit k stay) 1) refl (eqb (digit k up) 1) refl (below up by k) (eqb→eq (digit k stay + digit k up + below up by k) 1 t)
  where
    go : (p : Bool) → eqb (digit k stay) 1 ≡ p → (q : Bool) → eqb (digit k up) 1 ≡ q → (m : ℕ) → digit k stay + digit k up + m ≡ 1
        → max (max (min (digit k x) (digit k stay)) (min (digit (k - by) x) m)) (min (digit (by + k) x) (digit k up)) ≡ digit (cond p k (cond q (by + k) (k - by))) x
    go true e q f m g =
        let a : digit k stay ≡ 1 = eqb-true (digit k stay) 1 e in
        let u : digit k up ≡ 0 = omega arith in
        let z : m ≡ 0 = omega arith in
        rw (a, u, z) (omega arith)
    go false e true f m g =
        let u : digit k up ≡ 1 = eqb-true (digit k up) 1 f in
        let a : digit k stay ≡ 0 = omega arith in
        let z : m ≡ 0 = omega arith in
        rw (a, u, z) (omega arith)
    go false e false f m g =
        let a : digit k stay ≡ 0 = omega (arith, eqb-false (digit k stay) 1 e) in
        let u : digit k up ≡ 0 = omega (arith, eqb-false (digit k up) 1 f) in
        let z : m ≡ 1 = omega arith in
        rw (a, u, z) (omega arith)

-- ---- three swaps
-- a test that holds of each number below n
abbrev every_below : ℕ → (ℕ → Bool) → Bool
every_below zero f = true
every_below (suc n) f = f n && every_below n f

holds_at : (n : ℕ) (f : ℕ → Bool) → T (every_below n f) → (k : ℕ) → k < n → T (f k)
holds_at zero f t k l = absurd (omega arith)
holds_at (suc n) f t k l = go (eqb k n) refl (λ (m : k < n). holds_at n f (right (f n) (every_below n f) t) k m)
  where
    go : (b : Bool) → eqb k n ≡ b → (k < n → T (f k)) → T (f k)
    go true e h = let z : k ≡ n = eqb-true k n e in rw z (left (f n) (every_below n f) t)
    go false e h = h (omega (arith, eqb-false k n e))

-- the masks of src/block.rt, in decimal
abbrev ones_stay : ℕ
ones_stay = 12273903644374837845

abbrev ones_up : ℕ
ones_up = 47851476196393130

abbrev twos_stay : ℕ
twos_stay = 14757226376558555955

abbrev twos_up : ℕ
twos_up = 225176545447116

abbrev fours_stay : ℕ
fours_stay = 17361641477348724495

abbrev fours_up : ℕ
fours_up = 4042322160

abbrev ones : ℕ → ℕ
ones x = swapped x ones_stay ones_up 7

abbrev twos : ℕ → ℕ
twos x = swapped x twos_stay twos_up 14

abbrev fours : ℕ → ℕ
fours x = swapped x fours_stay fours_up 28

-- bit k of the result comes from that place, each swap moving it alone
crosses : ℕ → Bool
crosses k =
    let c = from fours_stay fours_up 28 k in
    let b = from twos_stay twos_up 14 c in
    single fours_stay fours_up 28 k && (ltb c 64 && (single twos_stay twos_up 14 c && (ltb b 64 && (single ones_stay ones_up 7 b
    && eqb (from ones_stay ones_up 7 b) (k % 8 * 8 + k / 8)))))

all_cross : T (every_below 64 crosses)
unfolding crosses single from below
all_cross = tt

six : (a b c d e f : Bool) → T (a && (b && (c && (d && (e && f))))) → T a × T b × T c × T d × T e × T f
six true true true true true true t = (tt, tt, tt, tt, tt, tt)
six false b c d e f t = elim t [ ]
six true false c d e f t = elim t [ ]
six true true false d e f t = elim t [ ]
six true true true false e f t = elim t [ ]
six true true true true false f t = elim t [ ]
six true true true true true false t = elim t [ ]

transposed_digit : (x k : ℕ) → k < 64 → digit k (fours (twos (ones x))) ≡ digit (k % 8 * 8 + k / 8) x
unfolding crosses
transposed_digit x k l =
    let c : ℕ = from fours_stay fours_up 28 k in
    let b : ℕ = from twos_stay twos_up 14 c in
    let t = six (single fours_stay fours_up 28 k) (ltb c 64) (single twos_stay twos_up 14 c) (ltb b 64) (single ones_stay ones_up 7 b)
    (eqb (from ones_stay ones_up 7 b) (k % 8 * 8 + k / 8)) (holds_at 64 crosses all_cross k l) in
    moved (twos (ones x)) fours_stay fours_up 28 k l t.0
    ∙ moved (ones x) twos_stay twos_up 14 c (ltb→lt c 64 t.1) t.2
    ∙ moved x ones_stay ones_up 7 b (ltb→lt b 64 t.3) t.4
    ∙ ap (λ (y : ℕ). digit y x) (eqb→eq (from ones_stay ones_up 7 b) (k % 8 * 8 + k / 8) t.5)

pub transposed : (x i j : ℕ) → i < 8 → j < 8 → block_dot (fours (twos (ones x))) i j ≡ block_dot x j i
transposed x i j l m =
    let e : (63 - (i * 8 + j)) % 8 * 8 + (63 - (i * 8 + j)) / 8 ≡ 63 - (j * 8 + i) = omega arith in
    ap (λ (y : ℕ). eqb y 1) (rw e at (transposed_digit x (63 - (i * 8 + j)) (omega arith)))
