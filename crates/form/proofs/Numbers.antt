-- Laws of numbers as bytes.
use mathlib.Core.Path.{◌≡◌, refl, sym, ap, ap₂, ◌∙◌, subst}
use mathlib.Core.List.{List, [], ◌∷◌, ◌++◌}
use mathlib.Core.Bool.{Bool, true, false}
use mathlib.Core.Logic.{◌⊎◌, inl, inr}
use Prim.Native.Nat.{ℕ, zero, suc, ◌+◌, ◌*◌, ◌/◌, ◌%◌, ◌^◌, ◌<◌, ◌≤◌}
use native.Mathlib.Omega.{arith}
use lib.ListN.{length, take, drop, replicate, length-take, length-drop, take-append-drop}
use lib.Seq.{get_or-drop, drop-drop}
use lib.Dec.{eqb, ltb}
use borrow.Author.Tests.{eqb-true, ltb-true, ltb-false}
use Rattle.form.specs.Num.{◌and◌, num, low_first, field, all_zero, Bytes}

pub num_le : (k n : ℕ) → n < 256 ^ k → num (low_first k n) ≡ n
unfolding num low_first
num_le zero n h = omega arith
num_le (suc k) n h = let i : num (low_first k (n / 256)) ≡ n / 256 = num_le k (n / 256) (omega arith) in omega arith

pub length_le : (k n : ℕ) → length (low_first k n) ≡ k
unfolding low_first
length_le zero n = refl
length_le (suc k) n = ap suc (length_le k (n / 256))

pub low : (b x : ℕ) → b < 256 → (b + 256 * x) % 256 ≡ b
low b x h = omega arith

pub high : (b x : ℕ) → b < 256 → (b + 256 * x) / 256 ≡ x
high b x h = omega arith

pub le_num : (s : List ℕ) → Bytes s → low_first (length s) (num s) ≡ s
unfolding num low_first
le_num [] B = refl
le_num (b ∷ s) B = ap₂ (λ (x : ℕ) (l : List ℕ). x ∷ l) (low b (num s) (B 0)) (ap (low_first (length s)) (high b (num s) (B 0)) ∙ le_num s (λ i. B (suc i)))

pub bytes_drop : (i : ℕ) (s : List ℕ) → Bytes s → Bytes (drop i s)
bytes_drop i s B k = rw get_or-drop (B (i + k))

bytes_take : (k : ℕ) (s : List ℕ) → Bytes s → Bytes (take k s)
bytes_take zero s B i = omega arith
bytes_take (suc k) [] B i = omega arith
bytes_take (suc k) (x ∷ s) B zero = B zero
bytes_take (suc k) (x ∷ s) B (suc i) = bytes_take k s (λ j. B (suc j)) i

-- the k bytes from i are those of the number that they spell
pub le_field : (k i : ℕ) (s : List ℕ) → Bytes s → i + k ≤ length s → low_first k (field k i s) ≡ take k (drop i s)
le_field k i s B h =
    let e : length (take k (drop i s)) ≡ k = simp (length-take, length-drop) (omega arith) in
    subst (λ (n : ℕ). low_first n (field k i s) ≡ take k (drop i s)) e (le_num (take k (drop i s)) (bytes_take k (drop i s) (bytes_drop i s B)))

-- a part, and what is behind it
pub part : (k i : ℕ) (s : List ℕ) → take k (drop i s) ++ drop (i + k) s ≡ drop i s
part k i s = ap (λ (l : List ℕ). take k (drop i s) ++ l) (sym (drop-drop k i s)) ∙ take-append-drop k (drop i s)

pub cut : (k i : ℕ) (s : List ℕ) → Bytes s → i + k ≤ length s → low_first k (field k i s) ++ drop (i + k) s ≡ drop i s
cut k i s B h = ap (λ (l : List ℕ). l ++ drop (i + k) s) (le_field k i s B h) ∙ part k i s

-- ── zeros
pub both_l : (a b : Bool) → a and b ≡ true → a ≡ true
unfolding ◌and◌
both_l true b e = refl
both_l false b e = e

pub both_r : (a b : Bool) → a and b ≡ true → b ≡ true
unfolding ◌and◌
both_r true b e = e
both_r false b e = let z : ◌≡◌ {A = ℕ} 0 1 = cc in absurd (omega arith)

pub both : (a b : Bool) → a ≡ true → b ≡ true → a and b ≡ true
unfolding ◌and◌
both a b p q = rw (p, q)

pub zeros_are : (s : List ℕ) → all_zero s ≡ true → s ≡ replicate (length s) 0
unfolding all_zero
zeros_are [] e = refl
zeros_are (b ∷ s) e = ap₂ (λ (x : ℕ) (l : List ℕ). x ∷ l) (eqb-true b 0 (both_l _ _ e)) (zeros_are s (both_r _ _ e))

pub zeros_all : (n : ℕ) → all_zero (replicate n 0) ≡ true
unfolding all_zero ◌and◌
zeros_all zero = refl
zeros_all (suc n) = zeros_all n

pub zeros_field : (k : ℕ) (s : List ℕ) → all_zero s ≡ true → num (take k s) ≡ 0
unfolding all_zero num
zeros_field zero s e = refl
zeros_field (suc k) [] e = refl
zeros_field (suc k) (b ∷ s) e = omega (arith, eqb-true b 0 (both_l (eqb b 0) (all_zero s) e), zeros_field k s (both_r (eqb b 0) (all_zero s) e))

-- ── order
pub less_or : (a b : ℕ) → (a < b) ⊎ (b ≤ a)
less_or a b = go (ltb a b) refl
  where
    go : (t : Bool) → ltb a b ≡ t → (a < b) ⊎ (b ≤ a)
    go true q = inl (ltb-true a b q)
    go false q = inr (ltb-false a b q)
