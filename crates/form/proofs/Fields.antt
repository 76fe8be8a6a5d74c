-- Fields of a part of a buffer, byte by byte.
use mathlib.Core.Path.{◌≡◌, refl, sym, ap, ◌∙◌}
use mathlib.Core.List.{List, [], ◌∷◌}
use mathlib.Core.Bool.{Bool, true, false}
use Prim.Native.Nat.{ℕ, zero, suc, ◌+◌, ◌*◌, ◌-◌, ◌<◌, ◌≤◌}
use native.Mathlib.Omega.{arith}
use native.Mathlib.Numerals.{add-one}
use lib.Bits.{bit_or, or_add_and, and_le_r}
use lib.ListN.{length, get_or, take, drop, drop_of_length-le, length-drop}
use lib.Seq.{drop-drop, drop-cons, take_all}
use lib.Dec.{eqb}
use borrow.Author.Tests.{eqb-true, eqb-false, ne_eqb}
use Rattle.form.specs.Num.{◌and◌, num, field, all_zero, word_end}

pub field_suc : (k i : ℕ) (s : List ℕ) → i < length s → field (suc k) i s ≡ get_or s i 0 + 256 * field k (i + 1) s
unfolding num
field_suc k i s h = rw (drop-cons s i 0, add-one)

pub field_zero : (i : ℕ) (s : List ℕ) → field 0 i s ≡ 0
unfolding num
field_zero i s = refl

pub field_two : (i : ℕ) (s : List ℕ) → i + 2 ≤ length s → field 2 i s ≡ get_or s i 0 + 256 * get_or s (i + 1) 0
field_two i s h = omega (arith, field_suc 1 i s (omega arith), field_suc 0 (i + 1) s (omega arith), field_zero (i + 1 + 1) s)

pub field_four : (i : ℕ) (s : List ℕ) → i + 4 ≤ length s → field 4 i s ≡ field 2 i s + word_end * field 2 (i + 2) s
field_four i s h =
    let e : field 2 (i + 1 + 1) s ≡ field 2 (i + 2) s = let e1 : i + 1 + 1 ≡ i + 2 = omega arith in ap (λ (j : ℕ). field 2 j s) e1 in
    omega (arith, field_suc 3 i s (omega arith), field_suc 2 (i + 1) s (omega arith), field_suc 1 i s (omega arith), field_suc 0 (i + 1) s (omega arith), field_zero (i + 1 + 1) s)

pub field_bytes : (i : ℕ) (s : List ℕ) → i + 4 ≤ length s → field 4 i s ≡ get_or s i 0 + 256 * get_or s (i + 1) 0 + 65536 * get_or s (i + 2) 0 + 16777216 * get_or s (i + 3) 0
field_bytes i s h =
    let e : get_or s (i + 2 + 1) 0 ≡ get_or s (i + 3) 0 = let j : i + 2 + 1 ≡ i + 3 = omega arith in ap (λ (k : ℕ). get_or s k 0) j in
    omega (arith, field_four i s h, field_two i s (omega arith), field_two (i + 2) s (omega arith))

pub field_drop : (k j i : ℕ) (s : List ℕ) → field k j (drop i s) ≡ field k (i + j) s
field_drop k j i s = ap (λ (l : List ℕ). num (take k l)) (drop-drop j i s)

-- ── zeros by joining bits
or_zero : (a b : ℕ) → eqb (bit_or a b) 0 ≡ eqb a 0 and eqb b 0
or_zero a b = go (eqb a 0) refl (eqb b 0) refl
  where
    go : (x : Bool) → eqb a 0 ≡ x → (y : Bool) → eqb b 0 ≡ y → eqb (bit_or a b) 0 ≡ eqb a 0 and eqb b 0
    go true p true q = unfold ◌and◌ in rw (eqb-true a 0 p, eqb-true b 0 q)
    go true p false q = unfold ◌and◌ in rw (eqb-true a 0 p)
    go false p y q = unfold ◌and◌ in rw p (ne_eqb (bit_or a b) 0 (λ e. eqb-false a 0 p (omega (arith, or_add_and a b, and_le_r a b))))

pub zeros_turn : (any i : ℕ) (s : List ℕ) → i < length s → eqb any 0 and all_zero (drop i s) ≡ eqb (bit_or any (get_or s i 0)) 0 and all_zero (drop (i + 1) s)
unfolding all_zero
zeros_turn any i s h = rw (drop-cons s i 0, or_zero, add-one) (and_assoc (eqb any 0) (eqb (get_or s i 0) 0) (all_zero (drop (suc i) s)))
  where
    and_assoc : (a b c : Bool) → a and (b and c) ≡ (a and b) and c
    and_assoc true b c = unfold ◌and◌ in refl
    and_assoc false b c = unfold ◌and◌ in refl

-- the front of some bytes, and the rest
pub zeros_parts : (n : ℕ) (s : List ℕ) → all_zero s ≡ all_zero (take n s) and all_zero (drop n s)
unfolding all_zero ◌and◌
zeros_parts zero s = refl
zeros_parts (suc n) [] = refl
zeros_parts (suc n) (b ∷ s) = go (eqb b 0) (zeros_parts n s)
  where
    go : (t : Bool) → all_zero s ≡ all_zero (take n s) and all_zero (drop n s) → t and all_zero s ≡ (t and all_zero (take n s)) and all_zero (drop n s)
    go true e = e
    go false e = refl

pub zeros_part : (i : ℕ) (s : List ℕ) → all_zero (take (length s - i) (drop i s)) ≡ all_zero (drop i s)
zeros_part i s = ap all_zero (take_all (length s - i) (drop i s) (simp length-drop (omega arith)))

-- the bytes from i on, cut in two of which the first are 0, or not
module _ (i m : ℕ) (s front back : List ℕ) (f : front ≡ take m (take (length s - i) (drop i s))) (b : back ≡ drop m (take (length s - i) (drop i s))) where
  zeros_cut : (all_zero front and all_zero back) ≡ all_zero (drop i s)
  zeros_cut = rw (f, b) (sym (zeros_parts m (take (length s - i) (drop i s))) ∙ zeros_part i s)

  pub zeros_more : all_zero front ≡ true → all_zero back ≡ all_zero (drop i s)
  unfolding ◌and◌
  zeros_more e = rw e at zeros_cut

  pub zeros_not : all_zero front ≡ false → false ≡ all_zero (drop i s)
  unfolding ◌and◌
  zeros_not e = rw e at zeros_cut

pub zeros_none : (i : ℕ) (s : List ℕ) → length s ≤ i → all_zero (drop i s) ≡ true
unfolding all_zero
zeros_none i s h = rw (drop_of_length-le s)

pub zeros_end : (any i : ℕ) (s : List ℕ) → length s ≤ i → eqb any 0 and all_zero (drop i s) ≡ eqb any 0
unfolding all_zero
zeros_end any i s h = rw (drop_of_length-le s) (and_true (eqb any 0))
  where
    and_true : (a : Bool) → a and true ≡ a
    and_true true = unfold ◌and◌ in refl
    and_true false = unfold ◌and◌ in refl
