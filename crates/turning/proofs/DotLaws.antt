-- Laws of dots and of the bytes that they are packed into, each by its place. Assumes nothing.
use Prim.Native.Nat.{ℕ, zero, suc, ◌+◌, ◌*◌, ◌-◌, ◌^◌, ◌%◌, ◌/◌, ◌<◌}
use mathlib.Core.Path.{◌≡◌, refl, sym, ap, ◌∙◌}
use mathlib.Core.List.{List, [], ◌∷◌}
use mathlib.Core.Bool.{Bool, true, false}
use native.Mathlib.Nat.{mod-eq_of_lt, mul-add-div_right, mul_assoc, mul-add-mod_self_right, zero-div}
use native.Mathlib.Omega.{arith}
use borrow.Author.Tests.{eqb-true, eqb-false}
use lib.Dec.{eqb}
use lib.ListN.{length, drop, get_or, length-append, get_or-append}
use lib.Seq.{get_or-drop, drop-drop, get_or-append-add}
use lib.Pow.{pow_pos, pow-add, mod-pow-add, high, shr-shr, field, mod-mod-pow}
use Rattle.pictures.specs.Dots.{bit, bits, pack, dots_in, unpack}

-- bit k of a number
abbrev pub digit : ℕ → ℕ → ℕ
digit k x = x / 2 ^ k % 2

-- the dot at bit k of a number
abbrev pub dot_in : ℕ → ℕ → Bool
dot_in k x = eqb (x / 2 ^ k % 2) 1

pub get_d_nil : (i : ℕ) → get_or {A = Bool} [] i false ≡ false
get_d_nil zero = refl
get_d_nil (suc i) = refl

pub length_dots : (k x : ℕ) → length (dots_in k x) ≡ k
unfolding dots_in
length_dots zero x = refl
length_dots (suc k) x = ap suc (length_dots k x)

pub dots_at : (k x i : ℕ) → i < k → get_or (dots_in k x) i false ≡ dot_in (k - 1 - i) x
unfolding dots_in
dots_at zero x i l = absurd (omega arith)
dots_at (suc k) x zero l = let e : suc k - 1 - 0 ≡ k = omega arith in rw e
dots_at (suc k) x (suc i) l = let e : suc k - 1 - suc i ≡ k - 1 - i = omega arith in rw e (dots_at k x i (omega arith))

-- white dots
bits_white : (k : ℕ) (ds : List Bool) → ((i : ℕ) → i < k → get_or ds i false ≡ false) → bits k ds ≡ 0
unfolding bits
bits_white zero ds h = refl
bits_white (suc k) [] h = refl
bits_white (suc k) (d ∷ ds) h =
    let z : d ≡ false = h 0 (omega arith) in
    let r : bits k ds ≡ 0 = bits_white k ds (λ i l. h (suc i) (omega arith)) in
    rw (z, r) (omega arith)

-- only the dots count; missing ones are white
pub bits_same : (k : ℕ) (ds es : List Bool) → ((i : ℕ) → i < k → get_or ds i false ≡ get_or es i false) → bits k ds ≡ bits k es
unfolding bits
bits_same k [] es h = bits_white k [] (λ i l. get_d_nil i) ∙ sym (bits_white k es (λ i l. sym (h i l) ∙ get_d_nil i))
bits_same k (d ∷ ds) [] h = bits_white k (d ∷ ds) (λ i l. h i l ∙ get_d_nil i) ∙ sym (bits_white k [] (λ i l. get_d_nil i))
bits_same zero (d ∷ ds) (e ∷ es) h = refl
bits_same (suc k) (d ∷ ds) (e ∷ es) h =
    let z : d ≡ e = h 0 (omega arith) in
    let r : bits k ds ≡ bits k es = bits_same k ds es (λ i l. h (suc i) (omega arith)) in
    rw (z, r)

bit_of : (y : ℕ) (t : Bool) → eqb y 1 ≡ t → y < 2 → bit t ≡ y
bit_of y true e l = sym (eqb-true y 1 e)
bit_of y false e l = omega (arith, eqb-false y 1 e)

-- a number from its own dots
pub bits_dots : (k x : ℕ) → bits k (dots_in k x) ≡ x % 2 ^ k
unfolding bits dots_in
bits_dots zero x = omega arith
bits_dots (suc k) x =
    let e : 1 + k ≡ suc k = omega arith in
    let b : bit (dot_in k x) ≡ x / 2 ^ k % 2 = bit_of (x / 2 ^ k % 2) (dot_in k x) refl (omega arith) in
    rw (b, bits_dots k x, ← e) (sym (mod-pow-add x 1 k))

pub bits_lt : (k : ℕ) (ds : List Bool) → bits k ds < 2 ^ k
unfolding bits
bits_lt zero ds = omega arith
bits_lt (suc k) [] = pow_pos (suc k)
bits_lt (suc k) (true ∷ ds) = omega (arith, bits_lt k ds)
bits_lt (suc k) (false ∷ ds) = omega (arith, bits_lt k ds)

pub dot_none : (k : ℕ) → dot_in k 0 ≡ false
dot_none k = ap (λ (x : ℕ). eqb (x % 2) 1) (zero-div (2 ^ k))

-- what stands above a bit does not count
pub digit_above : (a j m b : ℕ) → digit m (a * 2 ^ (j + (1 + m)) + b) ≡ digit m b
digit_above a j m b =
    let e : a * 2 ^ (j + (1 + m)) ≡ a * 2 ^ j * 2 * 2 ^ m =
    ap (λ (x : ℕ). a * x) (pow-add 2 j (1 + m) ∙ ap (λ (x : ℕ). 2 ^ j * x) (pow-add 2 1 m)) ∙ sym (mul_assoc a (2 ^ j) (2 * 2 ^ m)) ∙ sym (mul_assoc (a * 2 ^ j) 2 (2 ^ m)) in
    let d : (a * 2 ^ j * 2 * 2 ^ m + b) / 2 ^ m ≡ a * 2 ^ j * 2 + b / 2 ^ m = mul-add-div_right (pow_pos m) (a * 2 ^ j * 2) b in
    let z : (a * 2 ^ j * 2 + b / 2 ^ m) % 2 ≡ b / 2 ^ m % 2 = mul-add-mod_self_right (a * 2 ^ j) 2 (b / 2 ^ m) in
    rw (e, d, z)

pub dot_above : (a j m b : ℕ) → dot_in m (a * 2 ^ (j + (1 + m)) + b) ≡ dot_in m b
dot_above a j m b = ap (λ (y : ℕ). eqb y 1) (digit_above a j m b)

-- the dots of a number that is made of dots
pub dot_bits : (k : ℕ) (ds : List Bool) (i : ℕ) → i < k → dot_in (k - 1 - i) (bits k ds) ≡ get_or ds i false
unfolding bits
dot_bits zero ds i l = absurd (omega arith)
dot_bits (suc k) [] i l = dot_none (suc k - 1 - i) ∙ sym (get_d_nil i)
dot_bits (suc k) (d ∷ ds) zero l =
    let e : suc k - 1 - 0 ≡ k = omega arith in
    rw (e, high (bit d) k (bits_lt k ds)) (own d)
  where
    own : (d : Bool) → eqb (bit d % 2) 1 ≡ d
    own true = refl
    own false = refl
dot_bits (suc k) (d ∷ ds) (suc i) l =
    let e : suc k - 1 - suc i ≡ k - 1 - i = omega arith in
    let f : i + (1 + (k - 1 - i)) ≡ k = omega arith in
    rw e (rw f at (dot_above (bit d) i (k - 1 - i) (bits k ds)) ∙ dot_bits k ds i (omega arith))

-- ---- packed dots
pub pack_at : (n : ℕ) (ds : List Bool) (q : ℕ) → q < n → get_or (pack n ds) q 0 ≡ bits 8 (drop (q * 8) ds)
unfolding pack
pack_at zero ds q l = absurd (omega arith)
pack_at (suc n) ds zero l = refl
pack_at (suc n) ds (suc q) l =
    let e : 8 + q * 8 ≡ suc q * 8 = omega arith in
    pack_at n (drop 8 ds) q (omega arith) ∙ ap (bits 8) (drop-drop (q * 8) 8 ds) ∙ rw e

-- a byte that has the dots of place q on
pub byte_is : (y : ℕ) (ds : List Bool) (q : ℕ) → y < 256 → ((i : ℕ) → i < 8 → dot_in (7 - i) y ≡ get_or ds (q * 8 + i) false) → y ≡ bits 8 (drop (q * 8) ds)
byte_is y ds q l h =
    let e : y % 2 ^ 8 ≡ y = mod-eq_of_lt l in
    sym (bits_dots 8 y ∙ e) ∙ bits_same 8 (dots_in 8 y) (drop (q * 8) ds) (λ i m. dots_at 8 y i m ∙ h i m ∙ sym (get_or-drop (q * 8) ds i false))

-- ---- unpacked bytes
pub length_unpack : (s : List ℕ) → length (unpack s) ≡ length s * 8
unfolding unpack
length_unpack [] = refl
length_unpack (b ∷ s) = rw (length-append, length_dots 8 b, length_unpack s) (omega arith)

-- dot i of byte q
pub unpack_at : (s : List ℕ) (q i : ℕ) → i < 8 → get_or (unpack s) (q * 8 + i) false ≡ dot_in (7 - i) (get_or s q 0)
unfolding unpack
unpack_at [] q i l = get_d_nil (q * 8 + i) ∙ sym (ap (dot_in (7 - i)) (get_d_none q) ∙ dot_none (7 - i))
  where
    get_d_none : (q : ℕ) → get_or {A = ℕ} [] q 0 ≡ 0
    get_d_none zero = refl
    get_d_none (suc q) = refl
unpack_at (b ∷ s) zero i l =
    let e : 0 * 8 + i ≡ i = omega arith in
    rw e (get_or-append (dots_in 8 b) (unpack s) false i (rw (length_dots 8 b) l) ∙ dots_at 8 b i l)
unpack_at (b ∷ s) (suc q) i l =
    let e : suc q * 8 + i ≡ 8 + (q * 8 + i) = omega arith in
    rw e (rw (length_dots 8 b) at (get_or-append-add (dots_in 8 b) (unpack s) (q * 8 + i) false)) ∙ unpack_at s q i l

-- ---- bits of a number that is shifted or cut
pub digit_shr : (k s x : ℕ) → digit k (x / 2 ^ s) ≡ digit (s + k) x
digit_shr k s x = rw (shr-shr x s k)

pub digit_low : (k j x : ℕ) → digit k (x % 2 ^ (j + (1 + k))) ≡ digit k x
digit_low k j x =
    let e : j + (1 + k) ≡ (j + 1) + k = omega arith in
    rw (e, field x (j + 1) k) (mod-mod-pow (x / 2 ^ k) j 1)

pub dot_shr : (k s x : ℕ) → dot_in k (x / 2 ^ s) ≡ dot_in (s + k) x
dot_shr k s x = ap (λ (y : ℕ). eqb y 1) (digit_shr k s x)

pub dot_low : (k j x : ℕ) → dot_in k (x % 2 ^ (j + (1 + k))) ≡ dot_in k x
dot_low k j x = ap (λ (y : ℕ). eqb y 1) (digit_low k j x)
