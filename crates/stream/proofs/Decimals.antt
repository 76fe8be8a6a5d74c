-- Laws of numbers in decimal. Assumes nothing.
use Prim.Native.Nat.{ℕ, zero, suc, ◌+◌, ◌*◌, ◌-◌, ◌/◌, ◌%◌, ◌^◌, ◌≤◌, ◌<◌, max}
use mathlib.Core.Path.{◌≡◌, refl, sym, ap, ◌∙◌, subst}
use mathlib.Core.List.{List, [], ◌∷◌, ◌++◌, append-nil}
use mathlib.Core.Bool.{Bool, true, false, cond}
use native.Mathlib.Omega.{arith}
use native.Mathlib.Numerals.{unary_clauses}
use borrow.Author.Tests.{ltb-true, ltb-false, lt-ltb, le-ltb, le-leb}
use lib.Dec.{ltb, leb}
use lib.ListN.{length, set, length-append}
use lib.Seq.{append_snoc}
use Rattle.stream.proofs.Putting.{put_none, put_before}
use Rattle.stream.specs.Command.{is_digit, leading_digits, spelled}
use Rattle.change.specs.Put.{with_bytes}
use Rattle.stream.specs.Digits.{decimal_in, decimal_of}

-- ---- one digit, or one behind those of its tenth
enough : (k m n : ℕ) → n < k → n < m → decimal_in k n ≡ decimal_in m n
unfolding decimal_in
enough zero m n p q = absurd (omega arith)
enough (suc k) zero n p q = absurd (omega arith)
enough (suc k) (suc m) n p q = go (ltb n 10) refl (enough k m (n / 10))
  where
    go : (t : Bool) → ltb n 10 ≡ t → (n / 10 < k → n / 10 < m → decimal_in k (n / 10) ≡ decimal_in m (n / 10)) → cond t ((48 + n) ∷ []) (decimal_in k (n / 10) ++ ((48 + n % 10) ∷ [])) ≡ cond t ((48 + n) ∷ []) (decimal_in m (n / 10) ++ ((48 + n % 10) ∷ []))
    go true e f = refl
    go false e f = let l = ltb-false n 10 e in ap (λ (ds : List ℕ). ds ++ ((48 + n % 10) ∷ [])) (f (omega arith) (omega arith))

decimal_one : (n : ℕ) → n < 10 → decimal_of n ≡ (48 + n) ∷ []
unfolding decimal_of decimal_in
decimal_one n h = rw (lt-ltb n 10 h)

decimal_more : (n : ℕ) → 10 ≤ n → decimal_of n ≡ decimal_of (n / 10) ++ ((48 + n % 10) ∷ [])
unfolding decimal_of decimal_in
decimal_more n h = rw (le-ltb n 10 h, enough n (suc (n / 10)) (n / 10) (omega arith) (omega arith))

-- what holds of one digit, and of a number if of its tenth, holds of every number
by_tenths : (P : ℕ → Type 0) → ((n : ℕ) → n < 10 → P n) → ((n : ℕ) → 10 ≤ n → P (n / 10) → P n) → (n : ℕ) → P n
by_tenths P one more n = go (suc n) n (omega arith)
  where
    go : (k m : ℕ) → m < k → P m
    go zero m h = absurd (omega arith)
    go (suc k) m h = pick (ltb m 10) refl (go k (m / 10))
      where
        pick : (t : Bool) → ltb m 10 ≡ t → (m / 10 < k → P (m / 10)) → P m
        pick true e f = one m (ltb-true m 10 e)
        pick false e f = let l = ltb-false m 10 e in more m l (f (omega arith))

-- ---- how many digits
pub length_one : (n : ℕ) → n < 10 → length (decimal_of n) ≡ 1
length_one n h = ap length (decimal_one n h)

length_more : (n : ℕ) → 10 ≤ n → length (decimal_of n) ≡ length (decimal_of (n / 10)) + 1
length_more n h = ap length (decimal_more n h) ∙ length-append (decimal_of (n / 10)) ((48 + n % 10) ∷ [])

-- ten to the k
abbrev pub tens : ℕ → ℕ
tens zero = 1
tens (suc k) = tens k * 10

tens_some : (k : ℕ) → 1 ≤ tens k
tens_some zero = omega arith
tens_some (suc k) = omega (arith, tens_some k)

pub length_exact : (k n : ℕ) → tens k ≤ n → n < tens k * 10 → length (decimal_of n) ≡ k + 1
length_exact zero n l h = length_one n h
length_exact (suc k) n l h =
    let e = length_exact k (n / 10) (omega arith) (omega arith) in
    length_more n (omega (arith, tens_some k)) ∙ omega arith

tens_power : (k : ℕ) → tens k ≡ 10 ^ k
tens_power zero = refl
tens_power (suc k) = simp unary_clauses (omega (arith, tens_power k))

-- of 0 as of 1
pub length_by_power : (n m k : ℕ) → m ≡ max n 1 → 10 ^ k ≤ m → m < 10 * 10 ^ k → k + 1 ≡ length (decimal_of n)
length_by_power n m k e l h = go n (omega arith) i
  where
    i : length (decimal_of m) ≡ k + 1
    i = length_exact k m (omega (arith, tens_power k)) (omega (arith, tens_power k))

    go : (j : ℕ) → m ≡ max j 1 → length (decimal_of m) ≡ k + 1 → k + 1 ≡ length (decimal_of j)
    go zero q r = omega (arith, r, length_one m (omega arith), length_one 0 (omega arith))
    go (suc j) q r = let s : m ≡ suc j = omega arith in sym (ap (λ (x : ℕ). length (decimal_of x)) (sym s) ∙ r)

-- at most k + 1
pub decimal_short : (k n : ℕ) → n < tens k * 10 → length (decimal_of n) ≤ k + 1
decimal_short zero n h = omega (arith, length_one n h)
decimal_short (suc k) n h = go (ltb n 10) refl (decimal_short k (n / 10))
  where
    go : (t : Bool) → ltb n 10 ≡ t → (n / 10 < tens k * 10 → length (decimal_of (n / 10)) ≤ k + 1) → length (decimal_of n) ≤ suc k + 1
    go true e f = omega (arith, length_one n (ltb-true n 10 e))
    go false e f = omega (arith, length_more n (ltb-false n 10 e), f (omega arith))

pub decimal_some : (n : ℕ) → 1 ≤ length (decimal_of n)
decimal_some n = by_tenths (λ m. 1 ≤ length (decimal_of m)) (λ m h. omega (arith, length_one m h)) (λ m h i. omega (arith, length_more m h)) n

-- ---- the digits of a number spell it
spelled_snoc : (ds : List ℕ) (d n : ℕ) → spelled n (ds ++ (d ∷ [])) ≡ spelled n ds * 10 + (d - 48)
unfolding spelled
spelled_snoc [] d n = refl
spelled_snoc (c ∷ ds) d n = spelled_snoc ds d (n * 10 + (c - 48))

spells_one : (n : ℕ) → n < 10 → spelled 0 (decimal_of n) ≡ n
unfolding spelled
spells_one n h = rw (decimal_one n h) (omega arith)

spells_more : (n : ℕ) → 10 ≤ n → spelled 0 (decimal_of (n / 10)) ≡ n / 10 → spelled 0 (decimal_of n) ≡ n
spells_more n h i = rw (decimal_more n h) (spelled_snoc (decimal_of (n / 10)) (48 + n % 10) 0 ∙ rw i (omega arith))

pub decimal_spells : (n : ℕ) → spelled 0 (decimal_of n) ≡ n
decimal_spells n = by_tenths (λ m. spelled 0 (decimal_of m) ≡ m) spells_one spells_more n

-- ---- and they are what is read before a byte that is no digit
abbrev AllDigits : List ℕ → Type 0
AllDigits [] = Unit
AllDigits (d ∷ ds) = (is_digit d ≡ true) × AllDigits ds

all_snoc : (ds : List ℕ) (d : ℕ) → AllDigits ds → is_digit d ≡ true → AllDigits (ds ++ (d ∷ []))
all_snoc [] d p e = (e, tt)
all_snoc (c ∷ ds) d (q, p) e = (q, all_snoc ds d p e)

is_digit_lem : (n : ℕ) → n < 10 → is_digit (48 + n) ≡ true
is_digit_lem n h =
    let low : leb 48 (48 + n) ≡ true = le-leb 48 (48 + n) (omega arith) in
    let high : leb (48 + n) 57 ≡ true = le-leb (48 + n) 57 (omega arith) in
    rw (low, high)

decimal_digits : (n : ℕ) → AllDigits (decimal_of n)
decimal_digits n =
    by_tenths (λ m. AllDigits (decimal_of m))
    (λ m h. subst AllDigits (sym (decimal_one m h)) (is_digit_lem m h, tt))
    (λ m h i. subst AllDigits (sym (decimal_more m h)) (all_snoc (decimal_of (m / 10)) (48 + m % 10) i (is_digit_lem (m % 10) (omega arith))))
    n

digits_all : (ds : List ℕ) (k x : ℕ) (rest : List ℕ) → AllDigits ds → length ds ≤ k → is_digit x ≡ false → leading_digits k (ds ++ (x ∷ rest)) ≡ ds
unfolding leading_digits
digits_all [] zero x rest p h e = refl
digits_all [] (suc k) x rest p h e = rw e
digits_all (d ∷ ds) zero x rest p h e = absurd (omega arith)
digits_all (d ∷ ds) (suc k) x rest (q, p) h e = rw (q, digits_all ds k x rest p (omega arith) e)

pub decimal_read : (n x : ℕ) (rest : List ℕ) → n < 100000 → is_digit x ≡ false → leading_digits 5 (decimal_of n ++ (x ∷ rest)) ≡ decimal_of n
decimal_read n x rest h e = digits_all (decimal_of n) 5 x rest (decimal_digits n) (decimal_short 4 n h) e

-- ---- the same digits, from the last one on: the last k of a number
unfoldable pub last_digits : ℕ → ℕ → List ℕ
last_digits zero n = []
last_digits (suc k) n = last_digits k (n / 10) ++ ((48 + n % 10) ∷ [])

last_one : (n : ℕ) → n < 10 → last_digits (length (decimal_of n)) n ≡ decimal_of n
unfolding last_digits
last_one n h =
    let e : n % 10 ≡ n = omega arith in
    rw (decimal_one n h, e)

last_more : (n : ℕ) → 10 ≤ n → last_digits (length (decimal_of (n / 10))) (n / 10) ≡ decimal_of (n / 10) → last_digits (length (decimal_of n)) n ≡ decimal_of n
unfolding last_digits
last_more n h i =
    let k : length (decimal_of n) ≡ suc (length (decimal_of (n / 10))) = omega (arith, length_more n h) in
    rw (k, i, decimal_more n h)

last_all : (n : ℕ) → last_digits (length (decimal_of n)) n ≡ decimal_of n
last_all n = by_tenths (λ m. last_digits (length (decimal_of m)) m ≡ decimal_of m) last_one last_more n

-- ---- a number written over s at place at, from its last digit on: the digits done stand from place i on, and the others are those of rest
pub record Written (s : List ℕ) (at n : ℕ) (out : List ℕ) (i rest : ℕ) : Type 0 where
  pub done : List ℕ
  pub low : at ≤ i
  pub high : i + length done ≡ at + length (decimal_of n)
  pub left : last_digits (i - at) rest ++ done ≡ decimal_of n
  pub bytes : out ≡ with_bytes s i done

pub written_none : (s : List ℕ) (at n i : ℕ) → i ≡ at + length (decimal_of n) → Written s at n s i n
written_none s at n i e =
    let k : i - at ≡ length (decimal_of n) = omega arith in
    record {
      done = [];
      low = omega arith;
      high = omega arith;
      left = rw (k, append-nil (last_digits (length (decimal_of n)) n)) (last_all n);
      bytes = sym (put_none s i);
    }

pub written_more : (s : List ℕ) (at n : ℕ) (out : List ℕ) (i rest : ℕ) → at + length (decimal_of n) ≤ length s → at < i → Written s at n out i rest
    → Written s at n (set out (i - 1) (48 + rest % 10)) (i - 1) (rest / 10)
unfolding last_digits
written_more s at n out i rest h l w =
    let d = 48 + rest % 10 in
    let k : i - at ≡ suc (i - 1 - at) = omega arith in
    let j : i ≡ i - 1 + 1 = omega arith in
    record {
      done = d ∷ w.done;
      low = omega arith;
      high = omega (arith, w.high);
      left = sym (append_snoc (last_digits (i - 1 - at) (rest / 10)) d w.done) ∙ rw k at w.left;
      bytes = ap (λ (o : List ℕ). set o (i - 1) d) (w.bytes ∙ ap (λ (m : ℕ). with_bytes s m w.done) j)
          ∙ put_before s w.done (i - 1) d (omega (arith, w.high));
    }
