-- Signed numbers by unsigned comparisons. Assumes nothing.
use Rattle.std.proofs.Common.{◌≡◌, ℕ, suc, ◌+◌, ◌-◌, ◌/◌, ◌%◌, ◌^◌, ◌<◌, ◌≤◌, Bool, true, false, not, ◌||◌, ltb, leb, ℤ, pos, negsuc, sym, refl, ap, ◌∙◌, mod-eq_of_lt, arith, ltb-false, ltb-true, le-ltb, lt-ltb, le-leb, leb-false, leb-true}
use native.Mathlib.Nat.{mod-eq-sub-mod}
use borrow.Author.Tests.{lt-leb}
use lib.Signed.{le_z, lt_z}
use Rattle.blocks.specs.Field.{signed, signed_within}
use Rattle.blocks.proofs.Signed.{leb_iff, signed_within_lem}
use Rattle.blocks.specs.Header.{weight_limit}

ltb_not : (a b : ℕ) → ltb a b ≡ not (leb b a)
ltb_not a b = go (leb b a) refl
  where
    go : (s : Bool) → leb b a ≡ s → ltb a b ≡ not s
    go true e = le-ltb a b (leb-true b a e)
    go false e = lt-ltb a b (leb-false b a e)

pub lt_z_not : (a b : ℤ) → lt_z a b ≡ not (le_z b a)
lt_z_not (pos a) (pos b) = ltb_not a b
lt_z_not (pos a) (negsuc b) = refl
lt_z_not (negsuc a) (pos b) = refl
lt_z_not (negsuc a) (negsuc b) = ltb_not b a

-- z and h more, for a z that is at least -h: the order stays
abbrev pub raise : ℕ → ℤ → ℕ
raise h (pos n) = h + n
raise h (negsuc k) = h - suc k

abbrev pub AtLeast : ℕ → ℤ → Type 0
AtLeast h (pos n) = Unit {0}
AtLeast h (negsuc k) = k < h

pub raise_le : (h : ℕ) (a b : ℤ) → AtLeast h a → AtLeast h b → le_z a b ≡ leb (raise h a) (raise h b)
raise_le h (pos a) (pos b) p q = leb_iff a b (h + a) (h + b) (λ k. omega arith) (λ k. omega arith)
raise_le h (pos a) (negsuc b) p q = sym (lt-leb (h + a) (h - suc b) (omega arith))
raise_le h (negsuc a) (pos b) p q = sym (le-leb (h - suc a) (h + b) (omega arith))
raise_le h (negsuc a) (negsuc b) p q = leb_iff b a (h - suc a) (h - suc b) (λ k. omega arith) (λ k. omega arith)

pub raise_lt : (h : ℕ) (a b : ℤ) → AtLeast h a → AtLeast h b → lt_z a b ≡ ltb (raise h a) (raise h b)
raise_lt h a b p q = lt_z_not a b ∙ ap not (raise_le h b a q p) ∙ sym (ltb_not (raise h a) (raise h b))

-- a number of w bits, by its highest bit
signed_pos : (w n : ℕ) → n < 2 ^ w / 2 → signed w n ≡ pos n
unfolding signed
signed_pos w n h = simp (lt-ltb n (2 ^ w / 2) h)

signed_neg : (w n : ℕ) → 2 ^ w / 2 ≤ n → n < 2 ^ w → signed w n ≡ negsuc (2 ^ w - suc n)
unfolding signed
signed_neg w n h k = simp (le-ltb n (2 ^ w / 2) h, lt-ltb n (2 ^ w) k)

-- what is at least -h of a number of w bits with h added
pub record Raised (h w n : ℕ) : Type 0 where
  pub low : AtLeast h (signed w n)
  pub is : raise h (signed w n) ≡ (n + h) % 2 ^ w

-- one law for each width
raised : (h w n : ℕ) → h ≤ 2 ^ w / 2 → n < 2 ^ w → AtLeast h (signed w n) → Raised h w n
raised h w n hh hn l = record { low = l; is = go (ltb n (2 ^ w / 2)) refl l }
  where
    go : (s : Bool) → ltb n (2 ^ w / 2) ≡ s → AtLeast h (signed w n) → raise h (signed w n) ≡ (n + h) % 2 ^ w
    go true e _ =
        let i : n < 2 ^ w / 2 = ltb-true _ _ e in
        let b : n + h < 2 ^ w = omega arith in
        rw (signed_pos w n i, mod-eq_of_lt b) (omega arith)
    go false e l =
        let i : 2 ^ w / 2 ≤ n = ltb-false _ _ e in
        let k : 2 ^ w - suc n < h = rw (signed_neg w n i hn) at l in
        let a : 2 ^ w ≤ n + h = omega arith in
        let b : n + h - 2 ^ w < 2 ^ w = omega arith in
        rw (signed_neg w n i hn, mod-eq-sub-mod a, mod-eq_of_lt b) (omega arith)

-- a number of w bits that is -m up to m is at least -h, for an m up to h
at_least : (h w m n : ℕ) → m ≤ h → m < 2 ^ w / 2 → n < 2 ^ w → (leb n m || leb (2 ^ w - m) n) ≡ true → AtLeast h (signed w n)
at_least h w m n le hm hn t = go (leb n m) refl t
  where
    go : (u : Bool) → leb n m ≡ u → (u || leb (2 ^ w - m) n) ≡ true → AtLeast h (signed w n)
    go true q v = let j : n ≤ m = leb-true n m q in let i : n < 2 ^ w / 2 = omega arith in rw (signed_pos w n i) tt
    go false q v =
        let j : 2 ^ w - m ≤ n = leb-true (2 ^ w - m) n v in
        let i : 2 ^ w / 2 ≤ n = omega arith in
        rw (signed_neg w n i hn) (omega arith)

-- every number of w bits is at least the lowest of them, -h
at_least_lowest : (h w n : ℕ) → 2 ^ w ≡ h + h → n < 2 ^ w → AtLeast h (signed w n)
at_least_lowest h w n d hn = go (ltb n (2 ^ w / 2)) refl
  where
    go : (s : Bool) → ltb n (2 ^ w / 2) ≡ s → AtLeast h (signed w n)
    go true e = rw (signed_pos w n (ltb-true _ _ e)) tt
    go false e = let i : 2 ^ w / 2 ≤ n = ltb-false _ _ e in rw (signed_neg w n i hn) (omega arith)

pub raised_byte : (n : ℕ) → n < 256 → Raised 128 8 n
raised_byte n k = raised 128 8 n (omega arith) k (at_least_lowest 128 8 n refl k)

-- a weight that a request may ask for
pub raised_request : (n : ℕ) → n < 2 ^ 32 → signed_within 32 weight_limit n ≡ true → Raised 128 32 n
raised_request n k t =
    raised 128 32 n (omega arith) k
    (at_least 128 32 weight_limit n (omega arith) (omega arith) k (sym (signed_within_lem 32 weight_limit n (omega arith) k) ∙ t))
