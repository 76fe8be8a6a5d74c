-- A field of w bits is -m up to m, as a signed number, exactly if it is at most m or at least 2 ^ w - m. One law for each width and bound.
-- Assumes nothing.
use Prim.Native.Nat.{ℕ, zero, suc, ◌-◌, ◌*◌, ◌/◌, ◌^◌, ◌≤◌, ◌<◌}
use mathlib.Core.Path.{◌≡◌, refl, sym, ◌∙◌}
use mathlib.Core.Bool.{Bool, true, false, ◌&&◌, ◌||◌}
use native.Mathlib.Omega.{arith}
use borrow.Author.Tests.{le-leb, lt-leb, lt-ltb, le-ltb, leb-true, ltb-true, ltb-false}
use lib.Dec.{leb, ltb, leb-zero, leb-suc-suc}
use lib.IntN.{ℤ, pos, negsuc, sub_ℕ, nat_abs}
use lib.Signed.{le_z, lt_z}
use mir.Syntax.{Width}
use mir.Val.{to_z, of_z, bits, hbits}
use Rattle.std.proofs.lemmas.Int.{of_z-to_z}
use Rattle.blocks.specs.Field.{signed, signed_within, negative}

-- two tests of which each implies the other
pub leb_iff : (a b c d : ℕ) → (a ≤ b → c ≤ d) → (c ≤ d → a ≤ b) → leb a b ≡ leb c d
leb_iff a b c d f g = go (leb a b) refl (leb c d) refl
  where
    go : (s : Bool) → leb a b ≡ s → (t : Bool) → leb c d ≡ t → s ≡ t
    go true e true q = refl
    go true e false q = sym (le-leb c d (f (leb-true a b e))) ∙ q
    go false e true q = sym e ∙ le-leb a b (g (leb-true c d q))
    go false e false q = refl

or_false : (b : Bool) → (b || false) ≡ b
or_false true = refl
or_false false = refl

and_true : (b : Bool) → (b && true) ≡ b
and_true true = refl
and_true false = refl

-- -m is at most n
low : (m n : ℕ) → le_z (sub_ℕ 0 m) (pos n) ≡ true
low zero n = leb-zero n
low (suc m) n = simp (leb-suc-suc 0 m, leb-zero m)

-- -m is at most -(k + 1)
deep : (m k : ℕ) → le_z (sub_ℕ 0 m) (negsuc k) ≡ ltb k m
deep zero k = simp (le-ltb k 0 (omega arith))
deep (suc m) k = simp (leb-suc-suc 0 m, leb-zero m) (leb_iff k (suc m - 1) (suc k) (suc m) (λ h. omega arith) (λ h. omega arith))

pub signed_within_lem : (w m n : ℕ) → m < 2 ^ w / 2 → n < 2 ^ w → signed_within w m n ≡ (leb n m || leb (2 ^ w - m) n)
unfolding signed signed_within
signed_within_lem w m n hm hn = go (ltb n (2 ^ w / 2)) refl
  where
    go : (s : Bool) → ltb n (2 ^ w / 2) ≡ s → signed_within w m n ≡ (leb n m || leb (2 ^ w - m) n)
    go true e =
        let h : n < 2 ^ w / 2 = ltb-true _ _ e in
        simp (e, low m n, lt-leb (2 ^ w - m) n (omega arith), or_false (leb n m))
    go false e =
        let h : 2 ^ w / 2 ≤ n = ltb-false _ _ e in
        simp (e, lt-ltb n (2 ^ w) hn, deep m (2 ^ w - suc n), lt-leb n m (omega arith), and_true)
        (leb_iff (suc (2 ^ w - suc n)) m (2 ^ w - m) n (λ h. omega arith) (λ h. omega arith))

-- a field of w bits is negative exactly if its highest bit is set
pub negative_by : (w n : ℕ) → n < 2 ^ w → negative w n ≡ leb (2 ^ w / 2) n
unfolding signed negative
negative_by w n hn = go (ltb n (2 ^ w / 2)) refl
  where
    go : (s : Bool) → ltb n (2 ^ w / 2) ≡ s → negative w n ≡ leb (2 ^ w / 2) n
    go true e = simp (e, le-ltb n 0 (omega arith), lt-leb (2 ^ w / 2) n (ltb-true _ _ e))
    go false e = simp (e, lt-ltb n (2 ^ w) hn, le-leb (2 ^ w / 2) n (ltb-false _ _ e))

-- what a cast makes of a field of so many bits, which is of its width again
module _ (W : Width) (n : ℕ) (fits : n < 2 ^ bits W) (half : 2 ^ bits W ≡ 2 * 2 ^ hbits W) (z : ℤ) (cast : z ≡ to_z W n) where
  again : to_z W (of_z W z) ≡ to_z W n
  again = rw (cast, of_z-to_z W n fits)

  -- it is -m up to m
  pub within_cast : (m k : ℕ) → m < 2 ^ hbits W → k ≡ nat_abs (to_z W (of_z W z)) → leb k m ≡ signed_within (bits W) m n
  within_cast m k l e = rw (e, again) (go (ltb n (2 ^ hbits W)) refl ∙ sym (signed_within_lem (bits W) m n (omega arith) fits))
    where
      go : (s : Bool) → ltb n (2 ^ hbits W) ≡ s → leb (nat_abs (to_z W n)) m ≡ (leb n m || leb (2 ^ bits W - m) n)
      go true q = let h : n < 2 ^ hbits W = ltb-true _ _ q in simp (q, lt-leb (2 ^ bits W - m) n (omega arith), or_false (leb n m))
      go false q =
          let h : 2 ^ hbits W ≤ n = ltb-false _ _ q in
          simp (q, lt-leb n m (omega arith)) (leb_iff (suc (2 ^ bits W - suc n)) m (2 ^ bits W - m) n (λ h. omega arith) (λ h. omega arith))

  -- it is below 0
  pub below_cast : lt_z (to_z W (of_z W z)) (pos 0) ≡ negative (bits W) n
  below_cast = rw again (go (ltb n (2 ^ hbits W)) refl ∙ sym (negative_by (bits W) n fits))
    where
      go : (s : Bool) → ltb n (2 ^ hbits W) ≡ s → lt_z (to_z W n) (pos 0) ≡ leb (2 ^ bits W / 2) n
      go true q = let h : n < 2 ^ hbits W = ltb-true _ _ q in simp (q, le-ltb n 0 (omega arith), lt-leb (2 ^ bits W / 2) n (omega arith))
      go false q = let h : 2 ^ hbits W ≤ n = ltb-false _ _ q in simp (q, le-leb (2 ^ bits W / 2) n (omega arith))
