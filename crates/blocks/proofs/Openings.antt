-- The tests of a kept descriptor, in the order of the code and in the definition's, and of bytes that are tested as one number. Assumes nothing.
use Prim.Native.Nat.{ℕ, ◌+◌, ◌*◌, ◌<◌}
use mathlib.Core.Path.{◌≡◌, refl}
use mathlib.Core.Bool.{Bool, true, false, ◌&&◌}
use native.Mathlib.Omega.{arith}
use borrow.Author.Tests.{eq-eqb, ne_eqb, eqb-true, eqb-false}
use lib.Dec.{eqb}

-- two bytes as one number: just those two
pub eqb_pair : (a x y z : ℕ) → a < 256 → x < 256 → eqb (a + 256 * y) (x + 256 * z) ≡ (eqb a x && eqb y z)
eqb_pair a x y z l m = go (eqb a x) refl (eqb y z) refl
  where
    go : (s : Bool) → eqb a x ≡ s → (t : Bool) → eqb y z ≡ t → eqb (a + 256 * y) (x + 256 * z) ≡ (s && t)
    go true p true q = let i = eqb-true a x p in let j = eqb-true y z q in eq-eqb (a + 256 * y) (x + 256 * z) (omega arith)
    go true p false q = ne_eqb (a + 256 * y) (x + 256 * z) (λ e. eqb-false y z q (omega (arith, e)))
    go false p t q = ne_eqb (a + 256 * y) (x + 256 * z) (λ e. eqb-false a x p (omega (arith, e)))

-- the tests in the definition's order
pub in_order : (p q r c o z g x s : Bool) → ((p && (q && (r && c))) && ((o && z) && (g && (x && s)))) ≡ (((((p && q) && r) && z) && g) && (c && ((o && x) && s)))
in_order false q r c o z g x s = refl
in_order true false r c o z g x s = refl
in_order true true false c o z g x s = refl
in_order true true true false o false g x s = refl
in_order true true true false o true false x s = refl
in_order true true true false o true true x s = refl
in_order true true true true false false g x s = refl
in_order true true true true false true false x s = refl
in_order true true true true false true true x s = refl
in_order true true true true true false g x s = refl
in_order true true true true true true false x s = refl
in_order true true true true true true true x s = refl
