-- What tests tell. Assumes nothing.
use Rattle.std.proofs.Common.{◌≡◌, Bool, true, false, not, ◌&&◌, Result, Ok, Err, sym, refl, ap, ◌∙◌}
use Rattle.std.specs.Result.{IsErrAnd}
use borrow.Author.Tests.{not-true, not-false}

-- what `if !test(..)` tells of the test's definition
pub failed : {r t : Bool} → r ≡ t → not r ≡ true → t ≡ false
failed {r} e h = sym e ∙ not-true r h

pub passed : {r t : Bool} → r ≡ t → not r ≡ false → t ≡ true
passed {r} e h = sym e ∙ not-false r h

-- two tests that hold together
pub both : (s t : Bool) → (s && t) ≡ true → (s ≡ true) × (t ≡ true)
both true t e = (refl, e)
both false t e = let z : true ≡ false = sym e in (sym z, cc)

-- what a `?` returns of an error
pub handed_on : {T E : Type 0} (r : Result T E) (e : E) → IsErrAnd r (λ y. y ≡ e) → r ≡ Err e
handed_on (Ok x) e h = absurd h
handed_on (Err y) e h = ap Err h
