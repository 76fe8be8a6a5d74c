-- What a list of checks that takes a block says of each. Assumes nothing.
use Prim.Native.Nat.{ℕ, ◌≤◌}
use mathlib.Core.Path.{◌≡◌, refl}
use mathlib.Core.Bool.{Bool, true, false}
use mathlib.Core.List.{List, [], ◌∷◌}
use borrow.Author.Tests.{leb-true}
use lib.Dec.{leb}
use Rattle.pictures.specs.Size.{within}
use Rattle.pictures.proofs.Tests.{both}
use Rattle.blocks.specs.Check.{Check, verdict}
use Rattle.std.specs.Prelude.{Ok}

pub within_low : (low high n : ℕ) → within low high n ≡ true → low ≤ n
within_low low high n e = leb-true low n (both (leb low n) (leb n high) e).0

-- every check of a list holds
abbrev pub All : List Check → Type 0
All [] = Unit
All (c ∷ cs) = (c.holds ≡ true) × All cs

taken_head : (c : Check) (cs : List Check) → verdict (c ∷ cs) ≡ Ok tt → c.holds ≡ true
taken_head c cs e = go c.holds refl
  where
    go : (t : Bool) → c.holds ≡ t → t ≡ true
    go true q = refl
    go false q = cc

-- where a list of checks takes, each of them holds
pub taken : (cs : List Check) → verdict cs ≡ Ok tt → All cs
taken [] e = tt
taken (c ∷ cs) e = (taken_head c cs e, taken cs (rw (taken_head c cs e) at e))
