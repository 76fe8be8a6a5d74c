-- A list of checks, each a test and the number that refuses where it fails; the first that fails decides.
use Rattle.std.specs.Prelude.{ℕ, List, [], ◌∷◌, Bool, cond, Result, Ok, Err}

pub record Check : Type 0 where
  pub holds : Bool
  pub number : ℕ

infix 20 ◌else◌
abbrev pub ◌else◌ : Bool → ℕ → Check
t else n = record { holds = t; number = n }

-- taken, or refused with the number of the first check that fails
abbrev pub verdict : List Check → Result Unit ℕ
verdict [] = Ok tt
verdict (c ∷ cs) = cond c.holds (verdict cs) (Err c.number)
