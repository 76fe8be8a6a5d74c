-- For the code alone: the turns by their number of quarters.
use Rattle.std.specs.Prelude.{ℕ, ◌≡◌, false, Result, Ok, Err}
use Rattle.pictures.specs.Size.{within}
use Rattle.refusals.specs.declared.Refused.{Refused}
use Rattle.refusals.specs.declared.Refused.TheVariants.{OutOfRange}
use Rattle.turning.specs.declared.turn.Turn.{Turn}
use Rattle.turning.specs.declared.turn.Turn.TheVariants.{Quarter, Half, ThreeQuarters}

abbrev pub quarters : Turn → ℕ
quarters Quarter = 1
quarters Half = 2
quarters ThreeQuarters = 3

-- the turn by n quarters, or the refusal of n
abbrev pub NamesTurn : ℕ → Result Turn Refused → Type 0
NamesTurn n (Ok t) = quarters t ≡ n
NamesTurn n (Err r) = (within 1 3 n ≡ false) × (r ≡ OutOfRange)
