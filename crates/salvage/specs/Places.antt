-- For the code alone: the bytes that a restart begins with, tested at many places at once.
use Rattle.std.specs.Prelude.{ℕ, zero, suc, ◌+◌, List, Bool, true, not, ◌&&◌, eqb, get_or}
use Rattle.stream.specs.Command.{is_digit}

-- ESC, *, c and a digit
abbrev pub may_start : ℕ → ℕ → ℕ → ℕ → Bool
may_start a b c d = (eqb a 27 && eqb b 42) && (eqb c 99 && is_digit d)

abbrev pub may_start_at : List ℕ → ℕ → Bool
may_start_at s i = may_start (get_or s i 0) (get_or s (i + 1) 0) (get_or s (i + 2) 0) (get_or s (i + 3) 0)

-- they stand at none of the first k places
unfoldable pub none_start : ℕ → List ℕ → Bool
none_start zero s = true
none_start (suc k) s = none_start k s && not (may_start_at s k)
