-- Document 01, "The stream": a number as it is written. "No leading zeros."
use Rattle.std.specs.Prelude.{ℕ, zero, suc, ◌+◌, ◌/◌, ◌%◌, List, [], ◌∷◌, ◌++◌, cond, ltb}

-- a number as bytes '0'..'9', k digits at most
unfoldable pub decimal_in : ℕ → ℕ → List ℕ
decimal_in zero n = []
decimal_in (suc k) n = cond (ltb n 10) ((48 + n) ∷ []) (decimal_in k (n / 10) ++ ((48 + n % 10) ∷ []))

-- no number has more digits than one more than itself; the law `decimal_spells` says that its digits spell it
unfoldable pub decimal_of : ℕ → List ℕ
decimal_of n = decimal_in (suc n) n
