-- What every function that writes leaves.
use Rattle.std.specs.Prelude.{ℕ, ◌+◌, ◌≤◌, ◌≡◌, List, length}
use Rattle.change.specs.Put.{with_bytes}

-- text was put over the bytes of s from a place on, all of it, and `out` is what came of them; `end` is the place after it
pub record Wrote (s : List ℕ) (at : ℕ) (text : List ℕ) (end : ℕ) (out : List ℕ) : Type 0 where
  pub place : end ≡ at + length text
  pub within : end ≤ length s
  pub bytes : out ≡ with_bytes s at text
