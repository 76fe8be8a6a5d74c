-- Kept bytes as bytes, and the bounds of the numbers that are compared. Assumes nothing.
use Rattle.std.proofs.Common.{◌≡◌, ℕ, zero, suc, ◌+◌, ◌*◌, ◌%◌, ◌<◌, ◌≤◌, Bool, true, false, cond, eqb, List, [], ◌∷◌, sym, refl, ◌∙◌, mod-eq_of_lt, arith}
use Rattle.blocks.specs.Field.{byte}
use Rattle.blocks.specs.Header.{pitch_at, pitch_extended_at, pitch, pitch_extended, resolution, fine_resolution}
use Rattle.choice.specs.Candidates.{Candidate}
use Rattle.choice.specs.Fields.{as_bytes, header_of, quarter_dot_parts, in2400ths, compared_pitch}
use Rattle.choice.specs.Scores.{most_compared}

remainder : (k : List ℕ) (i : ℕ) → byte (as_bytes k) i ≡ byte k i % 256
unfolding as_bytes
remainder [] i = refl
remainder (b ∷ k) zero = refl
remainder (b ∷ k) (suc i) = remainder k i

pub byte_is : (k : List ℕ) (i : ℕ) → byte k i < 256 → byte k i ≡ byte (as_bytes k) i
byte_is k i h = sym (remainder k i ∙ mod-eq_of_lt h)

pub byte_bound : (k : List ℕ) (i : ℕ) → byte (as_bytes k) i < 256
byte_bound k i = rw (remainder k i) (omega arith)

in_2400ths_bound : (resolution n : ℕ) → n ≤ 16777215 → in2400ths resolution n ≤ most_compared
in_2400ths_bound resolution n h = go (eqb resolution fine_resolution)
  where
    go : (b : Bool) → cond b n (2 * n) ≤ most_compared
    go true = omega arith
    go false = omega arith

pub pitch_bound : (f : Candidate) → compared_pitch f ≤ most_compared
unfolding compared_pitch
pitch_bound f = in_2400ths_bound (resolution (header_of f)) (quarter_dot_parts * pitch (header_of f) + pitch_extended (header_of f)) (omega (arith, byte_bound f.kept pitch_at, byte_bound f.kept (pitch_at + 1), byte_bound f.kept pitch_extended_at))
