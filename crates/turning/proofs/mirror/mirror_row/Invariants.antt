use Rattle.std.proofs.Common.{◌≡◌, ℕ, ◌<◌, get_or}
use Rattle.turning.specs.MirrorBytes.{mirrored_at, half_byte}
use Rattle.turning.proofs.mirror.mirror_row.Given as goal

abbrev pub invariant-loop-q : goal.invariant-loop-q
invariant-loop-q l = (l.left ≡ mirrored_at l.row l.q) × ((q : ℕ) → q < l.q → get_or l.out q 0 ≡ half_byte l.row l.padding q)
