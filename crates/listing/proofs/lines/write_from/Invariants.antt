use Rattle.std.proofs.Common.{◌≡◌, ◌+◌, ◌≤◌, length}
use Rattle.form.specs.FontsLeft.{fonts_to_come}
use Rattle.listing.proofs.Listed.{Listed}
use Rattle.listing.proofs.lines.write_from.Given as goal

abbrev pub invariant-loop-font : goal.invariant-loop-font
invariant-loop-font l =
    (length l.out ≡ length l.initial.out) × (l.at + length l.s ≤ length l.out) × Listed l.s l.from l.initial.out l.at (fonts_to_come l.font-iterator) l.out l.to
