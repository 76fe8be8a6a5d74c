use Rattle.std.proofs.Common.{rules, refl}
use Rattle.pictures.specs.Dots.{bits, dots_in}
use Rattle.turning.specs.Mirror.{mirror, Mirrors}
use Rattle.turning.proofs.Table.{entry}
use Rattle.turning.specs.declared.mirror.TheConstants.{MIRRORED}
use Rattle.turning.proofs.mirror.mirrored.Goals as goal

pub returns : goal.returns
unfolding Mirrors mirror bits dots_in
returns c = rw c.from.ensures (entry MIRRORED c.args.byte (refl, tt {0}) (search rules))
