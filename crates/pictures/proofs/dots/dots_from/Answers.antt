use Rattle.std.proofs.Common.{◌-◌, arith, pow_pos, pow_mono}
use Rattle.pictures.proofs.Packing.{shifted}
use Rattle.pictures.proofs.dots.dots_from.Goals as goal

pub overflow_sub-result : goal.overflow_sub-result
overflow_sub-result c = rw (shifted c.args.place c.requires) (pow_pos (8 - c.args.place))

pub overflow_cast-result-2 : goal.overflow_cast-result-2
overflow_cast-result-2 c = rw (shifted c.args.place c.requires) (omega (arith, pow_mono {i = 8 - c.args.place} {j = 8} (omega arith)))

pub returns : goal.returns
returns c = rw (shifted c.args.place c.requires)
