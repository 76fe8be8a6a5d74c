use Rattle.std.proofs.Common.{◌≡◌, ◌+◌, ◌-◌, ◌%◌, arith, pow_pos}
use Rattle.pictures.proofs.dots.kept_bits.Goals as goal

pub returns : goal.returns
returns c = let e : c.from.result ≡ c.args.width = c.from.ensures in rw (← e) (omega (arith, c.dots_from.ensures, pow_pos (8 - ((c.from.result + 7) % 8 + 1))))
