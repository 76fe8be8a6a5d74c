use Rattle.std.proofs.Common.{◌-◌, length, arith, ap}
use Rattle.blackdots.proofs.ByteOnes.{said_none, ones_parts}
use Rattle.blackdots.specs.Black.{ones_of}
use Rattle.blackdots.proofs.ones.ones_in_blocks.Goals as goal

pub loop-before-init : goal.loop-before-init
loop-before-init c = (omega arith, said_none c.args.bytes.now)

pub loop-before-preserved : goal.loop-before-preserved
loop-before-preserved c =
    let rest = c.loop-before.rest.now in
    let part = c.in-Some.ensures.cases in
    let known = c.loop-before.invariant in (
      omega (arith, known.0, part.2, c.add_block-t.ensures.1),
      omega (arith, known.1, c.add_block-t.ensures.0, ones_parts (length rest - 128) rest, ap ones_of part.0, ap ones_of part.1),
    )
