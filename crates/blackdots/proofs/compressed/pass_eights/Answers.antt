use Rattle.std.proofs.Common.{◌+◌, arith}
use Rattle.blackdots.proofs.RunDots.{counting_starts, eight_next}
use Rattle.blackdots.proofs.compressed.pass_eights.Goals as goal

pub loop-eight-init : goal.loop-eight-init
loop-eight-init c = rw c.from-left.ensures (counting_starts c.args.width c.args.runs.now)

pub loop-eight-preserved : goal.loop-eight-preserved
loop-eight-preserved c =
    let part = c.in-Some.ensures.cases in
    eight_next c.args.width c.args.runs.now c.loop-eight.rest.now c.in-Some.eight.now c.in-Some.after.now c.loop-eight.left c.loop-eight.black (c.white_of_eight.result + c.black_of_eight-dark.result) c.black_of_eight-dark.result
    c.loop-eight.invariant part.0 part.1 part.2 (omega (arith, c.white_of_eight.ensures.0, c.black_of_eight-dark.ensures.0)) c.black_of_eight-dark.ensures.0 c.if-left-sum.false
