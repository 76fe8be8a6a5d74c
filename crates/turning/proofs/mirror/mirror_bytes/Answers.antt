use Rattle.std.proofs.Common.{◌-◌, length, arith, ◌∙◌}
use lib.ListN.{length-take, length-drop}
use Rattle.turning.proofs.MirrorLaws.{eight_next, run_last}
use Rattle.turning.proofs.mirror.mirror_bytes.Goals as goal

pub loop-before-preserved : goal.loop-before-preserved
loop-before-preserved c =
    let part = c.in-Some.ensures.cases in
    let known = c.loop-before.invariant in
    let next = eight_next c.args.bytes.now c.loop-before.rest.now c.in-Some.before.now c.in-Some.eight.now c.loop-before.out c.mirror_eight.new.out (length c.loop-before.out - length c.loop-before.rest.now)
    known.0 known.1 part.2 part.0 part.1 (omega arith) (omega arith) known.2 c.mirror_eight.ensures (c.mirror_eight.auto.out ∙ simp (length-take, length-drop) (omega (arith, part.2))) in
    (next.0, omega (arith, part.2), next.1)

pub returns : goal.returns
returns c =
    let known = c.loop-before.invariant in
    run_last c.args.bytes.now c.loop-before.rest.now c.loop-before.out c.mirror_run.new.out (length c.loop-before.out - length c.loop-before.rest.now)
    known.0 known.1 (omega arith) (omega arith) known.2 c.mirror_run.ensures
