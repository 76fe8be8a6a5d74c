use Rattle.std.proofs.Common.{arith}
use Rattle.stream.proofs.Writes.{next_small, count_next, counted}
use Rattle.stream.proofs.write.written_length.Goals as goal

pub record_length-n-requires : goal.record_length-n-requires
record_length-n-requires c =
    let g = c.in-Some.ensures.steps in (g.1, (next_small _ _ _ _ _ _ _ c.requires.0 c.requires.1 c.loop-record.invariant g.0).0)

pub overflow_add-n : goal.overflow_add-n
overflow_add-n c =
    let g = c.in-Some.ensures.steps in
    let w = (next_small _ _ _ _ _ _ _ c.requires.0 c.requires.1 c.loop-record.invariant g.0).1 in omega (arith, w, c.record_length-n.ensures.1)

pub loop-record-preserved : goal.loop-record-preserved
loop-record-preserved c = count_next _ _ _ _ _ _ _ _ c.loop-record.invariant c.in-Some.ensures.steps.0 c.record_length-n.ensures.0 c.record_length-n.ensures.1

pub returns : goal.returns
returns c =
    let i = c.loop-record.invariant in (counted _ _ _ _ _ i c.in-None.ensures.steps.0, omega (arith, (i c.requires.0 c.requires.1).1))
