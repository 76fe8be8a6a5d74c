use Rattle.std.proofs.Common.{arith}
use Rattle.stream.proofs.Writes.{fill_room, fill_next, filled}
use Rattle.stream.proofs.write.write_records.Goals as goal

pub write_record-to-requires : goal.write_record-to-requires
write_record-to-requires c =
    let g = c.in-Some.ensures.steps in (g.1, fill_room _ _ _ _ _ _ _ _ _ c.requires.0.0 c.requires.0.1 c.loop-record.invariant.0 g.0)

pub loop-record-preserved : goal.loop-record-preserved
loop-record-preserved c =
    let e = c.write_record-to.ensures in
    (fill_next _ _ _ _ _ _ _ _ _ _ _ c.loop-record.invariant.0 c.in-Some.ensures.steps.0 e.0 e.1, omega (arith, c.write_record-to.auto.out, c.loop-record.invariant.1))

pub returns : goal.returns
returns c = filled _ _ _ _ _ _ _ c.loop-record.invariant.0 c.in-None.ensures.steps.0
