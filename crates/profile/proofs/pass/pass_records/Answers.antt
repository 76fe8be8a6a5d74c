use Rattle.profile.proofs.Characters.{pass_next, pass_ended}
use Rattle.profile.proofs.pass.pass_records.Goals as goal

pub loop-record-preserved : goal.loop-record-preserved
loop-record-preserved c = pass_next _ _ _ _ c.loop-record.invariant _ _ c.in-Some.ensures.steps.0 _ c.pass_record-p.ensures

pub returns : goal.returns
returns c = pass_ended _ _ _ _ c.loop-record.invariant c.in-None.ensures.steps.0
