use Rattle.std.proofs.Common.{subst}
use Rattle.collection.specs.ByRecord.{Roomy}
use Rattle.collection.proofs.Passing.{going_starts, going_next, going_ends}
use Rattle.collection.proofs.adding.add_records.Goals as goal

pub loop-record-init : goal.loop-record-init
loop-record-init c = going_starts _ _ _ (rw c.into_iter-record-iterator.ensures.into_iter_gives c.starting_at-record-items.ensures.1) c.requires.2

pub add_record-requires : goal.add_record-requires
add_record-requires c = let g = c.in-Some.ensures.steps in (g.1, (_, subst (Roomy _) g.0 c.loop-record.invariant.roomy))

pub loop-record-preserved : goal.loop-record-preserved
loop-record-preserved c = going_next _ _ _ _ _ _ _ c.loop-record.invariant c.in-Some.ensures.steps.0 c.add_record.ensures

pub returns : goal.returns
returns c = going_ends _ _ _ _ c.loop-record.invariant c.in-None.ensures.steps.0
