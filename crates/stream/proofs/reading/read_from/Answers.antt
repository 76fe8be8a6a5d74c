use mathlib.Core.Path.{refl, ◌∙◌}
use native.Mathlib.Omega.{arith}
use Rattle.stream.proofs.Readings.{went_on, went_last}
use Rattle.stream.proofs.reading.read_from.Goals as goal

pub loop-after-init : goal.loop-after-init
loop-after-init c = (c.requires, refl, refl)

pub obey-requires : goal.obey-requires
obey-requires c = c.loop-after.invariant.0

pub loop-after-smaller : goal.loop-after-smaller
loop-after-smaller c =
    let h = went_on c.args.stream.now _ _ c.loop-after.x _ (c.obey.ensures.result_after, c.obey.ensures.leads) _ c.in-Continue.is in
    omega (arith, h.1.0, h.1.1.within)

pub loop-after-preserved : goal.loop-after-preserved
loop-after-preserved c =
    let h = went_on c.args.stream.now _ _ c.loop-after.x _ (c.obey.ensures.result_after, c.obey.ensures.leads) _ c.in-Continue.is in
    (h.1.1, h.0 ∙ c.loop-after.invariant.1, c.obey.auto.s ∙ c.loop-after.invariant.2)

pub shape_of-s-in-Break : goal.shape_of-s-in-Break
shape_of-s-in-Break c = c.obey.auto.s ∙ c.loop-after.invariant.2

pub returns-in-Break : goal.returns-in-Break
returns-in-Break c =
    let h = went_last c.args.stream.now _ _ c.loop-after.x _ (c.obey.ensures.result_after, c.obey.ensures.leads) _ c.in-Break.is in record { s_after = h.0 ∙ c.loop-after.invariant.1; ends_within = h.1 }
