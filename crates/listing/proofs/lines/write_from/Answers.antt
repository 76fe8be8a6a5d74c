use Rattle.std.proofs.Common.{refl, ◌∙◌}
use native.Mathlib.Omega.{arith}
use Rattle.listing.proofs.Listed.{listed_none, listed_all, listed_more}
use Rattle.listing.proofs.lines.write_from.Goals as goal

pub loop-font-init : goal.loop-font-init
loop-font-init c = (refl, c.requires.0, listed_none _ _ _ _ _ c.requires.0 c.requires.1 (rw c.into_iter-font-iterator.ensures.into_iter_gives c.starting_at-font-items.ensures.2))

pub returns-clause-wrote : goal.returns-clause-wrote
returns-clause-wrote c = listed_all _ _ _ _ _ _ _ c.loop-font.invariant.2 c.in-None.ensures.steps.0

pub loop-font-preserved : goal.loop-font-preserved
loop-font-preserved c =
    let i = c.loop-font.invariant in
    let same = c.write_font-to.auto.out in (
      same ∙ i.0,
      omega (arith, same, i.1),
      listed_more _ _ _ _ _ _ _ i.2 _ _ c.in-Some.ensures.steps.0 _ _ c.write_font-to.ensures.upper_bound c.write_font-to.ensures.wrote,
    )
