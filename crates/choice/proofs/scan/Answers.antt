use Rattle.std.proofs.Common.{refl, ap, ◌∙◌}
use Rattle.choice.specs.Scores.{nowhere}
use Rattle.choice.specs.declared.Score.{Score}
use Rattle.choice.specs.declared.BestSoFar.{BestSoFar}
use Rattle.choice.proofs.Walk.{again, stops, weighed_best, stands_next}
use Rattle.choice.proofs.scan.Goals as goal

pub loop-f-init : goal.loop-f-init
loop-f-init c =
    let e = c.starting_at-f-items.ensures in rw c.into_iter-f-iterator.ensures.into_iter_gives (e.1, rw (c.nothing-b.ensures, e.2) refl, nowhere (ap (λ (x : Score). x.major) c.nothing-b.ensures))

pub returns : goal.returns
returns c = (stops _ _ _ _ _ c.loop-f.invariant.1 c.in-None.ensures.steps.0, c.loop-f.invariant.2)

pub weigh-b-requires : goal.weigh-b-requires
weigh-b-requires c = (c.in-Some.ensures.steps.2.whole, c.requires.1)

pub loop-f-preserved : goal.loop-f-preserved
loop-f-preserved c =
    let i = c.loop-f.invariant in
    let g = c.in-Some.ensures.steps in (
      g.1 ∙ i.0,
      again _ _ _ _ _ i.1 _ _ g.0 _ (ap (λ (x : BestSoFar). x.best) c.weigh-b.ensures ∙ weighed_best _ _ _ _),
      rw c.weigh-b.ensures (stands_next _ _ _ _ _ i.2 (rw i.0 at g.2.place)),
    )
