use Rattle.std.proofs.Common.{sym, ap, ◌∙◌}
use borrow.Author.Rules.{rules}
use Rattle.choice.proofs.Walk.{out_of_range, chooses, stores_keyed, one_pass, two_passes, better_best, picked, picked_none}
use Rattle.choice.specs.Scores.{score_answer}
use Rattle.choice.specs.declared.BestSoFar.{BestSoFar}
use Rattle.choice.proofs.choose_among_two.Goals as goal

pub scan-a-requires : goal.scan-a-requires
scan-a-requires c = (c.requires.0.1, sym c.in_range.ensures ∙ c.if-not-in_range.false)

pub scan-b-requires : goal.scan-b-requires
scan-b-requires c = (c.requires.1.1, sym c.in_range.ensures ∙ c.if-not-in_range.false)

pub returns-then-not-in_range-clause-chosen : goal.returns-then-not-in_range-clause-chosen
returns-then-not-in_range-clause-chosen c = out_of_range _ _ (sym c.in_range.ensures ∙ c.if-not-in_range.true)

pub returns-in_err-chosen-clause-chosen : goal.returns-in_err-chosen-clause-chosen
returns-in_err-chosen-clause-chosen c =
    let p = c.requires in
    let x = c.scan-a.ensures in
    let y = c.scan-b.ensures in
    let best = two_passes _ _ _ _ _ _ (one_pass _ _ _ p.0 _ _ x.0) (one_pass _ _ _ p.1 _ _ y.0) (ap (λ (z : BestSoFar). z.best) c.better-both.ensures ∙ better_best _ _) in
    picked_none _ _ (search rules) _ c.in_err-chosen.was _ (chooses _ _ (stores_keyed _ _) (sym c.in_range.ensures ∙ c.if-not-in_range.false) _ _ best _ c.answer.ensures)

pub returns-clause-chosen : goal.returns-clause-chosen
returns-clause-chosen c =
    let p = c.requires in
    let x = c.scan-a.ensures in
    let y = c.scan-b.ensures in
    let best = two_passes _ _ _ _ _ _ (one_pass _ _ _ p.0 _ _ x.0) (one_pass _ _ _ p.1 _ _ y.0) (ap (λ (z : BestSoFar). z.best) c.better-both.ensures ∙ better_best _ _) in
    chooses _ _ (stores_keyed _ _) (sym c.in_range.ensures ∙ c.if-not-in_range.false) _ _ best _ (sym (c.in_ok-chosen.was) ∙ c.answer.ensures)

pub returns-clause-stands : goal.returns-clause-stands
returns-clause-stands c =
    picked _ _ _ _ c.scan-a.ensures.1 c.scan-b.ensures.1 _
    (sym (c.in_ok-chosen.was) ∙ c.answer.ensures ∙ ap (λ (z : BestSoFar). score_answer z.best) c.better-both.ensures) _ (ap (λ (z : BestSoFar). z.kept) c.better-both.ensures)
