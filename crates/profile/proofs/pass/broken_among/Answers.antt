use Rattle.std.proofs.Common.{sym, ap, ◌∙◌}
use Rattle.profile.specs.Pass.{broken_among}
use Rattle.profile.proofs.pass.broken_among.Goals as goal

pub returns-in_err-kept : goal.returns-in_err-kept
unfolding broken_among
returns-in_err-kept c = λ rs b. rw c.from_residual.ensures (ap broken_among (sym c.in_err-kept.ensures.steps.0 ∙ c.between-records.ensures.1 rs b))

pub returns-in-Font : goal.returns-in-Font
unfolding broken_among
returns-in-Font c = λ rs b.
    let e = sym c.in_ok-kept.ensures.steps.0 ∙ c.between-records.ensures.1 rs b in c.broken_with.ensures ∙ ap broken_among (rw c.in-Font.is at e)

pub returns-in-Character : goal.returns-in-Character
unfolding broken_among
returns-in-Character c = λ rs b.
    let e = sym c.in_ok-kept.ensures.steps.0 ∙ c.between-records.ensures.1 rs b in ap broken_among (rw c.in-Character.is at e)
