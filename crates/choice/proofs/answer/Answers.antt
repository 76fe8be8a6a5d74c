use Rattle.std.proofs.Common.{eq-eqb, ne_eqb}
use Rattle.choice.proofs.answer.Goals as goal

pub returns-then-best-eq-NO_MAJOR : goal.returns-then-best-eq-NO_MAJOR
returns-then-best-eq-NO_MAJOR c = simp (eq-eqb _ _ c.if-best-eq-NO_MAJOR.true)

pub returns : goal.returns
returns c = simp (ne_eqb _ _ c.if-best-eq-NO_MAJOR.false)
