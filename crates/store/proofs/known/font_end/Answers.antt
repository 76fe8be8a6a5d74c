use borrow.Author.Tests.{ne_eqb}
use Rattle.store.proofs.known.font_end.Goals as goal

pub returns-then-answer-eq0 : goal.returns-then-answer-eq0
returns-then-answer-eq0 c = rw c.if-answer-eq0.true

pub returns : goal.returns
returns c = rw (ne_eqb _ 0 c.if-answer-eq0.false)
