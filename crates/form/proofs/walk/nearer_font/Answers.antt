use borrow.Author.Tests.{le-leb, lt-leb}
use Rattle.form.specs.Walk.{nearer}
use Rattle.form.proofs.walk.nearer_font.Goals as goal

pub returns-then-number-font : goal.returns-then-number-font
unfolding nearer
returns-then-number-font c = rw (le-leb _ _ c.if-number-font.true)

pub returns-else-number-font : goal.returns-else-number-font
unfolding nearer
returns-else-number-font c = rw (lt-leb _ _ c.if-number-font.false)
