use borrow.Author.Tests.{lt-ltb, le-ltb}
use Rattle.form.proofs.walk.look_up_character.Goals as goal

pub returns-then-p : goal.returns-then-p
returns-then-p c =
    let e = lt-ltb _ _ c.if-p.true in (rw e, rw e)

pub returns-else-p : goal.returns-else-p
returns-else-p c =
    let e = le-ltb _ _ c.if-p.false in (rw e, rw e)
