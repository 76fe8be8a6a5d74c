use Rattle.marlinfold.proofs.font_written.Goals as goal

pub returns-in-Ok : goal.returns-in-Ok
returns-in-Ok c = λ out. rw c.in-Ok.is

pub returns-in-Err : goal.returns-in-Err
returns-in-Err c = λ out. rw (c.from.ensures, c.in-Err.is)
