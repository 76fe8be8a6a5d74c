use Rattle.marlinfold.proofs.stream_salvaged.Goals as goal

pub returns-in-Ok : goal.returns-in-Ok
returns-in-Ok c = λ s list. rw c.in-Ok.is

pub returns-in-Err : goal.returns-in-Err
returns-in-Err c = λ s list. rw (c.from.ensures, c.in-Err.is)
