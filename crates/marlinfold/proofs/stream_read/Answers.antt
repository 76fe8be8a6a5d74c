use Rattle.marlinfold.proofs.stream_read.Goals as goal

pub returns-in-Ok : goal.returns-in-Ok
returns-in-Ok c = rw c.in-Ok.is c.stream_ended.ensures

pub returns-in-Err : goal.returns-in-Err
returns-in-Err c = rw (c.from.ensures, c.in-Err.is)
