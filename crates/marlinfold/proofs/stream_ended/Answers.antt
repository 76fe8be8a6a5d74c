use Rattle.stream.specs.Reading.{end_answer}
use Rattle.marlinfold.proofs.stream_ended.Goals as goal

pub returns-in-None : goal.returns-in-None
unfolding end_answer
returns-in-None c = rw c.in-None.is

pub returns-in-Some : goal.returns-in-Some
unfolding end_answer
returns-in-Some c = rw (c.in-Some.is, c.from.ensures)
