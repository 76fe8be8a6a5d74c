use Rattle.pictures.specs.Runs.{scan_from}
use Rattle.pictures.proofs.runs.Reader.answer.Goals as goal

pub returns-then-is_finished : goal.returns-then-is_finished
unfolding scan_from
returns-then-is_finished c = λ w h. rw (← c.is_finished.ensures, c.if-is_finished.true)

pub returns-else-is_finished : goal.returns-else-is_finished
unfolding scan_from
returns-else-is_finished c = λ w h. rw (← c.is_finished.ensures, c.if-is_finished.false)
