use mathlib.Core.Path.{sym, ap}
use Rattle.sheet.specs.Sheet.{answer_of}
use Rattle.sheet.proofs.answer_of.Goals as goal

pub returns-in-Ok : goal.returns-in-Ok
unfolding answer_of
returns-in-Ok c = ap answer_of (sym c.in-Ok.is)

pub returns-in-Err : goal.returns-in-Err
unfolding answer_of
returns-in-Err c = rw c.from.ensures (ap answer_of (sym c.in-Err.is))
