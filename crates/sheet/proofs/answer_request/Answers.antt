use Rattle.sheet.proofs.Sheet.{on_store}
use Rattle.sheet.proofs.answer_request.Goals as goal

pub returns : goal.returns
returns c = on_store _ _ _ c.requires _ c.choose_among.ensures _ c.answer_of.ensures
