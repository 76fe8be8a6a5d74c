use mathlib.Core.Path.{ap}
use Rattle.sheet.specs.Sheet.{answer_of}
use Rattle.sheet.specs.declared.SheetAnswer.{SheetAnswer}
use Rattle.marlinfold.proofs.font_chosen.Goals as goal

pub returns : goal.returns
unfolding answer_of
returns c =
    let e = c.answer_of-e.ensures in
    (ap (λ (x : SheetAnswer). x.refusal) e, ap (λ (x : SheetAnswer). x.font) e)
