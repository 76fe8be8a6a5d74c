-- The cases of choosing hold, by computing. Assumes nothing.
use mathlib.Core.Path.{refl}
use Rattle.sheet.specs.Sheet.{answer_of, entries}
use Rattle.marlinfold.specs.Calls.{answer_numbers}
use Rattle.marlinfold.specs.Trials.{names_font, not_in_range}
use Rattle.marlinfold.specs.Occurrences.{on, given}
use Rattle.marlinfold.proofs.Computing.{computing}
use Rattle.cases.specs.ChoiceCases.{styled, proportional, pitched, high, slanted, weighing, wants, step_cases, range_cases, unused, sheet_answered, sheet_cases, full_sheets, StepsDecide, RangeDecides, SheetsAnswer}

pub steps_decide : StepsDecide
unfolding computing step_cases styled proportional pitched high slanted weighing wants names_font
steps_decide = (refl, (refl, (refl, (refl, (refl, (refl, (refl, (refl, (refl, (refl, (refl, (refl, (refl, (refl, (refl, (refl, (refl, (refl, (refl, (refl, (refl, (refl, (refl, tt)))))))))))))))))))))))

pub range_decides : RangeDecides
unfolding computing range_cases names_font not_in_range
range_decides = (refl, (refl, (refl, (refl, (refl, (refl, (refl, (refl, (refl, (refl, (refl, (refl, tt))))))))))))

pub sheets_answer : SheetsAnswer
unfolding computing sheet_cases full_sheets unused sheet_answered answer_of entries answer_numbers on given
sheets_answer = ((refl, tt), (refl, (refl, (refl, tt))))
