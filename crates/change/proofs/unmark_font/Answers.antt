use mathlib.Core.Path.{◌∙◌, sym}
use Rattle.change.proofs.Unmarks.{unmark_none, unmark_other, unmark_font}
use Rattle.change.proofs.unmark_font.Goals as goal

pub returns-then-id-font : goal.returns-then-id-font
returns-then-id-font c = c.mark_character.ensures ∙ unmark_font c.args.font c.args.s.now c.in-Some.id (sym c.in-Some.is ∙ c.open_character.ensures) c.if-id-font.true

pub returns-else-id-font : goal.returns-else-id-font
returns-else-id-font c = unmark_other c.args.font c.args.s.now c.in-Some.id (sym c.in-Some.is ∙ c.open_character.ensures) c.if-id-font.false

pub returns-in_default : goal.returns-in_default
returns-in_default c = unmark_none c.args.font c.args.s.now (sym c.in_default.is ∙ c.open_character.ensures)
