use mathlib.Core.Path.{sym, ◌∙◌}
use native.Mathlib.Omega.{arith}
use Rattle.profile.proofs.Characters.{right_from_zero, right_from_below}
use Rattle.profile.proofs.rules.right_inside.Goals as goal

pub returns-then-is_negative : goal.returns-then-is_negative
returns-then-is_negative c = rw (c.from.ensures, c.from-2.ensures, c.from-cell.ensures) (right_from_below _ _ _ _ _ c.left_offset-left.ensures c.width.ensures c.cell_width.ensures (omega arith) (sym c.is_negative.ensures ∙ c.if-is_negative.true))

pub returns-else-is_negative : goal.returns-else-is_negative
returns-else-is_negative c = rw (c.from.ensures, c.from-2.ensures, c.from-cell.ensures) (right_from_zero _ _ _ _ _ c.left_offset-left.ensures c.width.ensures c.cell_width.ensures (omega arith) (sym c.is_negative.ensures ∙ c.if-is_negative.false))
