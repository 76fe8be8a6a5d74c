use mathlib.Core.Path.{◌∙◌}
use Rattle.pictures.proofs.Tests.{failed, passed}
use Rattle.form.specs.Model.{held_under}
use Rattle.form.proofs.walk.held_character.Goals as goal

pub returns-then-not-is_kept_first : goal.returns-then-not-is_kept_first
unfolding held_under
returns-then-not-is_kept_first c = rw (failed c.is_kept_first.ensures c.if-not-is_kept_first.true-raw)

pub returns : goal.returns
unfolding held_under
returns c = c.held_in.ensures ∙ rw (passed c.is_kept_first.ensures c.if-not-is_kept_first.false-raw, c.width.ensures, c.height.ensures, c.class.ensures)
