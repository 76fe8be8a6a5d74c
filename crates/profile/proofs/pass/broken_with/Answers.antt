use mathlib.Core.Path.{ap, ◌∙◌}
use borrow.Author.Tests.{eq-eqb, ne_eqb}
use Rattle.profile.specs.Pass.{found_broken, broken_with}
use Rattle.profile.proofs.pass.broken_with.Goals as goal

pub returns-then-font_type-ne0 : goal.returns-then-font_type-ne0
unfolding broken_with
returns-then-font_type-ne0 c = rw (← c.font_type.ensures, ne_eqb _ _ c.if-font_type-ne0.true)

pub returns-then-spacing-ne0 : goal.returns-then-spacing-ne0
unfolding broken_with
returns-then-spacing-ne0 c = rw (← c.font_type.ensures, ← c.spacing.ensures, eq-eqb _ _ c.if-font_type-ne0.false, ne_eqb _ _ c.if-spacing-ne0.true)

pub returns : goal.returns
unfolding broken_with
returns c = rw (← c.font_type.ensures, ← c.spacing.ensures, eq-eqb _ _ c.if-font_type-ne0.false, eq-eqb _ _ c.if-spacing-ne0.false) (c.found_broken.ensures ∙ ap found_broken c.pass_records.ensures)
