use borrow.Author.Tests.{eq-eqb, ne_eqb}
use Rattle.blocks.specs.Character.{kind_of}
use Rattle.blocks.proofs.character.kind_of.Goals as goal

pub returns-then-block-ne-FORMAT : goal.returns-then-block-ne-FORMAT
unfolding kind_of
returns-then-block-ne-FORMAT c = simp (ne_eqb _ _ c.if-block-ne-FORMAT.true)

pub returns-then-block-eq0 : goal.returns-then-block-eq0
unfolding kind_of
returns-then-block-eq0 c = simp (eq-eqb _ _ c.if-block-ne-FORMAT.false, eq-eqb _ _ c.if-block-eq0.true)

pub returns-else-block-eq0 : goal.returns-else-block-eq0
unfolding kind_of
returns-else-block-eq0 c = simp (eq-eqb _ _ c.if-block-ne-FORMAT.false, ne_eqb _ _ c.if-block-eq0.false)
