use mathlib.Core.Path.{◌∙◌}
use Rattle.change.proofs.Unmarks.{unmark_at}
use Rattle.change.proofs.unmark_character.Goals as goal

pub returns-then-eq : goal.returns-then-eq
returns-then-eq c = c.mark_character.ensures ∙ rw (← c.open_character.ensures, ← c.eq.ensures, c.if-eq.true) at (unmark_at c.args.id c.args.s.now)

pub returns-else-eq : goal.returns-else-eq
returns-else-eq c = rw (← c.open_character.ensures, ← c.eq.ensures, c.if-eq.false) at (unmark_at c.args.id c.args.s.now)
