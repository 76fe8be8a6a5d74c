use mathlib.Core.Path.{sym, ◌∙◌}
use Rattle.profile.specs.Pass.{next_wanted}
use Rattle.profile.proofs.pass.next_wanted.Goals as goal

pub returns-then-code-wanted : goal.returns-then-code-wanted
unfolding next_wanted
returns-then-code-wanted c = rw c.if-code-wanted.true

pub returns-then-is_whole : goal.returns-then-is_whole
unfolding next_wanted
returns-then-is_whole c = rw (c.if-code-wanted.false, sym c.is_whole.ensures ∙ c.if-is_whole.true)

pub returns-else-is_whole : goal.returns-else-is_whole
unfolding next_wanted
returns-else-is_whole c = rw (c.if-code-wanted.false, sym c.is_whole.ensures ∙ c.if-is_whole.false)
