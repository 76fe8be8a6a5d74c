use Rattle.std.proofs.Common.{sym, ◌∙◌}
use Rattle.pictures.proofs.Packing.{pack_white}
use Rattle.pictures.proofs.dots.put_run.Goals as goal

pub returns-then-black : goal.returns-then-black
returns-then-black c = λ n ds e p. rw c.if-black.true (c.blacken.ensures n ds e p)

pub returns-else-black : goal.returns-else-black
returns-else-black c = λ n ds e p. rw c.if-black.false (p ∙ sym (pack_white n ds c.args.count))
