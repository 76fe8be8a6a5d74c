use Rattle.std.proofs.Common.{refl, sym, ◌∙◌}
use Rattle.choice.specs.Scores.{better_at}
use Rattle.choice.proofs.Pass.{tuple_before}
use Rattle.choice.proofs.better.Goals as goal

pub returns-then-lt : goal.returns-then-lt
unfolding better_at
returns-then-lt c = rw (sym (tuple_before c.args.s c.args.b.best) ∙ sym c.lt.ensures ∙ c.if-lt.true) refl

pub returns-else-lt : goal.returns-else-lt
unfolding better_at
returns-else-lt c = rw (sym (tuple_before c.args.s c.args.b.best) ∙ sym c.lt.ensures ∙ c.if-lt.false) refl
