use Rattle.std.proofs.Common.{sym, ◌∙◌}
use Rattle.choice.proofs.Walk.{out_of_range, chooses, store_keyed, one_pass}
use Rattle.choice.proofs.choose_among.Goals as goal

pub scan-best-requires : goal.scan-best-requires
scan-best-requires c = (c.requires.1, sym c.in_range.ensures ∙ c.if-not-in_range.false)

pub returns-then-not-in_range : goal.returns-then-not-in_range
returns-then-not-in_range c = out_of_range _ _ (sym c.in_range.ensures ∙ c.if-not-in_range.true)

pub returns : goal.returns
returns c =
    let b = one_pass _ _ _ c.requires _ _ c.scan-best.ensures.0 in
    chooses _ _ (store_keyed _ _) (sym c.in_range.ensures ∙ c.if-not-in_range.false) _ _ b _ c.answer.ensures
