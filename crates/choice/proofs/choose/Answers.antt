use Rattle.std.proofs.Common.{◌≡◌, Err, sym, ◌∙◌}
use borrow.Author.Rules.{rules}
use Rattle.refusals.specs.declared.Refused.TheVariants.{NotStore}
use Rattle.refusals.proofs.Numbers.{none_handed_on}
use Rattle.choice.proofs.Walk.{no_store, begun, on_store, out_of_range, chooses, store_keyed, one_pass}
use Rattle.choice.proofs.choose.Goals as goal

pub returns-in_err-from : goal.returns-in_err-from
returns-in_err-from c =
    let m = none_handed_on _ _ _ _ (sym c.ok_or.ensures.value ∙ c.in_err-from.was) c.from_residual.ensures in
    let e : c.from_residual.result ≡ Err NotStore = search rules in
    e ∙ no_store _ _ _ c.begin_records.ensures m.0

pub scan-best-requires : goal.scan-best-requires
scan-best-requires c = ((begun _ c.args.r _ c.begin_records.ensures _ c.in_ok-from.ensures.ok_part).1, sym c.in_range.ensures ∙ c.if-not-in_range.false)

pub returns-then-not-in_range : goal.returns-then-not-in_range
returns-then-not-in_range c = on_store _ _ _ c.begin_records.ensures _ c.in_ok-from.ensures.ok_part _ (out_of_range _ _ (sym c.in_range.ensures ∙ c.if-not-in_range.true))

pub returns : goal.returns
returns c =
    let g = begun _ c.args.r _ c.begin_records.ensures _ c.in_ok-from.ensures.ok_part in
    let p = one_pass _ _ _ g _ _ c.scan-best.ensures.0 in
    on_store _ _ _ c.begin_records.ensures _ c.in_ok-from.ensures.ok_part _
    (chooses _ _ (store_keyed _ _) (sym c.in_range.ensures ∙ c.if-not-in_range.false) _ _ p _ c.answer.ensures)
