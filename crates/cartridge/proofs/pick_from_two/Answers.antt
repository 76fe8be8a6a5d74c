use Rattle.std.proofs.Common.{◌≡◌, Err, sym, ap, ◌∙◌}
use borrow.Author.Rules.{rules}
use Rattle.refusals.specs.declared.Refused.TheVariants.{NotStore}
use Rattle.refusals.proofs.Numbers.{none_handed_on}
use Rattle.choice.specs.Scores.{picked_choice}
use Rattle.cartridge.proofs.Cartridge.{begun, no_store, first_refused, second_refused, both_stores}
use Rattle.cartridge.proofs.pick_from_two.Goals as goal

pub returns-in_err-a-clause-chosen : goal.returns-in_err-a-clause-chosen
returns-in_err-a-clause-chosen c =
    let m = none_handed_on _ _ _ _ (sym c.ok_or.ensures.value ∙ c.in_err-a.was) c.from_residual.ensures in
    let e : c.from_residual.result ≡ Err NotStore = search rules in
    ap picked_choice e ∙ first_refused _ _ _ (no_store _ _ c.begin_records.ensures m.0)

pub returns-in_err-b-clause-chosen : goal.returns-in_err-b-clause-chosen
returns-in_err-b-clause-chosen c =
    let m = none_handed_on _ _ _ _ (sym c.ok_or-2.ensures.value ∙ c.in_err-b.was) c.from_residual-in_err-b.ensures in
    let e : c.from_residual-in_err-b.result ≡ Err NotStore = search rules in
    ap picked_choice e ∙ second_refused _ _ _ (begun _ _ c.begin_records.ensures _ c.in_ok-a.ensures.ok_part).0 (no_store _ _ c.begin_records-2.ensures m.0)

pub choose_among_two-requires : goal.choose_among_two-requires
choose_among_two-requires c = (begun _ _ c.begin_records.ensures _ c.in_ok-a.ensures.ok_part, begun _ _ c.begin_records-2.ensures _ c.in_ok-b.ensures.ok_part)

pub returns-clause-chosen : goal.returns-clause-chosen
returns-clause-chosen c =
    both_stores _ _ _ (begun _ _ c.begin_records.ensures _ c.in_ok-a.ensures.ok_part).0 (begun _ _ c.begin_records-2.ensures _ c.in_ok-b.ensures.ok_part).0 _ c.choose_among_two.ensures.chosen
