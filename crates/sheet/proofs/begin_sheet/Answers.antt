use native.Mathlib.Omega.{arith}
use Rattle.std.proofs.Common.{◌≡◌, Err, sym, ap, ◌∙◌}
use borrow.Author.Rules.{rules}
use Rattle.refusals.specs.Refusals.{number_or_0}
use Rattle.refusals.specs.declared.Refused.TheVariants.{NotStore}
use Rattle.refusals.proofs.Numbers.{none_handed_on}
use Rattle.sheet.proofs.Sheet.{no_store, begun, too_many, no_room, taken}
use Rattle.sheet.proofs.begin_sheet.Goals as goal

pub returns-in_err-from-clause-refusal : goal.returns-in_err-from-clause-refusal
returns-in_err-from-clause-refusal c =
    let m = none_handed_on _ _ _ _ (sym c.ok_or.ensures.value ∙ c.in_err-from.was) c.from_residual.ensures in
    let e : c.from_residual.result ≡ Err NotStore = search rules in
    ap number_or_0 e ∙ no_store _ _ c.begin_records.ensures _ _ m.0

pub returns-then-requests-gt-MOST_REQUESTS-clause-refusal : goal.returns-then-requests-gt-MOST_REQUESTS-clause-refusal
returns-then-requests-gt-MOST_REQUESTS-clause-refusal c = too_many _ _ c.begin_records.ensures _ _ _ c.in_ok-from.ensures.ok_part (omega (arith, c.if-requests-gt-MOST_REQUESTS.true))

pub returns-then-room-requests-clause-refusal : goal.returns-then-room-requests-clause-refusal
returns-then-room-requests-clause-refusal c = no_room _ _ c.begin_records.ensures _ _ _ c.in_ok-from.ensures.ok_part (omega (arith, c.if-requests-gt-MOST_REQUESTS.false)) c.if-room-requests.true

pub returns-clause-refusal : goal.returns-clause-refusal
returns-clause-refusal c = taken _ _ c.begin_records.ensures _ _ _ c.in_ok-from.ensures.ok_part (omega (arith, c.if-requests-gt-MOST_REQUESTS.false)) c.if-room-requests.false

pub returns-clause-begun : goal.returns-clause-begun
returns-clause-begun c = begun _ _ c.begin_records.ensures 0 0 _ c.in_ok-from.ensures.ok_part
