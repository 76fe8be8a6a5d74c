use mathlib.Core.Path.{sym, ap, ◌∙◌}
use Prim.Native.Nat.{◌+◌}
use Rattle.pictures.proofs.Tests.{failed, passed}
use Rattle.refusals.specs.Refusals.{numbered_result}
use Rattle.refusals.proofs.Numbers.{none_handed_on}
use Rattle.form.proofs.Ready.{Ready, ready, not_store_lem}
use Rattle.form.proofs.Seeks.{char_not, char_range, char_no_place, char_looked}
use Rattle.form.proofs.seek.seek_character.Goals as goal

pub returns-in_err-p : goal.returns-in_err-p
returns-in_err-p c =
    let m = none_handed_on _ _ _ _ (sym c.ok_or.ensures.value ∙ c.in_err-p.was) c.from_residual.ensures in
    m.1 ∙ sym (char_not _ _ _ (not_store_lem _ _ _ (sym c.inspect.ensures ∙ m.0)))

-- behind the inspection
pub returns-then-not-in_range : goal.returns-then-not-in_range
returns-then-not-in_range c =
    let at_found : Ready c.args.font (c.args.code + 1) c.args.s.now c.in_ok-p.p = ready _ _ _ (λ i. (c.type_inv.s i).fits) c.in_ok-p.p (sym c.inspect.ensures ∙ c.in_ok-p.ensures.ok_part) in
    sym (char_range _ _ _ _ at_found (failed c.in_range.ensures c.if-not-in_range.true-raw))

pub returns-in_err-p-2 : goal.returns-in_err-p-2
returns-in_err-p-2 c =
    let at_found : Ready c.args.font (c.args.code + 1) c.args.s.now c.in_ok-p.p = ready _ _ _ (λ i. (c.type_inv.s i).fits) c.in_ok-p.p (sym c.inspect.ensures ∙ c.in_ok-p.ensures.ok_part) in
    let m = none_handed_on _ _ _ _ (sym c.ok_or-2.ensures.value ∙ c.in_err-p-2.was) c.from_residual-in_err-p-2.ensures in
    m.1 ∙ sym (char_no_place _ _ _ _ at_found (passed c.in_range.ensures c.if-not-in_range.false-raw) (sym c.look_up_font.ensures.0 ∙ m.0))

pub returns : goal.returns
returns c =
    let at_found : Ready c.args.font (c.args.code + 1) c.args.s.now c.in_ok-p.p = ready _ _ _ (λ i. (c.type_inv.s i).fits) c.in_ok-p.p (sym c.inspect.ensures ∙ c.in_ok-p.ensures.ok_part) in
    ap numbered_result c.ok_or-3.ensures.value
    ∙ rw c.look_up_character.ensures.0 (char_looked _ _ _ _ at_found _ (passed c.in_range.ensures c.if-not-in_range.false-raw) (sym c.look_up_font.ensures.0 ∙ c.in_ok-p-2.ensures.ok_part))
