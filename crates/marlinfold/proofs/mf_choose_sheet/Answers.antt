use Rattle.std.proofs.Common.{◌≡◌, sym, ap, length, ◌≤◌, arith}
use Rattle.refusals.proofs.Numbers.{number_some}
use Rattle.sheet.specs.Sheet.{sheet_refusal}
use Rattle.sheet.proofs.Sheet.{room_for, by_refusal, again, ended, same_length, all_done}
use Rattle.marlinfold.specs.Calls.{of_sheet}
use Rattle.marlinfold.proofs.mf_choose_sheet.Goals as goal

pub returns-in-Err : goal.returns-in-Err
returns-in-Err c =
    let a = c.args in
    let k = c.in-Err.ensures.refusal in
    rw (c.from.ensures, k) (ap (of_sheet a.store.now) ((by_refusal a.store.now a.requests.now a.answers.now).1 (λ z. omega (arith, z, k, number_some c.in-Err.refusal))))

pub bounds-answers-i : goal.bounds-answers-i
bounds-answers-i c =
    let a = c.args in
    let fit = (room_for a.store.now (length a.requests.now) (length a.answers.now) (sym c.in-Ok.ensures.refusal)).1 in
    let same : length c.loop-i.answers ≡ length a.answers.now = same_length a.store.now c.loop-i.i a.requests.now a.answers.now c.loop-i.answers c.loop-i.invariant.1 in
    omega arith

pub loop-i-preserved : goal.loop-i-preserved
loop-i-preserved c =
    let a = c.args in
    (omega arith, again a.store.now c.loop-i.i a.requests.now a.answers.now c.loop-i.answers c.loop-i.invariant.1 c.answer_request.result _ c.loop-i-test.true c.answer_request.ensures)

pub returns : goal.returns
returns c =
    let a = c.args in
    let taken : sheet_refusal a.store.now (length a.requests.now) (length a.answers.now) ≡ 0 = sym c.in-Ok.ensures.refusal in
    let fit : length a.requests.now ≤ length a.answers.now = (room_for a.store.now (length a.requests.now) (length a.answers.now) taken).1 in
    ap (of_sheet a.store.now)
    (all_done a.store.now a.requests.now a.answers.now c.loop-i.answers taken fit
    (ended a.store.now c.loop-i.i a.requests.now a.answers.now c.loop-i.answers c.loop-i.invariant.1 c.loop-i.invariant.0 c.loop-i-test.false))
