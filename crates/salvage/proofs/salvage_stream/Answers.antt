use Rattle.std.proofs.Common.{ℕ, Result}
use Rattle.refusals.proofs.Numbers.{none_handed_on}
use Rattle.salvage.proofs.Onward.{salvage_not, salvage_store}
use Rattle.salvage.specs.declared.SalvageCounts.{SalvageCounts}
use Rattle.salvage.specs.Onward.{both_by, started_at}
use Rattle.store.specs.declared.download.BadRun.{BadRun}
use Rattle.stream.specs.Reading.{none_counted}
use Rattle.stream.proofs.Readings.{none_by_fields, run_by_fields}
use Rattle.stream.specs.declared.reading.CommandCounts.{CommandCounts}
use Rattle.stream.specs.declared.reading.State.{State}
use Rattle.stream.specs.Underway.{Underway}
use Rattle.store.proofs.Cursors.{opened_at, opened_not}
use lib.ListN.{length}
use mathlib.Core.Path.{sym, ap, ◌∙◌, subst}
use native.Mathlib.Omega.{arith}
use Rattle.salvage.proofs.salvage_stream.Goals as goal

pub returns-in_err-cursor : goal.returns-in_err-cursor
returns-in_err-cursor c =
    let m = none_handed_on _ _ _ _ (sym c.ok_or.ensures.value ∙ c.in_err-cursor.was) c.from_residual.ensures in
    ap (λ (z : Result SalvageCounts ℕ). both_by z c.args.s.now c.args.list.now) m.1 ∙ sym (salvage_not c.args.stream.now _ _ (opened_not _ _ m.0 c.open_store.ensures))

pub salvage_from-requires : goal.salvage_from-requires
salvage_from-requires c =
    let e = (c.start_at-first.ensures ∙ ap (λ (k : CommandCounts). started_at 0 k c.default-2.result c.in_ok-cursor.cursor) (none_by_fields _ c.default.ensures)
    ∙ ap (λ (r : BadRun). started_at 0 none_counted r c.in_ok-cursor.cursor) (run_by_fields c.default-2.result (omega arith) (omega arith) (omega arith))) in
    let p = opened_at _ _ _ c.in_ok-cursor.ensures.ok_part c.open_store.ensures in (
      subst (λ (z : State). Underway (length c.args.stream.now) c.args.s.now z) (sym e) (record { within = omega arith; font = omega arith; code = omega arith; counts = omega arith; points = p }),
      ap (λ (z : State). z.target) e,
    )

pub returns : goal.returns
returns c =
    let e = (c.start_at-first.ensures ∙ ap (λ (k : CommandCounts). started_at 0 k c.default-2.result c.in_ok-cursor.cursor) (none_by_fields _ c.default.ensures)
    ∙ ap (λ (r : BadRun). started_at 0 none_counted r c.in_ok-cursor.cursor) (run_by_fields c.default-2.result (omega arith) (omega arith) (omega arith))) in
    let p = opened_at _ _ _ c.in_ok-cursor.ensures.ok_part c.open_store.ensures in
    c.salvage_from.ensures
    ∙ salvage_store c.args.stream.now _ _ _ _ p.is (ap (λ (z : State). z.at) e) (ap (λ (z : State). z.counts) e) (ap (λ (z : State). z.bad) e)
