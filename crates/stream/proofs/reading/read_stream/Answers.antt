use Rattle.std.proofs.Common.{ℕ, Result, sym, ap, ◌∙◌, arith}
use Rattle.refusals.proofs.Numbers.{none_handed_on}
use Rattle.store.proofs.Cursors.{opened_at, opened_not}
use Rattle.stream.specs.Reading.{Ended, reading_of}
use Rattle.stream.specs.Underway.{read_by}
use Rattle.stream.specs.declared.reading.Stopped.{Stopped}
use Rattle.stream.proofs.Readings.{read_not, read_store, first_by_fields, none_by_fields, run_by_fields, answered}
use Rattle.stream.proofs.reading.read_stream.Goals as goal

pub returns-in_err-cursor : goal.returns-in_err-cursor
returns-in_err-cursor c =
    let m = none_handed_on _ _ _ _ (sym c.ok_or.ensures.value ∙ c.in_err-cursor.was) c.from_residual.ensures in
    let not = opened_not _ _ m.0 c.open_store.ensures in
    let h = answered (sym (read_not c.args.stream.now _ not)) in
    record { value = ap (λ (x : Result Stopped ℕ). read_by x) m.1 ∙ h.0; s_after = h.1; refused = λ e. not }

pub read_from-requires : goal.read_from-requires
read_from-requires c =
    record {
      within = omega arith;
      font = omega arith;
      code = omega arith;
      counts = omega arith;
      points = opened_at _ _ _ c.in_ok-cursor.ensures.ok_part c.open_store.ensures;
    }

pub returns : goal.returns
returns c =
    let is = (opened_at _ _ _ c.in_ok-cursor.ensures.ok_part c.open_store.ensures).is in
    let last = rw (first_by_fields _ c.default.ensures, none_by_fields _ c.default-2.ensures, run_by_fields c.default-3.result (omega arith) (omega arith) (omega arith)) at c.read_from.ensures.s_after in
    let h = answered (ap (λ (e : Ended). reading_of e) last ∙ sym (read_store c.args.stream.now _ _ is)) in record { value = h.0; s_after = h.1; refused = λ e. cc }
