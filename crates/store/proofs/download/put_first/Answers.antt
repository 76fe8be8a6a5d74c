use Rattle.refusals.proofs.Numbers.{err_by}
use Rattle.refusals.specs.Refusals.{numbered_result}
use mathlib.Core.Path.{sym, ◌∙◌, ap}
use Rattle.store.proofs.FontCalls.{answered_by}
use Rattle.store.proofs.Host.{Host, host, host_span}
use Rattle.store.proofs.FirstBlocks.{first_refused}
use native.Mathlib.Omega.{arith}
use Rattle.store.proofs.download.put_first.Goals as goal

pub overflow_add-at : goal.overflow_add-at
overflow_add-at c =
    let at_start : Host c.args.id.font c.args.id.code c.args.s.now c.args.p = host _ _ _ _ (λ i. (c.slice_known-1.given i).fits) c.requires.0 in
    let x = at_start in omega (arith, x.ready.end, x.ready.room, host_span _ _ _ _ x)

pub bounds-s-at : goal.bounds-s-at
bounds-s-at c =
    let at_start : Host c.args.id.font c.args.id.code c.args.s.now c.args.p = host _ _ _ _ (λ i. (c.slice_known-1.given i).fits) c.requires.0 in
    let x = at_start in omega (arith, x.ready.end, x.ready.room, host_span _ _ _ _ x)

pub receive_first-requires : goal.receive_first-requires
receive_first-requires c = record { arriving = (c.requires.0, c.requires.1, c.requires.2); p_value = sym c.read_first.ensures ∙ ap numbered_result c.in-Ok.is }

pub returns-in-Err : goal.returns-in-Err
returns-in-Err c =
    let at_start : Host c.args.id.font c.args.id.code c.args.s.now c.args.p = host _ _ _ _ (λ i. (c.slice_known-1.given i).fits) c.requires.0 in
    let x = at_start in record { value = (answered_by c.without_run.ensures (first_refused _ _ _ _ _ x _ (sym c.read_first.ensures ∙ err_by c.in-Err.is c.from.ensures))).0; s_after = (answered_by c.without_run.ensures (first_refused _ _ _ _ _ x _ (sym c.read_first.ensures ∙ err_by c.in-Err.is c.from.ensures))).1 }

pub returns-in-Ok : goal.returns-in-Ok
returns-in-Ok c = record { value = c.receive_first.ensures.value; s_after = c.receive_first.ensures.s_after }
