use mathlib.Core.Path.{◌≡◌, refl, sym, ap, ◌∙◌}
use mathlib.Core.Bool.{true}
use lib.ListN.{length-take, length-drop}
use Rattle.std.specs.Prelude.{Some, Ok}
use Rattle.pictures.proofs.Tests.{failed, passed}
use Rattle.blocks.specs.Character.{continuation_bytes}
use Rattle.form.specs.Model.{mark_in}
use Rattle.store.specs.Download.{names}
use Rattle.store.proofs.FontCalls.{answered_by}
use Rattle.store.proofs.Host.{Host, host}
use Rattle.store.proofs.FirstBlocks.{block_short}
use Rattle.store.proofs.Continuations.{Opened, opened_there, joined_at, more_not, more_past, more_within}
use native.Mathlib.Omega.{arith}
use Rattle.store.proofs.download.put_more.Goals as goal

pub is_open-requires : goal.is_open-requires
is_open-requires c =
    let at_start : Host c.args.id.font c.args.id.code c.args.s.now c.args.p = host _ _ _ _ (λ i. (c.slice_known-1.given i).fits) c.requires.0 in
    let r = (at_start).ready in omega (arith, r.least, r.span, r.end, r.room)

pub returns-then-not-is_open : goal.returns-then-not-is_open
returns-then-not-is_open c =
    let at_start : Host c.args.id.font c.args.id.code c.args.s.now c.args.p = host _ _ _ _ (λ i. (c.slice_known-1.given i).fits) c.requires.0 in
    record { value = (answered_by c.without_run.ensures (more_not _ _ _ _ _ (at_start) (failed c.is_open.ensures c.if-not-is_open.true-raw))).0; s_after = (answered_by c.without_run.ensures (more_not _ _ _ _ _ (at_start) (failed c.is_open.ensures c.if-not-is_open.true-raw))).1 }

pub overflow_add-h : goal.overflow_add-h
overflow_add-h c =
    let at_start : Host c.args.id.font c.args.id.code c.args.s.now c.args.p = host _ _ _ _ (λ i. (c.slice_known-1.given i).fits) c.requires.0 in
    let r = (at_start).ready in omega (arith, r.one, r.last, r.room)

pub overflow_add-d : goal.overflow_add-d
overflow_add-d c =
    let at_start : Host c.args.id.font c.args.id.code c.args.s.now c.args.p = host _ _ _ _ (λ i. (c.slice_known-1.given i).fits) c.requires.0 in
    let r = (at_start).ready in omega (arith, r.one, r.last, r.room)

-- behind the test of the open mark
pub slice_bounds-judge_more-end : goal.slice_bounds-judge_more-end
slice_bounds-judge_more-end c =
    let at_start : Host c.args.id.font c.args.id.code c.args.s.now c.args.p = host _ _ _ _ (λ i. (c.slice_known-1.given i).fits) c.requires.0 in
    let named : names c.args.id.font c.args.id.code (mark_in c.args.s.now) ≡ true = passed c.is_open.ensures c.if-not-is_open.false-raw in
    let at_open : Opened c.args.id.font c.args.id.code c.args.s.now c.args.p (at_start) = opened_there _ _ _ _ (at_start) (named) in
    let r = (at_start).ready in let o = (at_open).span in omega (arith, r.last, r.room, o)

-- behind the test of the open mark
pub slice_bounds-judge_more-count-2 : goal.slice_bounds-judge_more-count-2
slice_bounds-judge_more-count-2 c =
    let at_start : Host c.args.id.font c.args.id.code c.args.s.now c.args.p = host _ _ _ _ (λ i. (c.slice_known-1.given i).fits) c.requires.0 in
    let named : names c.args.id.font c.args.id.code (mark_in c.args.s.now) ≡ true = passed c.is_open.ensures c.if-not-is_open.false-raw in
    let at_open : Opened c.args.id.font c.args.id.code c.args.s.now c.args.p (at_start) = opened_there _ _ _ _ (at_start) (named) in
    let o = (at_open).span in omega (arith, o)

-- behind the test of the open mark
pub slice_bounds-judge_more-start-2 : goal.slice_bounds-judge_more-start-2
slice_bounds-judge_more-start-2 c =
    let at_start : Host c.args.id.font c.args.id.code c.args.s.now c.args.p = host _ _ _ _ (λ i. (c.slice_known-1.given i).fits) c.requires.0 in
    let named : names c.args.id.font c.args.id.code (mark_in c.args.s.now) ≡ true = passed c.is_open.ensures c.if-not-is_open.false-raw in
    let at_open : Opened c.args.id.font c.args.id.code c.args.s.now c.args.p (at_start) = opened_there _ _ _ _ (at_start) (named) in
    let o = (at_open).span in omega (arith, o)

pub slice_bounds-judge_more-end-2 : goal.slice_bounds-judge_more-end-2
slice_bounds-judge_more-end-2 c =
    let at_start : Host c.args.id.font c.args.id.code c.args.s.now c.args.p = host _ _ _ _ (λ i. (c.slice_known-1.given i).fits) c.requires.0 in
    let r = (at_start).ready in omega (arith, r.last, r.room)

-- behind the test of the open mark
pub judge_more-requires : goal.judge_more-requires
judge_more-requires c =
    let at_start : Host c.args.id.font c.args.id.code c.args.s.now c.args.p = host _ _ _ _ (λ i. (c.slice_known-1.given i).fits) c.requires.0 in
    let named : names c.args.id.font c.args.id.code (mark_in c.args.s.now) ≡ true = passed c.is_open.ensures c.if-not-is_open.false-raw in
    let at_open : Opened c.args.id.font c.args.id.code c.args.s.now c.args.p (at_start) = opened_there _ _ _ _ (at_start) (named) in
    let r = (at_start).ready in let o = (at_open).span in (simp (length-take, length-drop) (omega (arith, r.last, r.room, o)), (block_short _ c.requires.1).0)

-- behind the test of the open mark
pub overflow_sub-to : goal.overflow_sub-to
overflow_sub-to c =
    let at_start : Host c.args.id.font c.args.id.code c.args.s.now c.args.p = host _ _ _ _ (λ i. (c.slice_known-1.given i).fits) c.requires.0 in
    let named : names c.args.id.font c.args.id.code (mark_in c.args.s.now) ≡ true = passed c.is_open.ensures c.if-not-is_open.false-raw in
    let at_open : Opened c.args.id.font c.args.id.code c.args.s.now c.args.p (at_start) = opened_there _ _ _ _ (at_start) (named) in
    let o = (at_open).span in omega (arith, o)

-- behind the test of the open mark
pub overflow_sub-k : goal.overflow_sub-k
overflow_sub-k c =
    let at_start : Host c.args.id.font c.args.id.code c.args.s.now c.args.p = host _ _ _ _ (λ i. (c.slice_known-1.given i).fits) c.requires.0 in
    let named : names c.args.id.font c.args.id.code (mark_in c.args.s.now) ≡ true = passed c.is_open.ensures c.if-not-is_open.false-raw in
    let at_open : Opened c.args.id.font c.args.id.code c.args.s.now c.args.p (at_start) = opened_there _ _ _ _ (at_start) (named) in
    let o = (at_open).span in
    let q = (more_within _ _ c.args.block.now _ c.args.p (at_start) (named) _ (sym (joined_at _ _ c.args.block.now _ c.args.p (at_start)) ∙ sym c.judge_more.ensures ∙ c.in-Ok-Some.is ∙ ap Ok c.in-Ok-Some.field-0-is)).0 in omega (arith, q, o)

-- behind the test of the open mark
pub receive_more-requires : goal.receive_more-requires
receive_more-requires c =
    let at_start : Host c.args.id.font c.args.id.code c.args.s.now c.args.p = host _ _ _ _ (λ i. (c.slice_known-1.given i).fits) c.requires.0 in
    let named : names c.args.id.font c.args.id.code (mark_in c.args.s.now) ≡ true = passed c.is_open.ensures c.if-not-is_open.false-raw in
    let at_open : Opened c.args.id.font c.args.id.code c.args.s.now c.args.p (at_start) = opened_there _ _ _ _ (at_start) (named) in
    let o = (at_open).span in
    let b = c.args.block.now in
    let e = sym (joined_at _ _ b _ c.args.p (at_start)) ∙ sym c.judge_more.ensures ∙ c.in-Ok-Some.is ∙ ap Ok c.in-Ok-Some.field-0-is in
    let q = more_within _ _ b _ c.args.p (at_start) (named) _ e in
    let l = (block_short _ c.requires.1).0 in record { n_in_bounds = (omega (arith, q, o, l, length-drop continuation_bytes b), c.requires.0, named); continued = e ∙ ap (λ k. Ok (Some k)) (omega (arith, q, o)) }

pub overflow_sub-block : goal.overflow_sub-block
overflow_sub-block c = (block_short _ c.requires.1).0

-- behind the test of the open mark
pub receive_more-requires-in-Ok-None : goal.receive_more-requires-in-Ok-None
receive_more-requires-in-Ok-None c =
    let named : names c.args.id.font c.args.id.code (mark_in c.args.s.now) ≡ true = passed c.is_open.ensures c.if-not-is_open.false-raw in
    let at_start : Host c.args.id.font c.args.id.code c.args.s.now c.args.p = host _ _ _ _ (λ i. (c.slice_known-1.given i).fits) c.requires.0 in
    let b = c.args.block.now in
    let l = (block_short _ c.requires.1).0 in record { n_in_bounds = (omega (arith, l), c.requires.0, named); continued = (sym (joined_at _ _ b _ c.args.p (at_start)) ∙ sym c.judge_more.ensures ∙ c.in-Ok-None.is ∙ ap Ok c.in-Ok-None.field-0-is, refl) }

-- behind the test of the open mark
pub returns-in-Err : goal.returns-in-Err
returns-in-Err c =
    let at_start : Host c.args.id.font c.args.id.code c.args.s.now c.args.p = host _ _ _ _ (λ i. (c.slice_known-1.given i).fits) c.requires.0 in
    let named : names c.args.id.font c.args.id.code (mark_in c.args.s.now) ≡ true = passed c.is_open.ensures c.if-not-is_open.false-raw in
    let x = at_start in record { value = (answered_by c.past_width.ensures (more_past _ _ c.args.block.now _ c.args.p x (named) _ _ _ (sym (joined_at _ _ c.args.block.now _ c.args.p x) ∙ sym c.judge_more.ensures ∙ c.in-Err.is))).0; s_after = (answered_by c.past_width.ensures (more_past _ _ c.args.block.now _ c.args.p x (named) _ _ _ (sym (joined_at _ _ c.args.block.now _ c.args.p x) ∙ sym c.judge_more.ensures ∙ c.in-Err.is))).1 }

pub returns-in-Ok-Some : goal.returns-in-Ok-Some
returns-in-Ok-Some c = record { value = c.receive_more.ensures.value; s_after = c.receive_more.ensures.s_after }

pub returns-in-Ok-None : goal.returns-in-Ok-None
returns-in-Ok-None c = record { value = c.receive_more-in-Ok-None.ensures.value; s_after = c.receive_more-in-Ok-None.ensures.s_after }
