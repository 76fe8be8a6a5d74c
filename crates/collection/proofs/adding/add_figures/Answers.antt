use Rattle.collection.proofs.Passing.{answered, begun_not, begun_at, not_store_lem, not_taken, added, after_room, after_stores, Ready, ready}
use Rattle.collection.proofs.Passing.{answered, begun_not, begun_at, not_store_lem, not_taken, added, after_room, after_stores}
use Rattle.pictures.proofs.Tests.{passed, failed}
use native.Mathlib.Omega.{arith}
use Rattle.collection.proofs.adding.add_figures.Goals as goal

pub returns-in_default : goal.returns-in_default
returns-in_default c = record { value = (answered _ _ _ (not_store_lem _ _ (begun_not _ _ c.begin_records.ensures c.in_default.is))).0; figures_after = (answered _ _ _ (not_store_lem _ _ (begun_not _ _ c.begin_records.ensures c.in_default.is))).1 }

pub returns-then-not-figures_taken : goal.returns-then-not-figures_taken
returns-then-not-figures_taken c = record { value = (answered _ _ _ (not_taken _ _ (begun_at _ _ c.begin_records.ensures _ c.in-Some.is).0 (failed c.figures_taken.ensures c.if-not-figures_taken.true-raw))).0; figures_after = (answered _ _ _ (not_taken _ _ (begun_at _ _ c.begin_records.ensures _ c.in-Some.is).0 (failed c.figures_taken.ensures c.if-not-figures_taken.true-raw))).1 }

pub add_records-requires : goal.add_records-requires
add_records-requires c =
    let at_ready : Ready c.args.store.now c.args.figures.now c.in-Some.at = ready _ _ _ _ c.begin_records.ensures c.in-Some.is (passed c.figures_taken.ensures c.if-not-figures_taken.false-raw)
    (λ i. (c.shared_slice_known-1.given i).fits) (λ i. (c.slice_known-1.given i).fits) in
    let r = at_ready in (r.place, r.long, r.room)

pub number_at-stores-requires : goal.number_at-stores-requires
number_at-stores-requires c =
    let at_ready : Ready c.args.store.now c.args.figures.now c.in-Some.at = ready _ _ _ _ c.begin_records.ensures c.in-Some.is (passed c.figures_taken.ensures c.if-not-figures_taken.false-raw)
    (λ i. (c.shared_slice_known-1.given i).fits) (λ i. (c.slice_known-1.given i).fits) in
    after_room _ _ _ (at_ready).room c.add_records.ensures

pub overflow_add-stores : goal.overflow_add-stores
overflow_add-stores c =
    let at_ready : Ready c.args.store.now c.args.figures.now c.in-Some.at = ready _ _ _ _ c.begin_records.ensures c.in-Some.is (passed c.figures_taken.ensures c.if-not-figures_taken.false-raw)
    (λ i. (c.shared_slice_known-1.given i).fits) (λ i. (c.slice_known-1.given i).fits) in
    omega (arith, after_stores _ _ _ _ (at_ready).room (at_ready).passes c.add_records.ensures c.number_at-stores.ensures)

pub put-requires : goal.put-requires
put-requires c =
    let at_ready : Ready c.args.store.now c.args.figures.now c.in-Some.at = ready _ _ _ _ c.begin_records.ensures c.in-Some.is (passed c.figures_taken.ensures c.if-not-figures_taken.false-raw)
    (λ i. (c.shared_slice_known-1.given i).fits) (λ i. (c.slice_known-1.given i).fits) in
    (omega arith, after_room _ _ _ (at_ready).room c.add_records.ensures)

pub returns : goal.returns
returns c =
    let at_ready : Ready c.args.store.now c.args.figures.now c.in-Some.at = ready _ _ _ _ c.begin_records.ensures c.in-Some.is (passed c.figures_taken.ensures c.if-not-figures_taken.false-raw)
    (λ i. (c.shared_slice_known-1.given i).fits) (λ i. (c.slice_known-1.given i).fits) in
    let r = at_ready in record { value = (answered _ _ _ (added _ _ _ _ _ _ r.store r.passes r.all r.same c.add_records.ensures c.number_at-stores.ensures c.put.ensures)).0; figures_after = (answered _ _ _ (added _ _ _ _ _ _ r.store r.passes r.all r.same c.add_records.ensures c.number_at-stores.ensures c.put.ensures)).1 }
