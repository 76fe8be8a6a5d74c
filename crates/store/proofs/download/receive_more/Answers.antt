use mathlib.Core.Path.{◌≡◌, ◌∙◌}
use Prim.Native.Nat.{◌+◌, ◌-◌, ◌≤◌, ◌<◌}
use lib.ListN.{length, take, drop, length-take, length-drop}
use Rattle.blocks.specs.Character.{continuation_bytes}
use Rattle.pictures.specs.Size.{data_limit}
use Rattle.form.specs.Layout.{character_record}
use Rattle.form.specs.Walk.{data_at}
use Rattle.store.proofs.FontCalls.{answered_block, answered_by}
use Rattle.store.proofs.Host.{Host, host}
use Rattle.store.proofs.Continuations.{Opened, opened_there, more_large, more_marked, more_grows, more_placed}
use native.Mathlib.Omega.{arith}
use Rattle.store.proofs.download.receive_more.Goals as goal

pub overflow_add-p : goal.overflow_add-p
overflow_add-p c =
    let at_start : Host c.args.id.font c.args.id.code c.args.s.now c.args.p = host _ _ _ _ (λ i. (c.slice_known-1.given i).fits) c.requires.n_in_bounds.1 in
    let at_open : Opened c.args.id.font c.args.id.code c.args.s.now c.args.p (at_start) = opened_there _ _ _ _ (at_start) c.requires.n_in_bounds.2 in
    let x = at_start in let o = (at_open).span in omega (arith, o, x.ready.last, x.ready.room)

pub overflow_sub-p : goal.overflow_sub-p
overflow_sub-p c =
    let at_start : Host c.args.id.font c.args.id.code c.args.s.now c.args.p = host _ _ _ _ (λ i. (c.slice_known-1.given i).fits) c.requires.n_in_bounds.1 in
    let at_open : Opened c.args.id.font c.args.id.code c.args.s.now c.args.p (at_start) = opened_there _ _ _ _ (at_start) c.requires.n_in_bounds.2 in
    let o = (at_open).span in omega (arith, o)

pub overflow_add-p-2 : goal.overflow_add-p-2
overflow_add-p-2 c =
    let at_start : Host c.args.id.font c.args.id.code c.args.s.now c.args.p = host _ _ _ _ (λ i. (c.slice_known-1.given i).fits) c.requires.n_in_bounds.1 in
    let x = at_start in omega (arith, x.ready.last, x.ready.room, c.requires.n_in_bounds.0)

-- what the code tests
pub returns-then-p-n-gt-DATA_LIMIT : goal.returns-then-p-n-gt-DATA_LIMIT
returns-then-p-n-gt-DATA_LIMIT c =
    let at_start : Host c.args.id.font c.args.id.code c.args.s.now c.args.p = host _ _ _ _ (λ i. (c.slice_known-1.given i).fits) c.requires.n_in_bounds.1 in
    let data_length : length (take c.args.n (drop continuation_bytes c.args.block.now)) ≡ c.args.n = simp (length-take, length-drop) (omega (arith, c.requires.n_in_bounds.0)) in
    let at_open : Opened c.args.id.font c.args.id.code c.args.s.now c.args.p (at_start) = opened_there _ _ _ _ (at_start) c.requires.n_in_bounds.2 in
    let sum : c.args.p.to - (c.args.p.from + character_record) + c.args.n ≡ length (data_at c.args.s.now c.args.p) + length (take c.args.n (drop continuation_bytes c.args.block.now)) = let l = data_length in let o = (at_open).span in omega (arith, l, o) in
    let x = at_start in
    let q = sum in
    let a = c.args in
    let l : data_limit < length (data_at a.s.now a.p) + length (take a.n (drop continuation_bytes a.block.now)) = omega (arith, q, c.if-p-n-gt-DATA_LIMIT.true) in record { value = (answered_by c.without_run.ensures (more_large _ _ a.block.now _ a.p x c.requires.n_in_bounds.2 a.n a.marked c.requires.continued l)).0; s_after = (answered_by c.without_run.ensures (more_large _ _ a.block.now _ a.p x c.requires.n_in_bounds.2 a.n a.marked c.requires.continued l)).1 }

-- what the code tests
pub place_more-requires : goal.place_more-requires
place_more-requires c =
    let at_start : Host c.args.id.font c.args.id.code c.args.s.now c.args.p = host _ _ _ _ (λ i. (c.slice_known-1.given i).fits) c.requires.n_in_bounds.1 in
    let data_length : length (take c.args.n (drop continuation_bytes c.args.block.now)) ≡ c.args.n = simp (length-take, length-drop) (omega (arith, c.requires.n_in_bounds.0)) in
    let at_open : Opened c.args.id.font c.args.id.code c.args.s.now c.args.p (at_start) = opened_there _ _ _ _ (at_start) c.requires.n_in_bounds.2 in
    let sum : c.args.p.to - (c.args.p.from + character_record) + c.args.n ≡ length (data_at c.args.s.now c.args.p) + length (take c.args.n (drop continuation_bytes c.args.block.now)) = let l = data_length in let o = (at_open).span in omega (arith, l, o) in
    let x = at_start in
    let q = sum in
    let a = c.args in
    let l : length (data_at a.s.now a.p) + length (take a.n (drop continuation_bytes a.block.now)) ≤ data_limit = omega (arith, q, c.if-p-n-gt-DATA_LIMIT.false) in record { n_in_bounds = (c.requires.n_in_bounds.0, more_grows _ _ a.block.now _ a.p x c.requires.n_in_bounds.2 a.n a.marked c.requires.continued l); marked_value = more_marked _ _ a.block.now _ a.p x c.requires.n_in_bounds.2 a.n a.marked c.requires.continued l }

-- what the code tests
pub returns : goal.returns
returns c =
    let at_start : Host c.args.id.font c.args.id.code c.args.s.now c.args.p = host _ _ _ _ (λ i. (c.slice_known-1.given i).fits) c.requires.n_in_bounds.1 in
    let data_length : length (take c.args.n (drop continuation_bytes c.args.block.now)) ≡ c.args.n = simp (length-take, length-drop) (omega (arith, c.requires.n_in_bounds.0)) in
    let at_open : Opened c.args.id.font c.args.id.code c.args.s.now c.args.p (at_start) = opened_there _ _ _ _ (at_start) c.requires.n_in_bounds.2 in
    let sum : c.args.p.to - (c.args.p.from + character_record) + c.args.n ≡ length (data_at c.args.s.now c.args.p) + length (take c.args.n (drop continuation_bytes c.args.block.now)) = let l = data_length in let o = (at_open).span in omega (arith, l, o) in
    let x = at_start in
    let q = sum in
    let a = c.args in
    let l : length (data_at a.s.now a.p) + length (take a.n (drop continuation_bytes a.block.now)) ≤ data_limit = omega (arith, q, c.if-p-n-gt-DATA_LIMIT.false) in
    let e = answered_block (more_placed _ _ a.block.now _ a.p x c.requires.n_in_bounds.2 a.n a.marked c.requires.continued l) in record { value = c.place_more.ensures.value ∙ e.0; s_after = c.place_more.ensures.s_after ∙ e.1 }
