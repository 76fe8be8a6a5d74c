use mathlib.Core.Path.{sym, ◌∙◌}
use Prim.Native.Nat.{◌+◌}
use Rattle.pictures.proofs.Tests.{failed, passed}
use Rattle.store.proofs.FontCalls.{answered_block, answered_by}
use Rattle.form.proofs.Ready.{Ready, ready, stands, not_store_lem}
use Rattle.store.proofs.Receives.{download_not, download_range, download_block, in_range_lem}
use Rattle.store.proofs.download.download_character.Goals as goal

pub returns-in_default : goal.returns-in_default
returns-in_default c = record { value = (answered_by c.without_run.ensures (download_not _ _ _ _ (not_store_lem _ _ _ (sym c.inspect.ensures ∙ c.in_default.is)))).0; s_after = (answered_by c.without_run.ensures (download_not _ _ _ _ (not_store_lem _ _ _ (sym c.inspect.ensures ∙ c.in_default.is)))).1 }

-- behind the inspection
pub returns-then-not-in_range : goal.returns-then-not-in_range
returns-then-not-in_range c =
    let at_found : Ready c.args.font (c.args.code + 1) c.args.s.now c.in-Some.p = ready _ _ _ (λ i. (c.slice_known-1.given i).fits) c.in-Some.p (sym c.inspect.ensures ∙ c.in-Some.is) in
    record { value = (answered_by c.without_run-then-not-in_range.ensures (download_range _ _ _ _ _ (at_found) (failed c.in_range.ensures c.if-not-in_range.true-raw))).0; s_after = (answered_by c.without_run-then-not-in_range.ensures (download_range _ _ _ _ _ (at_found) (failed c.in_range.ensures c.if-not-in_range.true-raw))).1 }

-- behind the inspection
pub put_block-requires : goal.put_block-requires
put_block-requires c =
    let at_found : Ready c.args.font (c.args.code + 1) c.args.s.now c.in-Some.p = ready _ _ _ (λ i. (c.slice_known-1.given i).fits) c.in-Some.p (sym c.inspect.ensures ∙ c.in-Some.is) in
    let i = in_range_lem _ _ (passed c.in_range.ensures c.if-not-in_range.false-raw) in (stands (at_found), i.0, i.1)

-- behind the inspection
pub returns : goal.returns
returns c =
    let at_found : Ready c.args.font (c.args.code + 1) c.args.s.now c.in-Some.p = ready _ _ _ (λ i. (c.slice_known-1.given i).fits) c.in-Some.p (sym c.inspect.ensures ∙ c.in-Some.is) in
    let e = answered_block (download_block _ _ c.args.block.now _ _ (at_found) (passed c.in_range.ensures c.if-not-in_range.false-raw)) in record { value = c.put_block.ensures.value ∙ e.0; s_after = c.put_block.ensures.s_after ∙ e.1 }
