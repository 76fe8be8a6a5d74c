use Rattle.std.specs.Prelude.{Ok}
use mathlib.Core.Path.{sym, ap, ◌∙◌}
use Rattle.blocks.proofs.KeptFirst.{first_long}
use Rattle.form.specs.Model.{is_unfinished}
use Rattle.store.proofs.FontCalls.{answered_block, answered_by}
use Rattle.store.proofs.Host.{Host, host}
use Rattle.store.proofs.FirstBlocks.{first_past, complete_small, complete_held, complete_fits, first_complete, incomplete_small, incomplete_held, incomplete_fits, first_incomplete}
use Rattle.store.proofs.download.receive_first.Goals as goal

pub judge_block-requires : goal.judge_block-requires
judge_block-requires c = first_long _ _ c.requires.p_value

pub place_first-requires : goal.place_first-requires
place_first-requires c =
    let at_start : Host c.args.id.font c.args.id.code c.args.s.now c.args.p = host _ _ _ _ (λ i. (c.slice_known-1.given i).fits) c.requires.arriving.0 in
    let x = at_start in
    let q = sym c.judge_block.ensures ∙ c.in-Ok-Some.is ∙ ap Ok c.in-Ok-Some.field-0-is in
    let k = complete_small _ _ _ _ _ x c.requires.arriving.1 c.requires.arriving.2 c.requires.p_value _ q in record { n_le_data_limit = (k.0, k.1, complete_fits _ _ _ _ _ x c.requires.arriving.1 c.requires.arriving.2 c.requires.p_value _ q); marked_value = sym (ap is_unfinished (complete_held _ _ _ _ _ x c.requires.arriving.1 c.requires.arriving.2 c.requires.p_value _ q)) }

pub overflow_sub-block : goal.overflow_sub-block
overflow_sub-block c = first_long _ _ c.requires.p_value

pub place_first-requires-in-Ok-None : goal.place_first-requires-in-Ok-None
place_first-requires-in-Ok-None c =
    let at_start : Host c.args.id.font c.args.id.code c.args.s.now c.args.p = host _ _ _ _ (λ i. (c.slice_known-1.given i).fits) c.requires.arriving.0 in
    let x = at_start in
    let q = sym c.judge_block.ensures ∙ c.in-Ok-None.is ∙ ap Ok c.in-Ok-None.field-0-is in
    let k = incomplete_small _ _ _ _ _ x c.requires.arriving.1 c.requires.arriving.2 c.requires.p_value q in record { n_le_data_limit = (k.0, k.1, incomplete_fits _ _ _ _ _ x c.requires.arriving.1 c.requires.arriving.2 c.requires.p_value q); marked_value = sym (ap is_unfinished (incomplete_held _ _ _ _ _ x c.requires.arriving.1 c.requires.arriving.2 c.requires.p_value q)) }

pub returns-in-Err : goal.returns-in-Err
returns-in-Err c =
    let at_start : Host c.args.id.font c.args.id.code c.args.s.now c.args.p = host _ _ _ _ (λ i. (c.slice_known-1.given i).fits) c.requires.arriving.0 in
    let x = at_start in record { value = (answered_by c.past_width.ensures (first_past _ _ _ _ _ x c.requires.arriving.1 c.requires.arriving.2 c.requires.p_value _ _ _ (sym c.judge_block.ensures ∙ c.in-Err.is))).0; s_after = (answered_by c.past_width.ensures (first_past _ _ _ _ _ x c.requires.arriving.1 c.requires.arriving.2 c.requires.p_value _ _ _ (sym c.judge_block.ensures ∙ c.in-Err.is))).1 }

pub returns-in-Ok-Some : goal.returns-in-Ok-Some
returns-in-Ok-Some c =
    let at_start : Host c.args.id.font c.args.id.code c.args.s.now c.args.p = host _ _ _ _ (λ i. (c.slice_known-1.given i).fits) c.requires.arriving.0 in
    let x = at_start in
    let e = answered_block (first_complete _ _ _ _ _ x c.requires.arriving.1 c.requires.arriving.2 c.requires.p_value _ (sym c.judge_block.ensures ∙ c.in-Ok-Some.is ∙ ap Ok c.in-Ok-Some.field-0-is)) in record { value = c.place_first.ensures.value ∙ e.0; s_after = c.place_first.ensures.s_after ∙ e.1 }

pub returns-in-Ok-None : goal.returns-in-Ok-None
returns-in-Ok-None c =
    let at_start : Host c.args.id.font c.args.id.code c.args.s.now c.args.p = host _ _ _ _ (λ i. (c.slice_known-1.given i).fits) c.requires.arriving.0 in
    let x = at_start in
    let e = answered_block (first_incomplete _ _ _ _ _ x c.requires.arriving.1 c.requires.arriving.2 c.requires.p_value (sym c.judge_block.ensures ∙ c.in-Ok-None.is ∙ ap Ok c.in-Ok-None.field-0-is)) in record { value = c.place_first-in-Ok-None.ensures.value ∙ e.0; s_after = c.place_first-in-Ok-None.ensures.s_after ∙ e.1 }
