use Prim.Native.Nat.{◌+◌}
use mathlib.Core.Path.{sym, ◌∙◌, subst}
use Rattle.pictures.proofs.Tests.{failed, passed}
use Rattle.form.specs.declared.walk.Places.{Places}
use Rattle.store.proofs.FontCalls.{answered_block, answered_by}
use Rattle.form.proofs.Ready.{Ready, standing, looked_at, looked_not}
use Rattle.store.proofs.Host.{Host, arriving}
use Rattle.store.proofs.FirstBlocks.{block_short}
use Rattle.store.proofs.Receives.{block_length, block_no_font, block_host, block_unknown, block_first, block_more}
use Rattle.store.proofs.download.put_block.Goals as goal

pub returns-then-not-length_allowed : goal.returns-then-not-length_allowed
returns-then-not-length_allowed c =
    let at_start : Ready c.args.font (c.args.code + 1) c.args.s.now c.args.p = standing _ _ _ (λ i. (c.slice_known-1.given i).fits) _ c.requires.0 in
    record { value = (answered_by c.without_run.ensures (block_length _ _ _ _ _ (at_start) (failed c.length_allowed.ensures c.if-not-length_allowed.true-raw))).0; s_after = (answered_by c.without_run.ensures (block_length _ _ _ _ _ (at_start) (failed c.length_allowed.ensures c.if-not-length_allowed.true-raw))).1 }

pub returns-in_default : goal.returns-in_default
returns-in_default c =
    let at_start : Ready c.args.font (c.args.code + 1) c.args.s.now c.args.p = standing _ _ _ (λ i. (c.slice_known-1.given i).fits) _ c.requires.0 in
    record { value = (answered_by c.without_run-in_default.ensures (block_no_font _ _ _ _ _ (at_start) (passed c.length_allowed.ensures c.if-not-length_allowed.false-raw) (looked_not _ _ _ (sym c.look_up_font.ensures.0 ∙ c.in_default.is)))).0; s_after = (answered_by c.without_run-in_default.ensures (block_no_font _ _ _ _ _ (at_start) (passed c.length_allowed.ensures c.if-not-length_allowed.false-raw) (looked_not _ _ _ (sym c.look_up_font.ensures.0 ∙ c.in_default.is)))).1 }

pub kind_of-requires : goal.kind_of-requires
kind_of-requires c = (block_short _ (passed c.length_allowed.ensures c.if-not-length_allowed.false-raw)).0

pub put_first-requires : goal.put_first-requires
put_first-requires c =
    let at_start : Ready c.args.font (c.args.code + 1) c.args.s.now c.args.p = standing _ _ _ (λ i. (c.slice_known-1.given i).fits) _ c.requires.0 in
    let at_font_lem : Host c.args.font c.args.code c.args.s.now c.in-Some.at = let l = looked_at _ _ _ _ (sym c.look_up_font.ensures.0 ∙ c.in-Some.is) in
    subst (λ (w : Places). Host c.args.font c.args.code c.args.s.now w) l.1 (block_host _ _ _ _ (at_start) c.requires.1 c.requires.2 l.0) in
    (arriving _ _ _ _ (at_font_lem), passed c.length_allowed.ensures c.if-not-length_allowed.false-raw, sym c.kind_of.ensures ∙ c.in-First.is)

pub put_more-requires : goal.put_more-requires
put_more-requires c =
    let at_start : Ready c.args.font (c.args.code + 1) c.args.s.now c.args.p = standing _ _ _ (λ i. (c.slice_known-1.given i).fits) _ c.requires.0 in
    let at_font_lem : Host c.args.font c.args.code c.args.s.now c.in-Some.at = let l = looked_at _ _ _ _ (sym c.look_up_font.ensures.0 ∙ c.in-Some.is) in
    subst (λ (w : Places). Host c.args.font c.args.code c.args.s.now w) l.1 (block_host _ _ _ _ (at_start) c.requires.1 c.requires.2 l.0) in
    (arriving _ _ _ _ (at_font_lem), passed c.length_allowed.ensures c.if-not-length_allowed.false-raw)

pub returns-in-First : goal.returns-in-First
returns-in-First c =
    let at_start : Ready c.args.font (c.args.code + 1) c.args.s.now c.args.p = standing _ _ _ (λ i. (c.slice_known-1.given i).fits) _ c.requires.0 in
    let at_font_lem : Host c.args.font c.args.code c.args.s.now c.in-Some.at = let l = looked_at _ _ _ _ (sym c.look_up_font.ensures.0 ∙ c.in-Some.is) in
    subst (λ (w : Places). Host c.args.font c.args.code c.args.s.now w) l.1 (block_host _ _ _ _ (at_start) c.requires.1 c.requires.2 l.0) in
    let e = answered_block (block_first _ _ c.args.block.now _ _ (at_font_lem) (passed c.length_allowed.ensures c.if-not-length_allowed.false-raw) (sym c.kind_of.ensures ∙ c.in-First.is)) in record { value = c.put_first.ensures.value ∙ e.0; s_after = c.put_first.ensures.s_after ∙ e.1 }

pub returns-in-Continuation : goal.returns-in-Continuation
returns-in-Continuation c =
    let at_start : Ready c.args.font (c.args.code + 1) c.args.s.now c.args.p = standing _ _ _ (λ i. (c.slice_known-1.given i).fits) _ c.requires.0 in
    let at_font_lem : Host c.args.font c.args.code c.args.s.now c.in-Some.at = let l = looked_at _ _ _ _ (sym c.look_up_font.ensures.0 ∙ c.in-Some.is) in
    subst (λ (w : Places). Host c.args.font c.args.code c.args.s.now w) l.1 (block_host _ _ _ _ (at_start) c.requires.1 c.requires.2 l.0) in
    let e = answered_block (block_more _ _ c.args.block.now _ _ (at_font_lem) (passed c.length_allowed.ensures c.if-not-length_allowed.false-raw) (sym c.kind_of.ensures ∙ c.in-Continuation.is)) in record { value = c.put_more.ensures.value ∙ e.0; s_after = c.put_more.ensures.s_after ∙ e.1 }

pub returns-in-Unknown : goal.returns-in-Unknown
returns-in-Unknown c =
    let at_start : Ready c.args.font (c.args.code + 1) c.args.s.now c.args.p = standing _ _ _ (λ i. (c.slice_known-1.given i).fits) _ c.requires.0 in
    let at_font_lem : Host c.args.font c.args.code c.args.s.now c.in-Some.at = let l = looked_at _ _ _ _ (sym c.look_up_font.ensures.0 ∙ c.in-Some.is) in
    subst (λ (w : Places). Host c.args.font c.args.code c.args.s.now w) l.1 (block_host _ _ _ _ (at_start) c.requires.1 c.requires.2 l.0) in
    record { value = (answered_by c.without_run-in-Unknown.ensures (block_unknown _ _ _ _ _ (at_font_lem) (passed c.length_allowed.ensures c.if-not-length_allowed.false-raw) (sym c.kind_of.ensures ∙ c.in-Unknown.is))).0; s_after = (answered_by c.without_run-in-Unknown.ensures (block_unknown _ _ _ _ _ (at_font_lem) (passed c.length_allowed.ensures c.if-not-length_allowed.false-raw) (sym c.kind_of.ensures ∙ c.in-Unknown.is))).1 }
