use mathlib.Core.Path.{ap, ◌∙◌}
use mathlib.Core.List.{List, ◌++◌}
use Prim.Native.Nat.{ℕ}
use Rattle.blocks.specs.Header.{kept_header}
use Rattle.blocks.proofs.KeptHeader.{header_long}
use Rattle.form.specs.Model.{no_characters, font_head}
use Rattle.change.specs.Put.{with_bytes}
use Rattle.change.specs.Change.{unmarked_for}
use Rattle.form.proofs.Ready.{Ready, standing}
use Rattle.store.proofs.FontCalls.{answered, put_full, put_done}
use native.Mathlib.Omega.{arith}
use Rattle.store.proofs.fonts.put_font.Goals as goal

-- what the places say
pub overflow_sub-old : goal.overflow_sub-old
overflow_sub-old c =
    let at_start : Ready c.args.font 0 c.args.s.now c.args.p = standing _ 0 _ (λ i. (c.slice_known-1.given i).fits) c.args.p c.requires.2 in
    (at_start).span

-- what the places say
pub overflow_sub-used : goal.overflow_sub-used
overflow_sub-used c =
    let at_start : Ready c.args.font 0 c.args.s.now c.args.p = standing _ 0 _ (λ i. (c.slice_known-1.given i).fits) c.args.p c.requires.2 in
    let r = at_start in omega (arith, r.span, r.end)

-- what the places say
pub overflow_add-used : goal.overflow_add-used
overflow_add-used c =
    let at_start : Ready c.args.font 0 c.args.s.now c.args.p = standing _ 0 _ (λ i. (c.slice_known-1.given i).fits) c.args.p c.requires.2 in
    let r = at_start in omega (arith, r.room)

-- what the places say
pub returns-then-s-used : goal.returns-then-s-used
returns-then-s-used c =
    let at_start : Ready c.args.font 0 c.args.s.now c.args.p = standing _ 0 _ (λ i. (c.slice_known-1.given i).fits) c.args.p c.requires.2 in
    record { value = (answered (put_full _ _ _ _ (at_start) c.requires.0 c.requires.1 c.if-s-used.true)).0; s_after = (answered (put_full _ _ _ _ (at_start) c.requires.0 c.requires.1 c.if-s-used.true)).1 }

-- what the places say
pub splice-requires : goal.splice-requires
splice-requires c =
    let at_start : Ready c.args.font 0 c.args.s.now c.args.p = standing _ 0 _ (λ i. (c.slice_known-1.given i).fits) c.args.p c.requires.2 in
    let r = at_start in (omega (arith, r.span, r.end), r.room, omega (arith, r.span, r.end, r.room))

-- what the places say
pub write_font-requires : goal.write_font-requires
write_font-requires c =
    let at_start : Ready c.args.font 0 c.args.s.now c.args.p = standing _ 0 _ (λ i. (c.slice_known-1.given i).fits) c.args.p c.requires.2 in
    let r = at_start in
    (omega (arith, r.span, r.end, r.room, c.splice.auto.s), header_long _ c.requires.1)

-- what the places say
pub unmark_font-requires : goal.unmark_font-requires
unmark_font-requires c =
    let at_start : Ready c.args.font 0 c.args.s.now c.args.p = standing _ 0 _ (λ i. (c.slice_known-1.given i).fits) c.args.p c.requires.2 in
    let r = at_start in
    omega (arith, r.least, r.span, r.end, r.room, c.splice.auto.s, c.write_font.auto.s)

-- what the places say
pub returns : goal.returns
returns c =
    let at_start : Ready c.args.font 0 c.args.s.now c.args.p = standing _ 0 _ (λ i. (c.slice_known-1.given i).fits) c.args.p c.requires.2 in
    let r = at_start in
    let e = answered (put_done _ _ _ _ r c.requires.0 c.requires.1 c.if-s-used.false) in record { value = e.0; s_after = c.unmark_font.ensures ∙ ap (unmarked_for c.args.font) (c.write_font.ensures ∙ ap (λ (l : List ℕ). with_bytes l c.args.p.lo (font_head c.args.font no_characters ++ kept_header c.args.block.now)) c.splice.ensures) ∙ e.1 }
