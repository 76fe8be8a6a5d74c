use Rattle.refusals.specs.Refusals.{numbered_result}
use mathlib.Core.Path.{sym, ◌∙◌, ap}
use Rattle.store.proofs.FontCalls.{answered, answered_err}
use Rattle.store.specs.Drawing.{drawing_row}
use Rattle.form.proofs.Seeks.{KeptChar, char_sought, char_refused}
use Rattle.store.proofs.Spots.{char_span, char_shape}
use Rattle.store.proofs.Drawings.{char_width, kept_cut, data_cut, row_call}
use native.Mathlib.Omega.{arith}
use Rattle.store.proofs.drawing.draw_row.Goals as goal

-- behind the seeking
pub overflow_add-h : goal.overflow_add-h
overflow_add-h c =
    let at_found : KeptChar c.args.font c.args.code c.args.s.now c.in_ok-p.p = char_sought _ _ _ c.in_ok-p.p (λ i. (c.shared_slice_known-1.given i).fits) (sym c.seek_character.ensures ∙ ap numbered_result c.in_ok-p.was) in
    let x = at_found in omega (arith, char_span _ _ _ _ x, x.ready.last, x.ready.room)

-- behind the seeking
pub overflow_add-d : goal.overflow_add-d
overflow_add-d c =
    let at_found : KeptChar c.args.font c.args.code c.args.s.now c.in_ok-p.p = char_sought _ _ _ c.in_ok-p.p (λ i. (c.shared_slice_known-1.given i).fits) (sym c.seek_character.ensures ∙ ap numbered_result c.in_ok-p.was) in
    let x = at_found in omega (arith, char_span _ _ _ _ x, x.ready.last, x.ready.room)

-- behind the seeking
pub slice_bounds-draw_row_of-end : goal.slice_bounds-draw_row_of-end
slice_bounds-draw_row_of-end c =
    let at_found : KeptChar c.args.font c.args.code c.args.s.now c.in_ok-p.p = char_sought _ _ _ c.in_ok-p.p (λ i. (c.shared_slice_known-1.given i).fits) (sym c.seek_character.ensures ∙ ap numbered_result c.in_ok-p.was) in
    let x = at_found in omega (arith, char_span _ _ _ _ x, x.ready.last, x.ready.room)

-- behind the seeking
pub slice_bounds-draw_row_of-count-2 : goal.slice_bounds-draw_row_of-count-2
slice_bounds-draw_row_of-count-2 c =
    let at_found : KeptChar c.args.font c.args.code c.args.s.now c.in_ok-p.p = char_sought _ _ _ c.in_ok-p.p (λ i. (c.shared_slice_known-1.given i).fits) (sym c.seek_character.ensures ∙ ap numbered_result c.in_ok-p.was) in
    let x = at_found in omega (arith, char_span _ _ _ _ x)

-- behind the seeking
pub slice_bounds-draw_row_of-start-2 : goal.slice_bounds-draw_row_of-start-2
slice_bounds-draw_row_of-start-2 c =
    let at_found : KeptChar c.args.font c.args.code c.args.s.now c.in_ok-p.p = char_sought _ _ _ c.in_ok-p.p (λ i. (c.shared_slice_known-1.given i).fits) (sym c.seek_character.ensures ∙ ap numbered_result c.in_ok-p.was) in
    let x = at_found in omega (arith, char_span _ _ _ _ x)

-- behind the seeking
pub slice_bounds-draw_row_of-end-2 : goal.slice_bounds-draw_row_of-end-2
slice_bounds-draw_row_of-end-2 c =
    let at_found : KeptChar c.args.font c.args.code c.args.s.now c.in_ok-p.p = char_sought _ _ _ c.in_ok-p.p (λ i. (c.shared_slice_known-1.given i).fits) (sym c.seek_character.ensures ∙ ap numbered_result c.in_ok-p.was) in
    let x = at_found in omega (arith, x.ready.last, x.ready.room)

-- behind the seeking
pub draw_row_of-requires : goal.draw_row_of-requires
draw_row_of-requires c =
    let at_found : KeptChar c.args.font c.args.code c.args.s.now c.in_ok-p.p = char_sought _ _ _ c.in_ok-p.p (λ i. (c.shared_slice_known-1.given i).fits) (sym c.seek_character.ensures ∙ ap numbered_result c.in_ok-p.was) in
    let x = at_found in rw (kept_cut _ _ _ _ x) ((char_shape _ _ _ _ x).0, char_width _ _ _ _ x)

pub returns-in_err-p : goal.returns-in_err-p
unfolding drawing_row
returns-in_err-p c =
    let e = answered_err _ _ c.from_residual.ensures (char_refused _ _ _ _ _ _ (sym c.seek_character.ensures ∙ ap numbered_result c.in_err-p.was)) in
    record { value = e.0; out_after = e.1 }

-- behind the seeking
pub returns : goal.returns
returns c =
    let at_found : KeptChar c.args.font c.args.code c.args.s.now c.in_ok-p.p = char_sought _ _ _ c.in_ok-p.p (λ i. (c.shared_slice_known-1.given i).fits) (sym c.seek_character.ensures ∙ ap numbered_result c.in_ok-p.was) in
    let x = at_found in
    let e = rw (← (kept_cut _ _ _ _ x), ← (data_cut _ _ _ _ x)) at (answered (row_call _ _ _ _ x c.args.row c.args.out.now)) in record { value = c.draw_row_of.ensures.value ∙ e.0; out_after = c.draw_row_of.ensures.out_after ∙ e.1 }
