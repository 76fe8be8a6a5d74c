use mathlib.Core.Path.{sym, ◌∙◌}
use lib.Seq.{length-take-le}
use Rattle.store.proofs.FontCalls.{answered}
use Rattle.store.proofs.Drawings.{row_high, row_short, row_drawn}
use native.Mathlib.Omega.{arith}
use Rattle.store.proofs.drawing.draw_row_of.Goals as goal

pub returns-then-from-row : goal.returns-then-from-row
returns-then-from-row c = record { value = (answered (row_high c.args.h.now c.args.bytes.now c.args.out.now c.args.row (omega (arith, c.height.ensures, c.from.ensures, c.if-from-row.true)))).0; out_after = (answered (row_high c.args.h.now c.args.bytes.now c.args.out.now c.args.row (omega (arith, c.height.ensures, c.from.ensures, c.if-from-row.true)))).1 }

pub returns-then-out-n : goal.returns-then-out-n
returns-then-out-n c = record { value = (answered (row_short c.args.h.now c.args.bytes.now c.args.out.now c.args.row (omega (arith, c.height.ensures, c.from.ensures, c.if-from-row.false)) (rw (c.row_size-n.ensures, c.width-width.ensures) at c.if-out-n.true))).0; out_after = (answered (row_short c.args.h.now c.args.bytes.now c.args.out.now c.args.row (omega (arith, c.height.ensures, c.from.ensures, c.if-from-row.false)) (rw (c.row_size-n.ensures, c.width-width.ensures) at c.if-out-n.true))).1 }

pub slice_bounds-draw_row-end-2 : goal.slice_bounds-draw_row-end-2
slice_bounds-draw_row-end-2 c = sym (length-take-le _ c.args.out.now c.if-out-n.false)

pub draw_row-requires : goal.draw_row-requires
draw_row-requires c = (omega (arith, c.width-width.ensures, c.requires.1), length-take-le _ c.args.out.now c.if-out-n.false ∙ c.row_size-n.ensures)

pub returns : goal.returns
returns c =
    let e = answered (row_drawn c.args.h.now c.args.bytes.now c.args.out.now c.args.row (omega (arith, c.height.ensures, c.from.ensures, c.if-from-row.false)) (rw (c.row_size-n.ensures, c.width-width.ensures) at c.if-out-n.false)) in record { value = e.0; out_after = rw (c.draw_row.ensures, c.class.ensures, c.row_size-n.ensures, c.width-width.ensures) e.1 }
