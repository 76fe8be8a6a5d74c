use mathlib.Core.Path.{sym, ◌∙◌}
use lib.Seq.{length-take-le}
use Rattle.store.proofs.FontCalls.{answered}
use Rattle.store.proofs.Drawings.{picture_short, picture_drawn}
use native.Mathlib.Omega.{arith}
use Rattle.store.proofs.drawing.draw_picture_of.Goals as goal

pub returns-then-out-n : goal.returns-then-out-n
returns-then-out-n c = record { value = (answered (picture_short c.args.h.now c.args.bytes.now c.args.out.now (rw (c.picture_size-n.ensures, c.width-width.ensures, c.height-height.ensures) at c.if-out-n.true))).0; out_after = (answered (picture_short c.args.h.now c.args.bytes.now c.args.out.now (rw (c.picture_size-n.ensures, c.width-width.ensures, c.height-height.ensures) at c.if-out-n.true))).1 }

pub slice_bounds-draw_picture-end-2 : goal.slice_bounds-draw_picture-end-2
slice_bounds-draw_picture-end-2 c = sym (length-take-le _ c.args.out.now c.if-out-n.false)

pub draw_picture-requires : goal.draw_picture-requires
draw_picture-requires c = (omega (arith, c.width-width.ensures, c.requires.1), length-take-le _ c.args.out.now c.if-out-n.false ∙ c.picture_size-n.ensures)

pub returns : goal.returns
returns c =
    let e = answered (picture_drawn c.args.h.now c.args.bytes.now c.args.out.now (rw (c.picture_size-n.ensures, c.width-width.ensures, c.height-height.ensures) at c.if-out-n.false)) in record { value = e.0; out_after = rw (c.draw_picture.ensures, c.class.ensures, c.picture_size-n.ensures, c.width-width.ensures, c.height-height.ensures) e.1 }
