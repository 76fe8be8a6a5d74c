use Rattle.std.proofs.Common.{eq-eqb, ne_eqb}
use Rattle.pictures.specs.Rows.{row_bytes, row_dots}
use Rattle.pictures.proofs.picture.draw_row.Goals as goal

pub returns-then-class-eq-BITMAP : goal.returns-then-class-eq-BITMAP
unfolding row_bytes row_dots
returns-then-class-eq-BITMAP c = rw (eq-eqb c.args.class 1 c.if-class-eq-BITMAP.true) c.draw_bitmap_row.ensures

pub returns-else-class-eq-BITMAP : goal.returns-else-class-eq-BITMAP
unfolding row_bytes row_dots
returns-else-class-eq-BITMAP c = rw (ne_eqb c.args.class 1 c.if-class-eq-BITMAP.false) c.draw_runs_row.ensures
