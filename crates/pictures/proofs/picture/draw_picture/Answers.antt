use Rattle.std.proofs.Common.{◌∙◌}
use Rattle.pictures.proofs.Pictures.{picture_runs}
use Rattle.pictures.proofs.picture.draw_picture.Goals as goal

pub returns-then-class-eq-BITMAP : goal.returns-then-class-eq-BITMAP
returns-then-class-eq-BITMAP c = rw c.if-class-eq-BITMAP.true c.draw_bitmap.ensures

pub returns-else-class-eq-BITMAP : goal.returns-else-class-eq-BITMAP
returns-else-class-eq-BITMAP c =
    let a = c.args in c.draw_runs.ensures ∙ picture_runs a.class a.width a.bytes.now c.if-class-eq-BITMAP.false a.height
