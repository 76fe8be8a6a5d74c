use Rattle.std.proofs.Common.{◌∙◌}
use Rattle.pictures.proofs.Bitmaps.{picture_whole}
use Rattle.pictures.proofs.bitmap.draw_bitmap.Goals as goal

pub returns-then-width-eq0 : goal.returns-then-width-eq0
returns-then-width-eq0 c =
    let a = c.args in
    c.copy_padded.ensures ∙ rw c.requires.1 (picture_whole a.width a.bytes.now c.requires.0 (λ i. (c.shared_slice_known-1.given i).fits) a.height c.if-width-eq0.true)
