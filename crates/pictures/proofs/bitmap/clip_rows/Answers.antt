use Rattle.std.proofs.Common.{◌≡◌, ◌+◌, ◌-◌, ◌*◌, ◌≤◌, refl, ◌∙◌, append-nil, mul-le-mul_right, zero-mul, arith, length-set, drop_of_length-le}
use Rattle.pictures.specs.Size.{bitmap_class, row_size, picture_size}
use Rattle.pictures.specs.Rows.{picture}
use Rattle.pictures.specs.Drawing.{padding_bits}
use Rattle.pictures.proofs.Bitmaps.{clip_next, masked}
use Rattle.pictures.proofs.bitmap.clip_rows.Goals as goal

pub loop-row-init : goal.loop-row-init
unfolding picture
loop-row-init c = (refl, λ d b p. rw zero-mul)

pub loop-row-preserved : goal.loop-row-preserved
loop-row-preserved c =
    let a = c.args in
    let s = row_size a.width in
    let r = c.loop-row.row in
    let e : c.row_size-n.result ≡ s = c.row_size-n.ensures in
    let h : c.from-row-end.result ≡ a.height = c.from-row-end.ensures in
    let g : r + 1 ≤ a.height = omega arith in (
      simp length-set c.loop-row.invariant.0,
      λ d b p. rw (c.kept_bits-kept.ensures, masked _ (padding_bits a.width) (c.slice_known-in-loop-row-1.given (r * c.row_size-n.result + (c.row_size-n.result - 1))).fits (omega arith))
          (clip_next a.width d c.requires.0 b r _ _ (a.height * s) _ a.out.now
          (mul-le-mul_right s g) p (c.loop-row.invariant.1 d b p) (rw e (omega arith)) (omega arith)),
    )

pub returns : goal.returns
returns c =
    λ d b p.
    let a = c.args in
    let e : c.loop-row.row ≡ a.height = omega (arith, c.from-row-end.ensures) in
    c.loop-row.invariant.1 d b p ∙ rw (e, drop_of_length-le a.out.now {i = picture_size a.width a.height} (omega arith)) (append-nil (picture bitmap_class a.width d a.height))
