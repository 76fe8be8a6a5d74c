use Rattle.std.proofs.Common.{◌≡◌, ◌-◌, ◌*◌, length, drop, ap₂, ◌∙◌, arith, rules}
use Rattle.pictures.specs.Size.{row_size}
use Rattle.pictures.specs.Drawing.{padding_bits, padded}
use Rattle.pictures.proofs.Pictures.{tail_lent}
use Rattle.pictures.proofs.Bitmaps.{row_clipped, masked, drop_within}
use Rattle.pictures.proofs.bitmap.draw_bitmap_row.Goals as goal

pub returns : goal.returns
returns c =
    let a = c.args in
    let h : c.from.result ≡ a.row = c.from.ensures in
    let e : drop c.min-from.result a.bytes.now ≡ drop (a.row * row_size a.width) a.bytes.now =
    rw (h, c.requires.1) at (drop_within c.min-from.result (c.from.result * length a.out.now) a.bytes.now (λ l. search rules) (λ l. search rules)) in
    rw (c.kept_bits.ensures, masked _ (padding_bits a.width) (c.slice_known-3-1.given (length a.out.now - 1)).fits (omega arith))
    (row_clipped a.width a.bytes.now c.requires.0 (λ i. (c.shared_slice_known-1.given i).fits) a.row _ _ _ (c.copy_padded.ensures ∙ ap₂ padded c.requires.1 (tail_lent c.min-from.result a.bytes.now ∙ e)) (omega arith) (omega arith))
