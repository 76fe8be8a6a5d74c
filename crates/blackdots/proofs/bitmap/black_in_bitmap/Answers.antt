use Rattle.blackdots.proofs.BitmapDots.{black_bitmap}
use Rattle.blackdots.proofs.ByteOnes.{overhang_zero}
use Rattle.blackdots.specs.Counting.{overhang}
use Rattle.blackdots.specs.Black.{black_dots, ones_of}
use Rattle.pictures.specs.Size.{row_size}
use Prim.Native.Nat.{ℕ, ◌+◌, ◌-◌, ◌%◌}
use mathlib.Core.List.{List}
use mathlib.Core.Path.{◌≡◌, ap, ◌∙◌}
use native.Mathlib.Omega.{arith}
use Rattle.blackdots.proofs.bitmap.black_in_bitmap.Goals as goal

pub returns-then-width-eq0 : goal.returns-then-width-eq0
returns-then-width-eq0 c =
    let w : ℕ = c.args.width in
    let b : List ℕ = c.args.b.now in
    let even : w % 8 ≡ 0 = omega (arith, c.if-width-eq0.true) in
    let e : black_dots 1 w c.args.height b + overhang (row_size w) 0 b c.args.height ≡ ones_of b = black_bitmap w b c.requires.0 (λ i. (c.shared_slice_known-1.given i).fits) 0 c.args.height (omega arith) c.requires.1 in
    omega (arith, e, overhang_zero (row_size w) b c.args.height, c.ones_in-all.ensures)

-- all ones are black dots, or lie beyond the width
pub overflow_sub-result : goal.overflow_sub-result
overflow_sub-result c =
    let sums : let a = c.args in
    black_dots 1 a.width a.height a.b.now + c.ones_beyond.result ≡ ones_of a.b.now = let w : ℕ = c.args.width in
    let h : ℕ = c.args.height in
    let b : List ℕ = c.args.b.now in
    let pad : ℕ = 8 - ((w - 1) % 8 + 1) in
    let e : black_dots 1 w h b + overhang (row_size w) pad b h ≡ ones_of b = black_bitmap w b c.requires.0 (λ i. (c.shared_slice_known-1.given i).fits) pad h (omega arith) c.requires.1 in
    let n : c.row_size.result ≡ row_size w = c.row_size.ensures in
    let o : c.ones_beyond.result ≡ overhang c.row_size.result pad b h = c.ones_beyond.ensures.0 h pad c.beyond.ensures (rw n c.requires.1) in
    omega (arith, e, o ∙ ap (λ (x : ℕ). overhang x pad b h) n) in
    omega (arith, sums, c.ones_in-all.ensures)

-- all ones are black dots, or lie beyond the width
pub returns : goal.returns
returns c =
    let sums : let a = c.args in
    black_dots 1 a.width a.height a.b.now + c.ones_beyond.result ≡ ones_of a.b.now = let w : ℕ = c.args.width in
    let h : ℕ = c.args.height in
    let b : List ℕ = c.args.b.now in
    let pad : ℕ = 8 - ((w - 1) % 8 + 1) in
    let e : black_dots 1 w h b + overhang (row_size w) pad b h ≡ ones_of b = black_bitmap w b c.requires.0 (λ i. (c.shared_slice_known-1.given i).fits) pad h (omega arith) c.requires.1 in
    let n : c.row_size.result ≡ row_size w = c.row_size.ensures in
    let o : c.ones_beyond.result ≡ overhang c.row_size.result pad b h = c.ones_beyond.ensures.0 h pad c.beyond.ensures (rw n c.requires.1) in
    omega (arith, e, o ∙ ap (λ (x : ℕ). overhang x pad b h) n) in
    omega (arith, sums, c.ones_in-all.ensures)
