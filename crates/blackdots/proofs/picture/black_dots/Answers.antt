use Rattle.blackdots.proofs.RunDots.{black_runs}
use Prim.Native.Nat.{ℕ}
use Rattle.blackdots.specs.Black.{black_dots}
use mathlib.Core.Path.{sym, ap, ◌∙◌}
use Rattle.blackdots.proofs.picture.black_dots.Goals as goal

pub black_in_bitmap-requires : goal.black_in_bitmap-requires
black_in_bitmap-requires c = (c.requires.0, c.requires.1 c.if-class-eq-BITMAP.true, c.requires.2)

pub returns-then-class-eq-BITMAP : goal.returns-then-class-eq-BITMAP
returns-then-class-eq-BITMAP c = c.black_in_bitmap.ensures ∙ ap (λ (k : ℕ). black_dots k c.args.width c.args.height c.args.bytes.now) (sym c.if-class-eq-BITMAP.true)

pub returns : goal.returns
returns c = c.black_in_runs.ensures ∙ black_runs _ _ _ _ c.if-class-eq-BITMAP.false
