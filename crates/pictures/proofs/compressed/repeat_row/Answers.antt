use Rattle.std.proofs.Common.{◌≡◌, ◌+◌, ◌≤◌, length, take, refl, ◌∙◌, mul-le-mul_right, add-mul, one-mul, arith, length-take-le}
use native.Mathlib.Nat.{sub-zero}
use Rattle.pictures.proofs.Copies.{repeat_more, repeat_one}
use Rattle.pictures.proofs.compressed.repeat_row.Goals as goal

pub loop-done-init : goal.loop-done-init
loop-done-init c = (omega arith, omega arith, refl, repeat_one (take c.args.n c.args.out.now) c.args.n c.args.out.now refl)

pub copy_within-requires-clause-dest_in_bounds : goal.copy_within-requires-clause-dest_in_bounds
copy_within-requires-clause-dest_in_bounds c =
    let n = c.args.n in
    let d = c.loop-done.done in
    let k = c.min-more.result in
    let b : d + k ≤ c.args.times = omega arith in
    omega (arith, mul-le-mul_right n b, add-mul d k n)

pub loop-done-preserved : goal.loop-done-preserved
loop-done-preserved c =
    let n = c.args.n in
    let o = c.args.out.now in
    let one : 1 ≤ c.args.times = c.requires.0 in
    let l : length (take n o) ≡ n = length-take-le n o (omega (arith, mul-le-mul_right n one, one-mul n)) in (
      omega arith,
      omega arith,
      omega (arith, c.copy_within.ensures.len),
      c.copy_within.ensures.after ∙ rw sub-zero (repeat_more (take n o) c.loop-done.done c.min-more.result n _ o l (omega arith) c.loop-done.invariant.3),
    )
