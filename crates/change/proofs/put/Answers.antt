use Rattle.std.proofs.Common.{◌≡◌, ◌+◌, ◌-◌, ◌∙◌, length, take, ap}
use Rattle.form.specs.Num.{low_first}
use Rattle.form.proofs.Numbers.{length_le}
use Rattle.change.proofs.Puts.{bytes_of_number}
use Rattle.change.proofs.Written.{mid_put}
use native.Mathlib.Omega.{arith}
use Rattle.change.proofs.put.Goals as goal

pub returns : goal.returns
returns g c =
    let n = g.row.N in
    let a = c.args in
    let l : length (low_first n a.v) ≡ a.at + n - a.at = omega (arith, length_le n a.v) in
    let e = c.copy_from_slice.ensures.after ∙ ap (take n) c.to_le_bytes.ensures ∙ bytes_of_number n a.v c.requires.0 in
    rw e (mid_put a.s.now a.at (a.at + n) (low_first n a.v) (omega arith) l)
