use lib.ListN.{length-set}
use Rattle.stream.proofs.Spellings.{length_spelling, spelling_put}
use native.Mathlib.Omega.{arith}
use Rattle.stream.proofs.writing.write_spelling.Goals as goal

pub bounds-out-at-2 : goal.bounds-out-at-2
bounds-out-at-2 c =
    let a = c.args in
    simp length-set (omega (arith, length_spelling a.second a.third a.n a.letter))

pub bounds-out-at-3 : goal.bounds-out-at-3
bounds-out-at-3 c =
    let a = c.args in
    simp length-set (omega (arith, length_spelling a.second a.third a.n a.letter))

pub write_digits-end-requires : goal.write_digits-end-requires
write_digits-end-requires c =
    let a = c.args in
    simp length-set (omega (arith, length_spelling a.second a.third a.n a.letter))

pub bounds-out-end : goal.bounds-out-end
bounds-out-end c =
    let a = c.args in
    omega (arith, c.write_digits-end.ensures.0, simp length-set at c.write_digits-end.auto.out, length_spelling a.second a.third a.n a.letter)

pub returns : goal.returns
returns c =
    let a = c.args in
    (omega (arith, length_spelling a.second a.third a.n a.letter), spelling_put _ _ _ _ _ _ _ _ c.requires c.write_digits-end.ensures.1 c.write_digits-end.ensures.0)
