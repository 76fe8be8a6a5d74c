use native.Mathlib.Omega.{arith}
use lib.ListN.{length-set}
use Rattle.blocks.specs.Header.{fix_header}
use Rattle.blocks.proofs.header.fix_header.Goals as goal

pub overflow_cast-size : goal.overflow_cast-size
overflow_cast-size c = omega (arith, c.own_bytes-size.ensures.1)

pub cap_extended-requires : goal.cap_extended-requires
cap_extended-requires c = simp length-set (omega (arith, c.put_word.auto.s))

pub cap_extended-requires-2 : goal.cap_extended-requires-2
cap_extended-requires-2 c = omega (arith, simp length-set at c.cap_extended.auto.s, c.put_word.auto.s)

pub shape_of-s : goal.shape_of-s
shape_of-s c = omega (arith, c.cap_extended-2.auto.s, simp length-set at c.cap_extended.auto.s, c.put_word.auto.s)

pub returns : goal.returns
unfolding fix_header
returns c = cc
