use borrow.Author.Rules.{rules}
use native.Mathlib.Omega.{arith}
use lib.ListN.{length-set}
use Rattle.blocks.specs.Character.{fix_first}
use Rattle.blocks.proofs.character.fix_first.Goals as goal

pub shape_of-s : goal.shape_of-s
shape_of-s c = omega (arith, simp length-set at c.floor_word.auto.s)

pub returns : goal.returns
unfolding fix_first
returns c = search rules
