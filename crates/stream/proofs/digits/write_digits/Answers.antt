use Rattle.stream.proofs.Decimals.{written_none, written_more}
use lib.ListN.{length-set}
use borrow.Author.Rules.{rules}
use native.Mathlib.Omega.{arith}
use Rattle.stream.proofs.digits.write_digits.Goals as goal

pub loop-i-init : goal.loop-i-init
loop-i-init c = (search rules, written_none _ _ _ _ (omega arith))

pub loop-i-preserved : goal.loop-i-preserved
loop-i-preserved c = (simp length-set c.loop-i.invariant.0, written_more _ _ _ _ _ _ c.requires c.loop-i-test.true c.loop-i.invariant.1)
