use Rattle.std.proofs.Common.{arith, le-ltb, lt-ltb, eq-eqb, ne_eqb, le-leb}
use borrow.Author.Tests.{lt-leb}
use Rattle.choice.proofs.weight_number.Goals as goal

pub returns-then-a-w : goal.returns-then-a-w
returns-then-a-w c = (simp (eq-eqb _ _ c.if-a-w.true), omega arith)

pub returns-then-a-w-2 : goal.returns-then-a-w-2
returns-then-a-w-2 c = (simp (ne_eqb _ _ c.if-a-w.false, le-leb _ _ c.if-a-ge128.true, lt-ltb _ _ c.if-a-w-2.true), omega arith)

pub returns-else-a-w-2 : goal.returns-else-a-w-2
returns-else-a-w-2 c = (simp (ne_eqb _ _ c.if-a-w.false, le-leb _ _ c.if-a-ge128.true, le-ltb _ _ c.if-a-w-2.false), omega arith)

pub returns-then-w-a : goal.returns-then-w-a
returns-then-w-a c = (simp (ne_eqb _ _ c.if-a-w.false, lt-leb _ _ c.if-a-ge128.false, lt-ltb _ _ c.if-w-a.true), omega arith)

pub returns-else-w-a : goal.returns-else-w-a
returns-else-w-a c = (simp (ne_eqb _ _ c.if-a-w.false, lt-leb _ _ c.if-a-ge128.false, le-ltb _ _ c.if-w-a.false), omega arith)
