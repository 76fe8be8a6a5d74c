use Rattle.stream.proofs.Writes.{too_short, wrote_all}
use borrow.Author.Rules.{rules}
use native.Mathlib.Omega.{arith}
use Rattle.stream.proofs.write.write_found.Goals as goal

pub returns-then-out-n : goal.returns-then-out-n
returns-then-out-n c = λ rs b. too_short _ _ _ _ _ c.written_length-n.ensures.0 rs b c.if-out-n.true

pub write_records-requires : goal.write_records-requires
write_records-requires c = (search rules, λ rs b. omega (arith, c.written_length-n.ensures.0 rs b, c.if-out-n.false))

pub returns : goal.returns
returns c = λ rs b. wrote_all _ _ _ _ _ c.written_length-n.ensures.0 rs b c.if-out-n.false _ c.write_records.ensures
