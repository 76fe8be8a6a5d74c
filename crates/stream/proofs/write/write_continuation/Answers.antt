use lib.ListN.{length-set}
use Rattle.stream.proofs.Writes.{continuation_length, continuation_put}
use native.Mathlib.Omega.{arith}
use Rattle.stream.proofs.write.write_continuation.Goals as goal

pub bounds-out-next-2 : goal.bounds-out-next-2
bounds-out-next-2 c = simp length-set (omega (arith, continuation_length c.args.b.now, c.requires, c.write_head-next.ensures.0, c.write_head-next.auto.out))

pub write_bytes-requires : goal.write_bytes-requires
write_bytes-requires c = simp length-set (omega (arith, continuation_length c.args.b.now, c.requires, c.write_head-next.ensures.0, c.write_head-next.auto.out))

pub returns : goal.returns
returns c = continuation_put _ c.args.b.now _ _ _ _ _ c.requires c.write_head-next.ensures.0 c.write_head-next.ensures.1 c.write_bytes.ensures.0 c.write_bytes.ensures.1
