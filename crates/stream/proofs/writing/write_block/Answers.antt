use lib.ListN.{length, length-append}
use Rattle.stream.specs.Writing.{command_head}
use Rattle.stream.proofs.Spellings.{block_put}
use native.Mathlib.Omega.{arith}
use Rattle.stream.proofs.writing.write_block.Goals as goal

pub write_head-from-requires : goal.write_head-from-requires
write_head-from-requires c =
    let b = c.args.b.now in
    omega (arith, length-append (command_head c.args.head (length b)) b)

pub write_bytes-requires : goal.write_bytes-requires
write_bytes-requires c =
    let b = c.args.b.now in
    omega (arith, c.write_head-from.ensures.0, c.write_head-from.auto.out, length-append (command_head c.args.head (length b)) b)

pub returns : goal.returns
returns c =
    let b = c.args.b.now in
    block_put _ (command_head c.args.head (length b)) b _ _ _ _ _ c.requires c.write_head-from.ensures.0 c.write_head-from.ensures.1 c.write_bytes.ensures.0 c.write_bytes.ensures.1
