use Rattle.stream.specs.Writing.{character_block_command}
use mathlib.Core.Path.{ap}
use lib.ListN.{length, length-take}
use Rattle.stream.proofs.Writes.{blocks_one, blocks_two, blocks_room, joined_put}
use native.Mathlib.Omega.{arith}
use Rattle.stream.proofs.write.write_blocks.Goals as goal

pub write_block-requires : goal.write_block-requires
unfolding character_block_command
write_block-requires c = omega (arith, ap length (blocks_one c.args.b.now c.if-b-le-BLOCK_LIMIT.true), c.requires)

pub returns-then-b-le-BLOCK_LIMIT : goal.returns-then-b-le-BLOCK_LIMIT
unfolding character_block_command
returns-then-b-le-BLOCK_LIMIT c = rw (blocks_one c.args.b.now c.if-b-le-BLOCK_LIMIT.true) c.write_block.ensures

pub slice_bounds-write_block-end : goal.slice_bounds-write_block-end
unfolding character_block_command
slice_bounds-write_block-end c = simp length-take (omega (arith, c.if-b-le-BLOCK_LIMIT.false))

pub write_block-next-requires : goal.write_block-next-requires
unfolding character_block_command
write_block-next-requires c = (blocks_room c.args.b.now _ _ c.if-b-le-BLOCK_LIMIT.false c.requires).0

pub write_continuation-requires : goal.write_continuation-requires
unfolding character_block_command
write_continuation-requires c =
    let r = blocks_room c.args.b.now _ _ c.if-b-le-BLOCK_LIMIT.false c.requires in omega (arith, r.1, c.write_block-next.ensures.0, c.write_block-next.auto.out)

pub returns : goal.returns
unfolding character_block_command
returns c = joined_put _ _ _ _ _ _ _ _ _ (blocks_two c.args.b.now c.if-b-le-BLOCK_LIMIT.false) c.requires c.write_block-next.ensures.0 c.write_block-next.ensures.1 c.write_continuation.ensures.0 c.write_continuation.ensures.1
