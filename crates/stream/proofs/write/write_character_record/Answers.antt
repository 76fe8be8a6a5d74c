use Rattle.stream.proofs.Writes.{character_parts, character_parts_room, joined_put}
use native.Mathlib.Omega.{arith}
use Rattle.stream.proofs.write.write_character_record.Goals as goal

pub write_head-next-requires : goal.write_head-next-requires
write_head-next-requires c = (character_parts_room c.args.code _ _ c.args.b.now c.requires).0

pub write_blocks-requires : goal.write_blocks-requires
write_blocks-requires c =
    let r = character_parts_room c.args.code _ _ c.args.b.now c.requires in
    omega (arith, r.1, c.write_head-next.ensures.0, c.write_head-next.auto.out)

pub returns : goal.returns
returns c = joined_put _ _ _ _ _ _ _ _ _ (character_parts c.args.code c.args.b.now) c.requires c.write_head-next.ensures.0 c.write_head-next.ensures.1 c.write_blocks.ensures.0 c.write_blocks.ensures.1
