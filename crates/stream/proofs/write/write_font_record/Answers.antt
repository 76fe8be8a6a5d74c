use Rattle.stream.specs.Writing.{font_block_command}
use lib.ListN.{length-take}
use Rattle.stream.proofs.Writes.{own_part, font_parts, font_parts_room, joined_put}
use native.Mathlib.Omega.{arith}
use Rattle.stream.proofs.write.write_font_record.Goals as goal

pub write_head-next-requires : goal.write_head-next-requires
unfolding font_block_command
write_head-next-requires c = (font_parts_room c.args.number _ _ c.args.h.now c.requires.1).0

pub slice_bounds-write_block-end : goal.slice_bounds-write_block-end
unfolding font_block_command
slice_bounds-write_block-end c = simp length-take (omega (arith, c.own_bytes-n.ensures.1, c.requires.0))

pub write_block-requires : goal.write_block-requires
unfolding font_block_command
write_block-requires c =
    let r = font_parts_room c.args.number _ _ c.args.h.now c.requires.1 in
    rw (own_part c.args.h.now _ c.own_bytes-n.ensures.0) (omega (arith, r.1, c.write_head-next.ensures.0, c.write_head-next.auto.out))

pub returns : goal.returns
unfolding font_block_command
returns c =
    let own = own_part c.args.h.now _ c.own_bytes-n.ensures.0 in
    joined_put _ _ _ _ _ _ _ _ _ (font_parts c.args.number c.args.h.now) c.requires.1 c.write_head-next.ensures.0 c.write_head-next.ensures.1 (rw own at c.write_block.ensures.0) (rw own at c.write_block.ensures.1)
