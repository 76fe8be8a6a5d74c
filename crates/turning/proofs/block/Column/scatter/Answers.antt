use Rattle.std.proofs.Common.{not, ◌+◌, ◌*◌, slice_index_or, arith, ap}
use Rattle.turning.proofs.BlockLaws.{flipped_part, flipped_in, put_next, byte_in}
use Rattle.pictures.specs.Size.{row_size}
use Rattle.turning.proofs.block.Column.scatter.Goals as goal

pub loop-i-preserved : goal.loop-i-preserved
loop-i-preserved c =
    let k = c.args.self in
    let p = k.picture in
    let byte = byte_in c.args.block c.loop-i.i (slice_index_or c.to_be_bytes-bytes.result c.loop-i.i 0) (omega arith) (ap (λ b. slice_index_or b c.loop-i.i 0) c.to_be_bytes-bytes.ensures) in
    rw (c.flip.ensures, c.begin-top.ensures, flipped_part (not k.up) p.width (k.at * 8) c.args.count c.loop-i.i (omega arith) (omega arith), c.column_size-m.ensures, byte)
    (put_next c.args.block (row_size p.height) p.width k.up c.args.place (k.at * 8) c.requires.0 c.args.out.now c.loop-i.i c.loop-i.out (omega arith) (omega arith) c.loop-i.invariant)

pub bounds-out-top : goal.bounds-out-top
bounds-out-top c =
    let k = c.args.self in
    let p = k.picture in
    let inside = flipped_in (not k.up) p.width (row_size p.height) (k.at * 8 + c.loop-i.i) c.args.place (omega arith) (omega arith) in
    rw (c.flip.ensures, c.begin-top.ensures, flipped_part (not k.up) p.width (k.at * 8) c.args.count c.loop-i.i (omega arith) (omega arith), c.column_size-m.ensures) (omega (arith, inside))
