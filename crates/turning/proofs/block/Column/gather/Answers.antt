use Rattle.std.proofs.Common.{◌+◌, arith, sym}
use lib.ListN.{length-set}
use Rattle.pictures.specs.Size.{row_size}
use Rattle.turning.specs.Block.{column_byte}
use Rattle.turning.proofs.BlockLaws.{flipped_part, column_in, gathered_more, gathered_all, joined}
use Rattle.turning.proofs.block.Column.gather.Goals as goal

pub loop-i-preserved : goal.loop-i-preserved
loop-i-preserved c =
    let k = c.args.self in
    let p = k.picture in
    let more = gathered_more (λ j. column_byte p.bytes.now (row_size p.width) p.height k.up k.at (c.args.first + j)) c.loop-i.bytes c.loop-i.i _ (omega arith)
    (rw (c.flip.ensures, c.begin-top.ensures, flipped_part k.up p.height c.args.first c.args.count c.loop-i.i (omega arith) (omega arith), c.row_size-n.ensures) (sym (column_in p.bytes.now (row_size p.width) p.height k.up k.at (c.args.first + c.loop-i.i) (omega arith))))
    (c.loop-i.invariant.0, c.loop-i.invariant.1) in
    (more.0, more.1, simp length-set c.loop-i.invariant.2)

pub returns : goal.returns
returns c =
    let k = c.args.self in
    let p = k.picture in
    joined (λ j. column_byte p.bytes.now (row_size p.width) p.height k.up k.at (c.args.first + j)) c.loop-i.bytes c.from_be_bytes.result c.from_be_bytes.ensures
    (gathered_all p.bytes.now (row_size p.width) p.height k.up k.at c.args.first c.loop-i.i c.loop-i.bytes (omega arith) c.loop-i.invariant.0 c.loop-i.invariant.1)
