use Rattle.std.proofs.Common.{◌≡◌, ℕ, ◌+◌, ◌*◌, ◌-◌, ◌≤◌, List, length, take, drop, arith, sym, ◌∙◌}
use lib.ListN.{length-take, length-drop}
use Rattle.pictures.specs.Size.{row_size}
use Rattle.turning.specs.Turn.{turned}
use Rattle.turning.proofs.PictureLaws.{row_fits}
use Rattle.turning.proofs.MirrorLaws.{RowOf, row_of, row_next, half_byte_lem, length_half, half_all}
use Rattle.turning.proofs.mirror.mirror_rows.Goals as goal

pub loop-row-preserved : goal.loop-row-preserved
loop-row-preserved c =
    let p = c.args.picture in
    let s : List ℕ = p.bytes.now in
    let n : ℕ = c.row_size-n.result in
    let r : ℕ = c.loop-row.row in
    let from : ℕ = (p.height - 1 - r) * n in
    let size : n ≡ row_size p.width = c.row_size-n.ensures in
    let ahead : r * n + n ≤ length s = rw size (omega (arith, p.whole, row_fits (row_size p.width) p.height r c.loop-row-test.true)) in
    let of : RowOf s n from (take (from + n - from) (drop from s)) = row_of s n from (from + n - from) (omega arith) (rw size (omega (arith, p.whole, row_fits (row_size p.width) p.height (p.height - 1 - r) (omega arith)))) in
    let more : (r + 1) * row_size p.width ≡ r * n + n = rw size (omega arith) in
    row_next (turned 2 p.width p.height s) c.loop-row.out c.mirror_row.new.out (r * n) n ((r + 1) * row_size p.width) more (omega (arith, length_half p.width p.height s)) (omega arith) (c.mirror_row.auto.out ∙ simp (length-take, length-drop) (omega arith)) (rw size c.loop-row.invariant)
    (λ q l. c.mirror_row.ensures q (omega (arith, of.long)) ∙ sym (half_byte_lem p.width p.height s n (n * 8 - p.width) size (omega arith) (omega arith) r c.loop-row-test.true (take (from + n - from) (drop from s)) of (omega (arith, p.whole)) q l))

pub returns : goal.returns
returns c = let p = c.args.picture in half_all p.width p.height p.bytes.now c.loop-row.out c.loop-row.row (omega (arith, p.whole)) (omega arith) (omega (arith, p.whole)) c.loop-row.invariant
