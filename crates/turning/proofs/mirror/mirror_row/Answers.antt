use Rattle.std.proofs.Common.{◌≡◌, ◌+◌, ◌-◌, length, arith, sym, ◌∙◌}
use Rattle.turning.specs.MirrorBytes.{half_byte}
use Rattle.turning.proofs.PictureLaws.{set_next}
use Rattle.turning.proofs.MirrorLaws.{mirrored_in, joined_as, last_as}
use Rattle.turning.proofs.mirror.mirror_row.Goals as goal

pub loop-q-init : goal.loop-q-init
loop-q-init c = (c.mirrored-left.ensures ∙ sym (mirrored_in c.args.row.now 0 _ (omega arith) (omega arith)), λ q l. absurd (omega arith))

pub loop-q-preserved : goal.loop-q-preserved
loop-q-preserved c =
    let row = c.args.row.now in
    let q = c.loop-q.q in
    let right = c.mirrored-right.ensures ∙ sym (mirrored_in row (q + 1) _ (omega arith) (omega arith)) in
    (right, set_next (half_byte row c.args.padding) c.loop-q.out q c.join.result (omega arith) (c.join.ensures ∙ joined_as row c.args.padding q c.loop-q.left c.mirrored-right.result c.loop-q.invariant.0 right) c.loop-q.invariant.1)

pub returns : goal.returns
returns c =
    let row = c.args.row.now in
    let e : c.loop-q.q ≡ length row - 1 = omega arith in
    let last = c.join-2.ensures ∙ last_as row c.args.padding (length row - 1) c.loop-q.left (omega arith) (rw e at c.loop-q.invariant.0) in
    λ q l. set_next (half_byte row c.args.padding) c.loop-q.out (length row - 1) c.join-2.result (omega arith) last (rw e at c.loop-q.invariant.1) q (omega arith)
