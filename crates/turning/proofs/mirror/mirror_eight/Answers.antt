use Rattle.std.proofs.Common.{◌≡◌, ◌-◌, length, get_or, rules, arith, ◌∙◌}
use Rattle.turning.specs.Mirror.{mirror}
use Rattle.turning.proofs.PictureLaws.{set_next}
use Rattle.turning.proofs.MirrorLaws.{mirrored_list}
use Rattle.turning.proofs.mirror.mirror_eight.Goals as goal

pub loop-k-preserved : goal.loop-k-preserved
loop-k-preserved c =
    let bs = c.args.bytes.now in
    set_next (λ k. mirror (get_or bs (7 - k) 0)) c.loop-k.out c.loop-k.k c.mirrored.result (omega arith)
    c.mirrored.ensures
    c.loop-k.invariant

pub returns : goal.returns
returns c =
    let bs = c.args.bytes.now in
    let n : length bs ≡ 8 = search rules in
    mirrored_list bs c.loop-k.out (omega arith) (λ k l. let e : 7 - k ≡ length bs - 1 - k = omega arith in c.loop-k.invariant k (omega arith) ∙ rw e)
