use Rattle.std.proofs.Common.{◌-◌, length, get_or, arith}
use Rattle.turning.specs.Mirror.{mirror}
use Rattle.turning.proofs.PictureLaws.{set_next}
use Rattle.turning.proofs.MirrorLaws.{mirrored_list}
use Rattle.turning.proofs.mirror.mirror_run.Goals as goal

pub loop-k-preserved : goal.loop-k-preserved
loop-k-preserved c = set_next (λ k. mirror (get_or c.args.bytes.now (length c.args.bytes.now - 1 - k) 0)) c.loop-k.out c.loop-k.k c.mirrored.result (omega arith) c.mirrored.ensures c.loop-k.invariant

pub returns : goal.returns
returns c = mirrored_list c.args.bytes.now c.loop-k.out (omega arith) (λ k l. c.loop-k.invariant k (omega arith))
