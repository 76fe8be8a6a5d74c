use Rattle.std.proofs.Common.{◌∙◌}
use Rattle.turning.proofs.MirrorLaws.{mirrored_whole}
use Rattle.turning.proofs.mirror.half_turn.Goals as goal

pub returns-then-picture-eq0 : goal.returns-then-picture-eq0
returns-then-picture-eq0 c = let p = c.args.picture in c.mirror_bytes.ensures ∙ mirrored_whole p.width p.height p.bytes.now p.wide.0 c.if-picture-eq0.true p.whole
