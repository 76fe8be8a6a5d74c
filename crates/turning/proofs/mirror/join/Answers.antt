use Rattle.std.proofs.Common.{rules}
use Rattle.turning.proofs.MirrorLaws.{joined_at}
use Rattle.turning.proofs.mirror.join.Goals as goal

pub returns : goal.returns
returns c = joined_at c.args.left c.args.right _ _ c.args.place c.from.ensures c.from-2.ensures (search rules) (search rules) c.requires
