use mathlib.Core.Path.{◌∙◌}
use Rattle.store.proofs.Downloads.{to_end}
use Rattle.store.proofs.download.judge_more.Goals as goal

pub returns : goal.returns
returns c = c.judge_joined.ensures ∙ rw (c.width.ensures, c.height.ensures, c.class.ensures, to_end 2 c.args.block.now)
