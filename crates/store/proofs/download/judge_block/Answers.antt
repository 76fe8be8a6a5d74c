use mathlib.Core.Path.{◌∙◌}
use Rattle.blocks.specs.Character.{descriptor_bytes}
use Rattle.store.proofs.Downloads.{to_end}
use Rattle.store.proofs.download.judge_block.Goals as goal

pub returns : goal.returns
returns c = c.judge_first.ensures ∙ rw (c.width.ensures, c.height.ensures, c.class.ensures, to_end descriptor_bytes c.args.block.now)
