use Rattle.std.proofs.Common.{◌∙◌, le-leb}
use borrow.Author.Tests.{lt-leb}
use Rattle.pictures.specs.Picture.{held}
use Rattle.pictures.proofs.picture.held_in.Goals as goal

pub returns-then-bytes-gt-DATA_LIMIT : goal.returns-then-bytes-gt-DATA_LIMIT
unfolding held
returns-then-bytes-gt-DATA_LIMIT c = rw (lt-leb _ _ c.if-bytes-gt-DATA_LIMIT.true)

pub returns : goal.returns
unfolding held
returns c = c.held_by.ensures ∙ rw (le-leb _ _ c.if-bytes-gt-DATA_LIMIT.false, c.judge_first.ensures)
