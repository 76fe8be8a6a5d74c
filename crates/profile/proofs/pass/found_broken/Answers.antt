use borrow.Author.Tests.{le-leb, lt-leb}
use Rattle.profile.specs.Pass.{found_broken}
use Rattle.profile.proofs.Characters.{told_is}
use Rattle.profile.proofs.pass.found_broken.Goals as goal

pub returns-then-p-le-LAST_REQUIRED : goal.returns-then-p-le-LAST_REQUIRED
unfolding found_broken
returns-then-p-le-LAST_REQUIRED c = rw (le-leb _ _ c.if-p-le-LAST_REQUIRED.true)

pub returns : goal.returns
unfolding found_broken
returns c = rw (lt-leb _ _ c.if-p-le-LAST_REQUIRED.false) (told_is c.args.p.broken)
