use Rattle.std.proofs.Common.{refl}
use Rattle.profile.specs.Pass.{behind_record}
use Rattle.profile.proofs.pass.pass_record.Goals as goal

pub returns-in-Font : goal.returns-in-Font
unfolding behind_record
returns-in-Font c = rw c.in-Font.is refl

pub returns-in-Character : goal.returns-in-Character
unfolding behind_record
returns-in-Character c = rw (c.in-Character.is, ← c.split_at.ensures.front, ← c.split_at.ensures.back) c.behind_character.ensures
