use Rattle.profile.proofs.Characters.{noted_is}
use Rattle.profile.specs.Pass.{found_numbers}
use Rattle.profile.proofs.pass.behind_character.Goals as goal

pub returns : goal.returns
returns c = noted_is _ (found_numbers c.args.p) _ _ _ _ _ c.next_wanted.ensures c.broken_by.ensures _ c.first_broken_of.ensures
