use Rattle.marlinfold.proofs.mf_remove_character.Goals as goal

pub returns : goal.returns
returns c = cc
