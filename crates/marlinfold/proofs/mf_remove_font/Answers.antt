use Rattle.marlinfold.proofs.mf_remove_font.Goals as goal

pub returns : goal.returns
returns c = cc
