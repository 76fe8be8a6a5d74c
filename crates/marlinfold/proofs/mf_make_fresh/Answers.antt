use Rattle.marlinfold.proofs.mf_make_fresh.Goals as goal

pub returns : goal.returns
returns c = cc
