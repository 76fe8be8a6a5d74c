use Rattle.marlinfold.proofs.mf_draw_picture.Goals as goal

pub returns : goal.returns
returns c = cc
