use Rattle.marlinfold.proofs.mf_draw_row.Goals as goal

pub returns : goal.returns
returns c = cc
