use Rattle.marlinfold.proofs.mf_download_font.Goals as goal

pub returns : goal.returns
returns c = cc
