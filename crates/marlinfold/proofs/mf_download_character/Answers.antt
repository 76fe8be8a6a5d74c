use Rattle.marlinfold.proofs.Outcomes.{downloaded_by}
use Rattle.marlinfold.proofs.mf_download_character.Goals as goal

pub returns : goal.returns
returns c = downloaded_by c.download_character.ensures.value c.download_character.ensures.s_after
