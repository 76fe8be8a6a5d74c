use Rattle.form.proofs.Locates.{ends_there, from_front}
use Rattle.form.proofs.locate.seek_key.Goals as goal

pub advance-requires-2 : goal.advance-requires-2
advance-requires-2 c = from_front _ _ (ends_there _ _ c.requires) _
