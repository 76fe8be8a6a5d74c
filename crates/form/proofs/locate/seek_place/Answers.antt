use Rattle.form.proofs.Locates.{from_here, ends_there, from_found}
use Rattle.form.proofs.locate.seek_place.Goals as goal

pub advance-requires : goal.advance-requires
advance-requires c = from_found _ _ (ends_there _ _ c.requires.0) _ _ _ c.requires.1 c.requires.2

pub advance-requires-then-c-lo : goal.advance-requires-then-c-lo
advance-requires-then-c-lo c = from_found _ _ (ends_there _ _ c.requires.0) _ _ _ c.requires.1 c.requires.2

pub advance-requires-2 : goal.advance-requires-2
advance-requires-2 c = from_here _ _ c.requires.0 _ c.if-key-c.false
