use Rattle.form.proofs.Locates.{reached_end}
use Rattle.form.proofs.locate.reach.Goals as goal

pub returns-then-end-key : goal.returns-then-end-key
returns-then-end-key c = reached_end _ _ _ _ c.requires.0 c.if-end-key.true

pub advance-requires : goal.advance-requires
advance-requires c = c.requires.1
