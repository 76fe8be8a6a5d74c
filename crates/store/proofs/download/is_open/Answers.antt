use mathlib.Core.Path.{◌∙◌}
use Rattle.form.specs.Model.{mark_in}
use Rattle.change.proofs.Unmarks.{names_character}
use Rattle.store.proofs.download.is_open.Goals as goal

pub returns : goal.returns
returns c = c.eq.ensures ∙ rw c.open_character.ensures (names_character c.args.id (mark_in c.args.s.now))
