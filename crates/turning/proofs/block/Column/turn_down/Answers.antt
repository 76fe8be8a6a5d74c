use Rattle.turning.proofs.block.Column.turn_down.Goals as goal

pub returns : goal.returns
returns c = rw c.requires.0 c.turn.ensures
