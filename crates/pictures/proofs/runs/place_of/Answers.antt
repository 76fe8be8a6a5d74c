use Rattle.pictures.proofs.runs.place_of.Goals as goal

pub returns-then-black : goal.returns-then-black
returns-then-black c = rw c.if-black.true

pub returns-else-black : goal.returns-else-black
returns-else-black c = rw c.if-black.false
