use Rattle.pictures.proofs.Passing.{passes_then}
use Rattle.pictures.proofs.runs.Reader.pass.Goals as goal

pub pass_rows-requires : goal.pass_rows-requires
pass_rows-requires c = c.pass_count-counted.ensures.1

pub returns : goal.returns
returns c = passes_then _ _ _ _ _ _ _ (c.pass_count-counted.ensures.0 _ _) c.pass_rows.ensures
