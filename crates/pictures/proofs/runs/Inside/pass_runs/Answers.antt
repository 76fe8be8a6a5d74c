use Rattle.pictures.proofs.Passing.{runs_then, runs_within}
use Rattle.pictures.proofs.runs.Inside.pass_runs.Goals as goal

pub returns-then-width-lt-WIDE : goal.returns-then-width-lt-WIDE
returns-then-width-lt-WIDE c = c.pass_pairs.ensures

pub pass_pairs-requires-2 : goal.pass_pairs-requires-2
pass_pairs-requires-2 c = runs_within _ _ _ c.pass_eights.ensures

pub returns : goal.returns
returns c = runs_then _ c.args.self c.pass_eights.result c.pass_pairs-2.result c.pass_eights.ensures c.pass_pairs-2.ensures
