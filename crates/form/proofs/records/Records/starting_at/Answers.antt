use mathlib.Core.Path.{refl}
use Rattle.std.proofs.lemmas.List.{take_rest}
use Rattle.form.proofs.Runs.{run_from, run_from_records}
use Rattle.form.proofs.records.Records.starting_at.Goals as goal

pub returns : goal.returns
returns c = rw (take_rest c.args.s.now c.args.at) (run_from c.args.s.now c.args.at c.requires, run_from_records c.args.s.now c.args.at, refl)
