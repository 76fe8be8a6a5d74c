use mathlib.Core.Path.{refl}
use Rattle.form.proofs.Runs.{run_between, run_between_records}
use Rattle.form.proofs.records.Records.between.Goals as goal

pub returns : goal.returns
returns c = (run_between c.args.s.now c.args.lo c.args.hi c.requires.0 c.requires.1, λ rs w. run_between_records c.args.s.now c.args.lo c.args.hi rs w, refl)
