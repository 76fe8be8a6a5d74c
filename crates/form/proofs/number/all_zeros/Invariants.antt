use mathlib.Core.Path.{◌≡◌}
use lib.Dec.{eqb}
use lib.ListN.{drop}
use Rattle.form.specs.Num.{◌and◌, all_zero}
use Rattle.form.proofs.number.all_zeros.Given as goal

abbrev pub invariant-loop-b : goal.invariant-loop-b
invariant-loop-b l = eqb l.any 0 and all_zero (drop l.b-index l.s) ≡ all_zero l.s
