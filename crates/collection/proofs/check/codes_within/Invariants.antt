use Rattle.collection.specs.Figures.{codes_within}
use mathlib.Core.Bool.{true}
use mathlib.Core.Path.{◌≡◌}
use Rattle.collection.proofs.check.codes_within.Given as goal

abbrev pub invariant-loop-code : goal.invariant-loop-code
invariant-loop-code l = codes_within l.b l.most l.code ≡ true
