use mathlib.Core.Path.{◌≡◌}
use Prim.Native.Nat.{◌-◌}
use lib.ListN.{length, drop}
use Rattle.form.specs.Layout.{mark_record}
use Rattle.form.specs.Walk.{walked, walk_start, Within}
use Rattle.form.proofs.walk.survey.Given as goal

abbrev pub invariant-loop-next : goal.invariant-loop-next
invariant-loop-next l = Within (length l.s) l.p × (walked l.font l.mark l.p (drop l.p.at l.s) ≡ walked l.font l.mark walk_start (drop mark_record l.s))

abbrev pub decreases-loop-next : goal.decreases-loop-next
decreases-loop-next l = length l.s - l.p.at
