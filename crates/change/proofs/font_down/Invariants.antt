use mathlib.Core.Path.{◌≡◌}
use Prim.Native.Nat.{◌+◌}
use lib.ListN.{drop}
use lib.Seq.{paste}
use Rattle.form.specs.Layout.{font_record}
use Rattle.change.proofs.font_down.Given as goal

abbrev pub invariant-loop-i : goal.invariant-loop-i
invariant-loop-i l = l.s ≡ paste l.initial.s l.to (drop (l.to + font_record) l.initial.s) l.i
