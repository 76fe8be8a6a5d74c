use mathlib.Core.Path.{◌≡◌}
use Prim.Native.Nat.{◌-◌, ◌≤◌}
use lib.ListN.{length}
use Rattle.form.specs.Records.{RecordPlace}
use Rattle.form.specs.Fonts.{fonts_at}
use Rattle.form.proofs.kept_fonts.KeptFontsIterator.next.Given as goal

abbrev pub invariant-loop-p : goal.invariant-loop-p
invariant-loop-p l = RecordPlace l.s l.p × (fonts_at l.s l.p ≡ fonts_at l.s l.fn.self.at) × (l.self ≡ l.fn.self) × (l.fn.self.at ≤ l.p)

abbrev pub decreases-loop-p : goal.decreases-loop-p
decreases-loop-p l = length l.s - l.p
