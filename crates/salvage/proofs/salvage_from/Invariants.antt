use Rattle.salvage.specs.Onward.{going_on}
use mathlib.Core.Path.{◌≡◌}
use Rattle.salvage.specs.Onward.{going_on}
use Rattle.salvage.specs.Salvage.{room_of}
use Rattle.stream.specs.Underway.{Underway}
use Rattle.stream.specs.Reading.{first_target}
use lib.ListN.{length}
use Prim.Native.Nat.{◌-◌, ◌*◌, ◌≤◌}
use mathlib.Core.Path.{◌≡◌}
use Rattle.salvage.proofs.salvage_from.Given as goal

abbrev pub invariant-loop-first : goal.invariant-loop-first
invariant-loop-first l = Underway (length l.stream) l.s l.x × (l.x.target ≡ first_target) × (l.n ≤ l.room) × (l.room * 16 ≤ length l.list) × (length l.s ≡ length l.initial.s) × (length l.list ≡ length l.initial.list) × (going_on l.stream l.s l.list l.n (l.room - l.n) l.x ≡ going_on l.stream l.initial.s l.initial.list 0 (room_of (length l.initial.list)) l.initial.x)

abbrev pub decreases-loop-first : goal.decreases-loop-first
decreases-loop-first l = l.room - l.n
