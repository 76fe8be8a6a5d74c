use Prim.Native.Nat.{ℕ, ◌-◌}
use mathlib.Core.Path.{◌≡◌, refl, sym, ap, ap₂, ◌∙◌}
use mathlib.Core.Bool.{Bool, ◌&&◌, not}
use native.Mathlib.Omega.{arith}
use lib.ListN.{length}
use Rattle.salvage.specs.Places.{none_start}
use Rattle.salvage.proofs.Restarts.{none_turn}
use Rattle.salvage.proofs.search.none_start.Goals as goal

pub loop-i-init : goal.loop-i-init
unfolding none_start
loop-i-init c = (omega arith, refl)

pub loop-i-preserved : goal.loop-i-preserved
loop-i-preserved c = (omega arith, ap₂ (λ (a b : Bool). a && not b) c.loop-i.invariant.1 c.may_start.ensures ∙ sym (none_turn c.args.s.now c.loop-i.i (omega arith)))

pub returns : goal.returns
returns c =
    let s = c.args.s.now in
    let e : c.loop-i.i - 3 ≡ length s - 3 = omega (arith, c.loop-i.invariant.0, c.loop-i-test.false) in
    c.loop-i.invariant.1 ∙ ap (λ (k : ℕ). none_start k s) e
