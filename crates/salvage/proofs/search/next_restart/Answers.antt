use Prim.Native.Nat.{◌+◌, ◌*◌, ◌/◌}
use mathlib.Core.Path.{◌≡◌, ap, ◌∙◌}
use native.Mathlib.Omega.{arith}
use Rattle.salvage.specs.Salvage.{restart_from}
use Rattle.salvage.proofs.Restarts.{restart_found}
use Rattle.salvage.proofs.search.next_restart.Goals as goal

pub loop-k-init : goal.loop-k-init
loop-k-init c =
    let e : c.args.at + 0 * 64 ≡ c.args.at = omega arith in
    ap (restart_from c.args.stream.now) e

pub returns-then-first-from : goal.returns-then-first-from
returns-then-first-from c =
    let s = c.args.stream.now in
    let m = c.among_many-first.ensures in
    restart_found s c.among_many-first.result (omega arith) (λ _. m.2 c.if-first-from.true) ∙ m.1 ∙ c.loop-k.invariant

pub loop-k-preserved : goal.loop-k-preserved
loop-k-preserved c =
    let s = c.args.stream.now in
    let m = c.among_many-first.ensures in
    let e : c.args.at + (c.loop-k.k + 1) * 64 ≡ c.among_many-first.result = omega (arith, m.0, c.if-first-from.false) in
    ap (restart_from s) e ∙ m.1 ∙ c.loop-k.invariant

pub returns : goal.returns
returns c =
    let s = c.args.stream.now in
    let m = c.first_in.ensures in
    let e : c.args.at + c.saturating_sub-groups.result / 64 * 64 ≡ c.args.at + c.loop-k.k * 64 = omega arith in
    restart_found s c.first_in.result m.0 m.2 ∙ m.1 ∙ ap (restart_from s) e ∙ c.loop-k.invariant
