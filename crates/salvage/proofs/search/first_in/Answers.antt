use mathlib.Core.Path.{◌≡◌, sym, ap, ◌∙◌}
use native.Mathlib.Omega.{arith}
use Rattle.salvage.specs.Salvage.{restarts, restart_from}
use Rattle.salvage.proofs.Restarts.{restart_later}
use Rattle.salvage.proofs.search.first_in.Goals as goal

pub returns-then-restarts_at : goal.returns-then-restarts_at
returns-then-restarts_at c = (omega arith, c.loop-i.invariant, λ l. sym c.restarts_at.ensures ∙ c.if-restarts_at.true)

pub loop-i-preserved : goal.loop-i-preserved
loop-i-preserved c =
    sym (restart_later c.args.stream.now c.loop-i.i (omega (arith, c.loop-i-test.true, c.requires.1)) (sym c.restarts_at.ensures ∙ c.if-restarts_at.false))
    ∙ c.loop-i.invariant

pub returns : goal.returns
returns c =
    let e : c.args.to ≡ c.loop-i.i = omega arith in
    (omega arith, ap (restart_from c.args.stream.now) e ∙ c.loop-i.invariant, λ l. absurd (omega (arith, l)))
