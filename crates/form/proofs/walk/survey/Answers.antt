use mathlib.Core.Path.{◌≡◌, refl, sym, ap, ◌∙◌, subst}
use Rattle.std.specs.declared.ops.ControlFlow.TheVariants.{Continue, Break}
use lib.ListN.{length, drop}
use Rattle.form.specs.Walk.{Step, walked, walk_after, Ahead}
use borrow.Author.Rules.{rules}
use native.Mathlib.Omega.{arith}
use Rattle.form.proofs.walk.survey.Goals as goal

pub loop-next-init : goal.loop-next-init
loop-next-init c = (record { at = search rules; characters = search rules; bytes = search rules }, refl)

pub loop-next-smaller : goal.loop-next-smaller
unfolding Ahead
loop-next-smaller c =
    let h : Ahead (length c.args.s.now) c.loop-next.p (Continue c.in-Continue.next) = subst (λ (r : Step). Ahead (length c.args.s.now) c.loop-next.p r) c.in-Continue.is c.walk_one.ensures.1 in
    omega (arith, h.0, h.1.at)

pub loop-next-preserved : goal.loop-next-preserved
unfolding Ahead walk_after
loop-next-preserved c =
    let h : Ahead (length c.args.s.now) c.loop-next.p (Continue c.in-Continue.next) = subst (λ (r : Step). Ahead (length c.args.s.now) c.loop-next.p r) c.in-Continue.is c.walk_one.ensures.1 in
    let o : walk_after c.args.font c.args.mark c.args.s.now (Continue c.in-Continue.next) ≡ walked c.args.font c.args.mark c.loop-next.p (drop c.loop-next.p.at c.args.s.now) = sym (ap (walk_after c.args.font c.args.mark c.args.s.now) c.in-Continue.is) ∙ c.walk_one.ensures.0 in
    (h.1, o ∙ c.loop-next.invariant.1)

pub returns-in-Break : goal.returns-in-Break
unfolding walk_after
returns-in-Break c =
    let o : walk_after c.args.font c.args.mark c.args.s.now (Break c.in-Break.w) ≡ walked c.args.font c.args.mark c.loop-next.p (drop c.loop-next.p.at c.args.s.now) = sym (ap (walk_after c.args.font c.args.mark c.args.s.now) c.in-Break.is) ∙ c.walk_one.ensures.0 in
    o ∙ c.loop-next.invariant.1
