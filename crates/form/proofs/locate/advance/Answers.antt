use Rattle.form.proofs.Locates.{passing, passed_all, next, stopped, passed_one}
use native.Mathlib.Omega.{arith}
use Rattle.form.proofs.locate.advance.Goals as goal

pub loop-at-init : goal.loop-at-init
loop-at-init c = passing _ _ _ _ c.requires

pub key_at-requires : goal.key_at-requires
key_at-requires c = (next _ _ _ _ c.loop-at.invariant c.loop-at-test.true).told.room

pub returns-else-key_at-key : goal.returns-else-key_at-key
returns-else-key_at-key c =
    let x = c.loop-at.invariant in stopped _ _ _ _ x (next _ _ _ _ x c.loop-at-test.true) (omega (arith, c.if-key_at-key.false, c.key_at.ensures))

pub le32-at-requires : goal.le32-at-requires
le32-at-requires c = omega (arith, (next _ _ _ _ c.loop-at.invariant c.loop-at-test.true).told.room)

pub overflow_add-at : goal.overflow_add-at
overflow_add-at c =
    let d = next _ _ _ _ c.loop-at.invariant c.loop-at-test.true in omega (arith, c.le32-at.ensures, d.told.fits, c.loop-at.invariant.small)

pub loop-at-smaller : goal.loop-at-smaller
loop-at-smaller c =
    let d = next _ _ _ _ c.loop-at.invariant c.loop-at-test.true in omega (arith, c.le32-at.ensures, d.told.some, c.loop-at-test.true)

pub loop-at-preserved : goal.loop-at-preserved
loop-at-preserved c =
    let x = c.loop-at.invariant in rw c.le32-at.ensures (passed_one _ _ _ _ x (next _ _ _ _ x c.loop-at-test.true) (omega (arith, c.if-key_at-key.true, c.key_at.ensures)))

pub returns-after-loop-at : goal.returns-after-loop-at
returns-after-loop-at c = passed_all _ _ _ _ c.loop-at.invariant c.loop-at-test.false
