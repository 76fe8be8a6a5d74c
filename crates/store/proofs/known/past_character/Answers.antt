use native.Mathlib.Omega.{arith}
use Rattle.store.proofs.known.past_character.Goals as goal

pub returns-then-answer-eq10 : goal.returns-then-answer-eq10
returns-then-answer-eq10 c =
    let x = c.requires in record { store = x.store; is = x.is; low = x.low; used = x.struck c.if-answer-eq10.true; lo = x.lo; at = x.lo }

pub le32-requires : goal.le32-requires
le32-requires c = omega (arith, c.requires.room c.if-answer-eq0.true)

pub overflow_add-result-then-answer-eq0 : goal.overflow_add-result-then-answer-eq0
overflow_add-result-then-answer-eq0 c = omega (arith, c.le32.ensures, c.requires.grown c.if-answer-eq0.true, c.requires.short)

pub returns-then-answer-eq0 : goal.returns-then-answer-eq0
returns-then-answer-eq0 c =
    let x = c.requires in record { store = x.store; is = x.is; low = x.low; used = omega (arith, c.le32.ensures, x.grown c.if-answer-eq0.true); lo = x.lo; at = x.from c.if-answer-eq10.false }

pub returns : goal.returns
returns c =
    let x = c.requires in record { store = x.store; is = x.is; low = x.low; used = x.same c.if-answer-eq10.false c.if-answer-eq0.false; lo = x.lo; at = x.from c.if-answer-eq10.false }
