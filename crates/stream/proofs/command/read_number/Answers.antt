use mathlib.Core.Path.{sym, ◌∙◌}
use Rattle.stream.proofs.Commands.{number_start, number_bound, number_next, number_stop, number_full}
use native.Mathlib.Omega.{arith}
use Rattle.stream.proofs.command.read_number.Goals as goal

pub loop-at-init : goal.loop-at-init
loop-at-init c = number_start _

pub returns-then-not-is_ascii_digit : goal.returns-then-not-is_ascii_digit
returns-then-not-is_ascii_digit c =
    (sym (number_stop _ _ _ _ c.byte_at-b.ensures (sym c.is_ascii_digit.ensures.value ∙ c.if-not-is_ascii_digit.true)) ∙ c.loop-at.invariant, number_bound _ _ _ c.loop-at.invariant, omega arith)

pub overflow_mul-value : goal.overflow_mul-value
overflow_mul-value c = omega (arith, number_bound _ _ _ c.loop-at.invariant)

pub overflow_add-value : goal.overflow_add-value
overflow_add-value c = omega (arith, number_bound _ _ _ c.loop-at.invariant)

pub loop-at-preserved : goal.loop-at-preserved
loop-at-preserved c = sym (number_next _ _ _ _ _ c.loop-at-test.true (omega arith) c.byte_at-b.ensures (sym c.is_ascii_digit.ensures.value ∙ c.if-not-is_ascii_digit.false)) ∙ c.loop-at.invariant

pub returns : goal.returns
returns c = (sym (number_full _ _ _ (omega arith)) ∙ c.loop-at.invariant, number_bound _ _ _ c.loop-at.invariant, omega arith)
