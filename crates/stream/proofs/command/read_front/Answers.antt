use mathlib.Core.Path.{◌∙◌}
use native.Mathlib.Omega.{arith}
use Rattle.stream.proofs.Commands.{front_end, front_short, front_none, front_number, front_font, front_character}
use Rattle.stream.proofs.command.read_front.Goals as goal

pub returns-in-empty : goal.returns-in-empty
returns-in-empty c = front_end c.args.s.now (omega arith)

pub returns-in-27 : goal.returns-in-27
returns-in-27 c = c.read_numbered.ensures ∙ front_number c.args.s.now (omega arith) (omega arith) (omega arith) (omega arith)

pub returns-in-27-2 : goal.returns-in-27-2
returns-in-27-2 c = c.read_block.ensures ∙ front_font c.args.s.now (omega arith) (omega arith) (omega arith) (omega arith)

pub returns-in-27-3 : goal.returns-in-27-3
returns-in-27-3 c = c.read_block-in-27-3.ensures ∙ front_character c.args.s.now (omega arith) (omega arith) (omega arith) (omega arith)

pub returns-in_default : goal.returns-in_default
returns-in_default c = front_short c.args.s.now (omega arith) (omega arith)

pub returns-in_default-2 : goal.returns-in_default-2
returns-in_default-2 c = front_none c.args.s.now (omega arith) (λ p q r. omega arith) (λ p q r. omega arith) (λ p q r. omega arith)

pub returns-in_default-3 : goal.returns-in_default-3
returns-in_default-3 c = front_none c.args.s.now (omega arith) (λ p q r. omega arith) (λ p q r. omega arith) (λ p q r. omega arith)

pub returns-in_default-4 : goal.returns-in_default-4
returns-in_default-4 c = front_none c.args.s.now (omega arith) (λ p q r. omega arith) (λ p q r. omega arith) (λ p q r. omega arith)

pub returns-in_default-5 : goal.returns-in_default-5
returns-in_default-5 c = front_none c.args.s.now (omega arith) (λ p q r. omega arith) (λ p q r. omega arith) (λ p q r. omega arith)

pub returns-in_default-6 : goal.returns-in_default-6
returns-in_default-6 c = front_none c.args.s.now (omega arith) (λ p q r. omega arith) (λ p q r. omega arith) (λ p q r. omega arith)
