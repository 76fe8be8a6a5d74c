use Prim.Native.Nat.{◌^◌, ◌-◌}
use mathlib.Core.Path.{sym, ◌∙◌}
use lib.ListN.{length}
use Rattle.stream.proofs.Commands.{command_past, command_rest, command_at_ends, ends_fits}
use native.Mathlib.Omega.{arith}
use Rattle.stream.proofs.command.read_command.Goals as goal

pub returns-then-s-at : goal.returns-then-s-at
returns-then-s-at c = sym (command_past c.args.s.now _ c.if-s-at.true)

pub move_by-requires : goal.move_by-requires
move_by-requires c = rw (command_rest c.args.s.now _ _ c.read_front.ensures) (ends_fits _ (length c.args.s.now) (2 ^ 64 - 1) _ (omega arith) (command_at_ends c.args.s.now _))

pub returns : goal.returns
returns c = c.move_by.ensures ∙ command_rest c.args.s.now _ _ c.read_front.ensures
