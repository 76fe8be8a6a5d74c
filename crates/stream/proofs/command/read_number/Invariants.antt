use mathlib.Core.Path.{◌≡◌}
use Rattle.stream.specs.Command.{number_of}
use Rattle.stream.proofs.Commands.{number_from}
use Rattle.stream.proofs.command.read_number.Given as goal

abbrev pub invariant-loop-at : goal.invariant-loop-at
invariant-loop-at l = number_from l.s l.value l.at ≡ number_of l.s
