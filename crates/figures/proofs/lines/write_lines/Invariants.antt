use Rattle.figures.proofs.Texts.{Going}
use Rattle.figures.proofs.lines.write_lines.Given as goal

abbrev pub invariant-loop-code : goal.invariant-loop-code
invariant-loop-code l = Going l.figures l.initial.out l.at l.code l.to l.out
