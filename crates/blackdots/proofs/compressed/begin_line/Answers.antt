use Rattle.blackdots.proofs.RunDots.{counting_starts}
use Rattle.blackdots.proofs.compressed.begin_line.Goals as goal

pub returns-then-width-lt-WIDE : goal.returns-then-width-lt-WIDE
returns-then-width-lt-WIDE c = rw c.from.ensures (counting_starts c.args.width c.args.runs.now)
