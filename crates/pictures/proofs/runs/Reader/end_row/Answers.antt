use Rattle.pictures.specs.Runs.{end_row}
use Rattle.std.proofs.Common.{◌≡◌, ◌+◌, le-leb, arith}
use borrow.Author.Tests.{lt-leb}
use Rattle.pictures.proofs.runs.Reader.end_row.Goals as goal

pub returns-then-from-next : goal.returns-then-from-next
unfolding end_row
returns-then-from-next c = let s = c.args.self in simp (le-leb c.args.height (s.row + 1 + s.repeat) (omega arith))

pub returns-else-from-next : goal.returns-else-from-next
unfolding end_row
returns-else-from-next c =
    let s = c.args.self in
    let e : c.from.result + 1 + c.from-2.result ≡ s.row + 1 + s.repeat = omega arith in
    rw (lt-leb c.args.height (s.row + 1 + s.repeat) (omega arith), e)
