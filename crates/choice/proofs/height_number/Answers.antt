use Rattle.std.proofs.Common.{◌≡◌, ◌*◌, ◌<◌, ◌≤◌, arith, le-leb}
use borrow.Author.Tests.{lt-leb}
use Rattle.choice.specs.Fields.{quarter_dot_parts}
use Rattle.choice.specs.Steps.{quarter_dot, quarter_point, distance, height_distance}
use Rattle.choice.proofs.height_number.Goals as goal

pub returns-then-d-le-QUARTER_POINT : goal.returns-then-d-le-QUARTER_POINT
unfolding height_distance
returns-then-d-le-QUARTER_POINT c =
    let h : distance (quarter_dot_parts * c.args.asked) (quarter_dot * c.args.h) ≤ quarter_point =
    omega (arith, c.from-a.ensures, c.abs_diff-d.ensures, c.if-d-le-QUARTER_POINT.true) in
    (simp (le-leb _ _ h), omega arith)

pub returns-else-d-le-QUARTER_POINT : goal.returns-else-d-le-QUARTER_POINT
unfolding height_distance
returns-else-d-le-QUARTER_POINT c =
    let e : c.abs_diff-d.result ≡ distance (quarter_dot_parts * c.args.asked) (quarter_dot * c.args.h) = omega (arith, c.from-a.ensures, c.abs_diff-d.ensures) in
    let h : quarter_point < distance (quarter_dot_parts * c.args.asked) (quarter_dot * c.args.h) = omega (arith, e, c.if-d-le-QUARTER_POINT.false) in
    (simp (lt-leb _ _ h) e, omega (arith, e))
