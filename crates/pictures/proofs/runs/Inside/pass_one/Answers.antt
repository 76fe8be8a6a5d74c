use Rattle.std.proofs.Common.{◌≡◌, get_or, arith}
use Rattle.pictures.proofs.Passing.{runs_one}
use Rattle.pictures.proofs.runs.Inside.pass_one.Goals as goal

pub returns : goal.returns
returns c =
    let a = c.args.self in
    let e : c.from-run.result ≡ get_or c.args.src.now a.at 0 = c.from-run.ensures in
    rw e (runs_one _ a.at a.left a.black (omega arith) (omega arith))
