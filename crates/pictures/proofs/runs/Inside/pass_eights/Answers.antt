use Rattle.std.proofs.Common.{◌≡◌, ◌+◌, ◌-◌, sum, take, drop, arith}
use Rattle.pictures.proofs.Passing.{runs_none, runs_then, runs_eight}
use Rattle.pictures.proofs.runs.Inside.pass_eights.Goals as goal

pub loop-i-init : goal.loop-i-init
loop-i-init c = runs_none _ c.args.self c.requires

pub loop-i-preserved : goal.loop-i-preserved
loop-i-preserved c =
    let src = c.args.src.now in
    let i = c.loop-i.i in
    let z : i.at + 8 - i.at ≡ 8 = omega arith in
    let e : c.sum_of-sum.result ≡ sum (take 8 (drop i.at src)) = rw z at c.sum_of-sum.ensures in
    rw e (runs_then src _ i _ c.loop-i.invariant (runs_eight src i.at i.left i.black (omega arith) (omega arith)))
