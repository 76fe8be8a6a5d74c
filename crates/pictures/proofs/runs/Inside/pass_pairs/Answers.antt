use Rattle.std.proofs.Common.{◌≡◌, ◌+◌, get_or, arith}
use Rattle.pictures.proofs.Passing.{runs_none, runs_then, runs_one, runs_two, runs_within}
use Rattle.pictures.proofs.runs.Inside.pass_pairs.Goals as goal

pub loop-i-init : goal.loop-i-init
loop-i-init c = runs_none _ c.args.self c.requires

pub returns-then-i-first-2 : goal.returns-then-i-first-2
returns-then-i-first-2 c =
    let i = c.loop-i.i in
    let a : c.from-first.result ≡ get_or c.args.src.now i.at 0 = c.from-first.ensures in
    rw a (runs_then _ _ i _ c.loop-i.invariant (runs_one _ i.at i.left i.black (omega arith) (omega arith)))

pub loop-i-preserved : goal.loop-i-preserved
loop-i-preserved c =
    let i = c.loop-i.i in
    let a : c.from-first.result ≡ get_or c.args.src.now i.at 0 = c.from-first.ensures in
    let b : c.from-second.result ≡ get_or c.args.src.now (i.at + 1) 0 = c.from-second.ensures in
    rw (a, b) (runs_then _ _ i _ c.loop-i.invariant (runs_two _ i.at i.left i.black (omega arith) (omega arith)))

pub pass_one-requires : goal.pass_one-requires
pass_one-requires c = runs_within _ _ _ c.loop-i.invariant

pub returns : goal.returns
returns c = runs_then _ _ _ _ c.loop-i.invariant c.pass_one.ensures
