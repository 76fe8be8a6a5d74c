use Rattle.pictures.specs.declared.runs.Place.TheVariants.{Count}
use Rattle.pictures.specs.declared.runs.Reader.{Reader}
use Rattle.pictures.proofs.Passing.{passes_none, passes_then, passes_last, passes_row, at_run_unfinished, runs_within, runs_ahead}
use Rattle.pictures.specs.declared.runs.Passed.{Passed}
use Rattle.pictures.specs.Runs.{place_of}
use Rattle.pictures.specs.Passing.{Passes, at_run}
use Rattle.std.proofs.Common.{◌≡◌, ℕ, Bool, List, ◌+◌, ◌-◌, get_or, arith, rules}
use Rattle.pictures.proofs.runs.Reader.pass_from.Goals as goal

pub loop-stop-init : goal.loop-stop-init
loop-stop-init c = (search rules, search rules, c.requires.1, passes_none _ _ _ _ _ c.requires.0)

-- the state that the scan began in
began : (w h : ℕ) (src : List ℕ) (n row repeat : ℕ) (s : Reader) (c : Bool) (f : ℕ) (p : Passed) → row ≡ s.row → repeat ≡ s.repeat
    → Passes w h src n (record { row = row; repeat = repeat; at = place_of c f }) p → Passes w h src n (at_run s c f) p
began w h src n row repeat s c f p e q x = rw (e, q) at x

pub pass_runs-stop-requires : goal.pass_runs-stop-requires
pass_runs-stop-requires c = c.loop-stop.invariant.3.within (at_run_unfinished c.loop-stop.i.black (c.args.width - c.loop-stop.i.left))

pub bounds-src-at : goal.bounds-src-at
bounds-src-at c = runs_within _ _ _ c.pass_runs-stop.ensures

pub returns-then-from-stop : goal.returns-then-from-stop
returns-then-from-stop c =
    rw c.stopped.ensures
    (began _ _ _ _ _ _ c.args.self _ _ _ c.from-row.ensures c.from-repeat.ensures (passes_then _ _ _ _ _ _ _ c.loop-stop.invariant.3 (c.pass_runs-stop.ensures.passes _ _ (record { row = c.loop-stop.row; repeat = c.loop-stop.repeat; at = Count }) c.loop-stop.invariant.2)))

pub returns-then-from-below : goal.returns-then-from-below
returns-then-from-below c =
    let s : Reader = record { row = c.loop-stop.row; repeat = c.loop-stop.repeat; at = Count } in
    let e : get_or c.args.src.now c.pass_runs-stop.result.at 0 ≡ c.pass_runs-stop.result.left = omega arith in
    rw c.finished.ensures
    (began _ _ _ _ _ _ c.args.self _ _ _ c.from-row.ensures c.from-repeat.ensures (passes_then _ _ _ _ _ _ _ c.loop-stop.invariant.3
    (passes_then _ _ _ _ _ _ _ (c.pass_runs-stop.ensures.passes _ _ s c.loop-stop.invariant.2)
    (passes_last _ _ _ c.pass_runs-stop.result s e (omega (arith, c.pass_runs-stop.ensures.less)) (omega arith) (runs_within _ _ _ c.pass_runs-stop.ensures)))))

pub returns-then-src-at-lt3 : goal.returns-then-src-at-lt3
returns-then-src-at-lt3 c =
    rw c.stopped-then-src-at-lt3.ensures
    (began _ _ _ _ _ _ c.args.self _ _ _ c.from-row.ensures c.from-repeat.ensures (passes_then _ _ _ _ _ _ _ c.loop-stop.invariant.3 (c.pass_runs-stop.ensures.passes _ _ (record { row = c.loop-stop.row; repeat = c.loop-stop.repeat; at = Count }) c.loop-stop.invariant.2)))

pub loop-stop-smaller : goal.loop-stop-smaller
loop-stop-smaller c = omega (arith, runs_ahead _ _ _ c.pass_runs-stop.ensures)

pub loop-stop-preserved : goal.loop-stop-preserved
loop-stop-preserved c =
    let s : Reader = record { row = c.loop-stop.row; repeat = c.loop-stop.repeat; at = Count } in
    let e : get_or c.args.src.now c.pass_runs-stop.result.at 0 ≡ c.pass_runs-stop.result.left = omega arith in
    let b : c.from-repeat-in-loop-stop.result ≡ get_or c.args.src.now (c.pass_runs-stop.result.at + 1) 0 = c.from-repeat-in-loop-stop.ensures in
    let w : c.from-in-loop-stop-2.result ≡ c.args.width = c.from-in-loop-stop-2.ensures in (
      omega arith,
      omega arith,
      omega arith,
      rw (b, w)
          (passes_then _ _ _ _ _ _ _ c.loop-stop.invariant.3
          (passes_then _ _ _ _ _ _ _ (c.pass_runs-stop.ensures.passes _ _ s c.loop-stop.invariant.2)
          (passes_row _ _ _ c.pass_runs-stop.result s e (omega (arith, c.pass_runs-stop.ensures.less)) (omega arith) (omega arith)))),
    )
