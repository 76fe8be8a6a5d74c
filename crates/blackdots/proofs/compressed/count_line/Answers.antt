use Rattle.std.proofs.Common.{◌+◌, arith, refl}
use Rattle.blackdots.proofs.RunDots.{next_fits, counting_ends, white_last, white_unfinished, black_last, black_next}
use Rattle.blackdots.proofs.compressed.count_line.Goals as goal

pub returns-then-left-white : goal.returns-then-left-white
returns-then-left-white c =
    let known = c.loop-white in
    let first = c.in-Some in
    rw (c.then_some.ensures, c.from-white.ensures)
    (white_last c.args.width c.args.runs.now known.rest.now known.left known.black known.invariant first.field-0-0.now first.after.now first.ensures.cases.0 (omega (arith, c.from-white.ensures))
    (record { black = known.black; rest = first.after }) refl refl)

pub returns-in_err-run : goal.returns-in_err-run
returns-in_err-run c =
    let known = c.loop-white in
    let first = c.in-Some in
    rw c.from_residual.ensures
    (white_unfinished c.args.width c.args.runs.now known.rest.now known.left known.black known.invariant first.field-0-0.now first.after.now first.ensures.cases.0 (omega (arith, c.from-white.ensures)) c.in_err-run.ensures.cases)

pub overflow_add-black : goal.overflow_add-black
overflow_add-black c =
    let known = c.loop-white in
    let first = c.in-Some in
    let second = c.in_ok-run in
    let small = next_fits c.args.runs.now known.rest.now first.after.now second.after.now known.invariant.at first.field-0-0.now second.field-0-0.now (λ i. (c.type_inv.runs i).fits) known.invariant.is first.ensures.cases.0 second.ensures.cases.0 in
    record { fits = omega (arith, known.invariant.less, c.from-run.ensures, small) }

pub returns-then-left-run : goal.returns-then-left-run
returns-then-left-run c =
    let known = c.loop-white in
    let first = c.in-Some in
    let second = c.in_ok-run in
    rw (c.then_some-then-left-run.ensures, c.from-run.ensures, c.from-white.ensures)
    (black_last c.args.width c.args.runs.now known.rest.now known.left known.black known.invariant first.field-0-0.now first.after.now first.ensures.cases.0 (omega (arith, c.from-white.ensures))
    second.field-0-0.now second.after.now second.ensures.cases.0 (omega (arith, c.from-white.ensures, c.from-run.ensures)) (record { black = known.black + second.field-0-0.now; rest = second.after }) refl refl)

pub loop-white-preserved : goal.loop-white-preserved
loop-white-preserved c =
    let known = c.loop-white in
    let first = c.in-Some in
    let second = c.in_ok-run in
    rw (c.from-run.ensures, c.from-white.ensures)
    (black_next c.args.width c.args.runs.now known.rest.now known.left known.black known.invariant first.field-0-0.now first.after.now first.ensures.cases.0 (omega (arith, c.from-white.ensures))
    second.field-0-0.now second.after.now second.ensures.cases.0 (omega (arith, c.from-white.ensures, c.from-run.ensures)))

pub returns : goal.returns
returns c = counting_ends c.args.width c.args.runs.now c.loop-white.rest.now c.loop-white.left c.loop-white.black c.loop-white.invariant c.in_default.ensures.cases
