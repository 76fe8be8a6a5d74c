use Rattle.std.proofs.Common.{rules, arith}
use Rattle.blackdots.proofs.RunDots.{rows_start, rows_ended, rows_unfinished, row_byte, row_room, rows_next}
use Rattle.blackdots.proofs.compressed.black_in_runs.Goals as goal

pub loop-repeats-init : goal.loop-repeats-init
loop-repeats-init c = rows_start c.args.width c.args.height c.args.bytes.now (λ i. (c.type_inv.bytes i).fits)

pub overflow_add-from : goal.overflow_add-from
overflow_add-from c =
    let a = c.args in
    let known = c.loop-repeats in
    let small = row_byte a.width a.height a.bytes.now known.rest.now known.top known.n known.invariant c.in-Some.field-0-0.now c.in-Some.runs.now c.in-Some.ensures.cases.0 in
    record { fits = omega (arith, small, c.from-in-Some.ensures) }

pub returns-in_default-count_line : goal.returns-in_default-count_line
returns-in_default-count_line c =
    let a = c.args in
    let known = c.loop-repeats in
    rows_unfinished a.width a.height a.bytes.now known.rest.now known.top known.n known.invariant c.in-Some.field-0-0.now c.in-Some.runs.now c.in-Some.ensures.cases.0 c.in_default-count_line.ensures

-- the sum with the row's dots has room
pub overflow_mul-n : goal.overflow_mul-n
overflow_mul-n c =
    let a = c.args in
    let known = c.loop-repeats in
    let line = c.in-Some-count_line in
    let room = row_room a.width a.height a.bytes.now known.rest.now known.top known.n known.invariant c.in-Some.field-0-0.now c.in-Some.runs.now c.in-Some.ensures.cases.0 c.min-times.result line.line.rest.now line.line.black
    (omega (arith, c.from.ensures)) (omega (arith, c.min-times.ensures, c.from-in-Some.ensures, c.from-in-Some-2.ensures)) line.ensures (search rules) (search rules) in
    record { fits = omega (arith, room) }

pub overflow_add-n : goal.overflow_add-n
overflow_add-n c =
    let a = c.args in
    let known = c.loop-repeats in
    let line = c.in-Some-count_line in
    let room = row_room a.width a.height a.bytes.now known.rest.now known.top known.n known.invariant c.in-Some.field-0-0.now c.in-Some.runs.now c.in-Some.ensures.cases.0 c.min-times.result line.line.rest.now line.line.black
    (omega (arith, c.from.ensures)) (omega (arith, c.min-times.ensures, c.from-in-Some.ensures, c.from-in-Some-2.ensures)) line.ensures (search rules) (search rules) in
    record { fits = omega (arith, room) }

pub loop-repeats-preserved : goal.loop-repeats-preserved
loop-repeats-preserved c =
    let a = c.args in
    let known = c.loop-repeats in
    let line = c.in-Some-count_line in
    rows_next a.width a.height a.bytes.now known.rest.now known.top known.n known.invariant c.in-Some.field-0-0.now c.in-Some.runs.now c.in-Some.ensures.cases.0 c.min-times.result line.line.rest.now line.line.black
    (omega (arith, c.from.ensures)) (omega (arith, c.min-times.ensures, c.from-in-Some.ensures, c.from-in-Some-2.ensures)) line.ensures

pub returns : goal.returns
returns c =
    let a = c.args in
    let known = c.loop-repeats in
    rows_ended a.width a.height a.bytes.now known.rest.now known.top known.n known.invariant c.in_default.ensures.cases
