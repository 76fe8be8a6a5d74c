use Rattle.std.proofs.Common.{◌≡◌, ℕ, ◌*◌, ◌-◌, get_or, rules, arith, ap}
use lib.Bits.{bit_and}
use lib.Count.{ones}
use Rattle.blackdots.proofs.ByteOnes.{rows_start, rows_more, rows_end, rows_last, ones_masked}
use Rattle.blackdots.proofs.beyond.beyond_by_rows.Goals as goal

pub loop-rest-init : goal.loop-rest-init
loop-rest-init c = rows_start c.args.n c.args.mask c.args.rows.now c.requires.0

pub loop-rest-preserved : goal.loop-rest-preserved
loop-rest-preserved c =
    let a = c.args in
    let rest = c.loop-rest.rest.now in
    let row = c.split_at.result.0.now in
    let x : ℕ = ones (bit_and (get_or row (a.n - 1) 0) a.mask) in
    let one : 1 * a.n ≡ a.n = omega arith in
    rows_more a.n a.mask a.rows.now c.requires.0 rest c.split_at.result.1.now c.loop-rest.k x 1 c.loop-rest.invariant (omega arith) (omega arith) (rw one c.split_at.ensures.back)
    (ones_masked (get_or row (a.n - 1) 0) a.mask (search rules))
    (rows_last a.n a.mask a.rows.now c.requires.0 rest c.loop-rest.k x c.loop-rest.invariant c.loop-rest-test.true (ap (λ b. ones (bit_and (get_or b (a.n - 1) 0) a.mask)) c.split_at.ensures.front))

pub returns : goal.returns
returns c =
    let a = c.args in
    let known = c.loop-rest.invariant in
    (rows_end a.n a.mask a.rows.now c.requires.0 c.loop-rest.rest.now c.loop-rest.k known c.loop-rest-test.false, omega (arith, known.most, known.few))
