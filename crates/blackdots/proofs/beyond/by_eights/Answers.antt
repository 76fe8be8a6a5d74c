use Rattle.std.proofs.Common.{ℕ, ◌*◌, ◌-◌, rules, arith, refl, ap, ◌∙◌}
use lib.Count.{ones, ones-le}
use Rattle.blackdots.specs.Counting.{ones_apart}
use Rattle.blackdots.proofs.ByteOnes.{rows_start, rows_more, rows_joined, rows_part}
use Rattle.blackdots.proofs.beyond.by_eights.Goals as goal

pub loop-rest-init : goal.loop-rest-init
loop-rest-init c = rows_start c.args.n c.args.mask c.args.rows.now c.requires.0

pub loop-rest-preserved : goal.loop-rest-preserved
loop-rest-preserved c =
    let a = c.args in
    let rest = c.loop-rest.rest.now in
    let x : ℕ = ones c.eight_masked.result in
    rows_more a.n a.mask a.rows.now c.requires.0 rest c.split_at.result.1.now c.loop-rest.k x 8 c.loop-rest.invariant (omega arith) c.loop-rest-test.true c.split_at.ensures.back
    (ones-le 64 c.eight_masked.result (search rules))
    (rows_part a.n a.mask a.rows.now c.requires.0 rest c.loop-rest.k x (8 * a.n) 8 c.loop-rest.invariant refl (c.eight_masked.ensures ∙ ap (λ b. ones_apart a.n a.mask b (a.n - 1) 8) c.split_at.ensures.front))

pub returns : goal.returns
returns c =
    let a = c.args in
    let known = c.loop-rest.invariant in
    (rows_joined a.n a.mask a.rows.now c.requires.0 c.loop-rest.rest.now c.loop-rest.k c.beyond_by_rows.result known c.beyond_by_rows.ensures.0, omega (arith, known.most, known.few, c.beyond_by_rows.ensures.1))
