use Rattle.std.proofs.Common.{◌≡◌, ◌+◌, rules, arith, ap}
use lib.Count.{ones, ones-le}
use Rattle.blackdots.proofs.ByteOnes.{ones_parts, ones_most}
use Rattle.blackdots.specs.Black.{ones_of}
use Rattle.blackdots.proofs.ones.ones_by_words.Goals as goal

pub loop-eight-preserved : goal.loop-eight-preserved
loop-eight-preserved c =
    let rest = c.loop-eight.rest.now in
    let part = c.in-Some.ensures.cases in
    let known = c.loop-eight.invariant in (
      omega (arith, known.0, part.2, ones-le 64 c.word.result (search rules)),
      omega (arith, known.1, c.word.ensures, ones_parts 8 rest, ap ones_of part.0, ap ones_of part.1),
    )

pub returns : goal.returns
returns c =
    let b = c.args.bytes.now in
    let all : c.loop-eight.n + ones c.last_word.result ≡ ones_of b = omega (arith, c.loop-eight.invariant.1, c.last_word.ensures.0) in
    (all, omega (arith, all, ones_most b (λ i. (c.type_inv.bytes i).fits)))
