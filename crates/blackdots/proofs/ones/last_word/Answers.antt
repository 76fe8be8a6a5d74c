use Rattle.std.proofs.Common.{◌≡◌, ◌<◌, ◌^◌, ℕ, length, get_or, Some, arith, ap, sym, ◌∙◌}
use Rattle.std.proofs.lemmas.Option.{get_or_from_slice_get, slice_get_within}
use Rattle.std.specs.List.{slice_get}
use lib.Count.{ones, ones_cat}
use Rattle.blackdots.specs.Black.{ones_of}
use Rattle.blackdots.proofs.ByteOnes.{JoinedTo, four_first, two_first, bytes_after, ones_parts, join_more, ones_last, none_left}
use Rattle.blackdots.proofs.ones.last_word.Goals.{After-first, in-Some, in_default, in-Some-split_first_chunk, in_default-split_first_chunk}
use Rattle.blackdots.proofs.ones.last_word.Goals as goal

-- what four bytes, and then two, come to
after_four : (c : After-first) → ((i : ℕ) → get_or c.args.bytes.now i 0 < 256) → JoinedTo 32 4 c.args.bytes.now c.match-split_first_chunk.joined c.match-split_first_chunk.rest.now
unfolding ones
after_four c bytes = elim c.match-split_first_chunk.branch [
  | in-Some w ↦
      let b = c.args.bytes.now in
      let part = w.in-Some.ensures.cases in
      let four = w.from_le_bytes in
      let o = four_first b bytes four.result w.in-Some.four.now part.0 (omega (arith, part.2)) four.ensures in
      rw (w.joined-is, w.rest-is, w.from-joined.ensures) (
        omega (arith, o, ones_parts 4 b, ap ones_of part.0, ap ones_of part.1),
        four.type_inv,
        omega (arith, part.2, ap length part.1),
        bytes_after b bytes 4 w.in-Some.after.now part.1,
      )
  | in_default w ↦ rw (w.joined-is, w.rest-is) (omega arith, omega arith, omega (arith, w.in_default.ensures.cases), bytes)
]

after_two : (c : After-first) → ((i : ℕ) → get_or c.args.bytes.now i 0 < 256) → JoinedTo 48 2 c.args.bytes.now c.match-split_first_chunk-2.joined c.match-split_first_chunk-2.rest.now
after_two c bytes =
    let known = after_four c bytes in
    elim c.match-split_first_chunk-2.branch [
      | in-Some-split_first_chunk w ↦
          let rest = c.match-split_first_chunk.rest.now in
          let arm = w.in-Some-split_first_chunk in
          let part = arm.ensures.cases in
          let two = w.from_le_bytes-in-Some-split_first_chunk in
          let o = two_first rest known.3 two.result arm.two.now part.0 (omega (arith, part.2)) two.ensures in
          rw (w.joined-is, w.rest-is, w.from.ensures) (
            join_more 16 2 c.match-split_first_chunk.joined two.result c.args.bytes.now rest arm.two.now arm.after.now known.0 two.type_inv o part.0 part.1,
            omega (arith, known.1, two.type_inv),
            omega (arith, known.2, ap length part.1),
            bytes_after rest known.3 2 arm.after.now part.1,
          )
      | in_default-split_first_chunk w ↦ rw (w.joined-is, w.rest-is) (known.0, omega (arith, known.1), omega (arith, w.in_default-split_first_chunk.ensures.cases), known.3)
    ]

pub returns-in-Some-first : goal.returns-in-Some-first
returns-in-Some-first c =
    let known = after_two (goal.at.returns-in-Some-first c).After-first (λ i. (c.type_inv.bytes i).fits) in
    let joined = c.match-split_first_chunk-2.joined in
    let rest = c.match-split_first_chunk-2.rest.now in
    let one = c.in-Some-first.one.now in
    let is : Some one ≡ slice_get rest 0 = c.in-Some-first.ensures.value in
    let first : get_or rest 0 0 ≡ one = get_or_from_slice_get rest 0 one 0 (sym is) in
    let small : one < 2 ^ 8 = omega (arith, known.3 0, first) in
    let last : ones_of rest ≡ ones one = ones_last 0 rest (slice_get_within rest 0 one (sym is)) (omega (arith, known.2)) ∙ ap ones first in
    rw c.from-in-Some-first.ensures (omega (arith, known.0, ones_cat 8 joined one small, last), omega (arith, known.1, small))

pub returns-in_default-first : goal.returns-in_default-first
returns-in_default-first c =
    let known = after_two (goal.at.returns-in_default-first c).After-first (λ i. (c.type_inv.bytes i).fits) in
    (omega (arith, known.0, none_left c.match-split_first_chunk-2.rest.now c.in_default-first.ensures.value), omega (arith, known.1))
