use Rattle.pictures.proofs.Tests.{failed, passed}
use Rattle.profile.specs.Pass.{broken_by}
use Rattle.profile.proofs.rules.broken_by.Goals as goal

pub returns-then-not-left_inside : goal.returns-then-not-left_inside
unfolding broken_by
returns-then-not-left_inside c = rw (failed c.left_inside.ensures c.if-not-left_inside.true-raw)

pub returns-then-not-right_inside : goal.returns-then-not-right_inside
unfolding broken_by
returns-then-not-right_inside c = rw (passed c.left_inside.ensures c.if-not-left_inside.false-raw, failed c.right_inside.ensures c.if-not-right_inside.true-raw)

pub returns-then-not-height_inside : goal.returns-then-not-height_inside
unfolding broken_by
returns-then-not-height_inside c = rw (passed c.left_inside.ensures c.if-not-left_inside.false-raw, passed c.right_inside.ensures c.if-not-right_inside.false-raw, failed c.height_inside.ensures c.if-not-height_inside.true-raw)

pub returns-then-not-advances_by_pitch : goal.returns-then-not-advances_by_pitch
unfolding broken_by
returns-then-not-advances_by_pitch c =
    rw (
      passed c.left_inside.ensures c.if-not-left_inside.false-raw,
      passed c.right_inside.ensures c.if-not-right_inside.false-raw,
      passed c.height_inside.ensures c.if-not-height_inside.false-raw,
      failed c.advances_by_pitch.ensures c.if-not-advances_by_pitch.true-raw,
    )

pub returns : goal.returns
unfolding broken_by
returns c =
    rw (
      passed c.left_inside.ensures c.if-not-left_inside.false-raw,
      passed c.right_inside.ensures c.if-not-right_inside.false-raw,
      passed c.height_inside.ensures c.if-not-height_inside.false-raw,
      passed c.advances_by_pitch.ensures c.if-not-advances_by_pitch.false-raw,
    )
