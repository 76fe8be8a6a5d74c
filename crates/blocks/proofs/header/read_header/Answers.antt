-- `blocks::read_header` meets its contract: at each `return` the tests that led there say which check fails first. Assumes nothing.
use mathlib.Core.Path.{◌≡◌}
use mathlib.Core.Bool.{Bool, ◌&&◌}
use native.Mathlib.Omega.{arith}
use lib.ListN.{length}
use borrow.Author.Tests.{le-leb, lt-leb}
use Rattle.blocks.specs.Header.{own_bytes, read_header}
use Rattle.pictures.proofs.Tests.{failed, passed}
use Rattle.blocks.proofs.HeaderBytes.{own_within}
use Rattle.blocks.proofs.header.read_header.Goals as goal

-- the two tests of the fields, as the code joins them
joined : {a b s t : Bool} → a ≡ s → b ≡ t → (a && b) ≡ (s && t)
joined p q = cc

pub returns-then-block-lt-PLAIN : goal.returns-then-block-lt-PLAIN
unfolding read_header
returns-then-block-lt-PLAIN c =
    let b = c.args.block.now in
    simp (lt-leb (own_bytes b) (length b) (omega (arith, c.if-block-lt-PLAIN.true, (own_within b).0)))

pub returns-then-block-own_bytes : goal.returns-then-block-own_bytes
unfolding read_header
returns-then-block-own_bytes c = simp (lt-leb _ _ (rw c.own_bytes.ensures.0 at c.if-block-own_bytes.true))

pub returns-then-block-gt-BLOCK_LIMIT : goal.returns-then-block-gt-BLOCK_LIMIT
unfolding read_header
returns-then-block-gt-BLOCK_LIMIT c = simp (le-leb _ _ (rw c.own_bytes.ensures.0 at c.if-block-own_bytes.false), lt-leb _ _ c.if-block-gt-BLOCK_LIMIT.true)

pub returns-then-not-header_form : goal.returns-then-not-header_form
unfolding read_header
returns-then-not-header_form c =
    simp (
      le-leb _ _ (rw c.own_bytes.ensures.0 at c.if-block-own_bytes.false),
      le-leb _ _ c.if-block-gt-BLOCK_LIMIT.false,
      failed c.header_form.ensures c.if-not-header_form.true-raw,
    )

pub header_resolution-requires : goal.header_resolution-requires
header_resolution-requires c = rw c.own_bytes.ensures.0 at c.if-block-own_bytes.false

pub returns-then-not-header_fields-header_resolution : goal.returns-then-not-header_fields-header_resolution
unfolding read_header
returns-then-not-header_fields-header_resolution c =
    simp (
      le-leb _ _ (rw c.own_bytes.ensures.0 at c.if-block-own_bytes.false),
      le-leb _ _ c.if-block-gt-BLOCK_LIMIT.false,
      passed c.header_form.ensures c.if-not-header_form.false-raw,
      failed (joined c.header_fields.ensures c.header_resolution.ensures) c.if-not-header_fields-header_resolution.true-raw,
    )

pub returns : goal.returns
unfolding read_header
returns c =
    simp (
      le-leb _ _ (rw c.own_bytes.ensures.0 at c.if-block-own_bytes.false),
      le-leb _ _ c.if-block-gt-BLOCK_LIMIT.false,
      passed c.header_form.ensures c.if-not-header_form.false-raw,
      passed (joined c.header_fields.ensures c.header_resolution.ensures) c.if-not-header_fields-header_resolution.false-raw,
    )
