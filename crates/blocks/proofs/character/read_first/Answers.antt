-- `blocks::read_first` meets its contract: at each `return` the tests that led there say which check fails first. Assumes nothing.
use mathlib.Core.Path.{sym}
use borrow.Author.Tests.{le-leb, lt-leb}
use Rattle.blocks.specs.Character.{read_first}
use Rattle.pictures.proofs.Tests.{failed, passed}
use Rattle.blocks.proofs.KeptFirst.{form_refused}
use Rattle.blocks.proofs.character.read_first.Goals as goal

pub returns-then-block-lt-KEPT : goal.returns-then-block-lt-KEPT
unfolding read_first
returns-then-block-lt-KEPT c = simp (lt-leb _ _ c.if-block-lt-KEPT.true)

pub returns-then-not-first_form : goal.returns-then-not-first_form
returns-then-not-first_form c = sym (form_refused _ _ (le-leb _ _ c.if-block-lt-KEPT.false) (failed c.first_form.ensures c.if-not-first_form.true-raw))

pub returns-then-not-first_fields : goal.returns-then-not-first_fields
unfolding read_first
returns-then-not-first_fields c =
    simp (
      le-leb _ _ c.if-block-lt-KEPT.false,
      passed c.first_form.ensures c.if-not-first_form.false-raw,
      failed c.first_fields.ensures c.if-not-first_fields.true-raw,
    )

pub returns-then-not-first_size : goal.returns-then-not-first_size
unfolding read_first
returns-then-not-first_size c =
    simp (
      le-leb _ _ c.if-block-lt-KEPT.false,
      passed c.first_form.ensures c.if-not-first_form.false-raw,
      passed c.first_fields.ensures c.if-not-first_fields.false-raw,
      failed c.first_size.ensures c.if-not-first_size.true-raw,
    )

pub returns : goal.returns
unfolding read_first
returns c =
    simp (
      le-leb _ _ c.if-block-lt-KEPT.false,
      passed c.first_form.ensures c.if-not-first_form.false-raw,
      passed c.first_fields.ensures c.if-not-first_fields.false-raw,
      passed c.first_size.ensures c.if-not-first_size.false-raw,
    )
