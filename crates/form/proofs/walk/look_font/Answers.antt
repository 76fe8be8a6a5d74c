use mathlib.Core.Path.{sym, ◌∙◌}
use borrow.Author.Tests.{le-leb, lt-leb}
use Rattle.pictures.proofs.Tests.{failed, passed}
use Rattle.blocks.specs.Header.{header_bytes}
use Rattle.form.specs.Layout.{font_kept_at, font_record}
use Rattle.form.specs.Num.{◌and◌}
use Rattle.form.proofs.Heads.{part_at, font_long, font_is}
use native.Mathlib.Omega.{arith}
use Rattle.form.proofs.walk.look_font.Goals as goal

pub returns-then-len-ne-FONT_RECORD : goal.returns-then-len-ne-FONT_RECORD
returns-then-len-ne-FONT_RECORD c = λ u. sym (font_long u _ _ _ c.requires.0 c.requires.1 c.if-len-ne-FONT_RECORD.true)

pub returns-then-font-gt-LAST_FONT : goal.returns-then-font-gt-LAST_FONT
unfolding ◌and◌
returns-then-font-gt-LAST_FONT c = λ u. sym (font_is u _ _ _ c.requires.0 c.requires.1 c.if-len-ne-FONT_RECORD.false ∙ rw (lt-leb _ _ (rw c.le16-font.ensures.0 at c.if-font-gt-LAST_FONT.true)))

pub returns-then-not-is_kept_header : goal.returns-then-not-is_kept_header
unfolding ◌and◌
returns-then-not-is_kept_header c =
    λ u.
    sym (font_is u _ _ _ c.requires.0 c.requires.1 c.if-len-ne-FONT_RECORD.false ∙ rw (le-leb _ _ (rw c.le16-font.ensures.0 at c.if-font-gt-LAST_FONT.false), ← (part_at c.args.at font_kept_at header_bytes font_record c.args.s.now (omega arith)), failed c.is_kept_header.ensures c.if-not-is_kept_header.true-raw))

pub returns : goal.returns
unfolding ◌and◌
returns c =
    λ u.
    rw (c.tally_at.ensures, c.le16-font.ensures.0) (sym (font_is u _ _ _ c.requires.0 c.requires.1 c.if-len-ne-FONT_RECORD.false ∙ rw (le-leb _ _ (rw c.le16-font.ensures.0 at c.if-font-gt-LAST_FONT.false), ← (part_at c.args.at font_kept_at header_bytes font_record c.args.s.now (omega arith)), passed c.is_kept_header.ensures c.if-not-is_kept_header.false-raw)))
