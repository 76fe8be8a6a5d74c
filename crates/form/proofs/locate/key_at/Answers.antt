use Rattle.form.specs.Layout.{kind_at}
use Rattle.form.specs.Num.{field}
use borrow.Author.Tests.{ne_eqb}
use Prim.Native.Nat.{◌+◌}
use mathlib.Core.Path.{◌≡◌, sym, ◌∙◌}
use Rattle.form.proofs.locate.key_at.Goals as goal

pub returns-then-le16-eq-FONT_KIND : goal.returns-then-le16-eq-FONT_KIND
returns-then-le16-eq-FONT_KIND c =
    let k : field 2 (c.args.at + kind_at) c.args.s.now ≡ 2 = sym c.le16.ensures.0 ∙ c.if-le16-eq-FONT_KIND.true in rw (c.le16-font.ensures.0, k)

pub returns : goal.returns
returns c = rw (ne_eqb (field 2 (c.args.at + kind_at) c.args.s.now) 2 (λ e. c.if-le16-eq-FONT_KIND.false (c.le16.ensures.0 ∙ e)), c.le16-font.ensures.0, c.le16-2.ensures.0)
