use mathlib.Core.Path.{◌≡◌, refl, ◌∙◌, sym}
use mathlib.Core.Bool.{Bool, true, false, ◌&&◌}
use native.Mathlib.Omega.{arith}
use borrow.Author.Tests.{eq-eqb, ne_eqb}
use Rattle.blocks.specs.Header.{is_kept_header, header_fields}
use Rattle.pictures.proofs.Tests.{failed, passed}
use Rattle.blocks.proofs.HeaderBytes.{own_within}
use Rattle.blocks.proofs.header.is_kept_header.Goals as goal

-- the definition has the fields before the resolution
and_false : (b : Bool) → (b && false) ≡ false
and_false true = refl
and_false false = refl

and_true : (b : Bool) → (b && true) ≡ b
and_true true = refl
and_true false = refl

pub returns-then-k-ne-KEPT : goal.returns-then-k-ne-KEPT
unfolding is_kept_header
returns-then-k-ne-KEPT c = simp (ne_eqb _ _ c.if-k-ne-KEPT.true)

pub returns-then-not-fixed_header : goal.returns-then-not-fixed_header
unfolding is_kept_header
returns-then-not-fixed_header c = simp (eq-eqb _ _ c.if-k-ne-KEPT.false, failed c.fixed_header.ensures c.if-not-fixed_header.true-raw)

pub header_resolution-requires : goal.header_resolution-requires
header_resolution-requires c = omega (arith, c.if-k-ne-KEPT.false, (own_within c.args.k.now).1)

pub returns-then-not-header_resolution : goal.returns-then-not-header_resolution
unfolding is_kept_header
returns-then-not-header_resolution c =
    let h = c.args.k.now in
    simp (eq-eqb _ _ c.if-k-ne-KEPT.false, passed c.fixed_header.ensures c.if-not-fixed_header.false-raw, failed c.header_resolution.ensures c.if-not-header_resolution.true-raw) (sym (and_false (header_fields h)))

pub returns : goal.returns
unfolding is_kept_header
returns c =
    let h = c.args.k.now in
    simp (eq-eqb _ _ c.if-k-ne-KEPT.false, passed c.fixed_header.ensures c.if-not-fixed_header.false-raw, passed c.header_resolution.ensures c.if-not-header_resolution.false-raw) (c.header_fields.ensures ∙ sym (and_true (header_fields h)))
