use Rattle.blocks.proofs.Openings.{in_order}
use Rattle.blocks.specs.Character.{character_format, size_taken, reserved_at, format, continued, descriptor_size, class, orientation, delta_x, held_class, first_extent, first_size, is_kept_first}
use Rattle.blocks.specs.Field.{byte, negative}
use mathlib.Core.Bool.{not}
use lib.Dec.{eqb}
use borrow.Author.Tests.{eq-eqb, ne_eqb}
use Rattle.blocks.proofs.character.is_kept_first.Goals as goal

pub returns-then-k-ne-KEPT : goal.returns-then-k-ne-KEPT
unfolding is_kept_first
returns-then-k-ne-KEPT c = simp (ne_eqb _ _ c.if-k-ne-KEPT.true)

pub returns : goal.returns
unfolding is_kept_first
returns c =
    let k = c.args.k.now in
    let o = c.args.orientation in
    let x = in_order (eqb (format k) character_format) (eqb (continued k) 0) (eqb (descriptor_size k) size_taken) (held_class (class k)) (eqb (orientation k) o) (eqb (byte k reserved_at) 0) (not (negative 16 (delta_x k))) (first_extent k) (first_size k) in
    simp (eq-eqb _ _ c.if-k-ne-KEPT.false) (rw (c.opens_kept.ensures, c.faces_as.ensures, c.is_negative-advances.ensures, c.word.ensures, c.first_extent.ensures, c.first_size.ensures) x)
