use Rattle.std.proofs.Common.{◌≡◌, true, false, eqb, sym, ◌∙◌, arith}
use Rattle.blocks.specs.Header.{resolution, fine_resolution}
use Rattle.choice.specs.Fields.{as_bytes, is_fine}
use Rattle.choice.proofs.compared.Goals as goal

pub returns-then-is_fine : goal.returns-then-is_fine
unfolding is_fine
returns-then-is_fine c =
    let fine : eqb (resolution (as_bytes c.args.f.now)) fine_resolution ≡ true = sym (c.is_fine.ensures true 0) ∙ c.if-is_fine.true in
    rw (c.from.ensures, c.from-2.ensures) (rw (fine, c.kept_word.ensures.0, c.kept_byte.ensures.0), omega (arith, c.kept_word.ensures.1, c.kept_byte.ensures.1))

pub returns-else-is_fine : goal.returns-else-is_fine
unfolding is_fine
returns-else-is_fine c =
    let coarse : eqb (resolution (as_bytes c.args.f.now)) fine_resolution ≡ false = sym (c.is_fine.ensures true 0) ∙ c.if-is_fine.false in
    rw (c.from.ensures, c.from-2.ensures) (rw (coarse, c.kept_word.ensures.0, c.kept_byte.ensures.0), omega (arith, c.kept_word.ensures.1, c.kept_byte.ensures.1))
