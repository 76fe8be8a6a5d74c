use Rattle.std.proofs.Common.{rules}
use Rattle.blackdots.proofs.ByteOnes.{eight_masked_lem}
use Rattle.blackdots.proofs.beyond.eight_masked.Goals as goal

pub returns : goal.returns
returns c =
    let a = c.args in
    rw c.from.ensures (eight_masked_lem a.n a.mask a.rows.now (λ i. (c.type_inv.rows i).fits) (search rules) c.from_le_bytes.result c.requires.0 c.from_le_bytes.ensures)
