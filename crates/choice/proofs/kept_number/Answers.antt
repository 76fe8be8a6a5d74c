use Rattle.std.proofs.Common.{◌<◌, get_or, ◌∙◌, ap₂, arith}
use Rattle.blocks.specs.Field.{high_low}
use Rattle.choice.proofs.Fields.{byte_is}
use Rattle.choice.proofs.kept_number.Goals as goal

pub returns : goal.returns
returns c =
    let a = c.args in
    let high : get_or a.f.now a.high 0 < 256 = omega (arith, (c.type_inv.f a.high).fits) in
    let low : get_or a.f.now a.low 0 < 256 = omega (arith, (c.type_inv.f a.low).fits) in
    (c.from.ensures ∙ c.from_be_bytes.ensures ∙ ap₂ high_low (byte_is _ _ high) (byte_is _ _ low), omega (arith, c.from.ensures, c.from_be_bytes.type_inv))
