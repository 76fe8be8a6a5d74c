use Rattle.std.proofs.Common.{◌<◌, get_or, arith}
use Rattle.choice.proofs.Fields.{byte_is}
use Rattle.choice.proofs.kept_byte.Goals as goal

pub returns : goal.returns
returns c =
    let small : get_or c.args.f.now c.args.i 0 < 256 = omega (arith, (c.type_inv.f c.args.i).fits) in
    rw c.from.ensures (byte_is _ _ small, small)
