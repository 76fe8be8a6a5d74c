use Rattle.std.proofs.Common.{◌≡◌, mul-le-mul, arith}
use Rattle.pictures.proofs.size.picture_size.Goals as goal

pub overflow_mul-result : goal.overflow_mul-result
overflow_mul-result c = omega (arith, mul-le-mul {n₁ = c.from.result} {m₁ = c.row_size.result} {n₂ = 65535} {m₂ = 8192} (omega arith) (omega (arith, c.row_size.ensures)))

pub returns : goal.returns
returns c =
    let e : c.from.result ≡ c.args.height = c.from.ensures in
    rw (c.row_size.ensures, e)
