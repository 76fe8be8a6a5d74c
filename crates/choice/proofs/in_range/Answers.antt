use Rattle.std.proofs.Common.{◌^◌, ◌<◌, arith}
use Rattle.blocks.specs.Header.{weight_limit}
use Rattle.blocks.proofs.Signed.{signed_within_lem}
use Rattle.choice.specs.Request.{in_range}
use Rattle.choice.proofs.in_range.Goals as goal

pub returns : goal.returns
unfolding in_range
returns c =
    let w = c.args.r.weight in
    let h : w < 2 ^ 32 = omega arith in
    rw (signed_within_lem 32 weight_limit w (omega arith) h)
