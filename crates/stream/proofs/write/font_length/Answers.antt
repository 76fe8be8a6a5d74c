use Rattle.stream.proofs.Writes.{font_length}
use native.Mathlib.Omega.{arith}
use Rattle.stream.proofs.write.font_length.Goals as goal

pub returns : goal.returns
returns c = (
  font_length _ _ _ _ c.args.h.now c.requires.1 c.own_bytes-n.ensures.0 c.command_length.ensures.0 c.command_length-2.ensures.0,
  omega (arith, c.command_length.ensures.1, c.command_length-2.ensures.1, c.own_bytes-n.ensures.1),
)
