use mathlib.Core.Path.{refl}
use mir.Syntax.{w16}
use native.Mathlib.Omega.{arith}
use Rattle.blocks.proofs.Signed.{below_cast}
use Rattle.blocks.proofs.field.is_negative.Goals as goal

pub returns : goal.returns
returns c = below_cast w16 c.args.n (omega arith) refl _ c.cast_signed.ensures
