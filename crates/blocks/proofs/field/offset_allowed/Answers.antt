use mathlib.Core.Path.{refl}
use mir.Syntax.{w16}
use native.Mathlib.Omega.{arith}
use Rattle.blocks.specs.Character.{offset_limit}
use Rattle.blocks.proofs.Signed.{within_cast}
use Rattle.blocks.proofs.field.offset_allowed.Goals as goal

pub returns : goal.returns
returns c = within_cast w16 c.args.n (omega arith) refl _ c.cast_signed.ensures offset_limit _ (omega arith) c.unsigned_abs.ensures.value
