use mathlib.Core.Path.{refl}
use mir.Syntax.{w8}
use native.Mathlib.Omega.{arith}
use Rattle.blocks.specs.Header.{weight_limit}
use Rattle.blocks.proofs.Signed.{within_cast}
use Rattle.blocks.proofs.field.weight_allowed.Goals as goal

pub returns : goal.returns
returns c = within_cast w8 c.args.x (omega arith) refl _ c.cast_signed.ensures weight_limit _ (omega arith) c.unsigned_abs.ensures.value
