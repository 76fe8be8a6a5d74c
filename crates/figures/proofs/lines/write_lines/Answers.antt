use native.Mathlib.Omega.{arith}
use Rattle.figures.proofs.Texts.{going_starts, going_next}
use Rattle.figures.proofs.lines.write_lines.Goals as goal

pub loop-code-init : goal.loop-code-init
loop-code-init c = going_starts _ _ _ (omega (arith, c.requires.0))

pub loop-code-preserved : goal.loop-code-preserved
loop-code-preserved c =
    going_next _ _ _ _ _ _ c.loop-code.invariant (omega (arith, c.loop-code-test.true)) _ _ c.write_code-to.ensures.wrote c.write_code-to.ensures.upper_bound
