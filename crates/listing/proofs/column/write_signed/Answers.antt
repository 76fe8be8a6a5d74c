use Rattle.std.proofs.Common.{◌≡◌, [], ◌∷◌, ◌-◌}
use native.Mathlib.Omega.{arith}
use Rattle.text.specs.Column.{column}
use Rattle.text.proofs.Writes.{wrote_byte, wrote_then}
use Rattle.listing.proofs.Listed.{signed_plain, signed_minus}
use Rattle.listing.proofs.column.write_signed.Goals as goal

pub returns-then-b-lt128-clause-wrote : goal.returns-then-b-lt128-clause-wrote
returns-then-b-lt128-clause-wrote c =
    let e : c.from.result ≡ c.args.b = omega arith in
    rw (signed_plain c.args.b c.args.after c.if-b-lt128.true) (rw e at c.write_short.ensures.wrote)

pub returns-clause-wrote : goal.returns-clause-wrote
returns-clause-wrote c =
    let e : c.from-2.result ≡ c.args.b = omega arith in
    rw (signed_minus c.args.b c.args.after c.if-b-lt128.false)
    (wrote_then _ (45 ∷ []) (column (256 - c.args.b) c.args.after) _ _ _ _ _ (wrote_byte _ _ 45 (omega (arith, c.requires))) (rw e at c.write_short-2.ensures.wrote))
