use native.Mathlib.Omega.{arith}
use Rattle.listing.proofs.Listed.{unbegun, wrote_begun}
use Rattle.listing.proofs.lines.write_lines.Goals as goal

pub returns-in_default-clause-wrote : goal.returns-in_default-clause-wrote
returns-in_default-clause-wrote c = unbegun _ _ c.begin_records.ensures c.in_default.is _ _ (omega (arith, c.requires))

pub returns-clause-wrote : goal.returns-clause-wrote
returns-clause-wrote c = wrote_begun _ _ c.begin_records.ensures _ c.in-Some.is _ _ _ _ c.write_from.ensures.wrote
