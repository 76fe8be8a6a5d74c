use native.Mathlib.Omega.{arith}
use Rattle.listing.proofs.Texts.{wrote_stopped, wrote_ended}
use Rattle.listing.proofs.summary.write_summary.Goals as goal

pub returns-in-Some : goal.returns-in-Some
returns-in-Some c = wrote_stopped _ _ _ _ _ _ _ _ _ c.write_counts-end.ensures.wrote _ c.in-Some.is c.write_place.ensures

pub returns-in-None : goal.returns-in-None
returns-in-None c =
    wrote_ended _ _ _ _ _ _ _ _ _ c.write_counts-end.ensures.wrote c.in-None.is
    (omega (arith, c.requires, c.write_counts-end.ensures.upper_bound, c.write_counts-end.auto.out)) c.write_bytes.ensures
