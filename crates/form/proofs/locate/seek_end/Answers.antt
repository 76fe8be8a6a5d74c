use Rattle.form.proofs.Locates.{from_found}
use native.Mathlib.Omega.{arith}
use Rattle.form.proofs.locate.seek_end.Goals as goal

pub reach-requires : goal.reach-requires
reach-requires c =
    let p = c.requires in (p.0, from_found _ _ p.0.ends _ _ _ p.2 (omega (arith, c.if-place-lt-KEYS_EACH.true)))

pub reach-requires-2 : goal.reach-requires-2
reach-requires-2 c =
    let p = c.requires in (p.0, from_found _ _ p.0.ends _ _ _ p.1 (omega arith))
