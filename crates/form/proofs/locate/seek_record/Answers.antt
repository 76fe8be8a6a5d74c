use Rattle.form.proofs.Locates.{behind_it, from_found, last_reached}
use native.Mathlib.Omega.{arith}
use Rattle.form.proofs.locate.seek_record.Goals as goal

pub returns-then-key-end : goal.returns-then-key-end
returns-then-key-end c = last_reached _ _ _ c.requires.0 _ c.if-key-end.true

pub reach-requires : goal.reach-requires
reach-requires c =
    let p = c.requires in
    let b = behind_it _ _ _ p.0 in
    (b, from_found _ _ b.ends _ _ _ p.1 (omega arith))
