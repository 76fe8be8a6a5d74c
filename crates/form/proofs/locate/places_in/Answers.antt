use Rattle.form.proofs.Locates.{behind_it, from_near, from_found, four}
use native.Mathlib.Omega.{arith}
use Rattle.form.proofs.locate.places_in.Goals as goal

pub reach-lo-requires : goal.reach-lo-requires
reach-lo-requires c =
    let p = c.requires in (behind_it _ _ _ p.0, from_near _ _ _ p.0)

pub seek_record-from-requires : goal.seek_record-from-requires
seek_record-from-requires c = (c.requires.0, c.reach-lo.ensures, c.requires.1, c.requires.2)

pub reach-to-requires : goal.reach-to-requires
reach-to-requires c =
    let b = behind_it _ _ _ c.requires.0 in
    (b, from_found _ _ b.ends _ _ _ c.seek_record-from.ensures (omega arith))

pub seek_end-hi-requires : goal.seek_end-hi-requires
seek_end-hi-requires c =
    let p = c.requires in
    (behind_it _ _ _ p.0, c.reach-lo.ensures, c.reach-to.ensures, p.1)

pub returns : goal.returns
returns c = four _ _ (behind_it _ _ _ c.requires.0).ends _ _ _ _ _ _ c.reach-lo.ensures c.seek_record-from.ensures c.reach-to.ensures c.seek_end-hi.ensures
