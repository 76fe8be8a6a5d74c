use Rattle.form.proofs.Locates.{ends_there, from_found, four}
use native.Mathlib.Omega.{arith}
use Rattle.form.proofs.locate.locate.Goals as goal

pub seek_place-from-requires : goal.seek_place-from-requires
seek_place-from-requires c = (c.requires.0, c.seek_key-lo.ensures, omega arith)

pub advance-to-requires : goal.advance-to-requires
advance-to-requires c = from_found _ _ (ends_there _ _ c.requires.0) _ _ _ c.seek_place-from.ensures (omega arith)

pub advance-hi-requires : goal.advance-hi-requires
advance-hi-requires c = from_found _ _ (ends_there _ _ c.requires.0) _ _ _ c.advance-to.ensures (omega (arith, c.requires.2))

pub returns : goal.returns
returns c = four _ _ (ends_there _ _ c.requires.0) _ _ _ _ _ _ c.seek_key-lo.ensures c.seek_place-from.ensures c.advance-to.ensures c.advance-hi.ensures
