-- P1 to P12 hold of the definitions, by computing. Assumes nothing.
use mathlib.Core.Path.{refl}
use Rattle.marlinfold.specs.Trials.{names_font, none_to_choose, not_in_range, names_record, no_record, drawn, run_too_long, none_open, breaks, lettered, table, TrialsHold}
use Rattle.marlinfold.proofs.Computing.{computing}

pub trials : TrialsHold
unfolding computing table names_font none_to_choose not_in_range names_record no_record drawn run_too_long none_open breaks lettered
trials = (refl, (refl, (refl, (refl, (refl, (refl, (refl, (refl, (refl, (refl, (refl, (refl, (refl, (refl, (refl, (refl, (refl, (refl, (refl, (refl, (refl, (refl, (refl, (refl, (refl, (refl, (refl, (refl, (refl, (refl, (refl, (refl, (refl, (refl, (refl, (refl, (refl, (refl, (refl, (refl, (refl, (refl, (refl, (refl, (refl, (refl, (refl, (refl, (refl, (refl, (refl, (refl, (refl, (refl, (refl, (refl, (refl, (refl, (refl, (refl, (refl, (refl, ((refl, refl), (refl, ((refl, refl), (refl, (refl, ((refl, refl), (refl, tt)))))))))))))))))))))))))))))))))))))))))))))))))))))))))))))))))))))
