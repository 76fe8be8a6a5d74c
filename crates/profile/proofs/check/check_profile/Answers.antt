use Rattle.refusals.proofs.Numbers.{err_by}
use Rattle.refusals.specs.Refusals.{numbered_result}
use mathlib.Core.Path.{sym, ◌∙◌, ap}
use Rattle.form.proofs.Seeks.{KeptFont, font_sought, font_refused}
use Rattle.form.proofs.FontRecords.{font_records}
use Rattle.profile.specs.Profile.{checking_profile}
use Rattle.profile.proofs.Fonts.{places_rise, checked_is}
use Rattle.profile.proofs.check.check_profile.Goals as goal

-- behind the seeking
pub broken_among-requires : goal.broken_among-requires
broken_among-requires c =
    let at_found : KeptFont c.args.font 0 c.args.s.now c.in-Ok.p = font_sought _ _ c.in-Ok.p (λ i. (c.shared_slice_known-1.given i).fits) (sym c.seek_font.ensures ∙ ap numbered_result c.in-Ok.is) in
    ((_, font_records _ _ _ (at_found)), places_rise _ _ _ (at_found))

pub returns-in-Err : goal.returns-in-Err
unfolding checking_profile
returns-in-Err c = c.unchecked.ensures ∙ sym (font_refused _ _ _ _ _ (sym c.seek_font.ensures ∙ err_by c.in-Err.is c.from.ensures))

-- behind the seeking
pub returns-in-Ok : goal.returns-in-Ok
returns-in-Ok c =
    let at_found : KeptFont c.args.font 0 c.args.s.now c.in-Ok.p = font_sought _ _ c.in-Ok.p (λ i. (c.shared_slice_known-1.given i).fits) (sym c.seek_font.ensures ∙ ap numbered_result c.in-Ok.is) in
    c.checked_as.ensures ∙ checked_is _ _ _ (at_found) _ c.broken_among.ensures
