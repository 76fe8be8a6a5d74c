use Rattle.std.proofs.Common.{ℕ, Result, sym, ◌∙◌, ap}
use Rattle.refusals.proofs.Numbers.{handed_on}
use Rattle.refusals.specs.Refusals.{numbered_result}
use Rattle.form.proofs.Seeks.{KeptFont, font_sought, font_refused}
use Rattle.form.proofs.FontRecords.{font_records}
use Rattle.stream.specs.Written.{written_by}
use Rattle.profile.specs.Profile.{writing_profiled}
use Rattle.profile.proofs.Characters.{told_some, told_none}
use Rattle.profile.proofs.Fonts.{places_rise, outside, inside}
use Rattle.profile.proofs.check.write_profiled.Goals as goal

pub returns-in_err-p : goal.returns-in_err-p
unfolding writing_profiled
returns-in_err-p c =
    ap (λ (x : Result ℕ ℕ). written_by x c.args.out.now) (handed_on _ _ c.from_residual.ensures)
    ∙ sym (font_refused _ _ _ _ _ (sym c.seek_font.ensures ∙ ap numbered_result c.in_err-p.was))

-- behind the seeking
pub broken_among-requires : goal.broken_among-requires
broken_among-requires c =
    let at_found : KeptFont c.args.font 0 c.args.s.now c.in_ok-p.p = font_sought _ _ c.in_ok-p.p (λ i. (c.shared_slice_known-1.given i).fits) (sym c.seek_font.ensures ∙ ap numbered_result c.in_ok-p.was) in
    ((_, font_records _ _ _ (at_found)), places_rise _ _ _ (at_found))

-- behind the seeking
pub returns-then-is_some : goal.returns-then-is_some
returns-then-is_some c =
    let at_found : KeptFont c.args.font 0 c.args.s.now c.in_ok-p.p = font_sought _ _ c.in_ok-p.p (λ i. (c.shared_slice_known-1.given i).fits) (sym c.seek_font.ensures ∙ ap numbered_result c.in_ok-p.was) in
    outside _ _ _ (at_found) _ c.broken_among.ensures _ (told_some _ (sym c.is_some.ensures ∙ c.if-is_some.true))

-- behind the seeking
pub write_found-requires : goal.write_found-requires
write_found-requires c =
    let at_found : KeptFont c.args.font 0 c.args.s.now c.in_ok-p.p = font_sought _ _ c.in_ok-p.p (λ i. (c.shared_slice_known-1.given i).fits) (sym c.seek_font.ensures ∙ ap numbered_result c.in_ok-p.was) in
    (_, font_records _ _ _ (at_found))

-- behind the seeking
pub returns : goal.returns
returns c =
    let at_found : KeptFont c.args.font 0 c.args.s.now c.in_ok-p.p = font_sought _ _ c.in_ok-p.p (λ i. (c.shared_slice_known-1.given i).fits) (sym c.seek_font.ensures ∙ ap numbered_result c.in_ok-p.was) in
    inside _ _ _ (at_found) _ c.broken_among.ensures _ (told_none _ (sym c.is_some.ensures ∙ c.if-is_some.false)) _ c.write_found.ensures
