use Rattle.std.proofs.Common.{ℕ, Result, sym, ◌∙◌, ap}
use Rattle.refusals.proofs.Numbers.{handed_on}
use Rattle.refusals.specs.Refusals.{numbered_result}
use Rattle.form.proofs.Seeks.{KeptFont, font_sought, font_refused}
use Rattle.form.proofs.FontRecords.{font_records}
use Rattle.stream.specs.Written.{written_by, writing_font}
use Rattle.stream.proofs.Writes.{font_written}
use Rattle.stream.proofs.write.write_font.Goals as goal

pub returns-in_err-p : goal.returns-in_err-p
unfolding writing_font
returns-in_err-p c =
    ap (λ (x : Result ℕ ℕ). written_by x c.args.out.now) (handed_on _ _ c.from_residual.ensures)
    ∙ sym (font_refused _ _ _ _ _ (sym c.seek_font.ensures ∙ ap numbered_result c.in_err-p.was))

-- behind the seeking
pub write_found-requires : goal.write_found-requires
write_found-requires c =
    let at_found : KeptFont c.args.font 0 c.args.s.now c.in_ok-p.p = font_sought _ _ c.in_ok-p.p (λ i. (c.shared_slice_known-1.given i).fits) (sym c.seek_font.ensures ∙ ap numbered_result c.in_ok-p.was) in
    (_, font_records _ _ _ (at_found))

-- behind the seeking
pub returns : goal.returns
returns c =
    let at_found : KeptFont c.args.font 0 c.args.s.now c.in_ok-p.p = font_sought _ _ c.in_ok-p.p (λ i. (c.shared_slice_known-1.given i).fits) (sym c.seek_font.ensures ∙ ap numbered_result c.in_ok-p.was) in
    font_written _ _ _ _ (at_found) _ c.write_found.ensures
