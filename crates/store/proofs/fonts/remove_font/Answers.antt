use Rattle.refusals.specs.Refusals.{numbered_result}
use mathlib.Core.Path.{sym, ◌∙◌, ap}
use Rattle.store.specs.Calls.{removing_font, store_without_font}
use Rattle.store.specs.Answer.{refuse, done}
use Rattle.form.proofs.Seeks.{KeptFont, font_sought, font_refused, font_call}
use Rattle.store.proofs.FontCalls.{answered, answered_err, cut_done}
use Rattle.store.proofs.fonts.remove_font.Goals as goal

-- behind the seeking
pub cut_font-requires : goal.cut_font-requires
cut_font-requires c =
    let at_found : KeptFont c.args.font 0 c.args.s.now c.in_ok-p.p = font_sought _ _ c.in_ok-p.p (λ i. (c.slice_known-1.given i).fits) (sym c.seek_font.ensures ∙ ap numbered_result c.in_ok-p.was) in
    let r = (at_found).ready in (r.least, r.span, r.end, r.room)

pub returns-in_err-p : goal.returns-in_err-p
unfolding removing_font
returns-in_err-p c =
    let e = answered_err _ _ c.from_residual.ensures (font_refused _ _ _ _ _ (sym c.seek_font.ensures ∙ ap numbered_result c.in_err-p.was)) in
    record { value = e.0; s_after = e.1 }

-- behind the seeking
pub returns : goal.returns
unfolding removing_font
returns c =
    let at_found : KeptFont c.args.font 0 c.args.s.now c.in_ok-p.p = font_sought _ _ c.in_ok-p.p (λ i. (c.slice_known-1.given i).fits) (sym c.seek_font.ensures ∙ ap numbered_result c.in_ok-p.was) in
    let x = at_found in
    let e = answered (font_call _ _ _ (refuse c.args.s.now) (λ st r. done (store_without_font c.args.font st)) x) in record { value = e.0; s_after = c.cut_font.ensures ∙ cut_done _ 0 _ _ x.ready ∙ e.1 }
