use Rattle.refusals.proofs.Numbers.{none_handed_on}
use Rattle.refusals.specs.Refusals.{numbered_result, answer_by}
use mathlib.Core.Path.{sym, ◌∙◌, ap}
use Rattle.form.proofs.Ready.{Ready, ready, stands, not_store_lem}
use Rattle.store.proofs.FontCalls.{answered, answered_err, download_not, download_range, download_refused, download_taken}
use Rattle.store.proofs.fonts.download_font.Goals as goal

pub returns-in_err-p : goal.returns-in_err-p
returns-in_err-p c =
    let m = none_handed_on _ _ _ _ (sym c.ok_or.ensures.value ∙ c.in_err-p.was) c.from_residual.ensures in
    let e = answered (download_not _ _ _ (not_store_lem _ 0 _ (sym c.inspect.ensures ∙ m.0))) in
    record { value = ap answer_by m.1 ∙ e.0; s_after = e.1 }

-- behind the inspection
pub returns-then-font-gt-LAST_FONT_ASKED : goal.returns-then-font-gt-LAST_FONT_ASKED
returns-then-font-gt-LAST_FONT_ASKED c =
    let at_found : Ready c.args.font 0 c.args.s.now c.in_ok-p.p = ready _ 0 _ (λ i. (c.slice_known-1.given i).fits) c.in_ok-p.p (sym c.inspect.ensures ∙ c.in_ok-p.ensures.ok_part) in
    let e = answered (download_range _ _ _ _ at_found c.if-font-gt-LAST_FONT_ASKED.true) in
    record { value = e.0; s_after = e.1 }

-- behind the inspection
pub put_font-requires : goal.put_font-requires
put_font-requires c =
    let at_found : Ready c.args.font 0 c.args.s.now c.in_ok-p.p = ready _ 0 _ (λ i. (c.slice_known-1.given i).fits) c.in_ok-p.p (sym c.inspect.ensures ∙ c.in_ok-p.ensures.ok_part) in
    (c.if-font-gt-LAST_FONT_ASKED.false, sym c.read_header.ensures ∙ ap numbered_result c.in_ok-read_header.was, stands at_found)

-- behind the inspection
pub returns-in_err-read_header : goal.returns-in_err-read_header
returns-in_err-read_header c =
    let at_found : Ready c.args.font 0 c.args.s.now c.in_ok-p.p = ready _ 0 _ (λ i. (c.slice_known-1.given i).fits) c.in_ok-p.p (sym c.inspect.ensures ∙ c.in_ok-p.ensures.ok_part) in
    let e = answered_err _ _ c.from_residual-in_err-read_header.ensures (download_refused _ _ _ _ at_found c.if-font-gt-LAST_FONT_ASKED.false _ (sym c.read_header.ensures ∙ ap numbered_result c.in_err-read_header.was)) in
    record { value = e.0; s_after = e.1 }

-- behind the inspection
pub returns : goal.returns
returns c =
    let at_found : Ready c.args.font 0 c.args.s.now c.in_ok-p.p = ready _ 0 _ (λ i. (c.slice_known-1.given i).fits) c.in_ok-p.p (sym c.inspect.ensures ∙ c.in_ok-p.ensures.ok_part) in
    let e = answered (download_taken _ _ _ _ at_found c.if-font-gt-LAST_FONT_ASKED.false (sym c.read_header.ensures ∙ ap numbered_result c.in_ok-read_header.was)) in
    record { value = c.put_font.ensures.value ∙ e.0; s_after = c.put_font.ensures.s_after ∙ e.1 }
