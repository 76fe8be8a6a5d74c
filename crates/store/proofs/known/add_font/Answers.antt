use Rattle.refusals.proofs.Numbers.{err_by}
use Rattle.refusals.specs.Refusals.{numbered_result}
use Rattle.store.proofs.Cursors.{in_order, font_behind}
use Rattle.store.proofs.Again.{known_refused, known_taken}
use Rattle.store.proofs.BadRuns.{font_run}
use Rattle.form.proofs.Locates.{store_is}
use Rattle.store.proofs.FontCalls.{answered, answered_by, plainly}
use mathlib.Core.Path.{sym, ◌∙◌, ap}
use Rattle.store.proofs.known.add_font.Goals as goal

pub put_font-requires : goal.put_font-requires
put_font-requires c = (c.requires.1, sym c.read_header.ensures ∙ ap numbered_result c.in-Ok.is, c.locate-p.ensures)

pub font_end-requires : goal.font_end-requires
font_end-requires c =
    let y = in_order _ 0 _ _ c.locate-p.ensures in (y.span, y.end, y.small)

pub returns-in-Err : goal.returns-in-Err
returns-in-Err c =
    let e = answered_by c.without_run.ensures (known_refused _ c.args.block.now _ (store_is _ _ c.requires.0.is) c.requires.1 _ (sym c.read_header.ensures ∙ err_by c.in-Err.is c.from.ensures)) in record { answer_value = (e.0, c.requires.0); s_after = e.1 }

pub returns-in-Ok : goal.returns-in-Ok
returns-in-Ok c =
    let q = known_taken _ c.args.block.now _ (store_is _ _ c.requires.0.is) c.requires.1 (sym c.read_header.ensures ∙ ap numbered_result c.in-Ok.is) in
    let e = answered q in
    let b = c.put_font.ensures.s_after ∙ e.1 in record {
      answer_value = (
        plainly _ _ q (font_run _ _ _).1 c.without_run-in-Ok.ensures (c.answer-answer.ensures ∙ c.put_font.ensures.value),
        font_behind _ c.args.block.now _ _ c.locate-p.ensures c.requires.1 _ _ _ b ((c.answer-answer.ensures ∙ c.put_font.ensures.value) ∙ e.0) c.font_end.ensures,
      );
      s_after = b;
    }
