use Rattle.std.proofs.Common.{◌≡◌, [], ◌++◌, get_or, replicate, sym, refl, ap, ◌∙◌, arith, length-append}
use lib.ListN.{length-replicate}
use Rattle.pictures.specs.Drawing.{line_from, line_of, dots_of}
use Rattle.pictures.proofs.Packing.{white_row_lem, same_pack}
use Rattle.pictures.proofs.Lines.{line_end, line_over, line_whole, line_part}
use Rattle.pictures.proofs.compressed.draw_line.Goals.{else-loop-i-test, then-loop-i-test+then-from-end}
use Rattle.pictures.proofs.compressed.draw_line.Goals as goal

pub loop-i-init : goal.loop-i-init
unfolding line_from
loop-i-init c = ((refl, omega arith), ([], refl, white_row_lem (c.fill.ensures.after (λ y e. e)) (omega arith) refl, refl))

pub returns-then-end-from-clause-value : goal.returns-then-end-from-clause-value
returns-then-end-from-clause-value c =
    let i = c.loop-i.invariant.1 in
    ap line_of (sym (line_whole _ _ _ _ _ c.loop-i-test.true _ i.1 (omega arith)) ∙ i.3)

pub returns-then-end-from-clause-out_after : goal.returns-then-end-from-clause-out_after
returns-then-end-from-clause-out_after c =
    let i = c.loop-i.invariant.1 in
    c.put_run.ensures _ i.0 i.1 i.2 ∙ same_pack (omega arith) (ap dots_of (sym (line_whole _ _ _ _ _ c.loop-i-test.true _ i.1 (omega arith)) ∙ i.3))

pub loop-i-preserved : goal.loop-i-preserved
loop-i-preserved c =
    let i = c.loop-i.invariant.1 in (
      (omega arith, omega arith),
      (
        i.0 ++ replicate (get_or c.args.runs.now c.loop-i.i 0) c.loop-i.black,
        simp (length-append, length-replicate) (omega arith),
        c.put_run.ensures _ i.0 i.1 i.2 ∙ same_pack (omega arith) refl,
        sym (line_part _ _ _ _ _ c.loop-i-test.true _ i.1 (omega arith)) ∙ i.3,
      ),
    )

pub returns-clause-value : goal.returns-clause-value
returns-clause-value c =
    let i = c.loop-i.invariant.1 in
    elim c.loop-i-test.branch [
      | else-loop-i-test w ↦ ap line_of (sym (line_end _ _ _ _ _ w.loop-i-test.false) ∙ i.3)
      | then-loop-i-test+then-from-end w ↦ ap line_of (sym (line_over _ _ _ _ _ w.loop-i-test.true _ i.1 (omega arith)) ∙ i.3)
    ]

pub returns-clause-out_after : goal.returns-clause-out_after
returns-clause-out_after c =
    let i = c.loop-i.invariant.1 in
    let q : [] ≡ dots_of (line_from c.args.width c.args.runs.now 0) = elim c.loop-i-test.branch [
      | else-loop-i-test w ↦ ap dots_of (sym (line_end _ _ _ _ _ w.loop-i-test.false) ∙ i.3)
      | then-loop-i-test+then-from-end w ↦ ap dots_of (sym (line_over _ _ _ _ _ w.loop-i-test.true _ i.1 (omega arith)) ∙ i.3)
    ] in
    white_row_lem (c.fill-2.ensures.after (λ y e. e)) (omega arith) q
