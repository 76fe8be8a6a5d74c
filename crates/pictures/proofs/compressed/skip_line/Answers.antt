use Rattle.std.proofs.Common.{◌≡◌, false, not, [], ◌++◌, length, get_or, replicate, sym, refl, ap, ◌∙◌, arith, length-append}
use lib.ListN.{length-replicate}
use Rattle.pictures.specs.Drawing.{line_from, line_of}
use Rattle.pictures.proofs.Lines.{line_end, line_last, line_part}
use Rattle.pictures.proofs.compressed.skip_line.Goals as goal

pub loop-i-init : goal.loop-i-init
unfolding line_from
loop-i-init c = ([], false, omega (arith, c.from-left.ensures), refl)

pub returns-then-left-run : goal.returns-then-left-run
returns-then-left-run c =
    let i = c.loop-i.invariant in
    let z : c.from-run.result ≡ get_or c.args.runs.now c.loop-i.i 0 = c.from-run.ensures in
    c.then_some.ensures ∙ rw z (line_last _ i.0 i.1 _ _ c.loop-i-test.true c.loop-i.left i.2 (omega arith)) ∙ ap line_of i.3

pub loop-i-preserved : goal.loop-i-preserved
loop-i-preserved c =
    let i = c.loop-i.invariant in
    let z : c.from-run.result ≡ get_or c.args.runs.now c.loop-i.i 0 = c.from-run.ensures in (
      i.0 ++ replicate (get_or c.args.runs.now c.loop-i.i 0) i.1,
      not i.1,
      simp (length-append, length-replicate) (omega arith),
      sym (line_part _ i.0 i.1 _ _ c.loop-i-test.true (length i.0) refl (omega arith)) ∙ i.3,
    )

pub returns : goal.returns
returns c =
    let i = c.loop-i.invariant in ap line_of (sym (line_end _ i.0 i.1 _ _ c.loop-i-test.false) ∙ i.3)
