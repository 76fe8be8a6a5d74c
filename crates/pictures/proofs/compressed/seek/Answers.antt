use Rattle.std.proofs.Common.{◌≡◌, ◌+◌, ◌-◌, [], sym, ◌∙◌, zero-le, arith}
use Rattle.pictures.proofs.Lines.{rows_past, first_here, first_below, first_none, line_within}
use Rattle.pictures.proofs.Pictures.{tail_lent}
use Rattle.pictures.proofs.compressed.seek.Goals as goal

pub returns-then-above-repeat : goal.returns-then-above-repeat
returns-then-above-repeat c =
    let here = first_here c.args.width _ _ _ c.in-Some.ensures.cases.0 in
    here 0 zero-le ∙ sym (here c.loop-repeat.above (omega arith)) ∙ c.loop-repeat.invariant

pub returns-in_default-skip_line : goal.returns-in_default-skip_line
returns-in_default-skip_line c =
    let w = c.args.width in
    rows_past w [] 0 0 zero-le ∙ sym (first_none w _ _ _ c.in-Some.ensures.cases.0 c.loop-repeat.above (sym c.in_default-skip_line.is ∙ c.skip_line.ensures)) ∙ c.loop-repeat.invariant

pub slice_bounds-rest-count : goal.slice_bounds-rest-count
slice_bounds-rest-count c = (line_within _ _ 0 _ zero-le (sym c.in-Some-skip_line.is ∙ c.skip_line.ensures)).1

pub slice_bounds-rest-start : goal.slice_bounds-rest-start
slice_bounds-rest-start c = (line_within _ _ 0 _ zero-le (sym c.in-Some-skip_line.is ∙ c.skip_line.ensures)).1

pub loop-repeat-preserved : goal.loop-repeat-preserved
loop-repeat-preserved c =
    let w = c.args.width in
    let b = c.in-Some.repeat.now in
    let e : c.from-repeat.result ≡ b = c.from-repeat.ensures in
    let z : b + 1 + (c.loop-repeat.above - (b + 1)) ≡ c.loop-repeat.above = omega arith in
    rw (tail_lent c.in-Some-skip_line.used c.in-Some.runs.now, e) (sym (first_below w b _ _ c.in-Some.ensures.cases.0 _ (c.loop-repeat.above - (b + 1)) (sym c.in-Some-skip_line.is ∙ c.skip_line.ensures)) ∙ rw z c.loop-repeat.invariant)

pub returns : goal.returns
returns c =
    let none = rows_past c.args.width c.loop-repeat.rest.now 0 in
    none 0 (omega (arith, c.in_default.ensures.cases)) ∙ sym (none c.loop-repeat.above (omega (arith, c.in_default.ensures.cases))) ∙ c.loop-repeat.invariant
