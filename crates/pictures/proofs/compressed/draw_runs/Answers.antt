use Rattle.std.proofs.Common.{◌≡◌, ℕ, ◌+◌, ◌*◌, ◌≤◌, sym, refl, ap, ◌∙◌, zero-le, mul-le-mul_right, add-mul, zero-add, zero-mul, arith, length-drop, length-take}
use Rattle.pictures.specs.Size.{runs_class, row_size}
use Rattle.pictures.specs.Rows.{picture, row_dots}
use Rattle.pictures.specs.Drawing.{dots_of}
use Rattle.pictures.proofs.Lines.{line_ends, line_unfinished, line_within, first_here, first_below, first_none, rows_past}
use Rattle.pictures.proofs.Pictures.{picture_more, picture_rest, tail_lent}
use Rattle.pictures.proofs.compressed.draw_runs.Goals as goal

within : (w top h len : ℕ) → len ≡ h * row_size w → top ≤ h → top * row_size w ≤ len
within w top h len e l = omega (arith, mul-le-mul_right (row_size w) l)

pub loop-repeat-init : goal.loop-repeat-init
unfolding picture
loop-repeat-init c = (zero-le, refl, rw zero-mul, λ _ j. rw zero-add)

pub draw_times-requires : goal.draw_times-requires
draw_times-requires c =
    let e : c.row_size-n.result ≡ row_size c.args.width = c.row_size-n.ensures in
    let g : c.from-height.result ≡ c.args.height = c.from-height.ensures in
    let m = c.min-times.result in
    let l : c.loop-repeat.top + m ≤ c.args.height = omega arith in
    (omega arith, simp (length-take, length-drop) (omega (arith, within c.args.width (c.loop-repeat.top + m) c.args.height _ c.requires l, add-mul c.loop-repeat.top m (row_size c.args.width), ap (λ (x : ℕ). c.loop-repeat.top * x) e)))

pub returns-in_default-draw_times : goal.returns-in_default-draw_times
unfolding row_dots
returns-in_default-draw_times c =
    let w = c.args.width in
    let top = c.loop-repeat.top in
    picture_rest runs_class w c.args.bytes.now top _ c.loop-repeat.invariant.2 _ c.args.height (ap (λ (x : ℕ). top * x) c.row_size-n.ensures) (omega (arith, c.loop-repeat.invariant.0, c.from-height.ensures)) (omega arith)
    (λ j l. sym (c.loop-repeat.invariant.3 (omega arith) j) ∙ first_none w _ _ _ c.in-Some.ensures.cases.0 j (sym c.in_default-draw_times.is ∙ c.draw_times.ensures.value)) _ _
    (c.draw_times.ensures.out_after ∙ rw (line_unfinished w c.in-Some.runs.now 0 (sym c.in_default-draw_times.is ∙ c.draw_times.ensures.value))) refl

pub slice_bounds-rest-count : goal.slice_bounds-rest-count
slice_bounds-rest-count c = (line_within _ _ 0 _ zero-le (sym c.in-Some-draw_times.is ∙ c.draw_times.ensures.value)).1

pub slice_bounds-rest-start : goal.slice_bounds-rest-start
slice_bounds-rest-start c = (line_within _ _ 0 _ zero-le (sym c.in-Some-draw_times.is ∙ c.draw_times.ensures.value)).1

pub loop-repeat-preserved : goal.loop-repeat-preserved
unfolding row_dots
loop-repeat-preserved c =
    let w = c.args.width in
    let b = c.args.bytes.now in
    let top = c.loop-repeat.top in
    let m = c.min-times.result in
    let q : c.from.result ≡ c.in-Some.repeat.now = c.from.ensures in
    let v = sym c.in-Some-draw_times.is ∙ c.draw_times.ensures.value in
    let e = line_ends w c.in-Some.runs.now 0 _ v in (
      omega arith,
      omega arith,
      picture_more runs_class w b top _ c.loop-repeat.invariant.2 _ m e.0 _ _ (ap (λ (x : ℕ). top * x) c.row_size-n.ensures) (rw e.1 at c.draw_times.ensures.out_after)
          (λ j l. sym (c.loop-repeat.invariant.3 (omega arith) j) ∙ first_here w _ _ _ c.in-Some.ensures.cases.0 j (omega arith) ∙ ap dots_of e.1),
      λ g j. let z : top + (c.in-Some.repeat.now + 1 + j) ≡ top + m + j = omega arith in
          rw (tail_lent c.in-Some-draw_times.used c.in-Some.runs.now)
          (sym (first_below w _ _ _ c.in-Some.ensures.cases.0 _ j v) ∙ c.loop-repeat.invariant.3 (omega arith) (c.in-Some.repeat.now + 1 + j) ∙ rw z),
    )

pub returns : goal.returns
unfolding row_dots
returns c =
    let w = c.args.width in
    let top = c.loop-repeat.top in
    picture_rest runs_class w c.args.bytes.now top _ c.loop-repeat.invariant.2 _ c.args.height (ap (λ (x : ℕ). top * x) c.row_size-n.ensures) (omega (arith, c.loop-repeat.invariant.0, c.from-height.ensures)) (omega arith)
    (λ j l. sym (c.loop-repeat.invariant.3 (omega (arith, c.from-height.ensures)) j) ∙ rows_past w c.loop-repeat.rest.now 0 j (omega (arith, c.in_default.ensures.cases))) _ _ (c.fill.ensures.after (λ y e. e)) refl
