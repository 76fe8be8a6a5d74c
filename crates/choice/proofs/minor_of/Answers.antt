use Rattle.std.proofs.Common.{ℕ, eqb, ap, ◌∙◌}
use Rattle.choice.specs.Steps.{height_distance, height_off, has_style, has_typeface, has_orientation}
use Rattle.choice.specs.Scores.{miss, minor_of}
use Rattle.choice.proofs.minor_of.Goals as goal

pub returns : goal.returns
unfolding minor_of height_off has_style has_typeface has_orientation
returns c =
    let r = c.args.r in
    let style = c.miss-style.ensures.0 ∙ ap (λ (x : ℕ). miss (eqb x r.style)) c.style_of.ensures in
    let typeface = c.miss-typeface.ensures.0 ∙ ap (λ (x : ℕ). miss (eqb x r.typeface)) c.typeface_of.ensures in
    let orientation = c.miss-orientation.ensures.0 ∙ ap (λ (x : ℕ). miss (eqb x r.orientation)) c.kept_byte.ensures.0 in
    λ n.
    let p = c.args.soft in
    let height = c.height_number-height.ensures.0 ∙ ap (height_distance r.height) (c.compared_height.ensures.0 p n) in
    let resolution = c.miss-resolution.ensures.0 ∙ ap miss (c.is_fine.ensures p n) in
    rw (height, style, c.weight_of-weight.ensures.0 p n, typeface, resolution, c.miss-store.ensures.0, orientation)
