use Rattle.std.proofs.Common.{ℕ, ◌*◌, eqb, leb, ap, ◌∙◌, ap₂}
use mathlib.Core.Bool.{beq}
use Rattle.choice.specs.Fields.{is_fixed}
use Rattle.choice.specs.Steps.{has_set, has_spacing, pitch_test_limit, qualifies}
use Rattle.choice.specs.Scores.{miss, pitch_number, pitch_score, major_of}
use Rattle.choice.proofs.major_of.Goals as goal

pub returns : goal.returns
unfolding major_of has_set has_spacing is_fixed pitch_score qualifies
returns c =
    let r = c.args.r in
    let set = c.miss-set.ensures.0 ∙ ap (λ (x : ℕ). miss (eqb x r.symbol_set)) c.kept_word.ensures.0 in
    let spacing = c.miss-spacing.ensures.0 ∙ ap (λ (x : ℕ). miss (beq (eqb x 0) (eqb r.spacing 0))) c.kept_byte-fixed.ensures.0 in
    λ p n.
    let pitch =
    c.pitch_number-pitch.ensures.0
    ∙ ap₂ (λ (x y : ℕ). pitch_number (eqb x 0) (leb (r.pitch * y) pitch_test_limit) y) c.kept_byte-fixed.ensures.0 (c.compared_pitch.ensures.0 p n) in
    rw (set, spacing, pitch)
