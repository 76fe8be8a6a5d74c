-- What a request within range gives the code. Assumes nothing.
use Rattle.std.proofs.Common.{◌≡◌, ℕ, ◌+◌, ◌%◌, ◌^◌, ◌<◌, Bool, true, false, ◌&&◌, eqb, ltb, leb, pos, sym, refl, ap, ◌∙◌, ap₂, le_antisymm, arith, eq-eqb, ne_eqb, leb-false, leb-true}
use Rattle.choice.specs.Candidates.{Candidate}
use Rattle.blocks.specs.Field.{byte, signed_within}
use Rattle.blocks.specs.Header.{last_symbol_set, last_spacing, last_style, weight_limit, last_orientation}
use Rattle.choice.specs.Fields.{header_of, weight_of}
use Rattle.choice.specs.Request.{asked_weight, highest_r, highest_h, highest_typeface, is_mode, in_range}
use Rattle.choice.specs.Steps.{exact, is_thicker, is_thinner}
use Rattle.choice.specs.Scores.{thickness, weight_number, weight_score}
use Rattle.choice.specs.declared.Request.{Request}
use Rattle.choice.proofs.Least.{not_both}
use Rattle.choice.proofs.Signed.{raise_le, raise_lt, Raised, raised_byte, raised_request}
use Rattle.choice.proofs.Fields.{byte_bound}

and_left : (a b : Bool) → (a && b) ≡ true → a ≡ true
and_left true b e = refl
and_left false b e = e

and_right : (a b : Bool) → (a && b) ≡ true → b ≡ true
and_right true b e = e
and_right false b e = absurd (not_both false e refl)

-- the weight's test among all
sixth : (a b c d e f g h i : Bool) → (a && b && c && d && e && f && g && h && i) ≡ true → f ≡ true
sixth a b c d e f g h i t = search (and_left, and_right) depth 10

weight_asked : (r : Request) → in_range r ≡ true → r.weight < 2 ^ 32 → Raised 128 32 r.weight
unfolding in_range asked_weight
weight_asked r t h =
    raised_request r.weight h
    (sixth (leb r.symbol_set last_symbol_set) (leb r.spacing last_spacing) (leb r.pitch highest_r) (leb r.height highest_h) (leb r.style last_style)
    (signed_within 32 weight_limit r.weight) (leb r.typeface highest_typeface) (leb r.orientation last_orientation) (is_mode r.mode) t)

-- equal as signed numbers, by two comparisons
both : (a b : ℕ) → (leb a b && leb b a) ≡ eqb a b
both a b = go (leb a b) refl (leb b a) refl
  where
    go : (p : Bool) → leb a b ≡ p → (q : Bool) → leb b a ≡ q → (p && q) ≡ eqb a b
    go true e true u = sym (eq-eqb a b (le_antisymm (leb-true a b e) (leb-true b a u)))
    go true e false u = sym (ne_eqb a b (λ h. omega (arith, leb-false b a u)))
    go false e q u = sym (ne_eqb a b (λ h. omega (arith, leb-false a b e)))

-- the comparisons of step 6, by unsigned numbers
pub weights : (r : Request) → in_range r ≡ true → r.weight < 2 ^ 32 → (a : ℕ) → a ≡ (r.weight + 128) % 2 ^ 32
    → (f : Candidate) (w : ℕ) → w ≡ thickness f → weight_number (eqb a w) (leb 128 a) (ltb a w) (ltb w a) w ≡ weight_score r f
unfolding weight_score exact is_thicker is_thinner asked_weight weight_of
weights r t h a ea f w ew =
    let rr = weight_asked r t h in
    let rf = raised_byte (byte (header_of f) 24) (byte_bound f.kept 24) in
    let ia = rr.is ∙ sym ea in
    let iw = rf.is ∙ sym ew in
    let e₁ = raise_le 128 (asked_weight r) (weight_of f) rr.low rf.low ∙ ap₂ leb ia iw in
    let e₂ = raise_le 128 (weight_of f) (asked_weight r) rf.low rr.low ∙ ap₂ leb iw ia in
    let e₃ = raise_le 128 (pos 0) (asked_weight r) tt rr.low ∙ ap (leb 128) ia in
    let e₄ = raise_lt 128 (asked_weight r) (weight_of f) rr.low rf.low ∙ ap₂ ltb ia iw in
    let e₅ = raise_lt 128 (weight_of f) (asked_weight r) rf.low rr.low ∙ ap₂ ltb iw ia in
    rw (e₁, e₂, e₃, e₄, e₅, both a w, ← ew)
