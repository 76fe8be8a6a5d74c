-- The chosen font's record in two stores, from what the code finds. Assumes nothing.
use Prim.Native.Nat.{ℕ, ◌+◌, ◌-◌, ◌<◌, ◌≤◌}
use Rattle.std.specs.Prelude.{Option as Optional, Some, None}
use mathlib.Core.Path.{◌≡◌, refl, sym, ap, ◌∙◌, subst}
use mathlib.Core.Bool.{Bool, true, false, cond, ◌&&◌, false≢true}
use mathlib.Core.Logic.{◌⊎◌, inl, inr}
use mathlib.Core.List.{List}
use native.Mathlib.Nat.{zero-add}
use native.Mathlib.Omega.{arith}
use lib.ListN.{length, take, drop}
use lib.Dec.{leb}
use borrow.Author.Tests.{le-leb, lt-leb, leb-true, ne_eqb}
use Rattle.form.specs.Layout.{font_record, font_kept_at}
use Rattle.form.specs.Records.{is_store, Begun}
use Rattle.form.specs.Fonts.{fonts_of}
use Rattle.choice.specs.Candidates.{of_both}
use Rattle.choice.specs.Steps.{Choice}
use Rattle.choice.specs.Choosing.{choosing_among, choosing_from_two}
use Rattle.choice.specs.Scores.{PickedAt}
use Rattle.choice.specs.declared.Request.{Request}
use Rattle.choice.specs.declared.Picked.{Picked}
use Rattle.std.specs.Prelude.{Ok, Err}
use Rattle.refusals.specs.Refusals.{refusal_number}
use Rattle.refusals.specs.declared.Refused.{Refused}
use Rattle.refusals.specs.declared.Refused.TheVariants.{NotStore}
use Rattle.cartridge.specs.declared.RecordAnswer.{RecordAnswer}
use Rattle.cartridge.specs.Cartridge.{chosen_place, record_answer, answering_from_two, MemoryPart, fits, record_part}

-- ── the two stores
module _ (s : List ℕ) (v : Optional ℕ) (h : Begun s v) where
  pub begun : (p : ℕ) → v ≡ Some p → Begun s (Some p)
  begun p e = rw e at h

  pub no_store : v ≡ None → is_store s ≡ false
  no_store e = rw e at h

module _ (s t : List ℕ) (r : Request) where
  pub first_refused : is_store s ≡ false → Err NotStore ≡ choosing_from_two s t r
  unfolding choosing_from_two
  first_refused e = rw e

  pub second_refused : is_store s ≡ true → is_store t ≡ false → Err NotStore ≡ choosing_from_two s t r
  unfolding choosing_from_two
  second_refused e f = rw (e, f)

  pub both_stores : is_store s ≡ true → is_store t ≡ true → (c : Choice) → c ≡ choosing_among (of_both (fonts_of s) (fonts_of t)) r → c ≡ choosing_from_two s t r
  unfolding choosing_from_two
  both_stores e f c h = rw (e, f) h

-- ── the part
pub too_short : (n at : ℕ) → n < font_record → false ≡ fits n at
unfolding fits
too_short n at l = rw (lt-leb font_record n l) refl

pub long_enough : (n at : ℕ) → font_record ≤ n → leb at (n - font_record) ≡ fits n at
unfolding fits
long_enough n at l = rw (le-leb font_record n l) refl

pub room : (n at : ℕ) → fits n at ≡ true → at + font_record ≤ n
unfolding fits
room n at f = go (leb font_record n) (leb at (n - font_record)) refl refl f
  where
    go : (x y : Bool) → leb font_record n ≡ x → leb at (n - font_record) ≡ y → x && y ≡ true → at + font_record ≤ n
    go true true p q z = omega (arith, leb-true font_record n p, leb-true at (n - font_record) q)
    go true false p q z = absurd (false≢true z)
    go false y p q z = absurd (false≢true z)

-- the ways out, where the numbers name a store u, and where they name none
module _ (a b : MemoryPart) (c : RecordAnswer) where
  abbrev pub Named : MemoryPart → Type 0
  Named u = ((c.which ≡ 1) × (u ≡ a)) ⊎ ((c.which ≡ 2) × (u ≡ b))

  pub in_either : (u : MemoryPart) → Named u → c.place + font_record ≤ length u.bytes → (c.place + font_record ≤ length a.bytes) ⊎ (c.place + font_record ≤ length b.bytes)
  in_either u (inl (e, i)) l = inl (subst (λ (x : MemoryPart). c.place + font_record ≤ length x.bytes) i l)
  in_either u (inr (e, i)) l = inr (subst (λ (x : MemoryPart). c.place + font_record ≤ length x.bytes) i l)

  pub whole_part : (u : MemoryPart) → Named u → fits (length u.bytes) c.place ≡ true
      → record { spot = (u.spot.0, c.place + u.spot.1); bytes = take (c.place + font_record - c.place) (drop c.place u.bytes) } ≡ record_part a b c
  unfolding record_part
  whole_part u (inl (e, i)) f =
      let n : c.place + font_record - c.place ≡ font_record = omega arith in
      let g : fits (length a.bytes) c.place ≡ true = ap (λ (x : MemoryPart). fits (length x.bytes) c.place) (sym i) ∙ f in
      rw (e, g, n, i) refl
  whole_part u (inr (e, i)) f =
      let n : c.place + font_record - c.place ≡ font_record = omega arith in
      let g : fits (length b.bytes) c.place ≡ true = ap (λ (x : MemoryPart). fits (length x.bytes) c.place) (sym i) ∙ f in
      rw (e, g, n, i) refl

  pub empty_part : (u : MemoryPart) → Named u → fits (length u.bytes) c.place ≡ false → record { spot = a.spot; bytes = take 0 a.bytes } ≡ record_part a b c
  unfolding record_part
  empty_part u (inl (e, i)) f =
      let g : fits (length a.bytes) c.place ≡ false = ap (λ (x : MemoryPart). fits (length x.bytes) c.place) (sym i) ∙ f in
      rw (e, g, zero-add a.spot.1) refl
  empty_part u (inr (e, i)) f =
      let g : fits (length b.bytes) c.place ≡ false = ap (λ (x : MemoryPart). fits (length x.bytes) c.place) (sym i) ∙ f in
      rw (e, g, zero-add a.spot.1) refl

  pub no_part : (c.which ≡ 1 → ⊥) → (c.which ≡ 2 → ⊥) → record { spot = a.spot; bytes = take 0 a.bytes } ≡ record_part a b c
  unfolding record_part
  no_part e f = rw (ne_eqb c.which 1 e, ne_eqb c.which 2 f, zero-add a.spot.1) refl

-- ── the answer by what was picked
module _ (s t : List ℕ) (r : Request) where
  -- the record of the font that is picked begins before its kept bytes
  pub picked_answer : (p : Picked) → PickedAt s t p → Ok p.chosen ≡ choosing_from_two s t r
      → record { refusal = 0; font = p.chosen.number; which = cond p.chosen.soft 1 2; place = p.kept - font_kept_at } ≡ answering_from_two s t r
  unfolding answering_from_two record_answer
  picked_answer p h e =
      let l : p.kept - font_kept_at ≡ chosen_place s t (Ok p.chosen) = omega (arith, h) in
      rw (← e, l) refl

  pub refused_answer : (k : Refused) → Err k ≡ choosing_from_two s t r → record { refusal = refusal_number k; font = 0; which = 0; place = 0 } ≡ answering_from_two s t r
  unfolding answering_from_two record_answer
  refused_answer k e = rw (← e) refl
