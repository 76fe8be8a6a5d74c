use mathlib.Core.Path.{◌≡◌, refl, sym, ap, ◌∙◌}
use Prim.Native.Nat.{ℕ, ◌+◌, ◌-◌}
use lib.ListN.{length-take, length-drop}
use Rattle.blocks.specs.Header.{header_bytes}
use Rattle.form.specs.Layout.{font_kept_at}
use Rattle.form.proofs.RecordRuns.{records_short, records_zero, font_met, character_met}
use Rattle.form.proofs.KeptFonts.{fonts_end, font_listed, character_passed, font_place_lem, one_less}
use native.Mathlib.Omega.{arith}
use Rattle.form.proofs.kept_fonts.KeptFontsIterator.next.Goals as goal

pub loop-p-init : goal.loop-p-init
loop-p-init c = (c.requires, refl, refl, omega arith)

pub overflow_sub-s : goal.overflow_sub-s
overflow_sub-s c = c.loop-p.invariant.0.within

pub le32-len-requires : goal.le32-len-requires
le32-len-requires c = omega (arith, c.loop-p.invariant.0.within)

pub returns-then-len-eq0-clause-steps : goal.returns-then-len-eq0-clause-steps
returns-then-len-eq0-clause-steps c = let e = sym c.loop-p.invariant.1 ∙ fonts_end _ _ (records_zero _ _ c.loop-p.invariant.0 (omega arith)) in (e, rw c.loop-p.invariant.2 e, c.loop-p.invariant.2)

pub overflow_add-result : goal.overflow_add-result
overflow_add-result c = omega (arith, c.loop-p.invariant.0.within)

pub overflow_add-p-then-le16-eq-FONT_KIND : goal.overflow_add-p-then-le16-eq-FONT_KIND
overflow_add-p-then-le16-eq-FONT_KIND c =
    let n = font_met c.args.self.now.store.now c.loop-p.p c.loop-p.invariant.0 (λ e. omega arith) (omega arith) in omega (arith, n.met.within)

pub overflow_add-self : goal.overflow_add-self
overflow_add-self c =
    let n = font_met c.args.self.now.store.now c.loop-p.p c.loop-p.invariant.0 (λ e. omega arith) (omega arith) in omega (arith, n.met.within)

pub slice_bounds-result-end : goal.slice_bounds-result-end
slice_bounds-result-end c =
    let n = font_met c.args.self.now.store.now c.loop-p.p c.loop-p.invariant.0 (λ e. omega arith) (omega arith) in omega (arith, n.met.within)

pub returns-then-le16-eq-FONT_KIND-clause-steps : goal.returns-then-le16-eq-FONT_KIND-clause-steps
returns-then-le16-eq-FONT_KIND-clause-steps c =
    let n = font_met c.args.self.now.store.now c.loop-p.p c.loop-p.invariant.0 (λ e. omega arith) (omega arith) in
    let k : c.loop-p.p + font_kept_at + header_bytes - (c.loop-p.p + font_kept_at) ≡ header_bytes = omega arith in
    rw (c.loop-p.invariant.2, k, c.le16-then-le16-eq-FONT_KIND.ensures.0) (
      sym c.loop-p.invariant.1 ∙ font_listed _ _ _ _ _ n,
      refl,
      record { low = n.low; whole = simp (length-take, length-drop) (omega (arith, n.room)); place = ap (λ (x : ℕ). x + font_kept_at) (font_place_lem _ _ _ _ _ c.loop-p.invariant.0 n); room = n.room; kept = refl },
      record { ahead = omega (arith, c.loop-p.invariant.3); within = n.met.within; after = omega arith },
    )

pub returns-then-le16-eq-FONT_KIND-clause-goes : goal.returns-then-le16-eq-FONT_KIND-clause-goes
returns-then-le16-eq-FONT_KIND-clause-goes c =
    let n = font_met c.args.self.now.store.now c.loop-p.p c.loop-p.invariant.0 (λ e. omega arith) (omega arith) in
    one_less _ _ _ (rw c.loop-p.invariant.2 n.met.place) (returns-then-le16-eq-FONT_KIND-clause-steps c).0

pub overflow_add-p-in-loop-p : goal.overflow_add-p-in-loop-p
overflow_add-p-in-loop-p c =
    let o = character_met c.args.self.now.store.now c.loop-p.p c.loop-p.invariant.0 (λ e. omega arith) (λ e. omega arith) in omega (arith, o.met.within)

pub loop-p-smaller : goal.loop-p-smaller
loop-p-smaller c =
    let o = character_met c.args.self.now.store.now c.loop-p.p c.loop-p.invariant.0 (λ e. omega arith) (λ e. omega arith) in omega (arith, o.met.within, o.met.ahead)

pub loop-p-preserved : goal.loop-p-preserved
loop-p-preserved c =
    let o = character_met c.args.self.now.store.now c.loop-p.p c.loop-p.invariant.0 (λ e. omega arith) (λ e. omega arith) in
    rw c.le32-len.ensures (o.met.place, sym (character_passed _ _ _ _ _ _ _ o) ∙ c.loop-p.invariant.1, c.loop-p.invariant.2, omega (arith, c.loop-p.invariant.3, o.met.ahead))

pub returns-clause-steps : goal.returns-clause-steps
returns-clause-steps c = let e = sym c.loop-p.invariant.1 ∙ fonts_end _ _ (records_short _ _ c.loop-p.invariant.0 c.loop-p-test.false) in (e, rw c.loop-p.invariant.2 e, c.loop-p.invariant.2)
