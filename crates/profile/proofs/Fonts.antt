-- A font that is there, looked at between its places, and the two calls on it. Assumes nothing.
use Prim.Native.Nat.{ℕ, ◌+◌, ◌-◌, ◌≤◌, ◌<◌}
use mathlib.Core.Path.{◌≡◌, sym, ap, ◌∙◌}
use mathlib.Core.List.{List}
use native.Mathlib.Omega.{arith}
use borrow.Author.Tests.{eq-eqb, ne_eqb}
use lib.ListN.{length}
use Rattle.blocks.specs.Header.{header_bytes}
use Rattle.form.specs.Model.{Rec, font, total}
use Rattle.form.specs.Records.{records_of, Between}
use Rattle.form.specs.declared.walk.Places.{Places}
use Rattle.form.proofs.Seeks.{KeptFont, font_call}
use Rattle.form.proofs.RecordBytes.{size_pos}
use Rattle.form.proofs.FontRecords.{font_records}
use Rattle.stream.specs.Written.{WriteOut, unwritten, written_run, written, writing_bytes}
use Rattle.stream.proofs.RoundTrip.{kept_of_lem}
use Rattle.profile.specs.Profile.{RuleBroken, none_broken, broken_in, unchecked, checked_as, checking_profile, writing_profiled}
use Rattle.profile.specs.Pass.{broken_with, broken_among}
use Rattle.profile.proofs.Passes.{among_is}

-- ── the calls
module _ (n : ℕ) (s : List ℕ) (w : Places) (x : KeptFont n 0 s w) where
  pub places_rise : w.lo < w.hi
  unfolding total
  places_rise =
      let y = kept_of_lem n x.header x.ready.store.recs x.ready.valid.order x.there in
      omega (arith, (font_records n s w x).sum, ap total y.are, size_pos (font n x.header))

  module _ (b : RuleBroken) (f : (rs : List Rec) → Between s w.lo w.hi rs → b ≡ broken_among rs) where
    broken_is : b ≡ broken_in n x.header x.ready.store.recs
    broken_is = f (records_of n x.ready.store.recs) (font_records n s w x) ∙ among_is n x.header x.ready.store.recs x.ready.valid.order x.there

    pub checked_is : record { refusal = 0; rule = b.rule; code = b.code } ≡ checking_profile n s
    unfolding checking_profile
    checked_is = ap checked_as broken_is ∙ sym (font_call n s w unchecked _ x)

    module _ (out : List ℕ) where
      pub outside : (b.rule ≡ 0 → ⊥) → unwritten out 14 ≡ writing_profiled n s out
      unfolding writing_profiled
      outside e =
          let i : (broken_in n x.header x.ready.store.recs).rule ≡ b.rule = ap (λ (y : RuleBroken). y.rule) (sym broken_is) in
          rw (font_call n s w (unwritten out) _ x, ne_eqb (broken_in n x.header x.ready.store.recs).rule 0 (λ z. e (sym i ∙ z)))

      pub inside : b.rule ≡ 0 → (a : WriteOut) → ((rs : List Rec) → Between s w.lo w.hi rs → a ≡ writing_bytes (written_run rs) out) → a ≡ writing_profiled n s out
      unfolding writing_profiled written
      inside e a g =
          let i : (broken_in n x.header x.ready.store.recs).rule ≡ b.rule = ap (λ (y : RuleBroken). y.rule) (sym broken_is) in
          rw (font_call n s w (unwritten out) _ x, eq-eqb (broken_in n x.header x.ready.store.recs).rule 0 (i ∙ e)) (g (records_of n x.ready.store.recs) (font_records n s w x))
