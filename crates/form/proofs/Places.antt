-- What is given at a place of a store. Assumes nothing.
use mathlib.Core.Path.{◌≡◌, refl, sym, ap, ◌∙◌, subst}
use mathlib.Core.List.{List, ◌∷◌, ◌++◌}
use Prim.Native.Nat.{ℕ, ◌+◌, ◌-◌, ◌≤◌}
use native.Mathlib.Omega.{arith}
use lib.ListN.{length, take, drop, length-take}
use lib.Seq.{drop-drop}
use Rattle.std.proofs.lemmas.List.{drop-take}
use Rattle.blocks.specs.Header.{header_bytes}
use Rattle.blocks.specs.Character.{descriptor_bytes}
use Rattle.form.specs.Layout.{font_record, font_kept_at, character_record, character_kept_at}
use Rattle.form.specs.Model.{Rec, font, character, size_of, total}
use Rattle.form.specs.Records.{records_at, run_records, MetAt, FontMet, CharacterMet}
use Rattle.form.specs.RecordsLeft.{record_of, records_left, FontKept, CharacterKept, RecordKept, BytesIn, RecordStandsAt, GivenInPlace, GivenBetween}
use Rattle.form.specs.declared.records.Record.{Record}
use Rattle.form.specs.declared.records.Record.TheVariants.{Font, Character}
use Rattle.form.proofs.RecordRuns.{met_first}
use Rattle.form.proofs.Runs.{run_from_records, run_between_records, part_kept, part_data, part_take}

module _ (s : List ℕ) (at : ℕ) where
  font_there : (n : ℕ) (h : List ℕ) → MetAt s at (font n h) (at + font_record) → h ≡ take header_bytes (drop font_kept_at (drop at s)) → FontKept n h
      → FontMet s at n (at + font_kept_at) (at + font_record)
  font_there n h m e k =
      let i : h ≡ take header_bytes (drop (at + font_kept_at) s) = e ∙ ap (λ (l : List ℕ). take header_bytes l) (drop-drop font_kept_at at s) in
      record {
        met = subst (λ (l : List ℕ). MetAt s at (font n l) (at + font_record)) i m;
        low = k.low;
        here = refl;
        room = omega (arith, m.within);
        header = rw (← i) k.header;
      }

  character_there : (n c z : ℕ) (b : List ℕ) → character_record ≤ z → MetAt s at (character n c (take descriptor_bytes b) (drop descriptor_bytes b)) (at + z)
      → b ≡ take (z - character_kept_at) (drop character_kept_at (drop at s)) → CharacterKept n c b
      → CharacterMet s at n c (at + character_kept_at) (at + character_record) (at + z)
  character_there n c z b l m e k =
      let f : take descriptor_bytes b ≡ take descriptor_bytes (drop (at + character_kept_at) s) =
      ap (λ (x : List ℕ). take descriptor_bytes x) e ∙ part_kept (drop at s) z l ∙ ap (λ (x : List ℕ). take descriptor_bytes x) (drop-drop character_kept_at at s) in
      let j : z - character_record ≡ at + z - (at + character_record) = omega arith in
      let d : drop descriptor_bytes b ≡ take (at + z - (at + character_record)) (drop (at + character_record) s) =
      ap (λ (x : List ℕ). drop descriptor_bytes x) e ∙ part_data (drop at s) z l ∙ rw (j, drop-drop character_record at s) refl in
      record {
        met = rw (← f, ← d) m;
        low = k.low;
        code = k.code;
        join = omega arith;
        last = omega (arith, l);
        orientation = k.orientation;
        descriptor = rw (← f) k.descriptor;
        held = rw (← f, ← d) k.held;
        wide = rw (← f) k.wide;
      }

  there : (r : Record) → MetAt s at (record_of r) (at + size_of (record_of r)) → BytesIn (drop at s) r → RecordKept r → RecordStandsAt s at r
  unfolding size_of
  there (Font n h) m e k = font_there n h.now m e k
  there (Character n c b) m e k = character_there n c (size_of (record_of (Character n c b))) b.now (omega arith) m e k

-- what stands in the first bytes of b stands in b
in_whole : (b : List ℕ) (n : ℕ) (r : Record) → size_of (record_of r) ≤ n → BytesIn (take n b) r → BytesIn b r
unfolding size_of
in_whole b n (Font m h) l e = e ∙ part_take header_bytes font_kept_at n b l
in_whole b n (Character m c d) l e = e ∙ part_take (size_of (record_of (Character m c d)) - character_kept_at) character_kept_at n b (omega (arith, l))

pub given_in_place : GivenInPlace
given_in_place s at old new r p e g =
    let m = met_first s at p (record_of r) (records_left new) (sym (run_from_records s at) ∙ ap run_records (sym e) ∙ g.0) in
    (there s at r m (subst (λ (b : List ℕ). BytesIn b r) e g.2.bytes) g.1, g.2.after ∙ rw e (drop-drop (size_of (record_of r)) at s))

pub given_between : GivenBetween
unfolding total
given_between s at hi rs old new r w e g =
    let z = size_of (record_of r) in
    let i : rs ≡ record_of r ∷ records_left new = sym (run_between_records s at hi rs w) ∙ ap run_records (sym e) ∙ g.0 in
    let m = met_first s at w.place (record_of r) (records_left new ++ records_at s hi) (w.are ∙ ap (λ (l : List Rec). l ++ records_at s hi) i) in
    let l : z ≤ hi - at = omega (arith, g.2.within, ap length e, length-take (hi - at) (drop at s)) in
    let j : hi - at ≡ z + (hi - (at + z)) = omega (arith, l) in
    let t : records_at s at ≡ record_of r ∷ (records_left new ++ records_at s hi) = w.are ∙ ap (λ (l : List Rec). l ++ records_at s hi) i in
    let c : record_of r ∷ records_at s (at + z) ≡ record_of r ∷ (records_left new ++ records_at s hi) = sym m.records ∙ t in (
      there s at r m (in_whole (drop at s) (hi - at) r l (subst (λ (b : List ℕ). BytesIn b r) e g.2.bytes)) g.1,
      record { place = m.place; are = cc c; sum = omega (arith, w.sum, ap total i); within = w.within; small = w.small },
      g.2.after ∙ rw (e, j) (drop-take z (hi - (at + z)) (drop at s) ∙ ap (λ (b : List ℕ). take (hi - (at + z)) b) (drop-drop z at s)),
    )
