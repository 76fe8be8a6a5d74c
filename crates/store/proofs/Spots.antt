-- The bytes of a kept font and of a kept character at their places. Assumes nothing.
use mathlib.Core.Path.{◌≡◌, sym, ap, ◌∙◌}
use mathlib.Core.List.{List, ◌++◌}
use Prim.Native.Nat.{ℕ, ◌+◌, ◌≤◌}
use native.Mathlib.Omega.{arith}
use lib.ListN.{length, take, drop}
use lib.Seq.{drop-drop}
use Rattle.blocks.specs.Header.{header_bytes}
use Rattle.blocks.specs.Character.{descriptor_bytes}
use Rattle.pictures.specs.Size.{data_limit}
use Rattle.form.specs.Layout.{key_of, character_kept_at, character_record, font_characters_at, font_kept_at, font_record, last_code, last_font, mark_record}
use Rattle.form.specs.Model.{font, character, no_owner, tally_of, tally_in, bytes_of, size_of, total}
use Rattle.form.specs.Num.{field}
use Rattle.form.specs.Order.{below, after}
use Rattle.change.specs.Put.{with_bytes}
use Rattle.store.specs.Calls.{characters_of, onto}
use Rattle.form.specs.declared.walk.Places.{Places}
use Rattle.form.specs.declared.tally.Tally.{Tally}
use Rattle.form.proofs.Fields.{field_drop}
use Rattle.form.proofs.Codec.{font_tally, tally_fits}
use Rattle.store.proofs.Tallies.{tally_count}
use Rattle.form.proofs.RecordBytes.{shaped, font_kept_in, character_kept_in, character_data_in}
use Rattle.form.proofs.Lookup.{Found, found, below_mono}
use Rattle.form.proofs.Ready.{record_bytes}
use Rattle.form.proofs.Seeks.{KeptFont, KeptChar}

-- ── a font
module _ (n p : ℕ) (s : List ℕ) (w : Places) (x : KeptFont n p s w) where
  font_found : Found (key_of n 0) no_owner (font n x.header) x.ready.store.recs
  font_found = found (key_of n 0) 0 no_owner (font n x.header) x.ready.store.recs x.ready.valid.order x.there

  font_shape : (length x.header ≡ header_bytes) × (n ≤ last_font)
  font_shape = shaped (after no_owner (below (key_of n 0) x.ready.store.recs)) (font n x.header) font_found.ok

  pub font_span : w.lo + font_record ≤ w.hi
  unfolding size_of
  font_span =
      let r = x.ready in
      omega (arith, ap (λ (y : Places). y.lo) r.at, ap (λ (y : Places). y.hi) r.at, font_found.size, below_mono (key_of n 0 + 1) (key_of (n + 1) 0) 0 no_owner r.store.recs r.valid.order (omega arith))

  pub font_kept : take header_bytes (drop (w.lo + font_kept_at) s) ≡ x.header
  font_kept =
      let r = x.ready in
      let b = record_bytes (key_of n 0) (font n x.header) r.store r.valid x.there in
      let lo : w.lo ≡ mark_record + total (below (key_of n 0) r.store.recs) = ap (λ (y : Places). y.lo) r.at in
      let e : drop w.lo s ≡ bytes_of (tally_of r.store.recs) (font n x.header) ++ b.0 = rw (lo, r.bytes) b.1 in
      ap (take header_bytes) (sym (drop-drop font_kept_at w.lo s) ∙ ap (drop font_kept_at) e) ∙ font_kept_in (tally_of r.store.recs) n x.header b.0 font_shape.0

  -- the number that is held is that of the font's characters
  pub font_held : field 2 (w.lo + font_characters_at) s ≡ length (characters_of n x.ready.store.recs)
  font_held =
      let r = x.ready in
      let T = tally_of r.store.recs in
      let b = record_bytes (key_of n 0) (font n x.header) r.store r.valid x.there in
      let lo : w.lo ≡ mark_record + total (below (key_of n 0) r.store.recs) = ap (λ (y : Places). y.lo) r.at in
      let e : drop w.lo s ≡ bytes_of T (font n x.header) ++ b.0 = rw (lo, r.bytes) b.1 in
      let f : tally_in (drop w.lo s) ≡ T n = ap tally_in e ∙ font_tally T n x.header b.0 (tally_fits r.store.recs (omega (arith, r.valid.room, r.valid.small))) in
      sym (field_drop 2 font_characters_at w.lo s) ∙ ap (λ (t : Tally). t.characters) f ∙ tally_count r.store.recs n

  pub header_length_lem : length x.header ≡ header_bytes
  header_length_lem = font_shape.0

-- ── a character
module _ (n c : ℕ) (s : List ℕ) (w : Places) (x : KeptChar n c s w) where
  pub char_found : Found (key_of n (c + 1)) no_owner (character n c x.kept x.bytes) x.ready.store.recs
  char_found = found (key_of n (c + 1)) 0 no_owner (character n c x.kept x.bytes) x.ready.store.recs x.ready.valid.order x.there

  pub char_shape : (length x.kept ≡ descriptor_bytes) × (length x.bytes ≤ data_limit) × (n ≤ last_font) × (c ≤ last_code)
  char_shape = shaped (after no_owner (below (key_of n (c + 1)) x.ready.store.recs)) (character n c x.kept x.bytes) char_found.ok

  pub char_span : w.to ≡ w.from + character_record + length x.bytes
  unfolding size_of
  char_span = let r = x.ready in omega (arith, ap (λ (y : Places). y.from) r.at, ap (λ (y : Places). y.to) r.at, char_found.size)

  char_drop : (k : ℕ) → (t : List ℕ) × (drop (w.from + k) s ≡ drop k (bytes_of (tally_of x.ready.store.recs) (character n c x.kept x.bytes) ++ t))
  char_drop k =
      let r = x.ready in
      let b = record_bytes (key_of n (c + 1)) (character n c x.kept x.bytes) r.store r.valid x.there in
      let fr : w.from ≡ mark_record + total (below (key_of n (c + 1)) r.store.recs) = ap (λ (y : Places). y.from) r.at in
      let e : drop w.from s ≡ bytes_of (tally_of x.ready.store.recs) (character n c x.kept x.bytes) ++ b.0 = rw (fr, r.bytes) b.1 in
      (b.0, sym (drop-drop k w.from s) ∙ ap (drop k) e)

  pub char_kept : take descriptor_bytes (drop (w.from + character_kept_at) s) ≡ x.kept
  char_kept = let d = char_drop character_kept_at in ap (take descriptor_bytes) d.1 ∙ character_kept_in (tally_of x.ready.store.recs) n c x.kept x.bytes d.0 char_shape.0

  pub char_bytes : take (length x.bytes) (drop (w.from + character_record) s) ≡ x.bytes
  char_bytes = let d = char_drop character_record in ap (take (length x.bytes)) d.1 ∙ character_data_in (tally_of x.ready.store.recs) n c x.kept x.bytes d.0 char_shape.0

-- ── telling
-- bytes copied to the front of an output
pub front : (b out : List ℕ) → with_bytes out 0 b ≡ onto b out
unfolding with_bytes
front b out = let e : 0 + length b ≡ length b = omega arith in rw e
