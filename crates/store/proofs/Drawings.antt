-- What drawing a character that is there answers. Assumes nothing.
use mathlib.Core.Path.{◌≡◌, ap, ◌∙◌}
use mathlib.Core.List.{List, ◌++◌}
use mathlib.Core.Bool.{true}
use Prim.Native.Nat.{ℕ, ◌+◌, ◌-◌, ◌<◌, ◌≤◌}
use native.Mathlib.Omega.{arith}
use lib.ListN.{length, take, drop}
use borrow.Author.Tests.{le-leb, lt-leb, lt-ltb, le-ltb}
use Rattle.blocks.specs.Header.{orientation}
use Rattle.blocks.specs.Character.{class, width, height, is_kept_first, descriptor_bytes}
use Rattle.pictures.specs.Size.{row_size, picture_size}
use Rattle.pictures.specs.Rows.{row_bytes, picture}
use Rattle.pictures.proofs.Pictures.{length_row, length_picture}
use Rattle.form.specs.Layout.{character_kept_at, character_record}
use Rattle.store.specs.Answer.{no_run, refuse}
use Rattle.store.specs.Drawing.{row_of, picture_of, drawing_row, drawing_picture}
use Rattle.form.specs.declared.walk.Places.{Places}
use Rattle.form.proofs.RecordBytes.{kept_sides}
use Rattle.form.proofs.Lookup.{kept_under}
use Rattle.form.proofs.Seeks.{KeptChar, char_call}
use Rattle.store.proofs.Spots.{char_span, char_kept, char_bytes}

module _ (n c : ℕ) (s : List ℕ) (w : Places) (x : KeptChar n c s w) where
  char_descriptor : is_kept_first x.kept (orientation x.header) ≡ true
  char_descriptor = kept_under n c x.header x.kept x.bytes x.ready.store.recs x.ready.valid.order x.code x.font_there x.there

  pub char_width : 0 < width x.kept
  char_width = (kept_sides x.kept (orientation x.header) char_descriptor).0

  -- as the code cuts the descriptor and the data out of the store
  pub kept_cut : take (w.from + character_record - (w.from + character_kept_at)) (drop (w.from + character_kept_at) s) ≡ x.kept
  kept_cut = let i : w.from + character_record - (w.from + character_kept_at) ≡ descriptor_bytes = omega arith in ap (λ (k : ℕ). take k (drop (w.from + character_kept_at) s)) i ∙ char_kept n c s w x

  pub data_cut : take (w.to - (w.from + character_record)) (drop (w.from + character_record) s) ≡ x.bytes
  data_cut = let i : w.to - (w.from + character_record) ≡ length x.bytes = omega (arith, char_span n c s w x) in ap (λ (k : ℕ). take k (drop (w.from + character_record) s)) i ∙ char_bytes n c s w x

  pub row_call : (row : ℕ) (out : List ℕ) → drawing_row n c row s out ≡ row_of x.kept x.bytes row out
  unfolding drawing_row
  row_call row out = char_call n c s w (refuse out) _ x

  pub picture_call : (out : List ℕ) → drawing_picture n c s out ≡ picture_of x.kept x.bytes out
  unfolding drawing_picture
  picture_call out = char_call n c s w (refuse out) _ x

-- ── into an output
module _ (h d out : List ℕ) where
  pub row_high : (row : ℕ) → height h ≤ row → row_of h d row out ≡ refuse out 2
  unfolding row_of
  row_high row l = rw (le-ltb row (height h) l)

  pub row_short : (row : ℕ) → row < height h → length out < row_size (width h) → row_of h d row out ≡ refuse out 12
  unfolding row_of
  row_short row l m = rw (lt-ltb row (height h) l, lt-leb (row_size (width h)) (length out) m)

  pub row_drawn : (row : ℕ) → row < height h → row_size (width h) ≤ length out → row_of h d row out ≡ record { answer = 0; bad = no_run; bytes = row_bytes (class h) (width h) d row ++ drop (row_size (width h)) out }
  unfolding row_of
  row_drawn row l m = rw (lt-ltb row (height h) l, le-leb (row_size (width h)) (length out) m, length_row (class h) (width h) d row)

  pub picture_short : length out < picture_size (width h) (height h) → picture_of h d out ≡ refuse out 12
  unfolding picture_of
  picture_short m = rw (lt-leb (picture_size (width h) (height h)) (length out) m)

  pub picture_drawn : picture_size (width h) (height h) ≤ length out → picture_of h d out ≡ record { answer = 0; bad = no_run; bytes = picture (class h) (width h) d (height h) ++ drop (picture_size (width h) (height h)) out }
  unfolding picture_of
  picture_drawn m = rw (le-leb (picture_size (width h) (height h)) (length out) m, length_picture (class h) (width h) d (height h))
