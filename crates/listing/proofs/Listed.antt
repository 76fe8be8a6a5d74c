-- Laws of the lines of fonts. Assumes nothing.
use Prim.Native.Nat.{ℕ, ◌+◌, ◌-◌, ◌*◌, ◌<◌, ◌≤◌}
use Rattle.std.specs.Prelude.{Option as Optional, Some, None}
use mathlib.Core.Path.{◌≡◌, refl, sym, ap, ◌∙◌}
use mathlib.Core.List.{List, [], ◌∷◌, ◌++◌, append_assoc, append-nil}
use mathlib.Core.Bool.{false}
use mathlib.Core.Option.{Option, none, some}
use native.Mathlib.Omega.{arith}
use borrow.Author.Tests.{lt-ltb, le-ltb}
use lib.ListN.{length, drop, replicate, length-drop}
use Rattle.blocks.specs.Header.{header_bytes}
use Rattle.form.specs.Layout.{font_record}
use Rattle.form.specs.Model.{Rec, Store, font, character, split, size_of, total, decode}
use Rattle.store.specs.Answer.{told_of}
use Rattle.store.specs.Calls.{telling_font}
use Rattle.form.specs.Records.{is_store, some_store, records_in, records_at, records_by, RecordPlace, Begun}
use Rattle.form.specs.Fonts.{Font, fonts_in, fonts_at, fonts_of}
use Rattle.store.specs.declared.telling.Told.{Told}
use Rattle.form.proofs.RecordBytes.{head_inv}
use Rattle.form.proofs.RecordRuns.{Standing, at_end, at_record, stands_at, headed_size}
use Rattle.form.proofs.KeptFonts.{fonts_begun}
use Rattle.text.specs.Wrote.{Wrote}
use Rattle.text.specs.Column.{column}
use Rattle.listing.specs.Column.{signed_column}
use Rattle.blocks.specs.Field.{byte}
use Rattle.listing.specs.Line.{word_from, measures, looks, line, font_line, lines}
use Rattle.text.proofs.Writes.{wrote_none, wrote_then}

-- ── a signed number
pub signed_plain : (b x : ℕ) → b < 128 → signed_column b x ≡ column b x
unfolding signed_column
signed_plain b x h = rw (lt-ltb b 128 h)

pub signed_minus : (b x : ℕ) → 128 ≤ b → signed_column b x ≡ 45 ∷ column (256 - b) x
unfolding signed_column
signed_minus b x h = rw (le-ltb b 128 h)

-- ── a line, column by column
module _ (k s o₁ o₂ o₃ o₄ : List ℕ) (at e₁ e₂ e₃ e₄ : ℕ) where
  pub wrote_measures : (a b c d : ℕ) → a ≡ word_from k 14 15 → b ≡ byte k 13 → c ≡ word_from k 16 17 → d ≡ word_from k 18 19
      → Wrote s at (column a 32) e₁ o₁ → Wrote o₁ e₁ (column b 32) e₂ o₂ → Wrote o₂ e₂ (column c 32) e₃ o₃ → Wrote o₃ e₃ (column d 32) e₄ o₄
      → Wrote s at (measures k) e₄ o₄
  unfolding measures word_from
  wrote_measures a b c d p q r t w₁ w₂ w₃ w₄ =
      rw (← p, ← q, ← r, ← t)
      (wrote_then _ _ _ _ _ _ _ _ w₁ (wrote_then _ _ _ _ _ _ _ _ w₂ (wrote_then _ _ _ _ _ _ _ _ w₃ w₄)))

  pub wrote_looks : (a c : ℕ) → a ≡ word_from k 4 23 → c ≡ word_from k 26 25
      → Wrote s at (column a 32) e₁ o₁ → Wrote o₁ e₁ (signed_column (byte k 24) 32) e₂ o₂ → Wrote o₂ e₂ (column c 32) e₃ o₃
      → Wrote s at (looks k) e₃ o₃
  unfolding looks word_from
  wrote_looks a c p r w₁ w₂ w₃ = rw (← p, ← r) (wrote_then _ _ _ _ _ _ _ _ w₁ (wrote_then _ _ _ _ _ _ _ _ w₂ w₃))

  pub wrote_line : (n chars : ℕ) → Wrote s at (column n 32) e₁ o₁ → Wrote o₁ e₁ (measures k) e₂ o₂ → Wrote o₂ e₂ (looks k) e₃ o₃
      → Wrote o₃ e₃ (column chars 10) e₄ o₄ → Wrote s at (line n k chars) e₄ o₄
  unfolding line
  wrote_line n chars w₁ w₂ w₃ w₄ =
      wrote_then _ _ _ _ _ _ _ _ w₁ (wrote_then _ _ _ _ _ _ _ _ w₂ (wrote_then _ _ _ _ _ _ _ _ w₃ w₄))

pub wrote_font : (s kept o last : List ℕ) (n at end : ℕ) (t : Told) → told_of t kept ≡ telling_font n s (replicate header_bytes 0)
    → Wrote o at (line n kept t.count) end last → Wrote o at (font_line s n) end last
unfolding font_line
wrote_font s kept o last n at end t e w = rw (← e) w

-- ── a store of so many bytes has room for so many fonts
run_fits : (rs : List Rec) (s : List ℕ) → split s ≡ some rs → total rs ≤ length s
unfolding total
run_fits [] s e = omega arith
run_fits (r ∷ rs) s e = go (stands_at s (r ∷ rs) e) (λ t. run_fits rs t)
  where
    go : Standing s (r ∷ rs) → ((t : List ℕ) → split t ≡ some rs → total rs ≤ length t) → size_of r + total rs ≤ length s
    go (at_end q z) ih = let y : ◌≡◌ {A = ℕ} 0 1 = cc in absurd (omega arith)
    go (at_record x ts q h p) ih =
        let a : rs ≡ ts = cc in
        let b : size_of r ≡ size_of x = cc in
        let w = headed_size s x (head_inv s x h) in
        let l = ih (drop (size_of x) s) (rw a p) in
        omega (arith, l, w.1, length-drop (size_of x) s)

fonts_total : (rs : List Rec) → font_record * length (fonts_in rs) ≤ total rs
unfolding fonts_in total size_of
fonts_total [] = omega arith
fonts_total (font n h ∷ rs) = omega (arith, fonts_total rs)
fonts_total (character n c h d ∷ rs) = omega (arith, fonts_total rs)

pub fonts_fit : (s : List ℕ) (at : ℕ) → RecordPlace s at → font_record * length (fonts_at s at) ≤ length s
unfolding fonts_at records_at
fonts_fit s at p = rw p.is (omega (arith, fonts_total p.recs, run_fits p.recs (drop at s) p.is, length-drop at s))

-- ── line by line: those before the fonts that are left stand in the output, which is o with them from `at` up to `to`
pub record Listed (s : List ℕ) (from : ℕ) (o : List ℕ) (at : ℕ) (fonts : List Font) (out : List ℕ) (to : ℕ) : Type 0 where
  pub text : List ℕ
  pub wrote : Wrote o at text to out
  pub left : text ++ lines s fonts ≡ lines s (fonts_at s from)
  pub room : to + 65 * length fonts ≤ at + length s

pub listed_none : (s : List ℕ) (from : ℕ) (o : List ℕ) (at : ℕ) (fonts : List Font) → at + length s ≤ length o → RecordPlace s from → fonts ≡ fonts_at s from → Listed s from o at fonts o at
listed_none s from o at fonts h p e =
    record { text = []; wrote = wrote_none o at (omega arith); left = ap (lines s) e; room = omega (arith, fonts_fit s from p, ap length e) }

module _ (s : List ℕ) (from : ℕ) (o : List ℕ) (at : ℕ) (fonts : List Font) (out : List ℕ) (to : ℕ) (x : Listed s from o at fonts out to) where
  pub listed_all : fonts ≡ [] → Wrote o at (lines s (fonts_at s from)) to out
  unfolding lines
  listed_all e =
      let t : x.text ≡ lines s (fonts_at s from) = sym (append-nil x.text) ∙ ap (λ (l : List _). x.text ++ lines s l) (sym e) ∙ x.left in
      rw (← t) x.wrote

  module _ (f : Font) (more : List Font) (e : fonts ≡ f ∷ more) where
    pub room_here : to + 65 ≤ at + length s
    room_here = omega (arith, x.room, ap length e)

    pub listed_more : (end : ℕ) (last : List ℕ) → end ≤ to + 65 → Wrote out to (font_line s f.number) end last → Listed s from o at more last end
    unfolding lines
    listed_more end last b w =
        let rest = lines s more in
        record {
          text = x.text ++ font_line s f.number;
          wrote = wrote_then o x.text (font_line s f.number) out last at to end x.wrote w;
          left = append_assoc x.text (font_line s f.number) rest ∙ ap (λ (l : List _). x.text ++ lines s l) (sym e) ∙ x.left;
          room = omega (arith, x.room, ap length e);
        }

-- ── from where the run begins
pub no_lines : (s : List ℕ) → is_store s ≡ false → lines s (fonts_of s) ≡ []
unfolding lines is_store fonts_of records_in fonts_in
no_lines s e = go (decode s) e
  where
    go : (o : Option Store) → some_store o ≡ false → lines s (fonts_in (records_by o)) ≡ []
    go none e = refl
    go (some st) e = let z : ◌≡◌ {A = ℕ} 0 1 = cc in absurd (omega arith)

module _ (s : List ℕ) (v : Optional ℕ) (h : Begun s v) where
  pub unbegun : v ≡ None → (o : List ℕ) (at : ℕ) → at ≤ length o → Wrote o at (lines s (fonts_of s)) at o
  unbegun e o at l = let f : Begun s None = rw e at h in rw (no_lines s f) (wrote_none o at l)

  module _ (p : ℕ) (e : v ≡ Some p) where
    begun : Begun s (Some p)
    begun = rw e at h

    pub begins_at : RecordPlace s p
    begins_at = begun.1

    pub wrote_begun : (o out : List ℕ) (at end : ℕ) → Wrote o at (lines s (fonts_at s p)) end out → Wrote o at (lines s (fonts_of s)) end out
    wrote_begun o out at end w = rw (← (fonts_begun s p begun)) w
