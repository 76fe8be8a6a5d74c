-- A record and the open mark, written part by part. Assumes nothing.
use mathlib.Core.Path.{◌≡◌, refl, ap, ◌∙◌}
use mathlib.Core.List.{List, ◌++◌}
use Prim.Native.Nat.{ℕ, ◌+◌, ◌-◌, ◌*◌, ◌/◌, ◌%◌, ◌<◌, ◌≤◌}
use native.Mathlib.Omega.{arith}
use lib.ListN.{length}
use borrow.Rule.Slice.PartMut.{put_mid, Post-is}
use Rattle.blocks.specs.Header.{header_bytes}
use Rattle.blocks.specs.Character.{descriptor_bytes}
use Rattle.form.specs.Layout.{character_kept_at, character_kind, character_record, code_at, font_characters_at, font_bytes_at, font_kept_at, font_kind, font_record, kind_at, least_store, mark_code_at, mark_font_at, mark_on_at, number_at}
use Rattle.form.specs.Num.{low_first, word_end, double_end}
use Rattle.form.specs.Model.{Mark, tally_bytes, font_head, character_head, character_bytes}
use Rattle.form.specs.declared.tally.Tally.{Tally}
use Rattle.change.specs.Put.{with_bytes}
use Rattle.change.specs.Change.{remarked}
use Rattle.form.proofs.Numbers.{low, high}
use Rattle.change.proofs.Puts.{put_put}

pub remark_put : (s : List ℕ) (m : Mark) → least_store ≤ length s → with_bytes (with_bytes (with_bytes s mark_on_at (low_first 2 m.on)) mark_font_at (low_first 2 m.font_of)) mark_code_at (low_first 2 m.code_of) ≡ remarked m s
unfolding remarked low_first
remark_put s m h =
    rw (put_put s mark_on_at (low_first 2 m.on) (low_first 2 m.font_of) mark_font_at (omega arith) (omega arith), put_put s mark_on_at (low_first 2 m.on ++ low_first 2 m.font_of) (low_first 2 m.code_of) mark_code_at (omega arith) (omega arith))

-- a part that was lent and came back
pub mid_put : (s : List ℕ) (a e : ℕ) (b : List ℕ) → a ≤ e → length b ≡ e - a → put_mid a (e - a) s b ≡ with_bytes s a b
unfolding with_bytes
mid_put s a e b l q = let i : a + length b ≡ e = omega arith in rw (Post-is a e s l, i)

pub tally_put : (s : List ℕ) (at : ℕ) (t : Tally) → at + font_kept_at ≤ length s
    → with_bytes (with_bytes s (at + font_characters_at) (low_first 2 t.characters)) (at + font_bytes_at) (low_first 4 t.bytes) ≡ with_bytes s (at + font_characters_at) (tally_bytes t)
unfolding tally_bytes low_first
tally_put s at t h = put_put s (at + font_characters_at) (low_first 2 t.characters) (low_first 4 t.bytes) (at + font_bytes_at) (omega arith) (omega arith)

pub font_put : (s : List ℕ) (at n : ℕ) (t : Tally) (h : List ℕ) → length h ≡ header_bytes → at + font_record ≤ length s
    → with_bytes (with_bytes (with_bytes (with_bytes (with_bytes s at (low_first 4 font_record)) (at + kind_at) (low_first 2 font_kind)) (at + number_at) (low_first 2 n)) (at + font_characters_at) (tally_bytes t)) (at + font_kept_at) h ≡ with_bytes s at (font_head n t ++ h)
unfolding font_head tally_bytes low_first
font_put s at n t h l e =
    rw (
      put_put s at (low_first 4 font_record) (low_first 2 font_kind) (at + kind_at) (omega arith) (omega arith),
      put_put s at (low_first 4 font_record ++ low_first 2 font_kind) (low_first 2 n) (at + number_at) (omega arith) (omega arith),
      put_put s at ((low_first 4 font_record ++ low_first 2 font_kind) ++ low_first 2 n) (tally_bytes t) (at + font_characters_at) (omega arith) (omega arith),
      put_put s at (((low_first 4 font_record ++ low_first 2 font_kind) ++ low_first 2 n) ++ tally_bytes t) h (at + font_kept_at) (omega arith) (omega arith),
    )

-- ── a character's record
pub head_put : (s : List ℕ) (at len n c : ℕ) → at + character_kept_at ≤ length s
    → with_bytes (with_bytes (with_bytes (with_bytes s at (low_first 4 len)) (at + kind_at) (low_first 2 character_kind)) (at + number_at) (low_first 2 n)) (at + code_at) (low_first 2 c) ≡ with_bytes s at (character_head len n c)
unfolding character_head low_first
head_put s at len n c h =
    rw (
      put_put s at (low_first 4 len) (low_first 2 character_kind) (at + kind_at) (omega arith) (omega arith),
      put_put s at (low_first 4 len ++ low_first 2 character_kind) (low_first 2 n) (at + number_at) (omega arith) (omega arith),
      put_put s at ((low_first 4 len ++ low_first 2 character_kind) ++ low_first 2 n) (low_first 2 c) (at + code_at) (omega arith) (omega arith),
    )

pub char_put : (s : List ℕ) (at n c : ℕ) (h d : List ℕ) → length h ≡ descriptor_bytes → at + character_record + length d ≤ length s
    → with_bytes (with_bytes (with_bytes s at (character_head (character_record + length d) n c)) (at + character_kept_at) h) (at + character_record) d ≡ with_bytes s at (character_bytes n c h d)
unfolding character_head character_bytes low_first
char_put s at n c h d l e =
    rw (
      put_put s at (character_head (character_record + length d) n c) h (at + character_kept_at) (omega arith) (omega arith),
      put_put s at (character_head (character_record + length d) n c ++ h) d (at + character_record) (omega (arith, l)) (omega (arith, l)),
    )
