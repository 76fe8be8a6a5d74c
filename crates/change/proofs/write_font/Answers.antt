use mathlib.Core.Path.{◌≡◌, ◌∙◌}
use mathlib.Core.List.{List}
use Prim.Native.Nat.{ℕ, ◌+◌, ◌-◌, ◌≤◌}
use lib.ListN.{length}
use Rattle.blocks.specs.Header.{kept_header, header_bytes}
use Rattle.blocks.proofs.KeptHeader.{kept_length}
use Rattle.form.specs.Layout.{font_characters_at, font_kept_at, font_kind, font_record, kind_at, number_at}
use Rattle.form.specs.Num.{low_first}
use Rattle.form.specs.Model.{no_characters, tally_bytes}
use Rattle.change.specs.Put.{with_bytes}
use Rattle.change.proofs.Written.{mid_put, font_put}
use native.Mathlib.Omega.{arith}
use Rattle.change.proofs.write_font.Goals as goal

-- the head's parts and the kept bytes, one after the other
written : (n at : ℕ) (s s1 s2 s3 s4 h : List ℕ) → s1 ≡ with_bytes s at (low_first 4 font_record) → s2 ≡ with_bytes s1 (at + kind_at) (low_first 2 font_kind) → s3 ≡ with_bytes s2 (at + number_at) (low_first 2 n) → s4 ≡ with_bytes s3 (at + font_characters_at) (tally_bytes no_characters)
    → with_bytes s4 (at + font_kept_at) h ≡ with_bytes (with_bytes (with_bytes (with_bytes (with_bytes s at (low_first 4 font_record)) (at + kind_at) (low_first 2 font_kind)) (at + number_at) (low_first 2 n)) (at + font_characters_at) (tally_bytes no_characters)) (at + font_kept_at) h
written n at s s1 s2 s3 s4 h a b c d = rw (d, c, b, a)

pub returns : goal.returns
returns c =
    let a = c.args in
    let h = kept_header a.block.now in
    let l : length h ≡ header_bytes = kept_length a.block.now c.requires.1 in
    let d : length h ≡ a.at + font_record - (a.at + font_kept_at) = omega (arith, l) in
    let o : a.at + font_kept_at ≤ a.at + font_record = omega arith in
    rw c.keep_header.ensures
    (mid_put c.put_tally.new.s (a.at + font_kept_at) (a.at + font_record) h o d
    ∙ written a.n a.at a.s.now c.put.new.s c.put-2.new.s c.put-3.new.s c.put_tally.new.s h c.put.ensures c.put-2.ensures c.put-3.ensures c.put_tally.ensures
    ∙ font_put a.s.now a.at a.n no_characters h l c.requires.0)
