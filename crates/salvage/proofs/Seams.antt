-- Streams joined: what is read of each part. Assumes nothing.
use Prim.Native.Nat.{ℕ, zero, suc, ◌+◌, ◌-◌}
use mathlib.Core.Path.{◌≡◌, refl, sym, ap, ap₂, ◌∙◌}
use mathlib.Core.List.{List, ◌++◌}
use native.Mathlib.Omega.{arith}
use native.Mathlib.Nat.{add-zero}
use lib.ListN.{length, drop, length-append}
use lib.Seq.{drop-append-add}
use Rattle.stream.specs.Command.{command, moved_by, command_at}
use Rattle.stream.specs.Reading.{font_block, character_block, number_set, download, Spelled, spell, part, onward, spelled_in, spelled_from, with_number, with_code, range_answer}
use Rattle.stream.specs.declared.command.Command.{Command}
use Rattle.stream.specs.declared.command.Command.TheVariants.{SetFont, SetCode, FontBlock, CharacterBlock, Broken, End}
use Rattle.stream.specs.Reading.{Ending}
use Rattle.std.specs.Prelude.{None, Some}
use Rattle.stream.specs.declared.reading.Target.{Target}

-- ── what stands behind a seam
moved_twice : (a i : ℕ) (x : Command) → moved_by (a + i) x ≡ moved_by a (moved_by i x)
unfolding moved_by
moved_twice a i (SetFont n e) = let q : a + i + e ≡ a + (i + e) = omega arith in ap (λ (z : ℕ). SetFont n z) q
moved_twice a i (SetCode n e) = let q : a + i + e ≡ a + (i + e) = omega arith in ap (λ (z : ℕ). SetCode n z) q
moved_twice a i (FontBlock f e) =
    let q : a + i + e ≡ a + (i + e) = omega arith in
    let r : a + i + f ≡ a + (i + f) = omega arith in
    ap₂ (λ (y z : ℕ). FontBlock y z) r q
moved_twice a i (CharacterBlock f e) =
    let q : a + i + e ≡ a + (i + e) = omega arith in
    let r : a + i + f ≡ a + (i + f) = omega arith in
    ap₂ (λ (y z : ℕ). CharacterBlock y z) r q
moved_twice a i Broken = refl
moved_twice a i End = refl

seam : (pre c : List ℕ) (i : ℕ) → command_at (pre ++ c) (length pre + i) ≡ moved_by (length pre) (command_at c i)
unfolding command_at
seam pre c i = rw (drop-append-add pre c i) (moved_twice (length pre) i (command (drop i c)))

abbrev pub later : ℕ → Ending → Ending
later a None = None
later a (Some p) = Some (a + p)

abbrev pub shifted : ℕ → Spelled → Spelled
shifted a s = record { actions = s.actions; ending = later a s.ending }

part_seam : (pre c : List ℕ) (f e : ℕ) → part (pre ++ c) (length pre + f) (length pre + e) ≡ part c f e
part_seam pre c f e = let q : length pre + e - (length pre + f) ≡ e - f = omega arith in rw (q, drop-append-add pre c f)

onward_seam : (pre c : List ℕ) (f g : ℕ → Target → Spelled) (i : ℕ) (t : Target) (x : Command) → ((e : ℕ) (u : Target) → f (length pre + e) u ≡ shifted (length pre) (g e u))
    → onward (pre ++ c) f (length pre + i) t (moved_by (length pre) x) ≡ shifted (length pre) (onward c g i t x)
unfolding onward moved_by
onward_seam pre c f g i t (SetFont n e) h = ap (spell (number_set (range_answer 32767 n))) (h e (with_number n t))
onward_seam pre c f g i t (SetCode n e) h = ap (spell (number_set (range_answer 255 n))) (h e (with_code n t))
onward_seam pre c f g i t (FontBlock a e) h = ap₂ (λ (l : List ℕ) (s : Spelled). spell (download (font_block t.font l)) s) (part_seam pre c a e) (h e t)
onward_seam pre c f g i t (CharacterBlock a e) h = ap₂ (λ (l : List ℕ) (s : Spelled). spell (download (character_block t.font t.code l)) s) (part_seam pre c a e) (h e t)
onward_seam pre c f g i t Broken h = refl
onward_seam pre c f g i t End h = refl

in_seam : (k : ℕ) (pre c : List ℕ) (i : ℕ) (t : Target) → spelled_in k (pre ++ c) (length pre + i) t ≡ shifted (length pre) (spelled_in k c i t)
unfolding spelled_in
in_seam zero pre c i t = refl
in_seam (suc k) pre c i t =
    ap (λ (x : Command). onward (pre ++ c) (spelled_in k (pre ++ c)) (length pre + i) t x) (seam pre c i)
    ∙ onward_seam pre c (spelled_in k (pre ++ c)) (spelled_in k c) i t (command_at c i) (λ e u. in_seam k pre c e u)

-- a stream is read behind another one as it is alone
pub read_behind : (pre c : List ℕ) (t : Target) → spelled_from (pre ++ c) (length pre) t ≡ shifted (length pre) (spelled_from c 0 t)
unfolding spelled_from
read_behind pre c t =
    let n : length (pre ++ c) - length pre ≡ length c - 0 = omega (arith, length-append pre c) in
    ap₂ (λ (k a : ℕ). spelled_in (suc k) (pre ++ c) a t) n (sym (add-zero (length pre))) ∙ in_seam (suc (length c - 0)) pre c 0 t
