-- A character's record that grows in place: its length and the new bytes are written, the rest stays. Assumes nothing.
use mathlib.Core.Path.{◌≡◌, sym, ap, ◌∙◌}
use mathlib.Core.List.{List, [], ◌++◌, append_assoc}
use Prim.Native.Nat.{ℕ, ◌+◌, ◌-◌, ◌/◌, ◌<◌, ◌≤◌}
use native.Mathlib.Omega.{arith}
use lib.ListN.{length, take, drop, replicate, length-append, length-drop}
use lib.Seq.{take-add, take-append-add, length-take-le}
use Rattle.blocks.specs.Character.{descriptor_bytes}
use Rattle.form.specs.Layout.{character_kind, character_record}
use Rattle.form.specs.Num.{low_first, word_end}
use Rattle.form.proofs.Numbers.{length_le}
use Rattle.form.proofs.RecordBytes.{char_size}
use Rattle.form.specs.Model.{no_characters, character_head, character_bytes, bytes_of}
use Rattle.change.proofs.Puts.{put_mid}
use Rattle.change.specs.Put.{with_bytes}
use Rattle.change.specs.Change.{spliced_at}

-- what stands behind the length of a character's record
rest : ℕ → ℕ → List ℕ → List ℕ → List ℕ
rest n c h d = low_first 2 character_kind ++ (low_first 2 n ++ (low_first 2 c ++ (h ++ d)))

record_parts : (n c : ℕ) (h d : List ℕ) → character_record + length d < word_end → character_bytes n c h d ≡ low_first 2 (character_record + length d) ++ (low_first 2 0 ++ rest n c h d)
unfolding character_bytes character_head low_first rest
record_parts n c h d l = let q : (character_record + length d) / 256 / 256 ≡ 0 = omega arith in rw q

rest_length : (n c : ℕ) (h d : List ℕ) → length h ≡ descriptor_bytes → length (rest n c h d) + 4 ≡ character_record + length d
unfolding rest low_first
rest_length n c h d l = omega (arith, length-append h d)

rest_more : (n c : ℕ) (h d t : List ℕ) → rest n c h (d ++ t) ≡ rest n c h d ++ t
unfolding rest
rest_more n c h d t = simp append_assoc

module _ (n c at used : ℕ) (h d t s : List ℕ) (u : List ℕ) (e : drop at s ≡ character_bytes n c h d ++ u) (lh : length h ≡ descriptor_bytes) (small : character_record + length d + length t < word_end)
    (room : at + (character_record + length d) + length t ≤ length s) where
  -- what the splice makes room for
  behind : List ℕ
  behind = take (used - (at + (character_record + length d))) (drop (at + (character_record + length d)) s) ++ (replicate (character_record + length d - (character_record + length d + length t)) 0 ++ drop (used + (character_record + length d + length t - (character_record + length d))) s)

  size : length (character_bytes n c h d) ≡ character_record + length d
  unfolding bytes_of
  size = omega (arith, length-append (character_bytes n c h d) [], char_size (λ m. no_characters) n c h d [] lh)

  moved_is : spliced_at at (character_record + length d) used (character_record + length d + length t) s ≡ take at s ++ (character_bytes n c h d ++ (take (length t) u ++ behind))
  unfolding spliced_at behind
  moved_is =
      let i : take (at + (character_record + length d + length t)) s ≡ take at s ++ (character_bytes n c h d ++ take (length t) u) =
      take-add at (character_record + length d + length t) s
      ∙ ap (λ (l : List ℕ). take at s ++ l) (ap (take (character_record + length d + length t)) e ∙ ap (λ (k : ℕ). take (k + length t) (character_bytes n c h d ++ u)) (sym size) ∙ take-append-add (character_bytes n c h d) u (length t)) in
      rw i (simp append_assoc)

  junk_length : length (take (length t) u) ≡ length t
  junk_length =
      let k : length (drop at s) ≡ character_record + length d + length u = ap length e ∙ length-append (character_bytes n c h d) u ∙ ap (λ (x : ℕ). x + length u) size in
      length-take-le (length t) u (omega (arith, k, length-drop at s))

  pub extended :
      with_bytes (with_bytes (spliced_at at (character_record + length d) used (character_record + length d + length t) s) at (low_first 2 (character_record + length d + length t))) (at + (character_record + length d)) t
      ≡ with_bytes (spliced_at at (character_record + length d) used (character_record + length d + length t) s) at (character_bytes n c h (d ++ t))
  extended =
      let A = take at s in
      let la : length A ≡ at = length-take-le at s (omega arith) in
      let X = rest n c h d in
      let L0 = low_first 2 (character_record + length d) in
      let L1 = low_first 2 (character_record + length d + length t) in
      let Z = low_first 2 0 in
      let J = take (length t) u in
      let R = behind in
      let lx : length X + 4 ≡ character_record + length d = rest_length n c h d lh in
      let l0 : length L1 ≡ length L0 = length_le 2 _ ∙ sym (length_le 2 _) in
      let m : spliced_at at (character_record + length d) used (character_record + length d + length t) s ≡ A ++ (L0 ++ (Z ++ (X ++ (J ++ R)))) = moved_is ∙ rw (record_parts n c h d (omega arith)) (simp append_assoc) in
      let p1 : with_bytes (A ++ (L0 ++ (Z ++ (X ++ (J ++ R))))) at L1 ≡ A ++ (L1 ++ (Z ++ (X ++ (J ++ R)))) = put_mid A L0 (Z ++ (X ++ (J ++ R))) L1 at la l0 in
      let B = A ++ (L1 ++ (Z ++ X)) in
      let lb : length B ≡ at + (character_record + length d) = omega (arith, la, lx, length-append A (L1 ++ (Z ++ X)), length-append L1 (Z ++ X), length-append Z X, length_le 2 (character_record + length d + length t), length_le 2 0) in
      let b : A ++ (L1 ++ (Z ++ (X ++ (J ++ R)))) ≡ B ++ (J ++ R) = simp append_assoc in
      let p2 : with_bytes (B ++ (J ++ R)) (at + (character_record + length d)) t ≡ B ++ (t ++ R) = put_mid B J R t (at + (character_record + length d)) lb (sym junk_length) in
      let ln : character_record + length (d ++ t) ≡ character_record + length d + length t = omega (arith, length-append d t) in
      let new : character_bytes n c h (d ++ t) ≡ L1 ++ (Z ++ (X ++ t)) = record_parts n c h (d ++ t) (omega (arith, length-append d t)) ∙ rw (ln, rest_more n c h d t) in
      let c0 : A ++ (L0 ++ (Z ++ (X ++ (J ++ R)))) ≡ A ++ ((L0 ++ (Z ++ (X ++ J))) ++ R) = simp append_assoc in
      let lq : length (L1 ++ (Z ++ (X ++ t))) ≡ length (L0 ++ (Z ++ (X ++ J))) =
      omega (arith, l0, length-append L1 (Z ++ (X ++ t)), length-append L0 (Z ++ (X ++ J)), length-append Z (X ++ t), length-append Z (X ++ J), length-append X t, length-append X J, junk_length) in
      let p3 : with_bytes (A ++ ((L0 ++ (Z ++ (X ++ J))) ++ R)) at (L1 ++ (Z ++ (X ++ t))) ≡ A ++ ((L1 ++ (Z ++ (X ++ t))) ++ R) = put_mid A (L0 ++ (Z ++ (X ++ J))) R (L1 ++ (Z ++ (X ++ t))) at la lq in
      let fin : B ++ (t ++ R) ≡ A ++ ((L1 ++ (Z ++ (X ++ t))) ++ R) = simp append_assoc in
      ap (λ (x : List ℕ). with_bytes (with_bytes x at L1) (at + (character_record + length d)) t) m ∙ ap (λ (x : List ℕ). with_bytes x (at + (character_record + length d)) t) (p1 ∙ b) ∙ p2 ∙ fin ∙ sym p3 ∙ ap (λ (x : List ℕ). with_bytes x at (L1 ++ (Z ++ (X ++ t)))) (sym c0 ∙ sym m)
      ∙ ap (λ (x : List ℕ). with_bytes (spliced_at at (character_record + length d) used (character_record + length d + length t) s) at x) (sym new)
