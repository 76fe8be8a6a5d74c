-- Numbers of eight bytes, and the bytes of a figure. Assumes nothing.
use Prim.Native.Nat.{ℕ, zero, suc, ◌+◌, ◌*◌, ◌/◌, ◌%◌, ◌≤◌, ◌<◌, ◌^◌, min}
use mathlib.Core.Path.{◌≡◌, refl, sym, ap, ◌∙◌}
use mathlib.Core.List.{List, [], ◌∷◌, ◌++◌}
use native.Mathlib.Omega.{arith}
use lib.ListN.{length, take, drop, length-take, length-drop}
use Rattle.std.specs.Int.{w64, to_le_bytes, from_le_bytes}
use Rattle.std.proofs.lemmas.Nat.{from_le_bytes-to_le_bytes_8}
use Rattle.form.specs.Num.{num, low_first, field, Bytes}
use Rattle.form.proofs.Numbers.{bytes_drop, le_field}
use Rattle.change.specs.Put.{with_bytes}
use Rattle.change.proofs.Puts.{put_put, take_whole, bytes_of_number}
use Rattle.collection.specs.Figures.{lesser_width, mean, rest, code_bytes, figure_from, bytes_of_figure}
use Rattle.collection.specs.declared.figure.Figure.{Figure}

num_below : (k : ℕ) (s : List ℕ) → Bytes s → num (take k s) < 256 ^ k
unfolding num
num_below zero s B = omega arith
num_below (suc k) [] B = let h : num (take k []) < 256 ^ k = num_below k [] B in omega arith
num_below (suc k) (x ∷ s) B = let h : num (take k s) < 256 ^ k = num_below k s (λ i. B (suc i)) in omega (arith, h, B 0)

pub eight_below : (i : ℕ) (s : List ℕ) → Bytes s → field 8 i s < 2 ^ 64
eight_below i s B = num_below 8 (drop i s) (bytes_drop i s B)

-- eight bytes as the library reads them
pub field_eight : (i : ℕ) (s p : List ℕ) → Bytes s → i + 8 ≤ length s → p ≡ take 8 (drop i s) → from_le_bytes w64 p ≡ field 8 i s
field_eight i s p B h e =
    let n = field 8 i s in
    let l : length (to_le_bytes w64 n) ≡ 8 = refl in
    let w : to_le_bytes w64 n ≡ low_first 8 n = sym (take_whole (to_le_bytes w64 n)) ∙ bytes_of_number 8 n (omega arith) in
    let q : p ≡ to_le_bytes w64 n = e ∙ sym (le_field 8 i s B h) ∙ sym w in
    ap (from_le_bytes w64) q ∙ from_le_bytes-to_le_bytes_8 n (eight_below i s B)

pub length_eight : (v : ℕ) → length (low_first 8 v) ≡ 8
unfolding low_first
length_eight v = refl

-- one more number after bytes that were put
more_put : (s s1 s2 a : List ℕ) (at i v : ℕ) → s1 ≡ with_bytes s at a → s2 ≡ with_bytes s1 i (low_first 8 v) → i ≡ at + length a → i + 8 ≤ length s → s2 ≡ with_bytes s at (a ++ low_first 8 v)
more_put s s1 s2 a at i v p q e h = q ∙ ap (λ (l : List ℕ). with_bytes l i (low_first 8 v)) p ∙ put_put s at a (low_first 8 v) i e (omega (arith, length_eight v))

pub figure_put : (s s1 s2 s3 s4 s5 s6 s7 : List ℕ) (at : ℕ) (f : Figure) (m r : ℕ) → at + code_bytes ≤ length s
    → s1 ≡ with_bytes s at (low_first 8 f.count) → s2 ≡ with_bytes s1 (at + 8) (low_first 8 f.dots) → s3 ≡ with_bytes s2 (at + 16) (low_first 8 f.least)
    → s4 ≡ with_bytes s3 (at + 24) (low_first 8 f.greatest) → s5 ≡ with_bytes s4 (at + 32) (low_first 8 f.sum) → m ≡ mean f.sum f.count
    → s6 ≡ with_bytes s5 (at + 40) (low_first 8 m) → r ≡ rest f.sum f.count → s7 ≡ with_bytes s6 (at + 48) (low_first 8 r) → s7 ≡ with_bytes s at (bytes_of_figure f)
unfolding bytes_of_figure low_first
figure_put s s1 s2 s3 s4 s5 s6 s7 at f m r h e1 e2 e3 e4 e5 em e6 er e7 =
    let t2 = more_put s s1 s2 (low_first 8 f.count) at (at + 8) f.dots e1 e2 (omega arith) (omega arith) in
    let t3 = more_put s s2 s3 (low_first 8 f.count ++ low_first 8 f.dots) at (at + 16) f.least t2 e3 (omega arith) (omega arith) in
    let t4 = more_put s s3 s4 (low_first 8 f.count ++ low_first 8 f.dots ++ low_first 8 f.least) at (at + 24) f.greatest t3 e4 (omega arith) (omega arith) in
    let t5 = more_put s s4 s5 (low_first 8 f.count ++ low_first 8 f.dots ++ low_first 8 f.least ++ low_first 8 f.greatest) at (at + 32) f.sum t4 e5 (omega arith) (omega arith) in
    let t6 = more_put s s5 s6 (low_first 8 f.count ++ low_first 8 f.dots ++ low_first 8 f.least ++ low_first 8 f.greatest ++ low_first 8 f.sum) at (at + 40) m t5 e6 (omega arith) (omega arith) in
    let t7 = more_put s s6 s7 (low_first 8 f.count ++ low_first 8 f.dots ++ low_first 8 f.least ++ low_first 8 f.greatest ++ low_first 8 f.sum ++ low_first 8 m) at (at + 48) r t6 e7 (omega arith) (omega arith) in
    t7 ∙ rw (em, er)

pub figure_read : (s : List ℕ) (at a b c d e : ℕ) → a ≡ field 8 at s → b ≡ field 8 (at + 8) s → c ≡ field 8 (at + 16) s → d ≡ field 8 (at + 24) s → e ≡ field 8 (at + 32) s
    → record { count = a; dots = b; least = c; greatest = d; sum = e } ≡ figure_from s at
unfolding figure_from
figure_read s at a b c d e p q r t u = λ i. record { count = p i; dots = q i; least = r i; greatest = t i; sum = u i }
