-- Laws of writing bytes. Assumes nothing.
use mathlib.Core.Path.{◌≡◌, refl, sym, ap, ◌∙◌}
use mathlib.Core.List.{List, [], ◌∷◌, ◌++◌, append_assoc, append-nil}
use Prim.Native.Nat.{ℕ, zero, suc, ◌^◌, ◌+◌, ◌/◌, ◌%◌, ◌<◌, ◌≤◌}
use native.Mathlib.Omega.{arith}
use native.Mathlib.Numerals.{add-one}
use lib.ListN.{length, get_or, take, drop, set, length-append, length-take, length-drop, take-append-drop}
use lib.Seq.{paste, paste-suc, sets-eq, take_at, drop_at, drop-drop, drop-append-add, length-take-le}
use Rattle.std.specs.Int.{w64, to_le_bytes, bytes_low_first}
use Rattle.std.proofs.Math.Nat.{div-div-eq-div-mul, pow-suc}
use Rattle.form.specs.Num.{low_first, word_end}
use Rattle.change.specs.Put.{with_bytes}

pub take_whole : (b : List ℕ) → take (length b) b ≡ b
take_whole b = ap (λ (l : List ℕ). take (length b) l) (sym (append-nil b)) ∙ take_at b [] (length b) refl

pub put_paste : (s : List ℕ) (at : ℕ) (b : List ℕ) → paste s at b (length b) ≡ with_bytes s at b
unfolding with_bytes
put_paste s at b = rw (take_whole b) (append_assoc (take at s) b (drop (at + length b) s))

pub length_put : (s : List ℕ) (at : ℕ) (b : List ℕ) → at + length b ≤ length s → length (with_bytes s at b) ≡ length s
unfolding with_bytes
length_put s at b h = simp (length-append, length-take, length-drop) (omega arith)

pub put_put : (s : List ℕ) (at : ℕ) (a b : List ℕ) (i : ℕ) → i ≡ at + length a → at + length a + length b ≤ length s → with_bytes (with_bytes s at a) i b ≡ with_bytes s at (a ++ b)
unfolding with_bytes
put_put s at a b i e h =
    let P = take at s ++ a in
    let D = drop (at + length a) s in
    let l : length P ≡ at + length a = omega (arith, length-append (take at s) a, length-take-le at s (omega arith)) in
    let q : take at s ++ (a ++ D) ≡ P ++ D = sym (append_assoc (take at s) a D) in
    let t : take i (P ++ D) ≡ P = take_at P D i (omega arith) in
    let k : i + length b ≡ length P + length b = omega arith in
    let d : drop (i + length b) (P ++ D) ≡ drop (at + length a + length b) s = ap (λ (n : ℕ). drop n (P ++ D)) k ∙ drop-append-add P D (length b) ∙ drop-drop (length b) (at + length a) s in
    let m : at + length (a ++ b) ≡ at + length a + length b = omega (arith, length-append a b) in
    rw (q, t, d, m) (simp append_assoc)

pub put_nil : (s : List ℕ) (at : ℕ) → with_bytes s at [] ≡ s
unfolding with_bytes
put_nil s at = let e : at + 0 ≡ at = omega arith in rw e (take-append-drop at s)

-- bytes put in the place of as many
pub put_mid : (A B C D : List ℕ) (at : ℕ) → length A ≡ at → length D ≡ length B → with_bytes (A ++ (B ++ C)) at D ≡ A ++ (D ++ C)
unfolding with_bytes
put_mid A B C D at a e =
    let l : length (A ++ B) ≡ at + length D = omega (arith, length-append A B) in
    rw (take_at A (B ++ C) at a, ← (append_assoc A B C), drop_at (A ++ B) C (at + length D) l)

-- the k lowest bytes of w, as the library has them: bytes of v from the i-th on
bytes_from : (k n i v w : ℕ) → k ≤ n → w ≡ v / 256 ^ i → take k (bytes_low_first i n v) ≡ low_first k w
unfolding low_first
bytes_from zero n i v w h e = refl
bytes_from (suc k) zero i v w h e = absurd (omega arith)
bytes_from (suc k) (suc n) zero v w h e =
    let s : w ≡ v = omega arith in
    let q : w / 256 ≡ v / 256 ^ 1 = ap (λ (x : ℕ). x / 256) s in
    rw (bytes_from k n 1 v (w / 256) (omega arith) q, s)
bytes_from (suc k) (suc n) (suc i) v w h e =
    let q : w / 256 ≡ v / 256 ^ suc (suc i) = ap (λ (x : ℕ). x / 256) e ∙ div-div-eq-div-mul v (256 ^ suc i) 256 ∙ ap (λ (x : ℕ). v / x) (sym (pow-suc 256 (suc i))) in
    rw (bytes_from k n (suc (suc i)) v (w / 256) (omega arith) q, e)

pub bytes_of_number : (k v : ℕ) → k ≤ 8 → take k (to_le_bytes w64 v) ≡ low_first k v
bytes_of_number k v h = bytes_from k 8 0 v v h (omega arith)
