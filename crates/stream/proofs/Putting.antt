-- Laws of bytes put at a place. Assumes nothing.
use Prim.Native.Nat.{ℕ, suc, ◌+◌, ◌≤◌, ◌<◌}
use mathlib.Core.Path.{◌≡◌, sym, ap, ◌∙◌}
use mathlib.Core.List.{List, [], ◌∷◌, ◌++◌, append_assoc}
use native.Mathlib.Numerals.{add-one}
use native.Mathlib.Nat.{add-zero, add_assoc}
use native.Mathlib.Omega.{arith}
use lib.ListN.{length, take, drop, get_or, set, take-append-drop, length-append, length-take, length-drop}
use lib.Seq.{take-suc, append_snoc, set_at, length-take-le, take_at, drop-append-add, drop-drop}
use Rattle.change.specs.Put.{with_bytes}

pub length_put : (s b : List ℕ) (at : ℕ) → at + length b ≤ length s → length (with_bytes s at b) ≡ length s
unfolding with_bytes
length_put s b at h = simp (length-append, length-take, length-drop) (omega arith)

pub put_none : (s : List ℕ) (at : ℕ) → with_bytes s at [] ≡ s
unfolding with_bytes
put_none s at = rw (add-zero at) (take-append-drop at s)

-- one byte more before them
pub put_before : (s b : List ℕ) (at x : ℕ) → at + 1 + length b ≤ length s → set (with_bytes s (at + 1) b) at x ≡ with_bytes s at (x ∷ b)
unfolding with_bytes
put_before s b at x h =
    let l : at + 1 + length b ≡ at + suc (length b) = omega arith in
    let rest = b ++ drop (at + suc (length b)) s in
    let inside : at < length s = omega arith in
    rw (l, add-one at, take-suc s at 0 inside, append_snoc (take at s) (get_or s at 0) rest)
    (set_at (take at s) (get_or s at 0) rest x at (length-take-le at s (omega arith)))

pub put_byte : (s : List ℕ) (at x : ℕ) → at < length s → set s at x ≡ with_bytes s at (x ∷ [])
put_byte s at x h = rw (← (put_before s [] at x (omega arith)), put_none s (at + 1))

-- bytes put behind others
pub put_joined : (s a b : List ℕ) (at : ℕ) → at + length a + length b ≤ length s → with_bytes (with_bytes s at a) (at + length a) b ≡ with_bytes s at (a ++ b)
unfolding with_bytes
put_joined s a b at h =
    let p = take at s ++ a in
    let rest = drop (at + length a) s in
    let l : length p ≡ at + length a = length-append (take at s) a ∙ ap (λ (k : ℕ). k + length a) (length-take-le at s (omega arith)) in
    let e : drop (at + length a + length b) (p ++ rest) ≡ drop (at + length a + length b) s =
    ap (λ (k : ℕ). drop (k + length b) (p ++ rest)) (sym l) ∙ drop-append-add p rest (length b) ∙ drop-drop (length b) (at + length a) s in
    rw (← (append_assoc (take at s) a rest), take_at p rest (at + length a) l, e, length-append a b, ← (add_assoc at (length a) (length b)))
    (simp append_assoc)
