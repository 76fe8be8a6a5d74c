-- One move and what it frees made 0 are the one splice of the record run. Assumes nothing.
use mathlib.Core.Path.{◌≡◌, sym, ap, ◌∙◌}
use mathlib.Core.List.{List, ◌++◌, append_assoc, append-nil}
use Prim.Native.Nat.{ℕ, ◌+◌, ◌-◌, ◌≤◌}
use native.Mathlib.Omega.{arith}
use lib.ListN.{length, take, drop, replicate, length-drop, length-replicate}
use Rattle.std.proofs.lemmas.List.{take-append-drop}
use lib.Seq.{paste, length_paste_head, drop-drop, take_at, drop-append-add}
use Rattle.change.specs.Change.{spliced_at}

pub splice_moves : (s : List ℕ) (at old used new : ℕ) → at + old ≤ used → used ≤ length s → used + new ≤ length s + old
    → paste (paste s (at + new) (drop (at + old) s) (used - (at + old))) (used + new - old) (replicate (old - new) 0) (old - new) ≡ spliced_at at old used new s
unfolding spliced_at
splice_moves s at old used new h u r =
    let n = used - (at + old) in
    let z = old - new in
    let l = length-drop (at + old) s in
    let P = take (at + new) s ++ take n (drop (at + old) s) in
    let R = drop (at + new + n) s in
    let w : used + new - old ≡ at + new + n = omega arith in
    let lp : length P ≡ at + new + n = length_paste_head s (at + new) (drop (at + old) s) n (omega arith) (omega arith) in
    let e1 : take (at + new + n) (P ++ R) ≡ P = take_at P R (at + new + n) lp in
    let Z : List ℕ = replicate z 0 in
    let e2 : take z Z ≡ Z = ap (λ (k : List ℕ). take z k) (sym (append-nil Z)) ∙ take_at Z _ z (length-replicate z 0) in
    let k1 : at + new + n + z ≡ length P + z = omega arith in
    let k2 : at + new + n + z ≡ used + (new - old) = omega arith in
    let e3 : drop (at + new + n + z) (P ++ R) ≡ drop (used + (new - old)) s = ap (λ (k : ℕ). drop k (P ++ R)) k1 ∙ drop-append-add P R z ∙ drop-drop z (at + new + n) s ∙ ap (λ (k : ℕ). drop k s) k2 in
    rw (w, e1, e2, e3) (simp append_assoc)

-- bytes that are moved to where they stand
pub paste_here : (s : List ℕ) (at n : ℕ) → paste s at (drop at s) n ≡ s
paste_here s at n =
    let a : take n (drop at s) ++ drop (at + n) s ≡ drop at s = ap (λ (r : List ℕ). take n (drop at s) ++ r) (sym (drop-drop n at s)) ∙ take-append-drop n (drop at s) in
    simp append_assoc (ap (λ (r : List ℕ). take at s ++ r) a ∙ take-append-drop at s)
