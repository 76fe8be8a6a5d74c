-- A turn of the loop that moves bytes down, from the first.
use mathlib.Core.Path.{◌≡◌, sym, ap, ◌∙◌}
use mathlib.Core.List.{List, ◌++◌}
use Prim.Native.Nat.{ℕ, ◌+◌, ◌-◌, ◌<◌, ◌≤◌}
use native.Mathlib.Omega.{arith}
use native.Mathlib.Numerals.{add-one}
use lib.ListN.{length, get_or, take, drop, set, length-drop}
use lib.Seq.{paste, paste-suc, length_paste_head, get_or-append-add, get_or-drop}

-- what is behind a paste is as it was
far : (d : List ℕ) (at : ℕ) (src : List ℕ) (i k : ℕ) → at ≤ length d → i ≤ length src → at + i ≤ k → get_or (paste d at src i) k 0 ≡ get_or d k 0
far d at src i k hd hs h =
    let p = take at d ++ take i src in
    let e : k ≡ length p + (k - (at + i)) = omega (arith, length_paste_head d at src i hd hs) in
    let e2 : at + i + (k - (at + i)) ≡ k = omega arith in
    ap (λ (m : ℕ). get_or (paste d at src i) m 0) e ∙ get_or-append-add p (drop (at + i) d) (k - (at + i)) 0 ∙ get_or-drop (at + i) d (k - (at + i)) 0 ∙ ap (λ (m : ℕ). get_or d m 0) e2

pub down_turn : (d s : List ℕ) (to from n i : ℕ) → s ≡ paste d to (drop from d) i → i < n → to ≤ from → from + n ≤ length d
    → set s (to + i) (get_or s (from + i) 0) ≡ paste d to (drop from d) (i + 1)
down_turn d s to from n i e lt le h =
    let l = length-drop from d in
    let g : get_or (paste d to (drop from d) i) (from + i) 0 ≡ get_or (drop from d) i 0 = far d to (drop from d) i (from + i) (omega arith) (omega arith) (omega arith) ∙ sym (get_or-drop from d i 0) in
    rw (e, g, add-one) (paste-suc d to (drop from d) i 0 (omega arith) (omega arith))
