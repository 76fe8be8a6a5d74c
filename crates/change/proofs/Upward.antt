-- A turn of the loop that moves bytes up, from the last.
use mathlib.Core.Path.{◌≡◌, sym, ap, ◌∙◌}
use mathlib.Core.List.{List, ◌∷◌, ◌++◌, append_assoc}
use Prim.Native.Nat.{ℕ, suc, ◌+◌, ◌-◌, ◌<◌, ◌≤◌}
use native.Mathlib.Omega.{arith}
use lib.ListN.{length, get_or, take, drop, set, length-append, get_or-append}
use lib.Seq.{paste, paste-zero, get_or-take, take-suc, drop-cons, set_at, length-take-le}

-- a paste, one element further to the front
front : (d src rest : List ℕ) (at v : ℕ) → at < length d → set ((take (suc at) d ++ src) ++ rest) at v ≡ (take at d ++ (v ∷ src)) ++ rest
front d src rest at v h =
    let x = get_or d at 0 in
    let e : (take (suc at) d ++ src) ++ rest ≡ take at d ++ x ∷ (src ++ rest) =
    rw (take-suc d at 0) (simp append_assoc) in
    rw e (set_at (take at d) x (src ++ rest) v at (length-take-le at d (omega arith)) ∙ sym (append_assoc (take at d) (v ∷ src) rest))

up_suc : (d s : List ℕ) (to from m : ℕ) → s ≡ paste d (suc to) (drop (suc from) d) m → from ≤ to → suc to + m ≤ length d
    → set s to (get_or s from 0) ≡ paste d to (drop from d) (suc m)
up_suc d s to from m e le h =
    let src = take m (drop (suc from) d) in
    let l : length (take (suc to) d) ≡ suc to = length-take-le (suc to) d (omega arith) in
    let g : get_or (paste d (suc to) (drop (suc from) d) m) from 0 ≡ get_or d from 0 =
    get_or-append (take (suc to) d ++ src) (drop (suc to + m) d) 0 from (omega (arith, length-append (take (suc to) d) src))
    ∙ get_or-append (take (suc to) d) src 0 from (omega arith) ∙ get_or-take (suc to) d from 0 (omega arith) in
    let a : suc to + m ≡ to + suc m = omega arith in
    let c : drop from d ≡ get_or d from 0 ∷ drop (suc from) d = drop-cons d from 0 (omega arith) in
    rw (e, g, c) (front d src (drop (suc to + m) d) to (get_or d from 0) (omega arith) ∙ ap (λ (k : ℕ). (take to d ++ (get_or d from 0 ∷ src)) ++ drop k d) a)

pub up_turn : (d s : List ℕ) (to from n i : ℕ) → s ≡ paste d (to + i) (drop (from + i) d) (n - i) → 0 < i → i ≤ n → from ≤ to → to + n ≤ length d
    → set s (to + (i - 1)) (get_or s (from + (i - 1)) 0) ≡ paste d (to + (i - 1)) (drop (from + (i - 1)) d) (n - (i - 1))
up_turn d s to from n i e pos le lt h =
    let a : to + i ≡ suc (to + (i - 1)) = omega arith in
    let b : from + i ≡ suc (from + (i - 1)) = omega arith in
    let c : n - (i - 1) ≡ suc (n - i) = omega arith in
    rw c (up_suc d s (to + (i - 1)) (from + (i - 1)) (n - i) (rw (a, b) at e) (omega arith) (omega arith))

pub up_start : (d : List ℕ) (to from n : ℕ) → d ≡ paste d (to + n) (drop (from + n) d) (n - n)
up_start d to from n = let e : n - n ≡ 0 = omega arith in rw e (paste-zero d (to + n) (drop (from + n) d))

pub up_end : (d s : List ℕ) (to from n i : ℕ) → i ≡ 0 → s ≡ paste d (to + i) (drop (from + i) d) (n - i) → s ≡ paste d to (drop from d) n
up_end d s to from n i z e =
    let a : to + i ≡ to = omega arith in
    let b : from + i ≡ from = omega arith in
    let c : n - i ≡ n = omega arith in
    rw (a, b, c) at e
