-- The rule of the table of mirrored bytes, carried from the test over the whole table to each of its entries. Assumes nothing.
use mathlib.Core.Path.{◌≡◌, ◌∙◌, sym, ap}
use mathlib.Core.Bool.{Bool, true, false, ◌&&◌}
use mathlib.Core.List.{List, [], ◌∷◌}
use Prim.Native.Nat.{ℕ, zero, suc, ◌+◌, ◌<◌}
use native.Mathlib.Nat.{add-zero, zero-add}
use native.Mathlib.Omega.{arith}
use lib.Dec.{T, eqb, eqb→eq}
use lib.ListN.{length, get_or}
use Rattle.turning.specs.Mirror.{mirror, mirrors_from, Mirrors}

pub left : (a b : Bool) → T (a && b) → T a
left true b t = tt
left false b t = t

pub right : (a b : Bool) → T (a && b) → T b
right true b t = t
right false b t = absurd t

entry_from : (table : List ℕ) (b k : ℕ) → T (mirrors_from b table) → k < length table → get_or table k 0 ≡ mirror (b + k)
entry_from [] b k t l = absurd (omega arith)
entry_from (x ∷ table) b zero t l = eqb→eq x (mirror b) (left (eqb x (mirror b)) (mirrors_from (suc b) table) t) ∙ ap mirror (sym (add-zero b))
entry_from (x ∷ table) b (suc k) t l =
    let e : suc b + k ≡ b + suc k = omega arith in
    entry_from table (suc b) k (right (eqb x (mirror b)) (mirrors_from (suc b) table) t) (omega arith) ∙ ap mirror e

pub entry : (table : List ℕ) (b : ℕ) → Mirrors table → b < 256 → get_or table b 0 ≡ mirror b
unfolding Mirrors
entry table b t l = entry_from table 0 b t.1 (omega (arith, t.0)) ∙ ap mirror (zero-add b)
