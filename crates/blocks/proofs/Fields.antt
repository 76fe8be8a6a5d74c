-- What a change of a field leaves: the bytes beside it, its own value, the length. Assumes nothing.
use Prim.Native.Nat.{ℕ, ◌+◌, ◌/◌, ◌%◌, ◌<◌}
use mathlib.Core.Path.{◌≡◌, refl, subst, ◌∙◌}
use mathlib.Core.List.{List}
use mathlib.Core.Bool.{Bool, true, false, not, cond}
use native.Mathlib.Omega.{arith}
use borrow.Author.Tests.{le-leb}
use lib.Dec.{T, T_not, leb, eqb, eqb_refl}
use lib.ListN.{length, set, length-set}
use lib.Seq.{get_or-set_same, get_or-set_other, set-get_or}
use Rattle.blocks.specs.Field.{byte, word, put_word, cap_extended, floor_word, negative, signed}

-- a list that is one of two keeps what both have
either : {A : Type 0} (P : A → Type 0) (t : Bool) (x y : A) → P x → P y → P (cond t x y)
either P true x y p q = p
either P false x y p q = q

-- ---- a byte elsewhere
pub other : (i a j : ℕ) (l : List ℕ) → T (not (eqb j i)) → byte (set l i a) j ≡ byte l j
other i a j l h = get_or-set_other l i j a 0 (λ e. T_not (eqb j i) h (subst (λ (k : ℕ). T (eqb j k)) e (eqb_refl j)))

pub put_other : (at v j : ℕ) (l : List ℕ) → T (not (eqb j at)) → T (not (eqb j (at + 1))) → byte (put_word at v l) j ≡ byte l j
put_other at v j l h k = other (at + 1) (v % 256) j (set l at (v / 256)) k ∙ other at (v / 256) j l h

pub cap_other :
    (at extended limit j : ℕ) (l : List ℕ) → T (not (eqb j at)) → T (not (eqb j (at + 1))) → T (not (eqb j extended))
    → byte (cap_extended at extended limit l) j ≡ byte l j
cap_other at extended limit j l h k e =
    either (λ x. byte x j ≡ byte l j) (leb (word l at) limit) l (set (put_word at limit l) extended 0) refl
    (other extended 0 j (put_word at limit l) e ∙ put_other at limit j l h k)

pub floor_other : (at j : ℕ) (l : List ℕ) → T (not (eqb j at)) → T (not (eqb j (at + 1))) → byte (floor_word at l) j ≡ byte l j
floor_other at j l h k = either (λ x. byte x j ≡ byte l j) (negative 16 (word l at)) (put_word at 0 l) l (put_other at 0 j l h k) refl

-- ---- the length
pub cap_length : (at extended limit : ℕ) (l : List ℕ) → length (cap_extended at extended limit l) ≡ length l
cap_length at extended limit l = either (λ x. length x ≡ length l) (leb (word l at) limit) l (set (put_word at limit l) extended 0) refl (simp length-set)

pub floor_length : (at : ℕ) (l : List ℕ) → length (floor_word at l) ≡ length l
floor_length at l = either (λ x. length x ≡ length l) (negative 16 (word l at)) (put_word at 0 l) l (simp length-set) refl

-- ---- the field itself
pub put_at : (at v : ℕ) (l : List ℕ) → at + 1 < length l → word (put_word at v l) at ≡ v
put_at at v l h =
    let m = set l at (v / 256) in
    let high : byte (put_word at v l) at ≡ v / 256 =
    get_or-set_other m (at + 1) at (v % 256) 0 (λ e. omega arith) ∙ get_or-set_same l at (v / 256) 0 (omega arith) in
    let low : byte (put_word at v l) (at + 1) ≡ v % 256 = get_or-set_same m (at + 1) (v % 256) 0 (simp length-set h) in
    simp (high, low) (omega arith)

pub cap_low :
    (at extended limit : ℕ) (l : List ℕ) → at + 1 < length l → T (not (eqb at extended)) → T (not (eqb (at + 1) extended))
    → leb (word (cap_extended at extended limit l) at) limit ≡ true
cap_low at extended limit l h p q = go (leb (word l at) limit) refl
  where
    go : (t : Bool) → leb (word l at) limit ≡ t → leb (word (cond t l (set (put_word at limit l) extended 0)) at) limit ≡ true
    go true e = e
    go false e =
        rw (other extended 0 at (put_word at limit l) p, other extended 0 (at + 1) (put_word at limit l) q, put_at at limit l h)
        (le-leb limit limit (omega arith))

pub floor_zero : (at : ℕ) (l : List ℕ) → at + 1 < length l → negative 16 (word (floor_word at l) at) ≡ false
unfolding negative signed
floor_zero at l h = go (negative 16 (word l at)) refl
  where
    go : (t : Bool) → negative 16 (word l at) ≡ t → negative 16 (word (cond t (put_word at 0 l) l) at) ≡ false
    go true e = rw (put_at at 0 l h)
    go false e = e

-- ---- a byte that stays
pub stay : (i a : ℕ) (l : List ℕ) → byte l i ≡ a → set l i a ≡ l
stay i a l e = rw (← e) (set-get_or l i 0)
