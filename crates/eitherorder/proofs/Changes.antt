-- Changes of a store, each of records between two keys: what is found afterwards, and two of them in either order. Assumes nothing.
use Prim.Native.Nat.{ℕ, ◌+◌, ◌<◌, ◌≤◌}
use mathlib.Core.Path.{◌≡◌, refl, sym, ap, ap₂, ◌∙◌}
use mathlib.Core.Logic.{◌⊎◌, inl, inr, ⊎_elim}
use mathlib.Core.List.{List, [], ◌∷◌, ◌++◌}
use mathlib.Core.Bool.{Bool, true, false, cond}
use mathlib.Core.Option.{Option, none, some}
use native.Mathlib.Omega.{arith}
use lib.Dec.{eqb, leb, ltb}
use borrow.Author.Tests.{eqb-true, eqb-false, lt-ltb, le-leb, le-ltb, lt-leb}
use Rattle.form.specs.Layout.{key_of}
use Rattle.form.specs.Model.{Rec, Mark, shut, Store, Owner, owner_after, no_owner, sorted, key}
use Rattle.form.specs.Order.{keep, below, from, replaced, find_record}
use Rattle.form.proofs.Numbers.{less_or}
use Rattle.form.proofs.Codec.{sorted_inv}
use Rattle.form.proofs.Lookup.{find_here, find_other, find_behind}
use Rattle.store.proofs.Replaced.{Outside}

-- records with keys from lo up to hi, without hi, give way to new ones; and what becomes of the open mark
pub record Change : Type 0 where
  pub lo : ℕ
  pub hi : ℕ
  pub new : List Rec
  pub mark : Mark → Mark

abbrev pub records_after : Change → List Rec → List Rec
records_after x rs = replaced x.lo x.hi x.new rs

abbrev pub changed : Change → Store → Store
changed x st = record { size = st.size; mark = x.mark st.mark; recs = records_after x st.recs }

-- the change is one of font n and its characters alone
pub record Inside (n : ℕ) (x : Change) : Type 0 where
  pub low : key_of n 0 ≤ x.lo
  pub order : x.lo ≤ x.hi
  pub high : x.hi ≤ key_of (n + 1) 0
  pub nowhere_else : (k : ℕ) → Outside x.lo x.hi k → find_record k x.new ≡ none

-- ── what is found
-- the first of two, if there is one
abbrev first_of : Option Rec → Option Rec → Option Rec
first_of none o = o
first_of (some r) o = some r

first_none : (o : Option Rec) → first_of o none ≡ o
first_none none = refl
first_none (some r) = refl

none_either : (t : Bool) → cond {A = Option Rec} t none none ≡ none
none_either true = refl
none_either false = refl

module _ (k : ℕ) where
  find_append : (a b : List Rec) → find_record k (a ++ b) ≡ first_of (find_record k a) (find_record k b)
  unfolding find_record
  find_append [] b = refl
  find_append (r ∷ a) b = go (eqb (key r) k) (find_append a b)
    where
      go : (z : Bool) → find_record k (a ++ b) ≡ first_of (find_record k a) (find_record k b) → cond z (some r) (find_record k (a ++ b)) ≡ first_of (cond z (some r) (find_record k a)) (find_record k b)
      go true e = refl
      go false e = e

  -- among the records whose keys pass a test
  find_keep : (t : ℕ → Bool) (rs : List Rec) → find_record k (keep (λ r. t (key r)) rs) ≡ cond (t k) (find_record k rs) none
  unfolding find_record keep
  find_keep t [] = sym (none_either (t k))
  find_keep t (r ∷ rs) = go (t (key r)) refl (eqb (key r) k) refl (find_keep t rs)
    where
      kept : List Rec
      kept = keep (λ r. t (key r)) rs

      go : (a : Bool) → t (key r) ≡ a → (b : Bool) → eqb (key r) k ≡ b → find_record k kept ≡ cond (t k) (find_record k rs) none
          → find_record k (cond a (r ∷ kept) kept) ≡ cond (t k) (cond b (some r) (find_record k rs)) none
      go true p true q e = let z : t k ≡ true = ap t (sym (eqb-true (key r) k q)) ∙ p in rw (q, z)
      go true p false q e = rw q e
      go false p true q e = let z : t k ≡ false = ap t (sym (eqb-true (key r) k q)) ∙ p in e ∙ rw z
      go false p false q e = e

module _ {n : ℕ} {x : Change} (w : Inside n x) (rs : List Rec) (k : ℕ) where
  find_parts : find_record k (records_after x rs) ≡ first_of (cond (ltb k x.lo) (find_record k rs) none) (first_of (find_record k x.new) (cond (leb x.hi k) (find_record k rs) none))
  find_parts =
      find_append k (below x.lo rs) (x.new ++ from x.hi rs)
      ∙ ap₂ first_of (find_keep k (λ j. ltb j x.lo) rs) (find_append k x.new (from x.hi rs) ∙ ap (first_of (find_record k x.new)) (find_keep k (λ j. leb x.hi j) rs))

  find_new : x.lo ≤ k → k < x.hi → find_record k (records_after x rs) ≡ find_record k x.new
  find_new l h = find_parts ∙ rw (le-ltb k x.lo l, lt-leb x.hi k h) (first_none (find_record k x.new))

  find_old : Outside x.lo x.hi k → find_record k (records_after x rs) ≡ find_record k rs
  find_old o = go o (w.nowhere_else k o)
    where
      go : Outside x.lo x.hi k → find_record k x.new ≡ none → find_record k (records_after x rs) ≡ find_record k rs
      go (inl l) e = find_parts ∙ rw (lt-ltb k x.lo l, lt-leb x.hi k (omega (arith, w.order)), e) (first_none (find_record k rs))
      go (inr h) e = find_parts ∙ rw (le-ltb k x.lo (omega (arith, w.order)), le-leb x.hi k h, e)

-- ── sorted records are determined by what is found among them
not_found : {A : Type 0} {r : Rec} {o : Option Rec} → o ≡ some r → o ≡ none → A
not_found {A} {r} {o} e f = let y : ◌≡◌ {A = ℕ} 0 1 = cc in absurd (omega arith)

-- the first key is the least that is found
least : (r q : Rec) (qs : List Rec) (k : ℕ) (u : Owner) → sorted k u (q ∷ qs) ≡ true → find_record (key r) (q ∷ qs) ≡ some r → key q ≤ key r
least r q qs k u e f =
    ⊎_elim
    (λ (z : key r < key q). not_found f (find_other (key r) q qs (λ i. omega arith) ∙ find_behind (key r) (key q + 1) (owner_after u q) qs (sorted_inv k u q qs e).rest (omega arith)))
    (λ (z : key q ≤ key r). z)
    (less_or (key r) (key q))

same_records : (rs qs : List Rec) (k l : ℕ) (u v : Owner) → sorted k u rs ≡ true → sorted l v qs ≡ true → ((j : ℕ) → find_record j rs ≡ find_record j qs) → rs ≡ qs
unfolding find_record
same_records [] [] k l u v e g f = refl
same_records [] (q ∷ qs) k l u v e g f = not_found (f (key q) ∙ find_here (key q) q qs refl) refl
same_records (r ∷ rs) [] k l u v e g f = not_found (sym (f (key r)) ∙ find_here (key r) r rs refl) refl
same_records (r ∷ rs) (q ∷ qs) k l u v e g f =
    let w = sorted_inv k u r rs e in
    let x = sorted_inv l v q qs g in
    let a = least r q qs l v g (sym (f (key r)) ∙ find_here (key r) r rs refl) in
    let b = least q r rs k u e (f (key q) ∙ find_here (key q) q qs refl) in
    let i : key r ≡ key q = omega arith in
    let s : some r ≡ some q = sym (find_here (key r) r rs refl) ∙ f (key r) ∙ find_here (key r) q qs (sym i) in
    let h : r ≡ q = cc in
    ap₂ ◌∷◌ h (same_records rs qs (key r + 1) (key q + 1) _ _ w.rest x.rest (λ j. rest j (eqb (key r) j) refl i w.rest x.rest))
  where
    rest : (j : ℕ) (t : Bool) → eqb (key r) j ≡ t → key r ≡ key q → sorted (key r + 1) (owner_after u r) rs ≡ true → sorted (key q + 1) (owner_after v q) qs ≡ true → find_record j rs ≡ find_record j qs
    rest j true p i a b = let z = eqb-true (key r) j p in find_behind j (key r + 1) _ rs a (omega arith) ∙ sym (find_behind j (key q + 1) _ qs b (omega arith))
    rest j false p i a b = let o = eqb-false (key r) j p in sym (find_other j r rs o) ∙ f j ∙ find_other j q qs (λ z. o (i ∙ z))

-- ── two changes, of different fonts
-- the keys of font m are outside of a change of font n
elsewhere : {n m : ℕ} {x : Change} → (n ≡ m → ⊥) → Inside n x → (k : ℕ) → key_of m 0 ≤ k → k < key_of (m + 1) 0 → Outside x.lo x.hi k
elsewhere {n} {m} {x} o w k l h =
    ⊎_elim (λ (z : n < m). inr (omega (arith, w.high))) (λ (z : m ≤ n). inl (omega (arith, o, w.low))) (less_or n m)

-- so that the records of font m are found as before
pub others_found : {n m : ℕ} {x : Change} → (n ≡ m → ⊥) → Inside n x → (rs : List Rec) (k : ℕ) → key_of m 0 ≤ k → k < key_of (m + 1) 0 → find_record k (records_after x rs) ≡ find_record k rs
others_found o w rs k l h = find_old w rs k (elsewhere o w k l h)

-- a key stands between the keys of a change, or outside of them
data Stands (x : Change) (k : ℕ) : Type 0 where
  within : x.lo ≤ k → k < x.hi → Stands x k
  outside : Outside x.lo x.hi k → Stands x k

stands : (x : Change) (k : ℕ) → Stands x k
stands x k =
    ⊎_elim
    (λ (l : k < x.lo). outside (inl l))
    (λ (l : x.lo ≤ k). ⊎_elim (λ (h : k < x.hi). within l h) (λ (h : x.hi ≤ k). outside (inr h)) (less_or k x.hi))
    (less_or k x.lo)

module _ {n m : ℕ} {x y : Change} (o : n ≡ m → ⊥) (w : Inside n x) (v : Inside m y) (rs : List Rec) where
  -- what stands in a change is found in either order, and what stands in neither is found as before
  found_first : (k : ℕ) → x.lo ≤ k → k < x.hi → find_record k (records_after y (records_after x rs)) ≡ find_record k (records_after x (records_after y rs))
  found_first k l h =
      find_old v (records_after x rs) k (elsewhere (λ e. o (sym e)) v k (omega (arith, w.low)) (omega (arith, w.high)))
      ∙ find_new w rs k l h ∙ sym (find_new w (records_after y rs) k l h)

module _ {n m : ℕ} {x y : Change} (o : n ≡ m → ⊥) (w : Inside n x) (v : Inside m y) (rs : List Rec) where
  found_either : (k : ℕ) → Stands x k → Stands y k → find_record k (records_after y (records_after x rs)) ≡ find_record k (records_after x (records_after y rs))
  found_either k (within l h) b = found_first o w v rs k l h
  found_either k (outside a) (within l h) = sym (found_first (λ e. o (sym e)) v w rs k l h)
  found_either k (outside a) (outside b) =
      find_old v (records_after x rs) k b ∙ find_old w rs k a ∙ sym (find_old w (records_after y rs) k a ∙ find_old v rs k b)

  -- both orders give the same records
  pub either_way : sorted 0 no_owner (records_after y (records_after x rs)) ≡ true → sorted 0 no_owner (records_after x (records_after y rs)) ≡ true
      → records_after y (records_after x rs) ≡ records_after x (records_after y rs)
  either_way e f = same_records _ _ 0 0 no_owner no_owner e f (λ k. found_either k (stands x k) (stands y k))

-- ── the open mark
-- `Closes` leaves the mark, or closes it if it names font n; `Sets` sets it, whatever it was, to one of font n or to none
abbrev pub Closes : ℕ → (Mark → Mark) → Type 0
Closes n f = (q : Mark) → (f q ≡ q) ⊎ ((f q ≡ shut) × (q.font_of ≡ n))

abbrev pub Sets : ℕ → (Mark → Mark) → Type 0
Sets n f = (v : Mark) × ((v ≡ shut) ⊎ (v.font_of ≡ n)) × ((q : Mark) → f q ≡ v)

shut_stays : {n : ℕ} {f : Mark → Mark} → Closes n f → f shut ≡ shut
shut_stays c = ⊎_elim (λ e. e) (λ e. e.0) (c shut)

pub both_close : {n m : ℕ} {f g : Mark → Mark} → Closes n f → Closes m g → (q : Mark) → g (f q) ≡ f (g q)
both_close {n} {m} {f} {g} a b q = go (a q) (b q)
  where
    go : (f q ≡ q) ⊎ ((f q ≡ shut) × (q.font_of ≡ n)) → (g q ≡ q) ⊎ ((g q ≡ shut) × (q.font_of ≡ m)) → g (f q) ≡ f (g q)
    go (inl d) (inl e) = ap g d ∙ e ∙ sym (ap f e ∙ d)
    go (inl d) (inr e) = ap g d ∙ e.0 ∙ sym (ap f e.0 ∙ shut_stays a)
    go (inr d) (inl e) = ap g d.0 ∙ shut_stays b ∙ sym (ap f e ∙ d.0)
    go (inr d) (inr e) = ap g d.0 ∙ shut_stays b ∙ sym (ap f e.0 ∙ shut_stays a)

pub set_or_close : {n m : ℕ} {f g : Mark → Mark} → (n ≡ m → ⊥) → Sets n f → Closes m g → (q : Mark) → g (f q) ≡ f (g q)
set_or_close {n} {m} {f} {g} o a b q = ap g (a.2 q) ∙ go a.1 (b a.0) ∙ sym (a.2 (g q))
  where
    go : (a.0 ≡ shut) ⊎ (a.0.font_of ≡ n) → (g a.0 ≡ a.0) ⊎ ((g a.0 ≡ shut) × (a.0.font_of ≡ m)) → g a.0 ≡ a.0
    go d (inl e) = e
    go (inl d) (inr e) = e.0 ∙ sym d
    go (inr d) (inr e) = absurd (o (sym d ∙ e.1))
