-- The records of one font stand together in a store, between its places. Assumes nothing.
use mathlib.Core.Path.{◌≡◌, refl, sym, ap, ◌∙◌}
use mathlib.Core.List.{List, [], ◌∷◌, ◌++◌}
use mathlib.Core.Bool.{Bool, true, false}
use mathlib.Core.Option.{some}
use Prim.Native.Nat.{ℕ, ◌+◌, ◌<◌, ◌≤◌}
use native.Mathlib.Omega.{arith}
use lib.ListN.{drop}
use lib.Seq.{drop-drop}
use lib.Dec.{eqb, ltb}
use borrow.Author.Tests.{eq-eqb, ne_eqb, eqb-true, eqb-false, ltb-true, ltb-false}
use Rattle.form.specs.Layout.{key_of, mark_record}
use Rattle.form.specs.Model.{Rec, Store, Owner, owner_after, no_owner, sorted, number, key, size_of, total, split, decode}
use Rattle.form.specs.Order.{keep, below, from, after}
use Rattle.form.specs.Records.{records_in, records_of, records_at, MetAt, Between}
use Rattle.form.specs.declared.walk.Places.{Places}
use Rattle.form.proofs.RecordBytes.{size_pos}
use Rattle.form.proofs.Codec.{Sorted, sorted_inv}
use Rattle.form.proofs.Order.{split_at, from_in, from_out, sorted_from, place_small}
use Rattle.form.proofs.Totals.{total_at, total_append}
use Rattle.form.proofs.Seeks.{KeptFont}
use Rattle.form.proofs.RecordRuns.{decoded}
use Rattle.form.proofs.Locates.{from_key}

-- ── records from one place up to another
module _ (s : List ℕ) (at hi : ℕ) (rs : List Rec) (b : Between s at hi rs) where
  -- nothing stands between a place and itself
  pub between_none : hi ≤ at → rs ≡ []
  unfolding total
  between_none l = go rs b.sum
    where
      go : (ts : List Rec) → at + total ts ≡ hi → ts ≡ []
      go [] e = refl
      go (r ∷ ts) e = absurd (omega (arith, size_pos r))

  -- what is met before the end is the first of them
  pub record Led (r : Rec) (next : ℕ) : Type 0 where
    pub rest : List Rec
    pub is : rs ≡ r ∷ rest
    pub more : Between s next hi rest
    pub fits : next ≤ hi

  pub between_next : (r : Rec) (next : ℕ) → at < hi → MetAt s at r next → Led r next
  unfolding total
  between_next r next l m = go rs refl b.are b.sum
    where
      go : (ts : List Rec) → rs ≡ ts → records_at s at ≡ ts ++ records_at s hi → at + total ts ≡ hi → Led r next
      go [] i e z = absurd (omega arith)
      go (x ∷ ts) i e z =
          let j : r ∷ records_at s next ≡ x ∷ (ts ++ records_at s hi) = sym m.records ∙ e in
          let k : x ≡ r = cc in
          let t : records_at s next ≡ ts ++ records_at s hi = cc in
          let n : next + total ts ≡ hi = omega (arith, m.size, ap size_of k) in
          record { rest = ts; is = i ∙ ap (λ (y : Rec). y ∷ ts) k; more = record { place = m.place; are = t; sum = n; within = b.within; small = b.small }; fits = omega arith }

  -- and there is something
  pub between_some : at < hi → records_at s at ≡ [] → ⊥
  unfolding total
  between_some l e = go rs b.are b.sum
    where
      go : (ts : List Rec) → records_at s at ≡ ts ++ records_at s hi → at + total ts ≡ hi → ⊥
      go [] i z = omega arith
      go (x ∷ ts) i z = let y : ◌≡◌ {A = ℕ} 0 1 = cc in omega arith

-- ── the records of a font
pub of_in : (n : ℕ) (r : Rec) (ts : List Rec) → number r ≡ n → records_of n (r ∷ ts) ≡ r ∷ records_of n ts
unfolding records_of keep
of_in n r ts e = rw (eq-eqb (number r) n e)

pub of_out : (n : ℕ) (r : Rec) (ts : List Rec) → (number r ≡ n → ⊥) → records_of n (r ∷ ts) ≡ records_of n ts
unfolding records_of keep
of_out n r ts e = rw (ne_eqb (number r) n e)

pub none_of : (ts : List Rec) (n k : ℕ) (u : Owner) → sorted k u ts ≡ true → key_of (n + 1) 0 ≤ k → records_of n ts ≡ []
none_of [] n k u o l = unfold records_of in unfold keep in refl
none_of (r ∷ ts) n k u o l =
    let w = sorted_inv k u r ts o in
    of_out n r ts (λ e. omega (arith, w.least, place_small u r w.ok)) ∙ none_of ts n (key r + 1) (owner_after u r) w.rest (omega (arith, w.least))

module _ (n : ℕ) (r : Rec) (ts : List Rec) (k : ℕ) (u : Owner) (w : Sorted k u r ts) (ih : from (key_of n 0) ts ≡ records_of n ts ++ from (key_of (n + 1) 0) ts) where
  together_before : number r < n → from (key_of n 0) (r ∷ ts) ≡ records_of n (r ∷ ts) ++ from (key_of (n + 1) 0) (r ∷ ts)
  together_before l =
      let m = place_small u r w.ok in
      rw (from_out (key_of n 0) r ts (omega arith), from_out (key_of (n + 1) 0) r ts (omega arith), of_out n r ts (λ e. omega arith)) ih

  together_here : number r ≡ n → from (key_of n 0) (r ∷ ts) ≡ records_of n (r ∷ ts) ++ from (key_of (n + 1) 0) (r ∷ ts)
  together_here e =
      let m = place_small u r w.ok in
      rw (from_in (key_of n 0) r ts (omega arith), from_out (key_of (n + 1) 0) r ts (omega arith), of_in n r ts e) (ap (λ (l : List Rec). r ∷ l) ih)

  together_behind : n < number r → from (key_of n 0) (r ∷ ts) ≡ records_of n (r ∷ ts) ++ from (key_of (n + 1) 0) (r ∷ ts)
  together_behind l =
      let z : records_of n ts ≡ [] = none_of ts n (key r + 1) (owner_after u r) w.rest (omega arith) in
      let i : from (key_of n 0) ts ≡ from (key_of (n + 1) 0) ts = rw z at ih in
      rw (from_in (key_of n 0) r ts (omega arith), from_in (key_of (n + 1) 0) r ts (omega arith), of_out n r ts (λ e. omega arith), z) (ap (λ (l : List Rec). r ∷ l) i)

  together_by : from (key_of n 0) (r ∷ ts) ≡ records_of n (r ∷ ts) ++ from (key_of (n + 1) 0) (r ∷ ts)
  together_by = go (ltb (number r) n) refl (eqb (number r) n) refl
    where
      go : (a : Bool) → ltb (number r) n ≡ a → (b : Bool) → eqb (number r) n ≡ b → from (key_of n 0) (r ∷ ts) ≡ records_of n (r ∷ ts) ++ from (key_of (n + 1) 0) (r ∷ ts)
      go true x b y = together_before (ltb-true _ _ x)
      go false x true y = together_here (eqb-true _ _ y)
      go false x false y = let l = ltb-false (number r) n x in let m = eqb-false (number r) n y in together_behind (omega arith)

pub together : (rs : List Rec) (n k : ℕ) (u : Owner) → sorted k u rs ≡ true → from (key_of n 0) rs ≡ records_of n rs ++ from (key_of (n + 1) 0) rs
together [] n k u o = unfold records_of in unfold keep in refl
together (r ∷ ts) n k u o = let w = sorted_inv k u r ts o in together_by n r ts k u w (together ts n (key r + 1) (owner_after u r) w.rest)

-- those from a key on stand from its place on
records_from : (s : List ℕ) (rs : List Rec) (k : ℕ) → split (drop mark_record s) ≡ some rs → sorted 0 no_owner rs ≡ true → split (drop (mark_record + total (below k rs)) s) ≡ some (from k rs)
records_from s rs k e o = ap split (sym (drop-drop (total (below k rs)) mark_record s)) ∙ from_key k 0 no_owner rs (drop mark_record s) o e

records_at_lem : (s : List ℕ) (at : ℕ) (rs : List Rec) → split (drop at s) ≡ some rs → records_at s at ≡ rs
unfolding records_at
records_at_lem s at rs e = rw e

records_all : (s : List ℕ) (st : Store) → decode s ≡ some st → records_in s ≡ st.recs
unfolding records_in
records_all s st e = rw e

pub font_records : (n : ℕ) (s : List ℕ) (w : Places) (x : KeptFont n 0 s w) → Between s w.lo w.hi (records_of n x.ready.store.recs)
font_records n s w x =
    let r = x.ready in
    let rs = r.store.recs in
    let d = decoded s r.store r.is in
    let o = d.2 in
    let lo : w.lo ≡ mark_record + total (below (key_of n 0) rs) = ap (λ (y : Places). y.lo) r.at in
    let hi : w.hi ≡ mark_record + total (below (key_of (n + 1) 0) rs) = ap (λ (y : Places). y.hi) r.at in
    let a : split (drop w.lo s) ≡ some (from (key_of n 0) rs) = rw lo (records_from s rs (key_of n 0) d.1 o) in
    let b : split (drop w.hi s) ≡ some (from (key_of (n + 1) 0) rs) = rw hi (records_from s rs (key_of (n + 1) 0) d.1 o) in
    let t = together rs n 0 no_owner o in
    let z : total (from (key_of n 0) rs) ≡ total (records_of n rs) + total (from (key_of (n + 1) 0) rs) = ap total t ∙ total_append (records_of n rs) (from (key_of (n + 1) 0) rs) in
    record {
      place = record { within = omega (arith, r.span, r.end, r.room); recs = from (key_of n 0) rs; is = a; least = key_of n 0; behind = after no_owner (below (key_of n 0) rs); order = sorted_from (key_of n 0) 0 no_owner rs o; before = below (key_of n 0) rs; all = records_all s r.store r.is ∙ split_at (key_of n 0) 0 no_owner rs o; sum = sym lo };
      are = records_at_lem s w.lo _ a ∙ t ∙ ap (λ (l : List Rec). records_of n rs ++ l) (sym (records_at_lem s w.hi _ b));
      sum = omega (arith, lo, hi, z, total_at (key_of n 0) 0 no_owner rs o, total_at (key_of (n + 1) 0) 0 no_owner rs o);
      within = omega (arith, r.end, r.room);
      small = omega (arith, r.size, r.valid.small);
    }
