-- What an inspection that finds a store tells. Assumes nothing.
use mathlib.Core.Path.{◌≡◌, refl, sym, ap, ◌∙◌}
use Rattle.std.specs.Prelude.{Some, None}
use mathlib.Core.List.{List, ◌++◌}
use mathlib.Core.Bool.{Bool, true, false, cond}
use mathlib.Core.Option.{Option, none, some}
use Prim.Native.Nat.{ℕ, ◌+◌, ◌<◌, ◌≤◌}
use native.Mathlib.Omega.{arith}
use lib.ListN.{length, drop, replicate}
use lib.Seq.{drop_at}
use lib.Dec.{ltb}
use borrow.Author.Tests.{ltb-true, ltb-false}
use Rattle.form.specs.Layout.{key_of, mark_record}
use Rattle.form.specs.Num.{Bytes}
use Rattle.form.specs.Model.{Rec, font, Store, no_owner, sorted, tally_of, bytes_of, run, mark_bytes, encode, decode, total, Valid}
use Rattle.form.specs.Order.{below, from, find_record}
use Rattle.form.specs.Walk.{places_of, inspected, Stands}
use Rattle.form.specs.declared.walk.Places.{Places}
use Rattle.form.proofs.RecordBytes.{size_pos}
use Rattle.form.proofs.Codec.{encode_decode, length_encode, encode_parts, spare, mark_length}
use Rattle.form.proofs.Order.{split_at}
use Rattle.form.proofs.Totals.{total_at, length_keep, run_append}
use Rattle.form.proofs.Lookup.{found, missing, gap, below_mono, font_at_lem}

pub record Ready (n p : ℕ) (s : List ℕ) (w : Places) : Type 0 where
  pub store : Store
  pub is : decode s ≡ some store
  pub bytes : s ≡ encode store
  pub valid : Valid store
  pub at : w ≡ places_of n p store.recs
  pub size : length s ≡ store.size
  pub least : mark_record ≤ w.lo
  pub span : w.lo ≤ w.hi
  pub end : w.hi ≤ w.used
  pub one : w.from ≤ w.to
  pub last : w.to ≤ w.used
  pub room : w.used ≤ length s

module _ (n p : ℕ) (s : List ℕ) where
  pub not_store_lem : inspected n p (decode s) ≡ None → decode s ≡ none
  unfolding inspected
  not_store_lem e = go (decode s) refl e
    where
      go : (o : Option Store) → decode s ≡ o → inspected n p o ≡ None → decode s ≡ none
      go none q e' = q
      go (some st) q e' = let z : ◌≡◌ {A = ℕ} 0 1 = cc in absurd (omega arith)

  ready_of : Bytes s → (w : Places) (st : Store) → decode s ≡ some st → places_of n p st.recs ≡ w → Ready n p s w
  ready_of B w st q i =
      let v = encode_decode s st B q in
      let l : length s ≡ st.size = ap length v.0 ∙ length_encode st v.1 in
      let o = v.1.order in
      let rs = st.recs in
      let m1 = below_mono (key_of n 0) (key_of (n + 1) 0) 0 no_owner rs o (omega arith) in
      let m2 = below_mono (key_of n p) (key_of n p + 1) 0 no_owner rs o (omega arith) in
      let t1 = total_at (key_of (n + 1) 0) 0 no_owner rs o in
      let t2 = total_at (key_of n p + 1) 0 no_owner rs o in
      let r : mark_record + total rs ≤ length s = omega (arith, v.1.room) in
      rw (← i)
      (record {
        store = st;
        is = q;
        bytes = v.0;
        valid = v.1;
        at = refl;
        size = l;
        least = omega arith;
        span = omega arith;
        end = omega arith;
        one = omega arith;
        last = omega arith;
        room = r;
      })

  -- of a store that stands
  pub standing : Bytes s → (w : Places) → Stands n p s w → Ready n p s w
  standing B w x = ready_of B w x.store x.is x.at

  pub ready : Bytes s → (w : Places) → inspected n p (decode s) ≡ Some w → Ready n p s w
  unfolding inspected
  ready B w e = go (decode s) refl e
    where
      go : (o : Option Store) → decode s ≡ o → inspected n p o ≡ Some w → Ready n p s w
      go none q e' = let z : ◌≡◌ {A = ℕ} 0 1 = cc in absurd (omega arith)
      go (some st) q e' = ready_of B w st q (cc)

-- a buffer is one store
pub same_store : (s : List ℕ) {a b : Store} → decode s ≡ some a → decode s ≡ some b → a ≡ b
same_store s p q = cc

pub stands : {n p : ℕ} {s : List ℕ} {w : Places} → Ready n p s w → Stands n p s w
stands r = record { store = r.store; is = r.is; at = sym r.at }

-- ── lookups
pub looked_at : (a b : ℕ) (w x : Places) → cond (ltb a b) (Some w) None ≡ Some x → (a < b) × (w ≡ x)
looked_at a b w x e = go (ltb a b) refl e
  where
    go : (t : Bool) → ltb a b ≡ t → cond t (Some w) None ≡ Some x → (a < b) × (w ≡ x)
    go true q e' = (ltb-true a b q, cc)
    go false q e' = let z : ◌≡◌ {A = ℕ} 0 1 = cc in absurd (omega arith)

pub looked_not : (a b : ℕ) (w : Places) → cond (ltb a b) (Some w) None ≡ None → b ≤ a
looked_not a b w e = go (ltb a b) refl e
  where
    go : (t : Bool) → ltb a b ≡ t → cond t (Some w) None ≡ None → b ≤ a
    go true q e' = let z : ◌≡◌ {A = ℕ} 0 1 = cc in absurd (omega arith)
    go false q e' = ltb-false a b q

-- a font stands where its span is not empty
pub font_there : (n : ℕ) (rs : List Rec) → sorted 0 no_owner rs ≡ true → total (below (key_of n 0) rs) < total (below (key_of (n + 1) 0) rs) → (h : List ℕ) × (find_record (key_of n 0) rs ≡ some (font n h))
font_there n rs o l = go (find_record (key_of n 0) rs) refl
  where
    go : (x : Option Rec) → find_record (key_of n 0) rs ≡ x → (h : List ℕ) × (find_record (key_of n 0) rs ≡ some (font n h))
    go none q = absurd (omega (arith, (gap n rs o q).1))
    go (some r) q =
        let f = found (key_of n 0) 0 no_owner r rs o q in
        let w = font_at_lem n _ r f.ok f.is in
        (w.0, q ∙ ap some w.1)

pub font_missing : (n : ℕ) (rs : List Rec) → sorted 0 no_owner rs ≡ true → total (below (key_of (n + 1) 0) rs) ≤ total (below (key_of n 0) rs) → find_record (key_of n 0) rs ≡ none
font_missing n rs o l = go (find_record (key_of n 0) rs) refl
  where
    go : (x : Option Rec) → find_record (key_of n 0) rs ≡ x → find_record (key_of n 0) rs ≡ none
    go none q = q
    go (some r) q =
        let f = found (key_of n 0) 0 no_owner r rs o q in
        absurd (omega (arith, f.size, size_pos r, below_mono (key_of n 0 + 1) (key_of (n + 1) 0) 0 no_owner rs o (omega arith)))

-- a record stands where its own span is not empty
pub record_there : (k : ℕ) (rs : List Rec) → sorted 0 no_owner rs ≡ true → total (below k rs) < total (below (k + 1) rs) → (r : Rec) × (find_record k rs ≡ some r)
record_there k rs o l = go (find_record k rs) refl
  where
    go : (x : Option Rec) → find_record k rs ≡ x → (r : Rec) × (find_record k rs ≡ some r)
    go none q = absurd (omega (arith, ap total (missing k 0 no_owner rs o q).1))
    go (some r) q = (r, q)

pub record_missing : (k : ℕ) (rs : List Rec) → sorted 0 no_owner rs ≡ true → total (below (k + 1) rs) ≤ total (below k rs) → find_record k rs ≡ none
record_missing k rs o l = go (find_record k rs) refl
  where
    go : (x : Option Rec) → find_record k rs ≡ x → find_record k rs ≡ none
    go none q = q
    go (some r) q = let f = found k 0 no_owner r rs o q in absurd (omega (arith, f.size, size_pos r))

-- the bytes from a key's place on start with the record that has the key
pub record_bytes : (k : ℕ) (r : Rec) (st : Store) → Valid st → find_record k st.recs ≡ some r → (t : List ℕ) × (drop (mark_record + total (below k st.recs)) (encode st) ≡ bytes_of (tally_of st.recs) r ++ t)
unfolding run
record_bytes k r st v q =
    let rs = st.recs in
    let T = tally_of rs in
    let o = v.order in
    let f = found k 0 no_owner r rs o q in
    let M = mark_bytes st.mark in
    let Z : List ℕ = replicate (spare st) 0 in
    let e : encode st ≡ (M ++ run T (below k rs)) ++ (run T (from k rs) ++ Z) = encode_parts st ∙ ap (λ (l : List ℕ). M ++ (l ++ Z)) (ap (run T) (split_at k 0 no_owner rs o) ∙ run_append T (below k rs) (from k rs)) ∙ simp mathlib.Core.List.append_assoc in
    let l : length (M ++ run T (below k rs)) ≡ mark_record + total (below k rs) = omega (arith, lib.ListN.length-append M (run T (below k rs)), mark_length st.mark, length_keep T (λ x. ltb (Rattle.form.specs.Model.key x) k) 0 no_owner rs o) in
    (run T (from (k + 1) rs) ++ Z, rw (e, drop_at (M ++ run T (below k rs)) (run T (from k rs) ++ Z) (mark_record + total (below k rs)) l, f.rest) (mathlib.Core.List.append_assoc (bytes_of T r) (run T (from (k + 1) rs)) Z))
