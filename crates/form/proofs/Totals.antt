-- Lengths of runs of records. Assumes nothing.
use mathlib.Core.Path.{◌≡◌, refl, sym, ap, ◌∙◌}
use mathlib.Core.List.{List, [], ◌∷◌, ◌++◌, append_assoc}
use mathlib.Core.Bool.{Bool, true, false, cond}
use Prim.Native.Nat.{ℕ, ◌+◌}
use native.Mathlib.Omega.{arith}
use lib.ListN.{length, length-append}
use Rattle.form.specs.Model.{Rec, Owner, owner_after, sorted, key, bytes_of, run, total}
use Rattle.form.specs.Order.{keep, below, from}
use Rattle.form.proofs.RecordBytes.{shaped}
use Rattle.form.proofs.Codec.{sorted_inv, size_bytes}
use Rattle.form.proofs.Order.{split_at}
use Rattle.form.specs.declared.tally.Tally.{Tally}

pub run_append : (T : ℕ → Tally) (a b : List Rec) → run T (a ++ b) ≡ run T a ++ run T b
unfolding run
run_append T [] b = refl
run_append T (r ∷ a) b = ap (λ (l : List ℕ). bytes_of T r ++ l) (run_append T a b) ∙ sym (append_assoc (bytes_of T r) (run T a) (run T b))

pub total_append : (a b : List Rec) → total (a ++ b) ≡ total a + total b
unfolding total
total_append [] b = omega arith
total_append (r ∷ a) b = omega (arith, total_append a b)

-- the length of those that a test picks
pub length_keep : (T : ℕ → Tally) (t : Rec → Bool) (k : ℕ) (u : Owner) (rs : List Rec) → sorted k u rs ≡ true → length (run T (keep t rs)) ≡ total (keep t rs)
unfolding run total keep
length_keep T t k u [] e = refl
length_keep T t k u (r ∷ rs) e = go (length_keep T t (key r + 1) (owner_after u r) rs (sorted_inv k u r rs e).rest) (t r)
  where
    go : length (run T (keep t rs)) ≡ total (keep t rs) → (b : Bool) → length (run T (cond b (r ∷ keep t rs) (keep t rs))) ≡ total (cond b (r ∷ keep t rs) (keep t rs))
    go ih true = omega (arith, length-append (bytes_of T r) (run T (keep t rs)), size_bytes T r (shaped u r (sorted_inv k u r rs e).ok), ih)
    go ih false = ih

-- what is below a key and what is from it on is all
pub total_at : (h k : ℕ) (u : Owner) (rs : List Rec) → sorted k u rs ≡ true → total rs ≡ total (below h rs) + total (from h rs)
total_at h k u rs e = ap total (split_at h k u rs e) ∙ total_append (below h rs) (from h rs)
