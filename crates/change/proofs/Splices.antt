-- One law for every change of the record run: the records between two keys give way to new bytes. Assumes nothing.
use mathlib.Core.Path.{◌≡◌, refl, sym, ap, ◌∙◌}
use mathlib.Core.List.{List, [], ◌++◌, append_assoc, append-nil}
use Prim.Native.Nat.{ℕ, zero, suc, ◌+◌, ◌-◌, ◌≤◌}
use mathlib.Core.Bool.{true}
use native.Mathlib.Omega.{arith}
use lib.Dec.{ltb}
use lib.ListN.{length, take, drop, replicate, length-append, length-replicate, replicate-append-replicate}
use lib.Seq.{paste, take_at, drop_at, drop-drop, take-take, drop-append-add, take-append-le, length-take-le}
use Rattle.form.specs.Layout.{mark_record}
use Rattle.form.specs.Model.{Rec, no_owner, sorted, key, run, total}
use Rattle.form.specs.Order.{below, from}
use Rattle.change.specs.Put.{with_bytes}
use Rattle.change.specs.Change.{spliced_at}
use Rattle.change.proofs.Puts.{put_paste}
use Rattle.form.proofs.Order.{split_at}
use Rattle.form.proofs.Lookup.{below_mono}
use Rattle.form.proofs.Codec.{length_run}
use Rattle.form.proofs.Totals.{run_append, length_keep}
use Rattle.form.specs.declared.tally.Tally.{Tally}

-- ── the law of splice: at a place where S falls apart
module _ (S A R A2 C Z : List ℕ) (at old used new : ℕ) (a : S ≡ A ++ R) (la : length A ≡ at) (b : S ≡ A2 ++ (C ++ Z)) (lb : length A2 ≡ at + old) (lc : at + old + length C ≡ used) where
  moved_cut : spliced_at at old used new S ≡ take (at + new) S ++ (C ++ (replicate (old - new) 0 ++ drop (new - old) Z))
  unfolding spliced_at
  moved_cut =
      let d1 : drop (at + old) S ≡ C ++ Z = rw b (drop_at A2 (C ++ Z) (at + old) lb) in
      let n1 : used - (at + old) ≡ length C = omega arith in
      let d2 : take (length C) (C ++ Z) ≡ C = take_at C Z (length C) refl in
      let n2 : used + (new - old) ≡ at + old + (length C + (new - old)) = omega arith in
      let d3 : drop (used + (new - old)) S ≡ drop (new - old) Z = ap (λ (k : ℕ). drop k S) n2 ∙ sym (drop-drop (length C + (new - old)) (at + old) S) ∙ ap (λ (l : List ℕ). drop (length C + (new - old)) l) d1 ∙ drop-append-add C Z (new - old) in
      rw (d3, n1, d1, d2)

  -- the new bytes put in their place
  spliced : (blk : List ℕ) → length blk ≡ new → at + new ≤ length S → paste (spliced_at at old used new S) at blk new ≡ A ++ (blk ++ (C ++ (replicate (old - new) 0 ++ drop (new - old) Z)))
  spliced blk e h =
      let Y = C ++ (replicate (old - new) 0 ++ drop (new - old) Z) in
      let l : length (take (at + new) S) ≡ at + new = length-take-le (at + new) S h in
      let t1 : take at (take (at + new) S ++ Y) ≡ A = take-append-le at (take (at + new) S) Y (omega arith) ∙ take-take at (at + new) S (omega arith) ∙ rw a (take_at A R at la) in
      let t2 : drop (at + new) (take (at + new) S ++ Y) ≡ Y = drop_at (take (at + new) S) Y (at + new) l in
      let t3 : take new blk ≡ blk = ap (λ (x : List ℕ). take new x) (sym (append-nil blk)) ∙ take_at blk [] new e in
      rw (moved_cut, t1, t2, t3) (append_assoc A blk Y)

drop_replicate : (k n a : ℕ) → drop k (replicate n a) ≡ replicate (n - k) a
drop_replicate zero n a = let e : n ≡ n - 0 = omega arith in ap (λ (m : ℕ). replicate m a) e
drop_replicate (suc k) zero a = let e : 0 ≡ 0 - suc k = omega arith in ap (λ (m : ℕ). replicate m a) e
drop_replicate (suc k) (suc n) a = let e : n - k ≡ suc n - suc k = omega arith in drop_replicate k n a ∙ ap (λ (m : ℕ). replicate m a) e

module _ (T : ℕ → Tally) (lo hi z : ℕ) (M blk : List ℕ) (rs : List Rec) (e : sorted 0 no_owner rs ≡ true) (m : lo ≤ hi) (lm : length M ≡ mark_record) (b : ℕ) (lb : length blk ≡ b) where
  pub replace_bytes : b ≤ mark_record + total (below hi rs) - (mark_record + total (below lo rs)) + z
      → with_bytes (spliced_at (mark_record + total (below lo rs)) (mark_record + total (below hi rs) - (mark_record + total (below lo rs))) (mark_record + total rs) b (M ++ (run T rs ++ replicate z 0))) (mark_record + total (below lo rs)) blk
      ≡ M ++ ((run T (below lo rs) ++ (blk ++ run T (from hi rs))) ++ replicate (mark_record + total (below hi rs) - (mark_record + total (below lo rs)) + z - b) 0)
  replace_bytes room =
      let L = below lo rs in
      let H = below hi rs in
      let U = from lo rs in
      let W = from hi rs in
      let Z : List ℕ = replicate z 0 in
      let S = M ++ (run T rs ++ Z) in
      let at = mark_record + total L in
      let old = mark_record + total H - (mark_record + total L) in
      let used = mark_record + total rs in
      let mono = below_mono lo hi 0 no_owner rs e m in
      let ll : length (run T L) ≡ total L = length_keep T (λ r. ltb (key r) lo) 0 no_owner rs e in
      let lh : length (run T H) ≡ total H = length_keep T (λ r. ltb (key r) hi) 0 no_owner rs e in
      let rl : run T rs ≡ run T L ++ run T U = ap (run T) (split_at lo 0 no_owner rs e) ∙ run_append T L U in
      let rh : run T rs ≡ run T H ++ run T W = ap (run T) (split_at hi 0 no_owner rs e) ∙ run_append T H W in
      let lr = length_run T 0 no_owner rs e in
      let lz : length Z ≡ z = length-replicate z 0 in
      let e1 : S ≡ (M ++ run T L) ++ (run T U ++ Z) = ap (λ (l : List ℕ). M ++ (l ++ Z)) rl ∙ simp append_assoc in
      let e2 : S ≡ (M ++ run T H) ++ (run T W ++ Z) = ap (λ (l : List ℕ). M ++ (l ++ Z)) rh ∙ simp append_assoc in
      let l1 : length (M ++ run T L) ≡ at = omega (arith, length-append M (run T L)) in
      let l2 : length (M ++ run T H) ≡ at + old = omega (arith, length-append M (run T H)) in
      let l3 : at + old + length (run T W) ≡ used = omega (arith, ap length rh, length-append (run T H) (run T W)) in
      let ls : length S ≡ used + z = omega (arith, length-append M (run T rs ++ Z), length-append (run T rs) Z) in
      let s : paste (spliced_at at old used b S) at (blk) b ≡ (M ++ run T L) ++ (blk ++ (run T W ++ (replicate (old - b) 0 ++ drop (b - old) Z))) =
      spliced S (M ++ run T L) (run T U ++ Z) (M ++ run T H) (run T W) Z at old used b e1 l1 e2 l2 l3 (blk) lb (omega arith) in
      let p : with_bytes (spliced_at at old used b S) at (blk) ≡ paste (spliced_at at old used b S) at (blk) b =
      sym (put_paste (spliced_at at old used b S) at (blk)) ∙ ap (λ (k : ℕ). paste (spliced_at at old used b S) at (blk) k) lb in
      let zs : (old - b) + (z - (b - old)) ≡ old + z - b = omega arith in
      let zz : replicate (old - b) 0 ++ drop (b - old) Z ≡ replicate (old + z - b) 0 =
      ap (λ (l : List ℕ). replicate (old - b) 0 ++ l) (drop_replicate (b - old) z 0) ∙ replicate-append-replicate {A = ℕ} (old - b) (z - (b - old)) 0 ∙ ap (λ (k : ℕ). replicate k 0) zs in
      p ∙ s ∙ rw zz (simp append_assoc)
