-- What a complete scan used, and what scans of a part of the data say of it. Assumes nothing.
use Rattle.std.proofs.Common.{◌≡◌, ℕ, zero, suc, ◌+◌, ◌<◌, ◌≤◌, Bool, true, false, Result, Ok, Err, List, [], ◌∷◌, ◌++◌, length, take, sym, refl, ◌∙◌, zero-add, arith, length-append}
use Rattle.pictures.specs.Runs.{step_run, scan_from, is_finished, on_step, start}
use Rattle.pictures.specs.declared.runs.Reader.{Reader}
use Rattle.pictures.specs.declared.runs.Scanned.{Scanned}
use Rattle.pictures.specs.declared.runs.Scanned.TheVariants.{Complete, Open}
use Rattle.pictures.specs.declared.runs.PastWidth.{PastWidth}
use Rattle.pictures.proofs.Scanning.{scan_done, joined_as}

same_used : (n k : ℕ) → ◌≡◌ {A = Result Scanned PastWidth} (Ok (Complete n)) (Ok (Complete k)) → n ≡ k
same_used n k e = cc

-- a step that goes on to a complete scan
on_next : (P : Type 0) (r : Result Reader PastWidth) (go : Reader → Result Scanned PastWidth) (k : ℕ) → on_step r go ≡ Ok (Complete k) → ((t : Reader) → go t ≡ Ok (Complete k) → P) → P
on_next P (Ok t) go k e h = h t e
on_next P (Err p) go k e h = let z : ◌≡◌ {A = ℕ} 0 1 = cc in absurd (omega arith)

on_same : (r : Result Reader PastWidth) (go go' : Reader → Result Scanned PastWidth) (k : ℕ) → on_step r go ≡ Ok (Complete k) → ((t : Reader) → go t ≡ Ok (Complete k) → go' t ≡ Ok (Complete k)) → on_step r go' ≡ Ok (Complete k)
on_same (Ok t) go go' k e h = h t e
on_same (Err p) go go' k e h = let z : ◌≡◌ {A = ℕ} 0 1 = cc in absurd (omega arith)

module _ (w h : ℕ) where
  used_by : (xs : List ℕ) (f : Bool) (n k : ℕ) (s : Reader) → is_finished s.at ≡ f → scan_from w h n s xs ≡ Ok (Complete k) → (n ≤ k) × (k ≤ n + length xs)
  unfolding scan_from
  used_by [] true n k s e q = omega (arith, same_used n k (rw e at q))
  used_by [] false n k s e q = let p : Ok (Open s) ≡ Ok (Complete k) = rw e at q in let z : ◌≡◌ {A = ℕ} 0 1 = cc in absurd (omega arith)
  used_by (b ∷ xs) true n k s e q = omega (arith, same_used n k (rw e at q))
  used_by (b ∷ xs) false n k s e q =
      let p : on_step (step_run w h s b) (λ (t : Reader). scan_from w h (n + 1) t xs) ≡ Ok (Complete k) = rw e at q in
      let r : (n + 1 ≤ k) × (k ≤ n + 1 + length xs) = on_next _ (step_run w h s b) _ k p (λ t u. used_by xs (is_finished t.at) (n + 1) k t refl u) in
      omega arith

  -- it is within the data
  pub scan_used : (n k : ℕ) (s : Reader) (xs : List ℕ) → scan_from w h n s xs ≡ Ok (Complete k) → (n ≤ k) × (k ≤ n + length xs)
  scan_used n k s xs q = used_by xs (is_finished s.at) n k s refl q

  take_by : (xs : List ℕ) (f : Bool) (m n : ℕ) (s : Reader) → is_finished s.at ≡ f → scan_from w h n s xs ≡ Ok (Complete (n + m)) → scan_from w h n s (take m xs) ≡ Ok (Complete (n + m))
  unfolding scan_from
  take_by [] true m n s e q = scan_done w h n s (take m []) e ∙ rw e at q
  take_by [] false m n s e q = let p : Ok (Open s) ≡ Ok (Complete (n + m)) = rw e at q in let z : ◌≡◌ {A = ℕ} 0 1 = cc in absurd (omega arith)
  take_by (b ∷ xs) true m n s e q = scan_done w h n s (take m (b ∷ xs)) e ∙ rw e at q
  take_by (b ∷ xs) false zero n s e q =
      let p : on_step (step_run w h s b) (λ (t : Reader). scan_from w h (n + 1) t xs) ≡ Ok (Complete (n + 0)) = rw e at q in
      absurd (on_next _ (step_run w h s b) _ (n + 0) p (λ t u. let z = scan_used (n + 1) (n + 0) t xs u in omega arith))
  take_by (b ∷ xs) false (suc m) n s e q =
      let z : n + suc m ≡ n + 1 + m = omega arith in
      let p : on_step (step_run w h s b) (λ (t : Reader). scan_from w h (n + 1) t xs) ≡ Ok (Complete (n + 1 + m)) = rw (e, z) at q in
      rw (e, z) (on_same (step_run w h s b) _ _ (n + 1 + m) p (λ t u. take_by xs (is_finished t.at) m (n + 1) t refl u))

  -- the used part alone is complete with the same count
  pub scan_take : (k : ℕ) (xs : List ℕ) → scan_from w h 0 start xs ≡ Ok (Complete k) → scan_from w h 0 start (take k xs) ≡ Ok (Complete k)
  scan_take k xs q = let z : 0 + k ≡ k = zero-add k in rw z at (take_by xs false k 0 start refl (rw (← z) at q))

  -- ---- the first part xs of data xs ++ ys
  module _ (xs ys : List ℕ) where
    -- a run past its width is past it in all the data
    pub prefix_past : (p : PastWidth) → scan_from w h 0 start xs ≡ Err p → scan_from w h 0 start (xs ++ ys) ≡ Err p
    prefix_past p e = joined_as w h start xs ys (Err p) e

    pub prefix_complete : (k : ℕ) → scan_from w h 0 start xs ≡ Ok (Complete k) → scan_from w h 0 start (xs ++ ys) ≡ Ok (Complete k)
    prefix_complete k e = joined_as w h start xs ys (Ok (Complete k)) e

    open_by : (r q : Result Scanned PastWidth) → scan_from w h 0 start xs ≡ r → scan_from w h 0 start (xs ++ ys) ≡ q
        → ((p : PastWidth) → q ≡ Err p → ⊥) → ((k : ℕ) → q ≡ Ok (Complete k) → length xs < k) → (s : Reader) × (scan_from w h 0 start xs ≡ Ok (Open s))
    open_by (Ok (Complete k)) q e p past used = absurd (omega (arith, used k (sym p ∙ prefix_complete k e), scan_used 0 k start xs e))
    open_by (Ok (Open s)) q e p past used = (s, e)
    open_by (Err r) q e p past used = absurd (past r (sym p ∙ prefix_past r e))

    -- data that ends where its picture is complete is open before its end
    pub prefix_open : scan_from w h 0 start (xs ++ ys) ≡ Ok (Complete (length (xs ++ ys))) → 0 < length ys → (s : Reader) × (scan_from w h 0 start xs ≡ Ok (Open s))
    prefix_open e l =
        open_by (scan_from w h 0 start xs) _ refl e (λ p q. let z : ◌≡◌ {A = ℕ} 0 1 = cc in omega arith)
        (λ k q. let z : length (xs ++ ys) ≡ k = same_used _ _ q in omega (arith, length-append xs ys))

    -- data that is open at its end is open before it
    pub prefix_still_open : (t : Reader) → scan_from w h 0 start (xs ++ ys) ≡ Ok (Open t) → (s : Reader) × (scan_from w h 0 start xs ≡ Ok (Open s))
    prefix_still_open t e =
        open_by (scan_from w h 0 start xs) _ refl e (λ p q. let z : ◌≡◌ {A = ℕ} 0 1 = cc in omega arith)
        (λ k q. let z : ◌≡◌ {A = ℕ} 0 1 = cc in absurd (omega arith))
