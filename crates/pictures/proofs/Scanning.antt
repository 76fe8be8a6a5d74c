-- Laws of `scan_from`: what one turn of a scan does, and a scan of joined data. Assumes nothing.
use Rattle.std.proofs.Common.{◌≡◌, ℕ, suc, ◌+◌, ◌<◌, ◌≤◌, Bool, true, false, Result, Ok, Err, List, [], ◌∷◌, ◌++◌, length, get_or, drop, refl, ap, ◌∙◌, add-zero, add_assoc, zero-add, add-one, arith, drop_of_length-le, drop-cons}
use Rattle.pictures.specs.Runs.{step_run, scan_from, is_finished, on_step}
use Rattle.pictures.specs.declared.runs.Reader.{Reader}
use Rattle.pictures.specs.declared.runs.Scanned.{Scanned}
use Rattle.pictures.specs.declared.runs.Scanned.TheVariants.{Complete, Open}
use Rattle.pictures.specs.declared.runs.PastWidth.{PastWidth}

-- the scan of xs after a scan that gave r and used n bytes
abbrev pub scanned_then : ℕ → ℕ → ℕ → Result Scanned PastWidth → List ℕ → Result Scanned PastWidth
scanned_then w h n (Ok (Complete k)) xs = Ok (Complete k)
scanned_then w h n (Ok (Open s)) xs = scan_from w h n s xs
scanned_then w h n (Err p) xs = Err p

module _ (w h : ℕ) where
  pub scan_done : (n : ℕ) (s : Reader) (xs : List ℕ) → is_finished s.at ≡ true → scan_from w h n s xs ≡ Ok (Complete n)
  unfolding scan_from
  scan_done n s [] e = rw e
  scan_done n s (b ∷ xs) e = rw e

  scan_turn : (m n : ℕ) (s : Reader) (src : List ℕ) → n < length src → is_finished s.at ≡ false
      → scan_from w h m s (drop n src) ≡ on_step (step_run w h s (get_or src n 0)) (λ (t : Reader). scan_from w h (m + 1) t (drop (n + 1) src))
  unfolding scan_from
  scan_turn m n s src l e = rw (drop-cons src n 0, e, add-one n)

  -- at the end of the data
  pub scan_end : (n : ℕ) (s : Reader) (i : ℕ) (src : List ℕ) → length src ≤ i → scan_from w h n s (drop i src) ≡ scan_from w h n s []
  scan_end n s i src l = ap (scan_from w h n s) (drop_of_length-le src l)

  -- m bytes were used before the slice src, and n of it
  module _ (m n : ℕ) (s : Reader) (src : List ℕ) (l : n < length src) (e : is_finished s.at ≡ false) where
    pub scan_next : (t : Reader) → step_run w h s (get_or src n 0) ≡ Ok t
        → scan_from w h (m + n) s (drop n src) ≡ scan_from w h (m + (n + 1)) t (drop (n + 1) src)
    scan_next t q = scan_turn (m + n) n s src l e ∙ rw (q, add_assoc m n 1)

    pub scan_past : (p : PastWidth) → step_run w h s (get_or src n 0) ≡ Err p → scan_from w h (m + n) s (drop n src) ≡ Err p
    scan_past p q = scan_turn (m + n) n s src l e ∙ rw q

  on_step_then : (m : ℕ) (ys : List ℕ) (r : Result Reader PastWidth) (k k' : Reader → Result Scanned PastWidth) → ((t : Reader) → k t ≡ scanned_then w h m (k' t) ys)
      → on_step r k ≡ scanned_then w h m (on_step r k') ys
  on_step_then m ys (Ok t) k k' e = e t
  on_step_then m ys (Err p) k k' e = refl

  joined_by : (xs : List ℕ) (f : Bool) (n : ℕ) (s : Reader) (ys : List ℕ) → is_finished s.at ≡ f
      → scan_from w h n s (xs ++ ys) ≡ scanned_then w h (n + length xs) (scan_from w h n s xs) ys
  unfolding scan_from
  joined_by [] true n s ys e = scan_done n s ys e ∙ rw e
  joined_by [] false n s ys e = rw (e, add-zero)
  joined_by (b ∷ xs) true n s ys e = rw e
  joined_by (b ∷ xs) false n s ys e =
      rw e (on_step_then (n + suc (length xs)) ys (step_run w h s b) _ _
      (λ t. joined_by xs (is_finished t.at) (n + 1) t ys refl ∙ ap (λ (m : ℕ). scanned_then w h m (scan_from w h (n + 1) t xs) ys) (omega arith)))

  -- the data in two parts: the second is scanned from the state that the first left
  pub scan_joined : (n : ℕ) (s : Reader) (xs ys : List ℕ) → scan_from w h n s (xs ++ ys) ≡ scanned_then w h (n + length xs) (scan_from w h n s xs) ys
  scan_joined n s xs ys = joined_by xs (is_finished s.at) n s ys refl

  -- the same where the first part's scan is known
  pub joined_as : (s : Reader) (xs ys : List ℕ) (r : Result Scanned PastWidth) → scan_from w h 0 s xs ≡ r → scan_from w h 0 s (xs ++ ys) ≡ scanned_then w h (length xs) r ys
  joined_as s xs ys r e = scan_joined 0 s xs ys ∙ rw (e, zero-add)
