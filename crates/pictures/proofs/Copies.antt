-- Laws of bytes copied within the output: a row that stands there again and again. Assumes nothing.
use Rattle.std.proofs.Common.{◌≡◌, ℕ, zero, suc, ◌+◌, ◌-◌, ◌*◌, ◌≤◌, List, ◌++◌, length, take, drop, sym, ap, ◌∙◌, append_assoc, append-nil, add-zero, suc-mul, add-mul, one-mul, zero-mul, arith, length-append, take-append-drop, drop-drop, take_at, drop_at}
use lib.Seq.{paste}
use Rattle.pictures.specs.Drawing.{repeated}

module _ (xs : List ℕ) where
  pub length_repeated : (m : ℕ) → length (repeated m xs) ≡ m * length xs
  unfolding repeated
  length_repeated zero = sym (zero-mul (length xs))
  length_repeated (suc m) = simp (length-append, length_repeated m, suc-mul)

  repeated_add : (m k : ℕ) → repeated (m + k) xs ≡ repeated m xs ++ repeated k xs
  unfolding repeated
  repeated_add m zero = rw add-zero (sym (append-nil (repeated m xs)))
  repeated_add m (suc k) =
      let e : m + suc k ≡ suc (m + k) = omega arith in
      rw (e, repeated_add m k) (append_assoc (repeated m xs) (repeated k xs) xs)

  -- the first copies of more
  take_repeated : (m k n : ℕ) → length xs ≡ n → k ≤ m → (rest : List ℕ) → take (k * n) (repeated m xs ++ rest) ≡ repeated k xs
  take_repeated m k n e l rest =
      let z : k + (m - k) ≡ m = omega arith in
      let q : length (repeated k xs) ≡ k * n = length_repeated k ∙ rw e in
      rw (← z, repeated_add k (m - k), append_assoc) (take_at (repeated k xs) (repeated (m - k) xs ++ rest) (k * n) q)

  -- k more copies behind the m that stand there, out of them
  pub repeat_more : (m k n : ℕ) (out out₀ : List ℕ) → length xs ≡ n → k ≤ m → out ≡ repeated m xs ++ drop (m * n) out₀
      → paste out (m * n) out (k * n) ≡ repeated (m + k) xs ++ drop ((m + k) * n) out₀
  repeat_more m k n out out₀ e l p =
      let q : length (repeated m xs) ≡ m * n = length_repeated m ∙ rw e in
      let s : (m + k) * n ≡ m * n + k * n = add-mul m k n in
      let a : take (m * n) out ≡ repeated m xs = rw p (take_at (repeated m xs) (drop (m * n) out₀) (m * n) q) in
      let b : take (k * n) out ≡ repeated k xs = rw p (take_repeated m k n e l (drop (m * n) out₀)) in
      let d : drop (m * n + k * n) out ≡ drop ((m + k) * n) out₀ =
      sym (drop-drop (k * n) (m * n) out) ∙ ap (drop (k * n)) (rw p (drop_at (repeated m xs) (drop (m * n) out₀) (m * n) q)) ∙ drop-drop (k * n) (m * n) out₀ ∙ rw s in
      rw (a, b, d, repeated_add m k)

  pub repeat_one : (n : ℕ) (out : List ℕ) → take n out ≡ xs → out ≡ repeated 1 xs ++ drop (1 * n) out
  unfolding repeated
  repeat_one n out e = rw (one-mul, ← e) (sym (take-append-drop n out))
