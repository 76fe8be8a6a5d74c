-- Laws of numbers of eight bytes, and of the list. Assumes nothing.
use Prim.Native.Nat.{ℕ, ◌+◌, ◌≤◌}
use mathlib.Core.Path.{◌≡◌}
use mathlib.Core.List.{List}
use native.Mathlib.Omega.{arith}
use lib.ListN.{length, length-append}
use Rattle.form.specs.Num.{low_first}
use Rattle.form.proofs.Numbers.{length_le}
use Rattle.change.specs.Put.{with_bytes}
use Rattle.change.proofs.Puts.{put_put}
use Rattle.salvage.specs.Onward.{stretch_of}

pub stretch_put : (s : List ℕ) (at first size : ℕ) → at + 16 ≤ length s → with_bytes (with_bytes s at (low_first 8 first)) (at + 8) (low_first 8 size) ≡ with_bytes s at (stretch_of first size)
stretch_put s at first size h =
    put_put s at (low_first 8 first) (low_first 8 size) (at + 8) (omega (arith, length_le 8 first)) (omega (arith, length_le 8 first, length_le 8 size))

pub stretch_length : (first size : ℕ) → length (stretch_of first size) ≡ 16
stretch_length first size = omega (arith, length-append (low_first 8 first) (low_first 8 size), length_le 8 first, length_le 8 size)
