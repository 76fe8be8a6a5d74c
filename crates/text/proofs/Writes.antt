-- Laws of what was written. Assumes nothing.
use Prim.Native.Nat.{ℕ, ◌+◌, ◌*◌, ◌<◌, ◌≤◌}
use mathlib.Core.Path.{◌≡◌, refl, sym, ap, ◌∙◌}
use mathlib.Core.List.{List, [], ◌∷◌, ◌++◌}
use native.Mathlib.Omega.{arith}
use lib.ListN.{length, set, length-append}
use lib.Seq.{length-take-le}
use Rattle.std.specs.Counts.{IsPrefixLen}
use Rattle.stream.specs.Digits.{decimal_of}
use Rattle.change.specs.Put.{with_bytes}
use Rattle.stream.proofs.Decimals.{tens, decimal_short}
use Rattle.stream.proofs.Putting.{length_put, put_none, put_byte, put_joined}
use Rattle.text.specs.Wrote.{Wrote}
use Rattle.text.specs.Column.{column}

pub wrote_none : (s : List ℕ) (at : ℕ) → at ≤ length s → Wrote s at [] at s
wrote_none s at h = record { place = omega arith; within = h; bytes = sym (put_none s at) }

-- as the stream's writers say it
pub wrote_put : (s b out : List ℕ) (at end : ℕ) → at + length b ≤ length s → end ≡ at + length b → out ≡ with_bytes s at b → Wrote s at b end out
wrote_put s b out at end h e p = record { place = e; within = omega arith; bytes = p }

pub wrote_byte : (s : List ℕ) (at x : ℕ) → at < length s → Wrote s at (x ∷ []) (at + 1) (set s at x)
wrote_byte s at x h = record { place = refl; within = omega arith; bytes = put_byte s at x h }

pub wrote_length : (s b out : List ℕ) (at end : ℕ) → Wrote s at b end out → length out ≡ length s
wrote_length s b out at end w = ap length w.bytes ∙ length_put s b at (omega (arith, w.place, w.within))

-- at the front of an output, of which it is then a part
pub wrote_counts : (s b out : List ℕ) (end : ℕ) → Wrote s 0 b end out → IsPrefixLen end out
wrote_counts s b out end w =
    let l = wrote_length s b out 0 end w in
    (omega (arith, w.within), sym (length-take-le end out (omega (arith, w.within))))

-- text after text
pub wrote_then : (s a b out last : List ℕ) (at from end : ℕ) → Wrote s at a from out → Wrote out from b end last → Wrote s at (a ++ b) end last
wrote_then s a b out last at from end w v =
    let l = wrote_length s a out at from w in
    let r : at + length a + length b ≤ length s = omega (arith, w.place, v.place, v.within) in
    let f : from ≡ at + length a = w.place in
    record {
      place = omega (arith, w.place, v.place, length-append a b);
      within = omega (arith, v.within);
      bytes = v.bytes ∙ rw (w.bytes, f) (put_joined s a b at r);
    }

-- ── columns
pub column_length : (n x : ℕ) → length (column n x) ≡ length (decimal_of n) + 1
unfolding column
column_length n x = length-append (decimal_of n) (x ∷ [])

-- k + 1 digits, and the byte after them
pub column_short : (k n x : ℕ) → n < tens k * 10 → length (column n x) ≤ k + 2
column_short k n x h = omega (arith, column_length n x, decimal_short k n h)

pub wrote_column : (s out : List ℕ) (at n x end : ℕ) → at + length (column n x) ≤ length s → end ≡ at + length (decimal_of n) → out ≡ with_bytes s at (decimal_of n)
    → Wrote s at (column n x) (end + 1) (set out end x)
unfolding column
wrote_column s out at n x end h e p =
    let d = column_length n x in
    let w = wrote_put s (decimal_of n) out at end (omega (arith, d)) e p in
    let l : length out ≡ length s = ap length p ∙ length_put s (decimal_of n) at (omega (arith, d)) in
    wrote_then s (decimal_of n) (x ∷ []) out (set out end x) at end (end + 1) w (wrote_byte out end x (omega (arith, d)))
