use mathlib.Core.Path.{◌≡◌, ap, ◌∙◌}
use Prim.Native.Nat.{ℕ, ◌+◌, ◌-◌}
use lib.ListN.{take, drop, length-take, length-drop}
use Rattle.change.specs.Put.{with_bytes}
use Rattle.store.proofs.Spots.{front}
use native.Mathlib.Omega.{arith}
use Rattle.store.proofs.telling.copy_kept.Goals as goal

pub copy-requires : goal.copy-requires
copy-requires c = simp (length-take, length-drop) (omega arith)

pub returns : goal.returns
returns c =
    let a = c.args in
    let e : a.from + a.n - a.from ≡ a.n = omega arith in
    c.copy.ensures ∙ ap (λ (k : ℕ). with_bytes a.out.now 0 (take k (drop a.from a.s.now))) e ∙ front (take a.n (drop a.from a.s.now)) a.out.now
