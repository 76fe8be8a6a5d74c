use mathlib.Core.Path.{◌≡◌, ap, ◌∙◌}
use mathlib.Core.List.{List}
use Prim.Native.Nat.{ℕ, ◌+◌, ◌-◌}
use lib.ListN.{take, drop, length-take, length-drop}
use Rattle.blocks.specs.Character.{continuation_bytes}
use Rattle.change.specs.Put.{with_bytes}
use native.Mathlib.Omega.{arith}
use Rattle.change.proofs.extend_character.Goals as goal

pub returns : goal.returns
returns c =
    let a = c.args in
    let e : 2 + a.n - 2 ≡ a.n = omega arith in
    c.copy.ensures ∙ ap (λ (k : ℕ). with_bytes c.put.new.s (a.at + a.old) (take k (drop continuation_bytes a.block.now))) e ∙ ap (λ (x : List ℕ). with_bytes x (a.at + a.old) (take a.n (drop continuation_bytes a.block.now))) c.put.ensures
