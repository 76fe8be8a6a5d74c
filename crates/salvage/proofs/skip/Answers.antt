use Rattle.salvage.proofs.Eights.{stretch_put}
use Rattle.salvage.proofs.Restarts.{restart_within}
use Rattle.salvage.specs.Salvage.{restart_from}
use Rattle.change.specs.Put.{with_bytes}
use Rattle.form.specs.Num.{low_first}
use Prim.Native.Nat.{ℕ, ◌+◌, ◌-◌}
use mathlib.Core.List.{List}
use mathlib.Core.Path.{ap, ◌∙◌}
use native.Mathlib.Omega.{arith}
use Rattle.salvage.proofs.skip.Goals as goal

pub overflow_sub-next : goal.overflow_sub-next
overflow_sub-next c =
    let w = restart_within c.args.stream.now (c.args.first + 1) (omega (arith, c.requires.0)) in omega (arith, c.next_restart-next.ensures, w.0)

pub returns : goal.returns
returns c =
    let a = c.args in
    let e = c.next_restart-next.ensures in record {
      value = e;
      list_after = c.put-2.ensures
          ∙ ap (λ (l : List ℕ). with_bytes l (a.at + 8) (low_first 8 (c.next_restart-next.result - a.first))) c.put.ensures
          ∙ ap (λ (k : ℕ). with_bytes (with_bytes a.list.now a.at (low_first 8 a.first)) (a.at + 8) (low_first 8 (k - a.first))) e
          ∙ stretch_put a.list.now a.at a.first (restart_from a.stream.now (a.first + 1) - a.first) c.requires.1;
    }
