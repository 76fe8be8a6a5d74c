use mathlib.Core.Path.{ap, ◌∙◌}
use mathlib.Core.List.{List}
use Prim.Native.Nat.{ℕ, ◌+◌}
use Rattle.form.specs.Layout.{font_bytes_at}
use Rattle.form.specs.Num.{low_first}
use Rattle.change.specs.Put.{with_bytes}
use Rattle.change.proofs.Written.{tally_put}
use Rattle.change.proofs.put_tally.Goals as goal

pub returns : goal.returns
returns c =
    let a = c.args in
    c.put-2.ensures ∙ ap (λ (l : List ℕ). with_bytes l (a.at + font_bytes_at) (low_first 4 a.t.bytes)) c.put.ensures ∙ tally_put a.s.now a.at a.t c.requires
