use Rattle.pictures.proofs.Passing.{passes_count}
use Rattle.std.proofs.Common.{◌≡◌, false, sym, ◌∙◌, arith}
use Rattle.pictures.specs.Passing.{is_at_run}
use Rattle.pictures.specs.Runs.{is_finished}
use Rattle.pictures.proofs.runs.Reader.pass_count.Goals as goal

pub returns : goal.returns
returns c =
    let e : is_at_run c.args.self.at ≡ false = sym c.is_at_run.ensures ∙ c.if-is_at_run.false in
    let q : is_finished c.args.self.at ≡ false = sym c.is_finished.ensures ∙ c.if-is_finished.false in
    (λ w h. rw c.count.ensures (passes_count w h _ _ _ e q (omega arith)), omega arith)
