use Rattle.std.proofs.Common.{◌+◌, ◌%◌, ap, ◌∙◌}
use Rattle.choice.specs.Scores.{raised}
use Rattle.choice.proofs.Asked.{weights}
use Rattle.choice.proofs.weight_of.Goals as goal

pub returns : goal.returns
returns c = rw c.from.ensures (
  λ p n.
      c.weight_number.ensures.0
      ∙ weights c.args.r c.requires.1 c.raised_request.ensures.1 c.raised_request.result c.raised_request.ensures.0
      (record { soft = p; number = n; kept = c.args.f.now }) ((c.kept_byte.result + 128) % 256) (ap raised c.kept_byte.ensures.0),
  c.weight_number.ensures.1,
)
