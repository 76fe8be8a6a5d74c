use Rattle.choice.specs.Candidates.{Candidate}
use Rattle.std.proofs.Common.{sym, ◌∙◌}
use Rattle.choice.proofs.Pass.{weighed_out, weighed_behind, weighed_in}
use Rattle.choice.proofs.weigh.Goals as goal

pub returns-then-best-major : goal.returns-then-best-major
returns-then-best-major c =
    let a = c.args in
    let f : Candidate = record { soft = a.soft; number = a.number; kept = a.f.now } in
    let takes = sym (c.takes_part.ensures a.soft a.number) ∙ c.if-takes_part.true in
    weighed_behind a.r a.b f a.kept takes _ (c.major_of-major.ensures a.soft a.number) c.if-best-major.true

pub returns-else-best-major : goal.returns-else-best-major
returns-else-best-major c =
    let a = c.args in
    let f : Candidate = record { soft = a.soft; number = a.number; kept = a.f.now } in
    let takes = sym (c.takes_part.ensures a.soft a.number) ∙ c.if-takes_part.true in
    weighed_in a.r a.b f a.kept takes _ (c.major_of-major.ensures a.soft a.number) _ (c.minor_of-minor.ensures a.number) _ c.better.ensures

pub returns-else-takes_part : goal.returns-else-takes_part
returns-else-takes_part c =
    let a = c.args in
    let f : Candidate = record { soft = a.soft; number = a.number; kept = a.f.now } in
    weighed_out a.r a.b f a.kept (sym (c.takes_part.ensures a.soft a.number) ∙ c.if-takes_part.false)
