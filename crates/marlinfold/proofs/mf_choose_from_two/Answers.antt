use Rattle.marlinfold.proofs.Outcomes.{record_by}
use Rattle.marlinfold.proofs.mf_choose_from_two.Goals as goal

pub returns : goal.returns
returns c =
    let e = rw c.request_by-r.ensures at c.answer_from_two.ensures in record { soft_value = record_by e; cartridge_value = record_by e }
