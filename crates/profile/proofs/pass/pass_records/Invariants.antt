use Rattle.std.specs.Prelude.{◌≡◌}
use Rattle.form.specs.RecordsLeft.{records_left}
use Rattle.profile.specs.Pass.{found_numbers, passed_over, nothing_found}
use Rattle.profile.proofs.pass.pass_records.Given as goal

abbrev pub invariant-loop-record : goal.invariant-loop-record
invariant-loop-record l = passed_over (records_left l.record-iterator) l.h (found_numbers l.p) ≡ passed_over (records_left l.fn.records) l.h nothing_found
