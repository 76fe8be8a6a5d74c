use Rattle.form.specs.Records.{records_at}
use Rattle.form.specs.RecordsLeft.{records_left}
use Rattle.collection.proofs.Passing.{Going}
use Rattle.collection.proofs.adding.add_records.Given as goal

abbrev pub invariant-loop-record : goal.invariant-loop-record
invariant-loop-record l = Going (records_at l.s l.from) (records_left l.record-iterator) l.initial.b l.b
