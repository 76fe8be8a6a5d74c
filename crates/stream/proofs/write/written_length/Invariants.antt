use Rattle.form.specs.RecordsLeft.{records_left}
use Rattle.stream.proofs.Writes.{Counted}
use Rattle.stream.proofs.write.written_length.Given as goal

abbrev pub invariant-loop-record : goal.invariant-loop-record
invariant-loop-record l = Counted l.s l.lo l.hi (records_left l.record-iterator) l.n
