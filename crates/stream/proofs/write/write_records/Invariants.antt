use Rattle.std.specs.Prelude.{◌≡◌, length}
use Rattle.form.specs.RecordsLeft.{records_left}
use Rattle.stream.proofs.Writes.{Filled}
use Rattle.stream.proofs.write.write_records.Given as goal

abbrev pub invariant-loop-record : goal.invariant-loop-record
invariant-loop-record l = Filled l.s l.lo l.hi l.initial.out (records_left l.record-iterator) l.out l.to × (length l.out ≡ length l.initial.out)
