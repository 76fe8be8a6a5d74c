use Rattle.std.proofs.Common.{◌≤◌, ◌+◌, List, ℕ, length, subst, arith}
use Rattle.form.specs.RecordsLeft.{record_of, RecordKept}
use Rattle.form.specs.declared.records.Record.{Record}
use Rattle.stream.specs.Written.{written_record}
use Rattle.stream.proofs.Writes.{as_character}
use Rattle.stream.proofs.write.write_record.Goals as goal

pub write_character_record-requires : goal.write_character_record-requires
write_character_record-requires c =
    let k = subst RecordKept c.in-Character.is c.requires.0 in
    let q = subst (λ (r : Record). c.args.to + length (written_record (record_of r)) ≤ length c.args.out.now) c.in-Character.is c.requires.1 in
    subst (λ (w : List ℕ). c.args.to + length w ≤ length c.args.out.now) (as_character c.in-Character.number c.in-Character.code c.in-Character.bytes.now k.whole) q

pub returns-in-Character : goal.returns-in-Character
returns-in-Character c =
    let k = subst RecordKept c.in-Character.is c.requires.0 in
    rw (c.in-Character.is, as_character c.in-Character.number c.in-Character.code c.in-Character.bytes.now k.whole) c.write_character_record.ensures
