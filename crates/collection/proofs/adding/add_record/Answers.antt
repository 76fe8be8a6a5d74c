use Rattle.std.proofs.Common.{◌∷◌, refl, subst, arith, length-take}
use Rattle.form.specs.RecordsLeft.{record_of, RecordKept}
use Rattle.form.specs.declared.records.Record.{Record}
use Rattle.collection.specs.ByRecord.{Roomy, with_record}
use Rattle.collection.proofs.Records.{room_for}
use Rattle.collection.proofs.Passing.{drawable}
use Rattle.collection.proofs.adding.add_record.Goals as goal

pub add_character-requires : goal.add_character-requires
add_character-requires c =
    let k = subst RecordKept c.in-Character.is c.requires.0 in
    let y = subst (λ (r : Record). Roomy c.args.b.now (record_of r ∷ c.requires.1.0)) c.in-Character.is c.requires.1.1 in
    rw (c.split_at.ensures.front, c.split_at.ensures.back)
    (simp length-take (omega (arith, k.whole)), drawable _ _ _ k, k.code, y.long, room_for _ c.in-Character.number _ _ _ _ y)

pub returns-in-Character : goal.returns-in-Character
unfolding with_record
returns-in-Character c = rw (c.in-Character.is, ← c.split_at.ensures.front, ← c.split_at.ensures.back) c.add_character.ensures

pub returns-in_default : goal.returns-in_default
unfolding with_record
returns-in_default c = rw c.in_default.is refl
