use Rattle.std.proofs.Common.{◌≤◌, length, sym, ap, ◌∙◌, refl, subst, arith}
use Rattle.form.specs.Layout.{most_store}
use Rattle.form.specs.Model.{size_of}
use Rattle.form.specs.RecordsLeft.{record_of, RecordKept}
use Rattle.form.specs.declared.records.Record.{Record}
use Rattle.stream.proofs.Writes.{font_fits, as_character, character_size}
use Rattle.stream.proofs.write.record_length.Goals as goal

pub font_length-requires : goal.font_length-requires
font_length-requires c = let k = subst RecordKept c.in-Font.is c.requires.0 in (k.low, k.whole)

pub character_length-requires : goal.character_length-requires
character_length-requires c =
    let k = subst RecordKept c.in-Character.is c.requires.0 in
    (k.code, omega (arith, subst (λ (r : Record). size_of (record_of r) ≤ most_store) c.in-Character.is c.requires.1, character_size c.in-Character.number c.in-Character.code c.in-Character.bytes.now k.whole))

pub returns-in-Font : goal.returns-in-Font
returns-in-Font c = rw c.in-Font.is (c.font_length.ensures.0, font_fits _ _ _ c.font_length.ensures.1)

pub returns-in-Character : goal.returns-in-Character
returns-in-Character c =
    let k = subst RecordKept c.in-Character.is c.requires.0 in
    let b = c.in-Character.bytes.now in
    let e = c.character_length.ensures in
    rw c.in-Character.is
    (e.0 b refl ∙ ap length (sym (as_character c.in-Character.number c.in-Character.code b k.whole)), omega (arith, e.1, k.whole, character_size c.in-Character.number c.in-Character.code b k.whole))
