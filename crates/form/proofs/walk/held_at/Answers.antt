use mathlib.Core.Path.{◌∙◌}
use Prim.Native.Nat.{◌-◌}
use lib.ListN.{length-take, length-drop}
use Rattle.blocks.specs.Character.{descriptor_bytes}
use Rattle.form.specs.Layout.{character_kept_at, character_record}
use Rattle.form.proofs.Heads.{part_at}
use native.Mathlib.Omega.{arith}
use Rattle.form.proofs.walk.held_at.Goals as goal

pub held_character-requires : goal.held_character-requires
held_character-requires c = simp (length-take, length-drop) (omega arith)

pub returns : goal.returns
returns c =
    let a = c.args in c.held_character.ensures ∙ rw (part_at a.at character_kept_at descriptor_bytes character_record a.s.now (omega arith), part_at a.at character_record (a.len - character_record) a.len a.s.now (omega arith))
