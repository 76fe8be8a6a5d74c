use mathlib.Core.Path.{◌≡◌, sym, ◌∙◌}
use Prim.Native.Nat.{ℕ}
use Rattle.form.specs.Layout.{font_bytes_at, font_characters_at}
use Rattle.form.specs.declared.tally.Tally.{Tally}
use Rattle.form.proofs.Fields.{field_drop}
use Rattle.form.proofs.tally.tally_at.Goals as goal

same : {a b x y : ℕ} → a ≡ x → b ≡ y → ◌≡◌ {A = Tally} (record { characters = a; bytes = b }) (record { characters = x; bytes = y })
same p q = rw (p, q)

pub returns : goal.returns
returns c =
    let a = c.args in
    same (c.le16.ensures.0 ∙ sym (field_drop 2 font_characters_at a.at a.s.now)) (c.le32.ensures ∙ sym (field_drop 4 font_bytes_at a.at a.s.now))
