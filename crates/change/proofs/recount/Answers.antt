use native.Mathlib.Omega.{arith}
use mathlib.Core.Path.{◌≡◌, ap, ◌∙◌}
use Prim.Native.Nat.{◌+◌, ◌-◌}
use Rattle.form.specs.Layout.{font_characters_at}
use Rattle.form.specs.Model.{tally_bytes}
use Rattle.change.specs.Put.{with_bytes}
use Rattle.change.specs.Change.{recounted}
use Rattle.form.specs.declared.tally.Tally.{Tally}
use Rattle.change.proofs.recount.Goals as goal

changed : {h o n x y z : Tally} → h ≡ x → o ≡ y → n ≡ z
    → ◌≡◌ {A = Tally} (record { characters = h.characters + n.characters - o.characters; bytes = h.bytes + n.bytes - o.bytes }) (record { characters = x.characters + z.characters - y.characters; bytes = x.bytes + z.bytes - y.bytes })
changed p q r = rw (p, q, r)

pub returns : goal.returns
unfolding recounted
returns c =
    c.put_tally.ensures
    ∙ ap (λ (t : Tally). with_bytes c.args.s.now (c.args.at + font_characters_at) (tally_bytes t)) (changed c.tally_at-held.ensures c.tally_by-gone.ensures c.tally_by-added.ensures)
