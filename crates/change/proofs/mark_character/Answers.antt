use mathlib.Core.Path.{◌≡◌, refl, ap, ◌∙◌}
use mathlib.Core.List.{List}
use Prim.Native.Nat.{ℕ}
use Rattle.form.specs.Layout.{mark_code_at, mark_font_at}
use Rattle.form.specs.Num.{low_first}
use Rattle.change.specs.Put.{with_bytes}
use Rattle.change.specs.Change.{remarked, mark_of}
use Rattle.change.proofs.Written.{remark_put}
use Rattle.change.proofs.mark_character.Goals as goal
use Rattle.change.proofs.mark_character.Goals.{in-Some, in-None}

pub returns : goal.returns
returns c =
    let a = c.args in
    let m = mark_of a.named in
    let o : c.match-named.on.0 ≡ m.on = elim c.match-named.branch [ in-Some w ↦ rw w.in-Some.is (ap (λ p. p.0) w.on-is) | in-None w ↦ rw w.in-None.is (ap (λ p. p.0) w.on-is) ] in
    let f : c.match-named.on.1 ≡ m.font_of = elim c.match-named.branch [ in-Some w ↦ rw w.in-Some.is (ap (λ p. p.1) w.on-is) | in-None w ↦ rw w.in-None.is (ap (λ p. p.1) w.on-is) ] in
    let k : c.match-named.on.2 ≡ m.code_of = elim c.match-named.branch [ in-Some w ↦ rw w.in-Some.is (ap (λ p. p.2) w.on-is) | in-None w ↦ rw w.in-None.is (ap (λ p. p.2) w.on-is) ] in
    rw (c.put-3.ensures, c.put-2.ensures, c.put.ensures, o, f, k) (remark_put a.s.now m c.requires)
