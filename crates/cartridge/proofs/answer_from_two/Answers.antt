use Rattle.std.proofs.Common.{◌≡◌, cond, refl, ◌∙◌}
use Rattle.cartridge.proofs.Cartridge.{picked_answer, refused_answer}
use Rattle.cartridge.proofs.answer_from_two.Goals as goal
use Rattle.cartridge.proofs.answer_from_two.Goals.{then-p, else-p}

pub returns-after-p : goal.returns-after-p
returns-after-p c =
    let which : c.if-p.result ≡ cond c.in-Ok.p.chosen.soft 1 2 = elim c.if-p.branch [ then-p w ↦ w.result-is ∙ rw (w.if-p.true) refl | else-p w ↦ w.result-is ∙ rw (w.if-p.false) refl ] in
    rw which (picked_answer _ _ _ c.in-Ok.p c.in-Ok.ensures.stands c.in-Ok.ensures.chosen)

pub returns-in-Err : goal.returns-in-Err
returns-in-Err c = rw c.from.ensures (refused_answer _ _ _ _ c.in-Err.ensures.chosen)
