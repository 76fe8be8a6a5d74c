use Rattle.std.proofs.Common.{◌-◌, ◌∙◌, drop, arith, length-drop, length-take-le}
use Rattle.pictures.proofs.Packing.{bytes_black, size}
use Rattle.pictures.proofs.dots.blacken_bytes.Goals as goal

pub returns : goal.returns
returns c =
    λ n ds e p.
    let a = c.args in
    let m = a.to - a.from in
    bytes_black n m a.from ds a.row.now _ p (c.fill.ensures.after (λ y e. e) ∙ rw (length-take-le m (drop a.from a.row.now) (simp length-drop (omega arith)))) e (omega (arith, size n ds _ p))
