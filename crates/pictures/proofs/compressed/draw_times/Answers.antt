use Rattle.std.proofs.Common.{◌≡◌, ℕ, ◌*◌, ◌<◌, ◌≤◌, sym, ap, ◌∙◌, mul-le-mul_right, one-mul, arith, length-take-le}
use Rattle.pictures.specs.Size.{row_size}
use Rattle.pictures.specs.Drawing.{dots_of}
use Rattle.pictures.proofs.Packing.{same_pack}
use Rattle.pictures.proofs.Lines.{line_ends, line_unfinished}
use Rattle.pictures.proofs.Pictures.{drawn_times, white_as}
use Rattle.pictures.proofs.compressed.draw_times.Goals as goal

-- one row lies within the output
room : (w n times len : ℕ) → n ≡ row_size w → (0 < times) × (times * row_size w ≤ len) → n ≤ len
room w n times len e h = let one : 1 ≤ times = h.0 in omega (arith, e, h.1, mul-le-mul_right (row_size w) one, one-mul (row_size w))

pub returns-in-Some-clause-out_after : goal.returns-in-Some-clause-out_after
returns-in-Some-clause-out_after c =
    let n = c.row_size-n.result in
    let a = c.args in
    let e = line_ends a.width a.runs.now 0 _ (sym c.in-Some.is ∙ c.draw_line-used.ensures.value) in
    rw e.1
    (c.repeat_row.ensures
    ∙ drawn_times n a.times a.out.now _ e.0 c.requires.0 (c.draw_line-used.ensures.out_after ∙ same_pack (length-take-le n a.out.now (room a.width n a.times _ c.row_size-n.ensures c.requires)) (ap dots_of e.1))
    ∙ rw c.row_size-n.ensures)

pub returns-in-None-clause-out_after : goal.returns-in-None-clause-out_after
returns-in-None-clause-out_after c = rw (line_unfinished c.args.width c.args.runs.now 0 (sym c.in-None.is ∙ c.draw_line-used.ensures.value)) (white_as (c.fill.ensures.after (λ y e. e)) (omega arith))
