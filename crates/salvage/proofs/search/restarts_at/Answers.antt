use Rattle.std.proofs.Common.{◌≡◌, ◌+◌, Bool, false, ◌&&◌, eqb, get_or, arith, sym, ap, ◌∙◌}
use borrow.Author.Tests.{ne_eqb}
use Rattle.stream.specs.Command.{is_digit}
use Rattle.salvage.proofs.Restarts.{not_here}
use Rattle.salvage.proofs.search.restarts_at.Goals as goal

pub returns-else-stream-i-eq-ESC : goal.returns-else-stream-i-eq-ESC
returns-else-stream-i-eq-ESC c =
    let s = c.args.stream.now in
    let i = c.args.i in
    let e : eqb (get_or s i 0) 27 ≡ false = ne_eqb (get_or s i 0) 27 (λ z. omega (arith, z)) in
    e ∙ sym (not_here s i (ap (λ (t : Bool). (t && eqb (get_or s (i + 1) 0) 42) && (eqb (get_or s (i + 2) 0) 99 && is_digit (get_or s (i + 3) 0))) e))
