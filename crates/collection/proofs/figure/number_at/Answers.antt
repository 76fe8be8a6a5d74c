use Rattle.std.proofs.Common.{◌≡◌, ◌+◌, ◌-◌, take, drop, rules, ap, ◌∙◌}
use native.Mathlib.Omega.{arith}
use Rattle.collection.proofs.Bytes.{field_eight}
use Rattle.collection.proofs.figure.number_at.Goals as goal

pub returns : goal.returns
returns c =
    let e : c.args.at + 8 - c.args.at ≡ 8 = omega arith in
    c.from_le_bytes.ensures ∙ field_eight c.args.at c.args.b.now c.copy_from_slice.new.self (λ i. (c.shared_slice_known-1.given i).fits) c.requires (rw e at c.copy_from_slice.ensures.after)
