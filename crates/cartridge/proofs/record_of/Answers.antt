use Rattle.std.proofs.Common.{sym, ap, ◌∙◌, inl, inr, ⊎_elim, arith}
use Rattle.cartridge.specs.Cartridge.{part_of}
use Rattle.cartridge.proofs.Cartridge.{Named, room, in_either, whole_part, empty_part, no_part}
use Rattle.cartridge.proofs.record_of.Goals as goal
use Rattle.cartridge.proofs.record_of.Goals.{in-1, in-2}

pub returns-in_default : goal.returns-in_default
returns-in_default c = no_part (part_of c.args.soft) (part_of c.args.cartridge) c.args.a (λ z. omega (arith, z)) (λ z. omega (arith, z))

-- the store that the numbers name
pub returns-then-not-ends_within : goal.returns-then-not-ends_within
returns-then-not-ends_within c =
    let a = part_of c.args.soft in
    let b = part_of c.args.cartridge in
    let named : Named a b c.args.a (part_of c.match-a.store) = elim c.match-a.branch [ in-1 w ↦ inl (w.in-1.is, ap part_of w.store-is) | in-2 w ↦ inr (w.in-2.is, ap part_of w.store-is) ] in
    empty_part a b c.args.a _ named (sym c.ends_within.ensures ∙ c.if-not-ends_within.true)

pub overflow_add-result : goal.overflow_add-result
overflow_add-result c =
    let a = part_of c.args.soft in
    let b = part_of c.args.cartridge in
    let named : Named a b c.args.a (part_of c.match-a.store) = elim c.match-a.branch [ in-1 w ↦ inl (w.in-1.is, ap part_of w.store-is) | in-2 w ↦ inr (w.in-2.is, ap part_of w.store-is) ] in
    ⊎_elim (λ l. record { fits = omega (arith, l) }) (λ l. record { fits = omega (arith, l) }) (in_either a b c.args.a _ named (room _ _ (sym c.ends_within.ensures ∙ c.if-not-ends_within.false)))

pub slice_bounds-result-end : goal.slice_bounds-result-end
slice_bounds-result-end c = room _ _ (sym c.ends_within.ensures ∙ c.if-not-ends_within.false)

pub returns : goal.returns
returns c =
    let a = part_of c.args.soft in
    let b = part_of c.args.cartridge in
    let named : Named a b c.args.a (part_of c.match-a.store) = elim c.match-a.branch [ in-1 w ↦ inl (w.in-1.is, ap part_of w.store-is) | in-2 w ↦ inr (w.in-2.is, ap part_of w.store-is) ] in
    whole_part a b c.args.a _ named (sym c.ends_within.ensures ∙ c.if-not-ends_within.false)
