use mathlib.Core.Path.{◌≡◌, refl, sym, ap, ◌∙◌}
use Prim.Native.Nat.{ℕ, ◌+◌, ◌-◌}
use native.Mathlib.Omega.{arith}
use lib.ListN.{length}
use Rattle.salvage.specs.Salvage.{room_of}
use Rattle.salvage.specs.Onward.{going_on}
use Rattle.salvage.proofs.Onward.{went_end, went_full, went_on, torn_at_lem}
use Rattle.salvage.proofs.salvage_from.Goals as goal

pub loop-first-init : goal.loop-first-init
loop-first-init c =
    let room = room_of (length c.args.list.now) in
    let all : room - 0 ≡ room = omega arith in
    (c.requires.0, c.requires.1, omega arith, omega arith, refl, refl, ap (λ (k : ℕ). going_on c.args.stream.now c.args.s.now c.args.list.now 0 k c.args.from) all)

pub read_from-last-requires : goal.read_from-last-requires
read_from-last-requires c = c.loop-first.invariant.0

pub shape_of-s-in_default : goal.shape_of-s-in_default
shape_of-s-in_default c = c.read_from-last.auto.s ∙ c.loop-first.invariant.4

pub shape_of-list-in_default : goal.shape_of-list-in_default
shape_of-list-in_default c = c.loop-first.invariant.5

pub returns-in_default : goal.returns-in_default
returns-in_default c =
    let x = c.loop-first in
    let room = room_of (length c.args.list.now) in
    sym (went_end c.args.stream.now _ _ x.x c.read_from-last.result x.invariant.1 c.read_from-last.ensures.s_after x.list x.n (room - x.n) c.in_default.is) ∙ x.invariant.6

pub shape_of-s-then-n-room : goal.shape_of-s-then-n-room
shape_of-s-then-n-room c = c.read_from-last.auto.s ∙ c.loop-first.invariant.4

pub shape_of-list-then-n-room : goal.shape_of-list-then-n-room
shape_of-list-then-n-room c = c.loop-first.invariant.5

pub returns-then-n-room : goal.returns-then-n-room
returns-then-n-room c =
    let x = c.loop-first in
    let room = room_of (length c.args.list.now) in
    sym (went_full c.args.stream.now _ _ x.x c.read_from-last.result x.invariant.1 c.read_from-last.ensures.s_after x.list x.n (room - x.n) _ c.in-Some.is (omega (arith, c.if-n-room.true))) ∙ x.invariant.6

pub overflow_mul-n : goal.overflow_mul-n
overflow_mul-n c = omega (arith, c.loop-first.invariant.2, c.loop-first.invariant.3)

pub skip-next-requires : goal.skip-next-requires
skip-next-requires c = ((torn_at_lem _ _ _ _ c.in-Some.is c.read_from-last.ensures.ends_within.0).1, omega (arith, c.loop-first.invariant.2, c.loop-first.invariant.3, c.if-n-room.false))

pub overflow_add-n : goal.overflow_add-n
overflow_add-n c = omega (arith, c.loop-first.invariant.2, c.loop-first.invariant.3, c.if-n-room.false)

pub loop-first-preserved : goal.loop-first-preserved
loop-first-preserved c =
    let x = c.loop-first in
    let room = room_of (length c.args.list.now) in
    let left : room - (x.n + 1) ≡ room - x.n - 1 = omega arith in
    let h = went_on c.args.stream.now _ _ x.list _ x.n (room - x.n) _ _ x.x _ c.read_from-last.result x.invariant.1 c.read_from-last.ensures.s_after c.read_from-last.ensures.ends_within c.in-Some.is (omega (arith, x.invariant.2, c.if-n-room.false)) (omega (arith, x.invariant.2, x.invariant.3)) c.skip-next.ensures.value c.skip-next.ensures.list_after c.start_at-x.ensures in (
      h.0,
      h.1,
      omega (arith, x.invariant.2, c.if-n-room.false),
      omega (arith, x.invariant.3, c.skip-next.auto.list),
      c.read_from-last.auto.s ∙ x.invariant.4,
      c.skip-next.auto.list ∙ x.invariant.5,
      ap (λ (k : ℕ). going_on c.args.stream.now c.read_from-last.new.s c.skip-next.new.list (x.n + 1) k c.start_at-x.result) left ∙ h.2 ∙ x.invariant.6,
    )
