use mathlib.Core.Path.{refl}
use Prim.Native.Nat.{◌+◌}
use native.Mathlib.Omega.{arith}
use borrow.Author.Rules.{rules}
use lib.ListN.{length-set}
use Rattle.form.specs.Layout.{font_record}
use Rattle.change.proofs.Upward.{up_turn, up_start, up_end}
use Rattle.change.proofs.font_up.Goals as goal

pub loop-i-init : goal.loop-i-init
loop-i-init c = (up_start c.args.s.now (c.args.from + font_record) c.args.from c.args.n, search rules, refl)

pub overflow_sub-i : goal.overflow_sub-i
overflow_sub-i c = omega arith

pub overflow_add-s : goal.overflow_add-s
overflow_add-s c = omega arith

pub bounds-s-from : goal.bounds-s-from
bounds-s-from c = omega arith

pub overflow_add-s-in-loop-i : goal.overflow_add-s-in-loop-i
overflow_add-s-in-loop-i c = omega arith

pub overflow_add-s-in-loop-i-2 : goal.overflow_add-s-in-loop-i-2
overflow_add-s-in-loop-i-2 c = omega arith

pub bounds-s-from-in-loop-i : goal.bounds-s-from-in-loop-i
bounds-s-from-in-loop-i c = omega arith

pub loop-i-smaller : goal.loop-i-smaller
loop-i-smaller c = omega arith

pub loop-i-preserved : goal.loop-i-preserved
loop-i-preserved c =
    let a = c.args in
    let i = c.loop-i.i in
    (up_turn a.s.now c.loop-i.s (a.from + font_record) a.from a.n i c.loop-i.invariant.0 c.loop-i-test.true (omega arith) (omega arith) (omega arith), omega arith, simp length-set c.loop-i.invariant.2)

pub shape_of-s : goal.shape_of-s
shape_of-s c = c.loop-i.invariant.2

pub returns : goal.returns
returns c = up_end c.args.s.now c.loop-i.s (c.args.from + font_record) c.args.from c.args.n c.loop-i.i (omega arith) c.loop-i.invariant.0
