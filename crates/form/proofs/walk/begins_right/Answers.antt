use mathlib.Core.Path.{sym, ap, ◌∙◌}
use lib.Dec.{eqb}
use Prim.Native.Nat.{ℕ}
use Rattle.form.proofs.Inspects.{begins_short, begins_long, begins_len, begins_is}
use native.Mathlib.Omega.{arith}
use Rattle.form.proofs.walk.begins_right.Goals as goal

pub returns-then-s-lt-LEAST_STORE : goal.returns-then-s-lt-LEAST_STORE
returns-then-s-lt-LEAST_STORE c = sym (begins_short c.args.s.now c.if-s-lt-LEAST_STORE.true)

pub returns-then-s-gt-MOST_STORE : goal.returns-then-s-gt-MOST_STORE
returns-then-s-gt-MOST_STORE c = sym (begins_long c.args.s.now c.if-s-lt-LEAST_STORE.false c.if-s-gt-MOST_STORE.true)

pub returns-then-le32-ne-MARK_RECORD : goal.returns-then-le32-ne-MARK_RECORD
returns-then-le32-ne-MARK_RECORD c = sym (begins_len c.args.s.now c.if-s-lt-LEAST_STORE.false c.if-s-gt-MOST_STORE.false (λ e. omega arith))

pub returns : goal.returns
returns c = ap (λ (x : ℕ). eqb x 1) c.le16.ensures.0 ∙ sym (begins_is c.args.s.now c.if-s-lt-LEAST_STORE.false c.if-s-gt-MOST_STORE.false (omega arith))
