use mathlib.Core.Path.{ap, ◌∙◌}
use mathlib.Core.List.{List}
use Prim.Native.Nat.{ℕ}
use Rattle.form.specs.Layout.{kind_at, mark_kind, mark_record}
use Rattle.form.specs.Num.{low_first}
use Rattle.change.specs.Put.{with_bytes}
use Rattle.store.proofs.FontCalls.{answered, fresh_short, fresh_long, fresh_done, fresh_bytes}
use Rattle.store.proofs.fonts.make_fresh.Goals as goal

pub returns-then-n-lt-LEAST_STORE : goal.returns-then-n-lt-LEAST_STORE
returns-then-n-lt-LEAST_STORE c = record { value = (answered (fresh_short _ c.if-n-lt-LEAST_STORE.true)).0; s_after = (answered (fresh_short _ c.if-n-lt-LEAST_STORE.true)).1 }

pub returns-then-n-gt-MOST_STORE : goal.returns-then-n-gt-MOST_STORE
returns-then-n-gt-MOST_STORE c = record { value = (answered (fresh_long _ c.if-n-lt-LEAST_STORE.false c.if-n-gt-MOST_STORE.true)).0; s_after = (answered (fresh_long _ c.if-n-lt-LEAST_STORE.false c.if-n-gt-MOST_STORE.true)).1 }

pub returns : goal.returns
returns c =
    let e = answered (fresh_done c.args.s.now c.if-n-lt-LEAST_STORE.false c.if-n-gt-MOST_STORE.false) in record { value = e.0; s_after = c.put-2.ensures ∙ ap (λ (l : List ℕ). with_bytes l kind_at (low_first 2 mark_kind)) (c.put.ensures ∙ ap (λ (l : List ℕ). with_bytes l 0 (low_first 2 mark_record)) c.clear.ensures) ∙ fresh_bytes c.args.s.now c.if-n-lt-LEAST_STORE.false ∙ e.1 }
