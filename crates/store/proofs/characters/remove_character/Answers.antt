use Rattle.refusals.specs.Refusals.{numbered_result}
use mathlib.Core.Path.{sym, ap, ◌∙◌}
use Prim.Native.Nat.{◌-◌}
use Rattle.change.specs.Change.{recounted, unmarked_at}
use Rattle.store.specs.Calls.{removing_character, store_without_character}
use Rattle.store.specs.Answer.{refuse, done}
use Rattle.form.proofs.Seeks.{KeptChar, char_sought, char_refused, char_call}
use Rattle.store.proofs.FontCalls.{answered, answered_err}
use Rattle.store.proofs.CharacterCalls.{cut_ready, cut_done}
use native.Mathlib.Omega.{arith}
use Rattle.store.proofs.characters.remove_character.Goals as goal

-- behind the seeking
pub overflow_sub-old : goal.overflow_sub-old
overflow_sub-old c =
    let at_found : KeptChar c.args.font c.args.code c.args.s.now c.in_ok-p.p = char_sought _ _ _ c.in_ok-p.p (λ i. (c.slice_known-1.given i).fits) (sym c.seek_character.ensures ∙ ap numbered_result c.in_ok-p.was) in
    (at_found).ready.one

-- behind the seeking
pub splice-requires : goal.splice-requires
splice-requires c =
    let at_found : KeptChar c.args.font c.args.code c.args.s.now c.in_ok-p.p = char_sought _ _ _ c.in_ok-p.p (λ i. (c.slice_known-1.given i).fits) (sym c.seek_character.ensures ∙ ap numbered_result c.in_ok-p.was) in
    let r = (at_found).ready in (omega (arith, r.one, r.last), r.room, omega (arith, r.one, r.last, r.room))

-- behind the seeking
pub recount-requires : goal.recount-requires
recount-requires c =
    let at_found : KeptChar c.args.font c.args.code c.args.s.now c.in_ok-p.p = char_sought _ _ _ c.in_ok-p.p (λ i. (c.slice_known-1.given i).fits) (sym c.seek_character.ensures ∙ ap numbered_result c.in_ok-p.was) in
    let x = at_found in rw c.splice.ensures (cut_ready _ _ _ _ x)

-- behind the seeking
pub unmark_character-requires : goal.unmark_character-requires
unmark_character-requires c =
    let at_found : KeptChar c.args.font c.args.code c.args.s.now c.in_ok-p.p = char_sought _ _ _ c.in_ok-p.p (λ i. (c.slice_known-1.given i).fits) (sym c.seek_character.ensures ∙ ap numbered_result c.in_ok-p.was) in
    let r = (at_found).ready in omega (arith, r.least, r.span, r.end, r.room, c.splice.auto.s, c.recount.auto.s)

pub returns-in_err-p : goal.returns-in_err-p
unfolding removing_character
returns-in_err-p c =
    let e = answered_err _ _ c.from_residual.ensures (char_refused _ _ _ _ _ _ (sym c.seek_character.ensures ∙ ap numbered_result c.in_err-p.was)) in
    record { value = e.0; s_after = e.1 }

-- behind the seeking
pub returns : goal.returns
unfolding removing_character
returns c =
    let at_found : KeptChar c.args.font c.args.code c.args.s.now c.in_ok-p.p = char_sought _ _ _ c.in_ok-p.p (λ i. (c.slice_known-1.given i).fits) (sym c.seek_character.ensures ∙ ap numbered_result c.in_ok-p.was) in
    let p = c.in_ok-p.p in
    let x = at_found in
    let e = answered (char_call _ _ _ _ (refuse c.args.s.now) (λ st r. done (store_without_character c.args.font c.args.code st)) x) in record {
      value = e.0;
      s_after = c.unmark_character.ensures
          ∙ ap (unmarked_at c.args.font c.args.code) (c.recount.ensures ∙ ap (recounted p.lo (p.to - p.from) 0) c.splice.ensures)
          ∙ cut_done _ _ _ _ x ∙ e.1;
    }
