use Rattle.refusals.proofs.Numbers.{err_by}
use Rattle.refusals.specs.Refusals.{numbered_result}
use mathlib.Core.Path.{◌≡◌, sym, ◌∙◌, ap}
use mathlib.Core.List.{List}
use Prim.Native.Nat.{ℕ, ◌+◌, ◌-◌}
use lib.ListN.{length}
use lib.Dec.{leb}
use borrow.Author.Tests.{le-leb, lt-leb}
use Rattle.blocks.specs.Character.{descriptor_bytes}
use Rattle.form.specs.Layout.{character_record}
use Rattle.form.specs.Checks.{checked}
use Rattle.store.specs.Answer.{untold}
use Rattle.store.specs.Calls.{telling_character, onto}
use Rattle.form.specs.declared.walk.Places.{Places}
use Rattle.form.proofs.Seeks.{KeptChar, char_sought, char_refused, char_call}
use Rattle.store.proofs.Spots.{char_span, char_kept, char_shape}
use native.Mathlib.Omega.{arith}
use Rattle.store.proofs.characters.tell_character.Goals as goal

-- what is told of a character that is there
told : (n k : ℕ) (s out : List ℕ) (w : Places) (x : KeptChar n k s w)
    → telling_character n k s out ≡ checked (untold out) (leb descriptor_bytes (length out)) 12 (record { refusal = 0; count = length x.bytes; out = onto x.kept out })
unfolding telling_character
told n k s out w x = char_call n k s w (untold out) _ x

-- behind the seeking
pub returns-then-out-lt-DESCRIPTOR_BYTES : goal.returns-then-out-lt-DESCRIPTOR_BYTES
returns-then-out-lt-DESCRIPTOR_BYTES c =
    let at_found : KeptChar c.args.font c.args.code c.args.s.now c.in-Ok.p = char_sought _ _ _ c.in-Ok.p (λ i. (c.shared_slice_known-1.given i).fits) (sym c.seek_character.ensures ∙ ap numbered_result c.in-Ok.is) in
    let x = at_found in
    rw (c.untold-then-out-lt-DESCRIPTOR_BYTES.ensures.0, c.untold-then-out-lt-DESCRIPTOR_BYTES.ensures.1) (sym (told _ _ _ c.args.out.now _ x ∙ rw (lt-leb descriptor_bytes (length c.args.out.now) c.if-out-lt-DESCRIPTOR_BYTES.true)))

-- behind the seeking
pub overflow_add-at : goal.overflow_add-at
overflow_add-at c =
    let at_found : KeptChar c.args.font c.args.code c.args.s.now c.in-Ok.p = char_sought _ _ _ c.in-Ok.p (λ i. (c.shared_slice_known-1.given i).fits) (sym c.seek_character.ensures ∙ ap numbered_result c.in-Ok.is) in
    let x = at_found in omega (arith, char_span _ _ _ _ x, x.ready.last, x.ready.room)

-- behind the seeking
pub copy_kept-requires : goal.copy_kept-requires
copy_kept-requires c =
    let at_found : KeptChar c.args.font c.args.code c.args.s.now c.in-Ok.p = char_sought _ _ _ c.in-Ok.p (λ i. (c.shared_slice_known-1.given i).fits) (sym c.seek_character.ensures ∙ ap numbered_result c.in-Ok.is) in
    let x = at_found in (omega (arith, char_span _ _ _ _ x, x.ready.last, x.ready.room), c.if-out-lt-DESCRIPTOR_BYTES.false)

-- behind the seeking
pub overflow_add-result : goal.overflow_add-result
overflow_add-result c =
    let at_found : KeptChar c.args.font c.args.code c.args.s.now c.in-Ok.p = char_sought _ _ _ c.in-Ok.p (λ i. (c.shared_slice_known-1.given i).fits) (sym c.seek_character.ensures ∙ ap numbered_result c.in-Ok.is) in
    let x = at_found in omega (arith, char_span _ _ _ _ x, x.ready.last, x.ready.room)

-- behind the seeking
pub overflow_sub-result : goal.overflow_sub-result
overflow_sub-result c =
    let at_found : KeptChar c.args.font c.args.code c.args.s.now c.in-Ok.p = char_sought _ _ _ c.in-Ok.p (λ i. (c.shared_slice_known-1.given i).fits) (sym c.seek_character.ensures ∙ ap numbered_result c.in-Ok.is) in
    let x = at_found in omega (arith, char_span _ _ _ _ x)

-- behind the seeking
pub overflow_cast-result : goal.overflow_cast-result
overflow_cast-result c =
    let at_found : KeptChar c.args.font c.args.code c.args.s.now c.in-Ok.p = char_sought _ _ _ c.in-Ok.p (λ i. (c.shared_slice_known-1.given i).fits) (sym c.seek_character.ensures ∙ ap numbered_result c.in-Ok.is) in
    let x = at_found in omega (arith, char_span _ _ _ _ x, char_shape _ _ _ _ x)

pub returns-in-Err : goal.returns-in-Err
unfolding telling_character
returns-in-Err c = rw (c.untold.ensures.0, c.untold.ensures.1) (sym (char_refused _ _ _ _ _ _ (sym c.seek_character.ensures ∙ err_by c.in-Err.is c.from.ensures)))

-- behind the seeking
pub returns-else-out-lt-DESCRIPTOR_BYTES : goal.returns-else-out-lt-DESCRIPTOR_BYTES
returns-else-out-lt-DESCRIPTOR_BYTES c =
    let at_found : KeptChar c.args.font c.args.code c.args.s.now c.in-Ok.p = char_sought _ _ _ c.in-Ok.p (λ i. (c.shared_slice_known-1.given i).fits) (sym c.seek_character.ensures ∙ ap numbered_result c.in-Ok.is) in
    let x = at_found in
    let i : c.in-Ok.p.to - (c.in-Ok.p.from + character_record) ≡ length x.bytes = omega (arith, char_span _ _ _ _ x) in
    rw (c.copy_kept.ensures, char_kept _ _ _ _ x, i) (sym (told _ _ _ c.args.out.now _ x ∙ rw (le-leb descriptor_bytes (length c.args.out.now) c.if-out-lt-DESCRIPTOR_BYTES.false)))
