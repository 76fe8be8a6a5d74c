use Rattle.refusals.proofs.Numbers.{err_by}
use Rattle.refusals.specs.Refusals.{numbered_result}
use mathlib.Core.Path.{◌≡◌, sym, ap, ◌∙◌}
use mathlib.Core.List.{List}
use Prim.Native.Nat.{ℕ}
use lib.ListN.{length}
use lib.Dec.{leb}
use borrow.Author.Tests.{le-leb, lt-leb}
use Rattle.blocks.specs.Header.{header_bytes}
use Rattle.form.specs.Checks.{checked}
use Rattle.store.specs.Answer.{Telling, untold}
use Rattle.store.specs.Calls.{telling_font, characters_of, onto}
use Rattle.form.specs.declared.walk.Places.{Places}
use Rattle.form.proofs.Seeks.{KeptFont, font_sought, font_refused, font_call}
use Rattle.store.proofs.Spots.{font_span, font_kept, font_held}
use native.Mathlib.Omega.{arith}
use Rattle.store.proofs.fonts.tell_font.Goals as goal

-- what is told of a font that is there
told : (n : ℕ) (s out : List ℕ) (w : Places) (x : KeptFont n 0 s w)
    → telling_font n s out ≡ checked (untold out) (leb header_bytes (length out)) 12 (record { refusal = 0; count = length (characters_of n x.ready.store.recs); out = onto x.header out })
unfolding telling_font
told n s out w x = font_call n s w (untold out) _ x

same : {k m : ℕ} {a b : List ℕ} → k ≡ m → a ≡ b → ◌≡◌ {A = Telling} (record { refusal = 0; count = k; out = a }) (record { refusal = 0; count = m; out = b })
same p q = rw (p, q)

-- behind the seeking
pub returns-then-out-lt-HEADER_BYTES : goal.returns-then-out-lt-HEADER_BYTES
returns-then-out-lt-HEADER_BYTES c =
    let at_found : KeptFont c.args.font 0 c.args.s.now c.in-Ok.p = font_sought _ _ c.in-Ok.p (λ i. (c.shared_slice_known-1.given i).fits) (sym c.seek_font.ensures ∙ ap numbered_result c.in-Ok.is) in
    let x = at_found in
    rw (c.untold-then-out-lt-HEADER_BYTES.ensures.0, c.untold-then-out-lt-HEADER_BYTES.ensures.1) (sym (told _ _ c.args.out.now _ x ∙ rw (lt-leb header_bytes (length c.args.out.now) c.if-out-lt-HEADER_BYTES.true)))

-- behind the seeking
pub overflow_add-at : goal.overflow_add-at
overflow_add-at c =
    let at_found : KeptFont c.args.font 0 c.args.s.now c.in-Ok.p = font_sought _ _ c.in-Ok.p (λ i. (c.shared_slice_known-1.given i).fits) (sym c.seek_font.ensures ∙ ap numbered_result c.in-Ok.is) in
    let x = at_found in omega (arith, font_span _ _ _ _ x, x.ready.end, x.ready.room)

-- behind the seeking
pub copy_kept-requires : goal.copy_kept-requires
copy_kept-requires c =
    let at_found : KeptFont c.args.font 0 c.args.s.now c.in-Ok.p = font_sought _ _ c.in-Ok.p (λ i. (c.shared_slice_known-1.given i).fits) (sym c.seek_font.ensures ∙ ap numbered_result c.in-Ok.is) in
    let x = at_found in (omega (arith, font_span _ _ _ _ x, x.ready.end, x.ready.room), c.if-out-lt-HEADER_BYTES.false)

-- behind the seeking
pub overflow_add-at-in-Ok : goal.overflow_add-at-in-Ok
overflow_add-at-in-Ok c =
    let at_found : KeptFont c.args.font 0 c.args.s.now c.in-Ok.p = font_sought _ _ c.in-Ok.p (λ i. (c.shared_slice_known-1.given i).fits) (sym c.seek_font.ensures ∙ ap numbered_result c.in-Ok.is) in
    let x = at_found in omega (arith, font_span _ _ _ _ x, x.ready.end, x.ready.room)

-- behind the seeking
pub le16-requires : goal.le16-requires
le16-requires c =
    let at_found : KeptFont c.args.font 0 c.args.s.now c.in-Ok.p = font_sought _ _ c.in-Ok.p (λ i. (c.shared_slice_known-1.given i).fits) (sym c.seek_font.ensures ∙ ap numbered_result c.in-Ok.is) in
    let x = at_found in omega (arith, font_span _ _ _ _ x, x.ready.end, x.ready.room)

pub returns-in-Err : goal.returns-in-Err
unfolding telling_font
returns-in-Err c = rw (c.untold.ensures.0, c.untold.ensures.1) (sym (font_refused _ _ _ _ _ (sym c.seek_font.ensures ∙ err_by c.in-Err.is c.from.ensures)))

-- behind the seeking
pub returns-else-out-lt-HEADER_BYTES : goal.returns-else-out-lt-HEADER_BYTES
returns-else-out-lt-HEADER_BYTES c =
    let at_found : KeptFont c.args.font 0 c.args.s.now c.in-Ok.p = font_sought _ _ c.in-Ok.p (λ i. (c.shared_slice_known-1.given i).fits) (sym c.seek_font.ensures ∙ ap numbered_result c.in-Ok.is) in
    let x = at_found in
    let a = c.args in
    same (c.le16.ensures.0 ∙ font_held _ _ _ _ x) (c.copy_kept.ensures ∙ ap (λ (h : List ℕ). onto h a.out.now) (font_kept _ _ _ _ x))
    ∙ sym (told _ _ a.out.now _ x ∙ rw (le-leb header_bytes (length a.out.now) c.if-out-lt-HEADER_BYTES.false))
