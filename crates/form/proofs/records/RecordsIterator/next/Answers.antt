use Rattle.std.proofs.Common.{◌≡◌, refl, sym, ap, ◌∙◌, arith}
use Rattle.std.proofs.lemmas.List.{take_rest}
use Prim.Native.Nat.{ℕ, ◌-◌}
use lib.ListN.{take, drop}
use Rattle.form.specs.Layout.{font_record, character_kept_at}
use Rattle.form.specs.Num.{field}
use Rattle.form.proofs.Runs.{run_short, run_zero, run_len, font_first, character_first, font_stood, character_stood, one_less}
use Rattle.form.proofs.records.RecordsIterator.next.Goals as goal

pub returns-then-s-lt-CHARACTER_RECORD-clause-steps : goal.returns-then-s-lt-CHARACTER_RECORD-clause-steps
returns-then-s-lt-CHARACTER_RECORD-clause-steps c = let e = run_short _ c.requires c.if-s-lt-CHARACTER_RECORD.true in (e, e, refl)

pub returns-then-len-eq0-clause-steps : goal.returns-then-len-eq0-clause-steps
returns-then-len-eq0-clause-steps c = let e = run_zero _ c.requires (sym c.le32-len.ensures ∙ c.if-len-eq0.true) in (e, e, refl)

pub slice_bounds-self-count : goal.slice_bounds-self-count
slice_bounds-self-count c = let l = run_len _ c.requires (λ e. c.if-len-eq0.false (c.le32-len.ensures ∙ e)) in omega (arith, l, c.le32-len.ensures)

pub slice_bounds-self-start : goal.slice_bounds-self-start
slice_bounds-self-start c = let l = run_len _ c.requires (λ e. c.if-len-eq0.false (c.le32-len.ensures ∙ e)) in omega (arith, l, c.le32-len.ensures)

pub slice_bounds-kept-count : goal.slice_bounds-kept-count
slice_bounds-kept-count c = let f = font_first c.args.self.now.left.now c.requires (λ e. c.if-len-eq0.false (c.le32-len.ensures ∙ e)) (sym c.le16.ensures.0 ∙ c.if-le16-eq-FONT_KIND.true) in omega (arith, f.len, f.fits, c.le32-len.ensures)

pub slice_bounds-kept-start : goal.slice_bounds-kept-start
slice_bounds-kept-start c = let f = font_first c.args.self.now.left.now c.requires (λ e. c.if-len-eq0.false (c.le32-len.ensures ∙ e)) (sym c.le16.ensures.0 ∙ c.if-le16-eq-FONT_KIND.true) in omega (arith, f.len, f.fits, c.le32-len.ensures)

pub slice_bounds-kept-end : goal.slice_bounds-kept-end
slice_bounds-kept-end c = let f = font_first c.args.self.now.left.now c.requires (λ e. c.if-len-eq0.false (c.le32-len.ensures ∙ e)) (sym c.le16.ensures.0 ∙ c.if-le16-eq-FONT_KIND.true) in omega (arith, f.len, f.fits, c.le32-len.ensures)

pub returns-then-le16-eq-FONT_KIND-clause-steps : goal.returns-then-le16-eq-FONT_KIND-clause-steps
returns-then-le16-eq-FONT_KIND-clause-steps c =
    let f = font_first c.args.self.now.left.now c.requires (λ e. c.if-len-eq0.false (c.le32-len.ensures ∙ e)) (sym c.le16.ensures.0 ∙ c.if-le16-eq-FONT_KIND.true) in
    let m : c.le32-len.result ≡ font_record = c.le32-len.ensures ∙ f.len in
    rw (m, take_rest c.args.self.now.left.now font_record, c.le16-number.ensures.0) (f.records, f.kept, font_stood _ _ f refl refl)

pub returns-then-le16-eq-FONT_KIND-clause-goes : goal.returns-then-le16-eq-FONT_KIND-clause-goes
returns-then-le16-eq-FONT_KIND-clause-goes c =
    let f = font_first c.args.self.now.left.now c.requires (λ e. c.if-len-eq0.false (c.le32-len.ensures ∙ e)) (sym c.le16.ensures.0 ∙ c.if-le16-eq-FONT_KIND.true) in
    let m : c.le32-len.result ≡ font_record = c.le32-len.ensures ∙ f.len in
    one_less _ _ _ (rw (m, take_rest c.args.self.now.left.now font_record) f.rest) (returns-then-le16-eq-FONT_KIND-clause-steps c).0

pub slice_bounds-bytes-count : goal.slice_bounds-bytes-count
slice_bounds-bytes-count c = let f = character_first c.args.self.now.left.now c.requires (λ e. c.if-len-eq0.false (c.le32-len.ensures ∙ e)) (λ e. c.if-le16-eq-FONT_KIND.false (c.le16.ensures.0 ∙ e)) in omega (arith, f.least, f.fits, c.le32-len.ensures)

pub slice_bounds-bytes-start : goal.slice_bounds-bytes-start
slice_bounds-bytes-start c = let f = character_first c.args.self.now.left.now c.requires (λ e. c.if-len-eq0.false (c.le32-len.ensures ∙ e)) (λ e. c.if-le16-eq-FONT_KIND.false (c.le16.ensures.0 ∙ e)) in omega (arith, f.least, f.fits, c.le32-len.ensures)

pub slice_bounds-bytes-end : goal.slice_bounds-bytes-end
slice_bounds-bytes-end c = let f = character_first c.args.self.now.left.now c.requires (λ e. c.if-len-eq0.false (c.le32-len.ensures ∙ e)) (λ e. c.if-le16-eq-FONT_KIND.false (c.le16.ensures.0 ∙ e)) in omega (arith, f.least, f.fits, c.le32-len.ensures)

pub returns-clause-steps : goal.returns-clause-steps
returns-clause-steps c =
    let f = character_first c.args.self.now.left.now c.requires (λ e. c.if-len-eq0.false (c.le32-len.ensures ∙ e)) (λ e. c.if-le16-eq-FONT_KIND.false (c.le16.ensures.0 ∙ e)) in
    rw (c.le32-len.ensures, take_rest c.args.self.now.left.now (field 4 0 c.args.self.now.left.now), c.le16-number.ensures.0, c.le16-code.ensures.0) (
      f.records,
      f.kept,
      character_stood _ _ f refl (λ z. ap (λ (n : ℕ). take (n - character_kept_at) (drop character_kept_at c.args.self.now.left.now)) (sym z)),
    )

pub returns-clause-goes : goal.returns-clause-goes
returns-clause-goes c =
    let f = character_first c.args.self.now.left.now c.requires (λ e. c.if-len-eq0.false (c.le32-len.ensures ∙ e)) (λ e. c.if-le16-eq-FONT_KIND.false (c.le16.ensures.0 ∙ e)) in
    one_less _ _ _ (rw (c.le32-len.ensures, take_rest c.args.self.now.left.now (field 4 0 c.args.self.now.left.now)) f.rest) (returns-clause-steps c).0
