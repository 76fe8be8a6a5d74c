use mathlib.Core.Path.{◌≡◌, sym, ap, ◌∙◌, subst}
use mathlib.Core.Bool.{Bool, cond}
use mathlib.Core.List.{List, ◌++◌}
use Prim.Native.Nat.{ℕ, ◌+◌, ◌-◌, ◌≤◌}
use lib.ListN.{length, take, drop, length-take, length-drop, length-append}
use Rattle.blocks.specs.Character.{continuation_bytes}
use Rattle.pictures.specs.Size.{data_limit}
use Rattle.form.specs.Layout.{character_record}
use Rattle.form.specs.Num.{Bytes, low_first}
use Rattle.form.specs.Model.{Mark, character_bytes}
use Rattle.change.specs.Put.{with_bytes}
use Rattle.change.specs.Change.{spliced_at, Recounting, recounted, remarked}
use Rattle.form.specs.Walk.{Growing, kept_at, data_at}
use Rattle.store.specs.Download.{mark_for}
use Rattle.store.proofs.Downloads.{mark_given, Space, growing, grow_span, grow_small, grow_put, place_full, place_ready, place_done}
use Rattle.store.proofs.FontCalls.{answered_block}
use native.Mathlib.Omega.{arith}
use Rattle.form.specs.declared.walk.Places.{Places}
use Rattle.store.proofs.download.place_more.Goals as goal

-- the bytes that a continuation adds
abbrev added : ℕ → List ℕ → List ℕ
added n block = take n (drop continuation_bytes block)

data_length : (n : ℕ) (block : List ℕ) → continuation_bytes + n ≤ length block → length (added n block) ≡ n
data_length n block l = simp (length-take, length-drop) (omega arith)

-- the room that the code tests is that of the whole record
record Sizes (s block : List ℕ) (p : Places) (n : ℕ) : Type 0 where
  old : p.to ≡ p.from + character_record + length (data_at s p)
  more : length (data_at s p ++ added n block) ≡ length (data_at s p) + n
  small : length (data_at s p) + n ≤ data_limit

sizes : (s block : List ℕ) (p : Places) (font code n : ℕ) → Bytes s → (continuation_bytes + n ≤ length block) × Growing font code (added n block) s p → Sizes s block p n
sizes s block p font code n b g =
    let l = data_length n block g.0 in
    record {
      old = grow_span _ _ _ _ _ b g.1;
      more = length-append (data_at s p) (added n block) ∙ ap (λ (x : ℕ). length (data_at s p) + x) l;
      small = omega (arith, l, grow_small _ _ _ _ _ b g.1);
    }

at_start : (s block : List ℕ) (p : Places) (font code n : ℕ) → Bytes s → (continuation_bytes + n ≤ length block) × Growing font code (added n block) s p
    → Space font code (kept_at s p) (data_at s p ++ added n block) s p
at_start s block p font code n b g = growing _ _ _ _ _ b g.1

-- the character with what was added, where it fits
put_there : (s block splice extended : List ℕ) (p : Places) (font code n : ℕ) → Bytes s → (continuation_bytes + n ≤ length block) × Growing font code (added n block) s p
    → p.used + n ≤ length s
    → splice ≡ spliced_at p.from (p.to - p.from) p.used (p.to - p.from + n) s
    → extended ≡ with_bytes (with_bytes splice p.from (low_first 2 (p.to - p.from + n))) (p.from + (p.to - p.from)) (added n block)
    → extended ≡ with_bytes (spliced_at p.from (p.to - p.from) p.used (character_record + length (data_at s p ++ added n block)) s) p.from (character_bytes font code (kept_at s p) (data_at s p ++ added n block))
put_there s block splice extended p font code n b g f e h =
    let l = data_length n block g.0 in
    let t = added n block in
    let old = p.to - p.from in
    h ∙ ap (λ (y : List ℕ). with_bytes (with_bytes y p.from (low_first 2 (old + n))) (p.from + old) t) e
    ∙ ap (λ (y : ℕ). with_bytes (with_bytes (spliced_at p.from old p.used (old + y) s) p.from (low_first 2 (old + y))) (p.from + old) t) (sym l)
    ∙ grow_put _ _ _ _ _ b g.1 (omega (arith, l, f))

pub overflow_sub-old : goal.overflow_sub-old
overflow_sub-old c = (at_start _ _ _ _ _ _ (λ i. (c.slice_known-1.given i).fits) c.requires.n_in_bounds).ready.one

pub overflow_add-used : goal.overflow_add-used
overflow_add-used c =
    let a = c.args in
    let b : Bytes a.s.now = λ i. (c.slice_known-1.given i).fits in
    let r = (at_start a.s.now a.block.now a.p a.id.font a.id.code a.n b c.requires.n_in_bounds).ready in
    let z = sizes a.s.now a.block.now a.p a.id.font a.id.code a.n b c.requires.n_in_bounds in
    omega (arith, r.room, z.small)

pub cut_font-requires : goal.cut_font-requires
cut_font-requires c =
    let r = (at_start _ _ _ _ _ _ (λ i. (c.slice_known-1.given i).fits) c.requires.n_in_bounds).ready in
    (r.least, r.span, r.end, r.room)

pub returns-then-s-used : goal.returns-then-s-used
returns-then-s-used c =
    let a = c.args in
    let b : Bytes a.s.now = λ i. (c.slice_known-1.given i).fits in
    let x = at_start a.s.now a.block.now a.p a.id.font a.id.code a.n b c.requires.n_in_bounds in
    let z = sizes a.s.now a.block.now a.p a.id.font a.id.code a.n b c.requires.n_in_bounds in
    let e = answered_block (place_full _ _ _ _ _ _ x (omega (arith, c.if-s-used.true, z.old, z.more, x.ready.last))) in
    record { value = c.without_run.ensures ∙ e.0; s_after = c.cut_font.ensures ∙ e.1 }

pub overflow_add-old : goal.overflow_add-old
overflow_add-old c =
    let a = c.args in
    let z = sizes a.s.now a.block.now a.p a.id.font a.id.code a.n (λ i. (c.slice_known-1.given i).fits) c.requires.n_in_bounds in
    omega (arith, z.old, z.small)

pub splice-requires : goal.splice-requires
splice-requires c =
    let r = (at_start _ _ _ _ _ _ (λ i. (c.slice_known-1.given i).fits) c.requires.n_in_bounds).ready in
    (omega (arith, r.one, r.last), r.room, omega (arith, r.one, r.last, r.room, c.if-s-used.false))

pub extend_character-requires : goal.extend_character-requires
extend_character-requires c =
    let a = c.args in
    let b : Bytes a.s.now = λ i. (c.slice_known-1.given i).fits in
    let r = (at_start a.s.now a.block.now a.p a.id.font a.id.code a.n b c.requires.n_in_bounds).ready in
    let z = sizes a.s.now a.block.now a.p a.id.font a.id.code a.n b c.requires.n_in_bounds in
    (omega (arith, r.one, r.last, r.room, c.if-s-used.false, c.splice.auto.s), omega (arith, z.old), c.requires.n_in_bounds.0)

pub overflow_add-old-2 : goal.overflow_add-old-2
overflow_add-old-2 c =
    let a = c.args in
    let z = sizes a.s.now a.block.now a.p a.id.font a.id.code a.n (λ i. (c.slice_known-1.given i).fits) c.requires.n_in_bounds in
    omega (arith, z.old, z.small)

pub recount-requires : goal.recount-requires
recount-requires c =
    let a = c.args in
    let b : Bytes a.s.now = λ i. (c.slice_known-1.given i).fits in
    let g = c.requires.n_in_bounds in
    let x = at_start a.s.now a.block.now a.p a.id.font a.id.code a.n b g in
    let z = sizes a.s.now a.block.now a.p a.id.font a.id.code a.n b g in
    let old = a.p.to - a.p.from in
    let m : character_record + length (data_at a.s.now a.p ++ added a.n a.block.now) ≡ old + a.n = omega (arith, z.old, z.more) in
    let put = put_there a.s.now a.block.now _ _ a.p a.id.font a.id.code a.n b g c.if-s-used.false c.splice.ensures c.extend_character.ensures in
    subst (λ (y : ℕ). Recounting c.extend_character.new.s a.p.lo old y) m
    (rw put (place_ready _ _ _ _ _ _ x (omega (arith, c.if-s-used.false, z.old, z.more, x.ready.last))))

pub mark_character-requires : goal.mark_character-requires
mark_character-requires c =
    let x = at_start _ _ _ _ _ _ (λ i. (c.slice_known-1.given i).fits) c.requires.n_in_bounds in
    let r = x.ready in
    omega (arith, r.least, r.span, r.end, r.room, c.splice.auto.s, c.extend_character.auto.s, c.recount.auto.s)

pub returns : goal.returns
returns c =
    let a = c.args in
    let b : Bytes a.s.now = λ i. (c.slice_known-1.given i).fits in
    let g = c.requires.n_in_bounds in
    let x = at_start a.s.now a.block.now a.p a.id.font a.id.code a.n b g in
    let z = sizes a.s.now a.block.now a.p a.id.font a.id.code a.n b g in
    let s = a.s.now in
    let t = added a.n a.block.now in
    let old = a.p.to - a.p.from in
    let m : character_record + length (data_at s a.p ++ t) ≡ old + a.n = omega (arith, z.old, z.more) in
    let put = put_there s a.block.now _ _ a.p a.id.font a.id.code a.n b g c.if-s-used.false c.splice.ensures c.extend_character.ensures in
    let e = answered_block (place_done _ _ _ _ _ _ x (omega (arith, c.if-s-used.false, z.old, z.more, x.ready.last))) in
    record {
      value = c.without_run-2.ensures ∙ e.0;
      s_after =
          c.mark_character.ensures
          ∙ ap (λ (m : Mark). remarked m c.recount.new.s) (mark_given a.id (kept_at s a.p) (data_at s a.p ++ t) a.marked c.then_some.result c.then_some.ensures c.requires.marked_value)
          ∙ ap (remarked (mark_for a.id.font a.id.code (kept_at s a.p) (data_at s a.p ++ t)))
          (c.recount.ensures ∙ ap (λ (y : ℕ). recounted a.p.lo old y c.extend_character.new.s) (sym m) ∙ ap (recounted a.p.lo old (character_record + length (data_at s a.p ++ t))) put)
          ∙ e.1;
    }
