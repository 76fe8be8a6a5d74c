use mathlib.Core.Path.{◌≡◌, sym, ap, ◌∙◌, subst}
use mathlib.Core.Bool.{Bool, cond}
use mathlib.Core.List.{List}
use Prim.Native.Nat.{ℕ, ◌+◌, ◌-◌}
use lib.ListN.{length, take, drop, length-take, length-drop}
use Rattle.blocks.specs.Character.{kept_first, descriptor_bytes}
use Rattle.form.specs.Layout.{character_record}
use Rattle.form.specs.Model.{Mark, character_bytes}
use Rattle.change.specs.Put.{with_bytes}
use Rattle.change.specs.Change.{spliced_at, Recounting, recounted, remarked}
use Rattle.store.specs.Download.{mark_for}
use Rattle.store.proofs.Downloads.{mark_given, Space, space, place_full, place_ready, place_done}
use Rattle.store.proofs.FontCalls.{answered_block}
use native.Mathlib.Omega.{arith}
use Rattle.store.proofs.download.place_first.Goals as goal

-- what is known at the start: the space, and the length of the data
pub overflow_sub-old : goal.overflow_sub-old
overflow_sub-old c =
    let at_start : Space c.args.id.font c.args.id.code (kept_first c.args.block.now) (take c.args.n (drop descriptor_bytes c.args.block.now)) c.args.s.now c.args.p = space _ _ _ _ _ _ (λ i. (c.slice_known-1.given i).fits) c.requires.n_le_data_limit.2 in
    (at_start).ready.one

-- what is known at the start: the space, and the length of the data
pub overflow_sub-used : goal.overflow_sub-used
overflow_sub-used c =
    let at_start : Space c.args.id.font c.args.id.code (kept_first c.args.block.now) (take c.args.n (drop descriptor_bytes c.args.block.now)) c.args.s.now c.args.p = space _ _ _ _ _ _ (λ i. (c.slice_known-1.given i).fits) c.requires.n_le_data_limit.2 in
    let r = (at_start).ready in omega (arith, r.one, r.last)

-- what is known at the start: the space, and the length of the data
pub overflow_add-used : goal.overflow_add-used
overflow_add-used c =
    let at_start : Space c.args.id.font c.args.id.code (kept_first c.args.block.now) (take c.args.n (drop descriptor_bytes c.args.block.now)) c.args.s.now c.args.p = space _ _ _ _ _ _ (λ i. (c.slice_known-1.given i).fits) c.requires.n_le_data_limit.2 in
    let r = (at_start).ready in omega (arith, r.room, c.requires.n_le_data_limit.0)

-- what is known at the start: the space, and the length of the data
pub cut_font-requires : goal.cut_font-requires
cut_font-requires c =
    let at_start : Space c.args.id.font c.args.id.code (kept_first c.args.block.now) (take c.args.n (drop descriptor_bytes c.args.block.now)) c.args.s.now c.args.p = space _ _ _ _ _ _ (λ i. (c.slice_known-1.given i).fits) c.requires.n_le_data_limit.2 in
    let r = (at_start).ready in (r.least, r.span, r.end, r.room)

-- what is known at the start: the space, and the length of the data
pub returns-then-s-used : goal.returns-then-s-used
returns-then-s-used c =
    let at_start : Space c.args.id.font c.args.id.code (kept_first c.args.block.now) (take c.args.n (drop descriptor_bytes c.args.block.now)) c.args.s.now c.args.p = space _ _ _ _ _ _ (λ i. (c.slice_known-1.given i).fits) c.requires.n_le_data_limit.2 in
    let data_length : length (take c.args.n (drop descriptor_bytes c.args.block.now)) ≡ c.args.n = simp (length-take, length-drop) (omega (arith, c.requires.n_le_data_limit.1)) in
    let x = at_start in
    let l = data_length in
    let e = answered_block (place_full _ _ _ _ _ _ x (omega (arith, c.if-s-used.true, l))) in record { value = c.without_run.ensures ∙ e.0; s_after = c.cut_font.ensures ∙ e.1 }

-- what is known at the start: the space, and the length of the data
pub splice-requires : goal.splice-requires
splice-requires c =
    let at_start : Space c.args.id.font c.args.id.code (kept_first c.args.block.now) (take c.args.n (drop descriptor_bytes c.args.block.now)) c.args.s.now c.args.p = space _ _ _ _ _ _ (λ i. (c.slice_known-1.given i).fits) c.requires.n_le_data_limit.2 in
    let r = (at_start).ready in (omega (arith, r.one, r.last), r.room, omega (arith, r.one, r.last, r.room, c.if-s-used.false))

-- what is known at the start: the space, and the length of the data
pub write_character-requires : goal.write_character-requires
write_character-requires c =
    let at_start : Space c.args.id.font c.args.id.code (kept_first c.args.block.now) (take c.args.n (drop descriptor_bytes c.args.block.now)) c.args.s.now c.args.p = space _ _ _ _ _ _ (λ i. (c.slice_known-1.given i).fits) c.requires.n_le_data_limit.2 in
    let x = at_start in
    let r = x.ready in
    (omega (arith, r.one, r.last, r.room, c.if-s-used.false, c.splice.auto.s), c.requires.n_le_data_limit.1)

pub overflow_add-n-3 : goal.overflow_add-n-3
overflow_add-n-3 c = omega (arith, c.requires.n_le_data_limit.0)

-- what is known at the start: the space, and the length of the data
pub recount-requires : goal.recount-requires
recount-requires c =
    let data_length : length (take c.args.n (drop descriptor_bytes c.args.block.now)) ≡ c.args.n = simp (length-take, length-drop) (omega (arith, c.requires.n_le_data_limit.1)) in
    let at_start : Space c.args.id.font c.args.id.code (kept_first c.args.block.now) (take c.args.n (drop descriptor_bytes c.args.block.now)) c.args.s.now c.args.p = space _ _ _ _ _ _ (λ i. (c.slice_known-1.given i).fits) c.requires.n_le_data_limit.2 in
    let a = c.args in
    let l = data_length in
    let d = take a.n (drop descriptor_bytes a.block.now) in
    let put : c.write_character.new.s ≡ with_bytes (spliced_at a.p.from (a.p.to - a.p.from) a.p.used (character_record + length d) a.s.now) a.p.from (character_bytes a.id.font a.id.code (kept_first a.block.now) d) =
    c.write_character.ensures ∙ ap (λ (y : List ℕ). with_bytes y a.p.from (character_bytes a.id.font a.id.code (kept_first a.block.now) d)) (c.splice.ensures ∙ ap (λ (y : ℕ). spliced_at a.p.from (a.p.to - a.p.from) a.p.used (character_record + y) a.s.now) (sym l)) in
    subst (λ (y : ℕ). Recounting c.write_character.new.s a.p.lo (a.p.to - a.p.from) (character_record + y)) l
    (rw put (place_ready _ _ _ _ _ _ (at_start) (omega (arith, c.if-s-used.false, l))))

-- what is known at the start: the space, and the length of the data
pub mark_character-requires : goal.mark_character-requires
mark_character-requires c =
    let at_start : Space c.args.id.font c.args.id.code (kept_first c.args.block.now) (take c.args.n (drop descriptor_bytes c.args.block.now)) c.args.s.now c.args.p = space _ _ _ _ _ _ (λ i. (c.slice_known-1.given i).fits) c.requires.n_le_data_limit.2 in
    let x = at_start in
    let r = x.ready in
    omega (arith, r.least, r.span, r.end, r.room, c.splice.auto.s, c.write_character.auto.s, c.recount.auto.s)

-- what is known at the start: the space, and the length of the data
pub returns : goal.returns
returns c =
    let data_length : length (take c.args.n (drop descriptor_bytes c.args.block.now)) ≡ c.args.n = simp (length-take, length-drop) (omega (arith, c.requires.n_le_data_limit.1)) in
    let at_start : Space c.args.id.font c.args.id.code (kept_first c.args.block.now) (take c.args.n (drop descriptor_bytes c.args.block.now)) c.args.s.now c.args.p = space _ _ _ _ _ _ (λ i. (c.slice_known-1.given i).fits) c.requires.n_le_data_limit.2 in
    let a = c.args in
    let l = data_length in
    let d = take a.n (drop descriptor_bytes a.block.now) in
    let e = answered_block (place_done _ _ _ _ _ _ (at_start) (omega (arith, c.if-s-used.false, l))) in
    let old = a.p.to - a.p.from in
    let put : c.write_character.new.s ≡ with_bytes (spliced_at a.p.from old a.p.used (character_record + length d) a.s.now) a.p.from (character_bytes a.id.font a.id.code (kept_first a.block.now) d) =
    c.write_character.ensures ∙ ap (λ (y : List ℕ). with_bytes y a.p.from (character_bytes a.id.font a.id.code (kept_first a.block.now) d)) (c.splice.ensures ∙ ap (λ (y : ℕ). spliced_at a.p.from old a.p.used (character_record + y) a.s.now) (sym l)) in record {
      value = c.without_run-2.ensures ∙ e.0;
      s_after = c.mark_character.ensures
          ∙ ap (λ (m : Mark). remarked m c.recount.new.s) (mark_given a.id (kept_first a.block.now) d a.marked c.then_some.result c.then_some.ensures c.requires.marked_value)
          ∙ ap (remarked (mark_for a.id.font a.id.code (kept_first a.block.now) d))
          (c.recount.ensures ∙ ap (λ (y : ℕ). recounted a.p.lo old (character_record + y) c.write_character.new.s) (sym l) ∙ ap (recounted a.p.lo old (character_record + length d)) put)
          ∙ e.1;
    }
