use Rattle.collection.specs.Figures.{figure_from}
use Rattle.collection.proofs.Passing.{character_added, dots_are, draw_by, room_by}
use Prim.Native.Nat.{ℕ}
use mathlib.Core.Path.{ap, ◌∙◌}
use Rattle.collection.proofs.adding.add_character.Goals as goal

pub black_dots-dots-requires : goal.black_dots-dots-requires
black_dots-dots-requires c = draw_by _ _ _ _ _ c.requires.1 c.class.ensures c.width-width.ensures c.height.ensures

pub with_character-requires : goal.with_character-requires
with_character-requires c =
    room_by _ c.args.k.now c.args.d.now _ _ _ _ c.requires.4 (c.figure_at-f.ensures ∙ ap (λ (at : ℕ). figure_from c.args.b.now at) c.code_place-at.ensures)
    (dots_are c.args.k.now c.args.d.now _ _ _ _ c.black_dots-dots.ensures c.class.ensures c.width-width.ensures c.height.ensures) c.delta_x-delta.ensures

pub returns : goal.returns
returns c =
    character_added _ _ c.args.k.now c.args.d.now _ _ _ _ _ _ _ c.code_place-at.ensures c.width-width.ensures
    (dots_are c.args.k.now c.args.d.now _ _ _ _ c.black_dots-dots.ensures c.class.ensures c.width-width.ensures c.height.ensures) c.delta_x-delta.ensures
    (c.figure_at-f.ensures ∙ ap (λ (at : ℕ). figure_from c.args.b.now at) c.code_place-at.ensures) (rw c.from.ensures at c.with_character.ensures) c.put_figure.ensures
