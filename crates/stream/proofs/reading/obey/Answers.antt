use mathlib.Core.Path.{sym, ◌∙◌}
use native.Mathlib.Omega.{arith}
use Rattle.stream.proofs.Readings.{ends_number, ends_code, ends_font, ends_character, obey_number, obey_code, obey_font, obey_character, obey_broken, obey_end}
use Rattle.stream.proofs.reading.obey.Goals as goal

pub after_number-requires : goal.after_number-requires
after_number-requires c =
    let h = ends_number c.args.stream.now c.args.x.at _ _ (sym c.read_command.ensures ∙ c.in-SetFont.is) in
    omega (arith, h.0, h.1, c.requires.counts)

pub after_number-requires-in-SetCode : goal.after_number-requires-in-SetCode
after_number-requires-in-SetCode c =
    let h = ends_code c.args.stream.now c.args.x.at _ _ (sym c.read_command.ensures ∙ c.in-SetCode.is) in
    omega (arith, h.0, h.1, c.requires.counts)

pub returns-in-SetFont : goal.returns-in-SetFont
returns-in-SetFont c =
    let o = obey_number _ _ _ c.requires _ _ _ (sym c.read_command.ensures ∙ c.in-SetFont.is) (c.after_number.ensures ∙ rw (c.with_number.ensures, c.in_range-range.ensures)) in
    record { result_after = o.0; leads = o.1 }

pub returns-in-SetCode : goal.returns-in-SetCode
returns-in-SetCode c =
    let o = obey_code _ _ _ c.requires _ _ _ (sym c.read_command.ensures ∙ c.in-SetCode.is) (c.after_number-in-SetCode.ensures ∙ rw (c.with_code.ensures, c.in_range-range-in-SetCode.ensures)) in
    record { result_after = o.0; leads = o.1 }

pub slice_bounds-add_font-count : goal.slice_bounds-add_font-count
slice_bounds-add_font-count c = (ends_font c.args.stream.now c.args.x.at _ _ (sym c.read_command.ensures ∙ c.in-FontBlock.is)).1

pub slice_bounds-add_font-start : goal.slice_bounds-add_font-start
slice_bounds-add_font-start c = (ends_font c.args.stream.now c.args.x.at _ _ (sym c.read_command.ensures ∙ c.in-FontBlock.is)).1

pub slice_bounds-add_font-end : goal.slice_bounds-add_font-end
slice_bounds-add_font-end c = (ends_font c.args.stream.now c.args.x.at _ _ (sym c.read_command.ensures ∙ c.in-FontBlock.is)).2

pub returns-in-FontBlock : goal.returns-in-FontBlock
returns-in-FontBlock c =
    let a = c.add_font-added.ensures in
    let o = obey_font _ _ _ c.requires _ _ _ _ _ (sym c.read_command.ensures ∙ c.in-FontBlock.is) (rw a.answer_value.0 at c.after_block.ensures) a.s_after a.answer_value.1 in
    record { result_after = o.0; leads = o.1 }

pub slice_bounds-add_character-count : goal.slice_bounds-add_character-count
slice_bounds-add_character-count c = (ends_character c.args.stream.now c.args.x.at _ _ (sym c.read_command.ensures ∙ c.in-CharacterBlock.is)).1

pub slice_bounds-add_character-start : goal.slice_bounds-add_character-start
slice_bounds-add_character-start c = (ends_character c.args.stream.now c.args.x.at _ _ (sym c.read_command.ensures ∙ c.in-CharacterBlock.is)).1

pub slice_bounds-add_character-end : goal.slice_bounds-add_character-end
slice_bounds-add_character-end c = (ends_character c.args.stream.now c.args.x.at _ _ (sym c.read_command.ensures ∙ c.in-CharacterBlock.is)).2

pub returns-in-CharacterBlock : goal.returns-in-CharacterBlock
returns-in-CharacterBlock c =
    let a = c.add_character-added.ensures in
    let o = obey_character _ _ _ c.requires _ _ _ _ _ (sym c.read_command.ensures ∙ c.in-CharacterBlock.is) (rw a.answer_value.0 at c.after_block-in-CharacterBlock.ensures) a.s_after a.answer_value.1 in
    record { result_after = o.0; leads = o.1 }

pub returns-in-Broken : goal.returns-in-Broken
returns-in-Broken c =
    let o = obey_broken _ _ _ c.requires (sym c.read_command.ensures ∙ c.in-Broken.is) in
    record { result_after = o.0; leads = o.1 }

pub returns-in-End : goal.returns-in-End
returns-in-End c =
    let o = obey_end _ _ _ c.requires (sym c.read_command.ensures ∙ c.in-End.is) in
    record { result_after = o.0; leads = o.1 }
