use Rattle.store.proofs.Cursors.{character_behind}
use Rattle.store.proofs.Again.{known_block}
use Rattle.form.proofs.Locates.{store_is}
use Rattle.store.proofs.FontCalls.{answered_block}
use mathlib.Core.Path.{ap, ◌∙◌}
use Rattle.store.specs.declared.download.Downloaded.{Downloaded}
use Rattle.store.proofs.known.add_character.Goals as goal

pub past_character-behind-requires : goal.past_character-behind-requires
past_character-behind-requires c =
    let e = answered_block (known_block _ c.args.block.now _ (store_is _ _ c.requires.0.is) c.requires.1 _ c.requires.2) in character_behind _ _ c.args.block.now _ _ c.locate-p.ensures c.requires.1 c.requires.2 _ _ (c.put_block-answer.ensures.s_after ∙ e.1) (ap (λ (x : Downloaded). x.refusal) (c.put_block-answer.ensures.value ∙ e.0))

pub returns : goal.returns
returns c =
    let e = answered_block (known_block _ c.args.block.now _ (store_is _ _ c.requires.0.is) c.requires.1 _ c.requires.2) in record { answer_value = (c.put_block-answer.ensures.value ∙ e.0, c.past_character-behind.ensures); s_after = c.put_block-answer.ensures.s_after ∙ e.1 }
