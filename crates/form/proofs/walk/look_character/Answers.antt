use mathlib.Core.Path.{refl, sym, ◌∙◌}
use Rattle.pictures.specs.declared.picture.Held.TheVariants.{Whole, Unfinished}
use Rattle.form.proofs.Heads.{char_short, char_owner, char_low, char_code, char_kept, char_foreign}
use native.Mathlib.Omega.{arith}
use Rattle.form.proofs.walk.look_character.Goals as goal

pub returns-then-len-lt-CHARACTER_RECORD : goal.returns-then-len-lt-CHARACTER_RECORD
returns-then-len-lt-CHARACTER_RECORD c = sym (char_short _ c.args.s.now c.args.at _ c.requires.0 c.requires.1 c.if-len-lt-CHARACTER_RECORD.true)

pub returns-then-owner-font : goal.returns-then-owner-font
returns-then-owner-font c = sym (char_owner (record { owner = c.args.owner; orientation = c.args.orientation }) c.args.s.now c.args.at _ c.requires.0 c.requires.1 c.if-len-lt-CHARACTER_RECORD.false (λ e. omega arith))

pub returns-then-font-gt-LAST_FONT : goal.returns-then-font-gt-LAST_FONT
returns-then-font-gt-LAST_FONT c = sym (char_low (record { owner = c.args.owner; orientation = c.args.orientation }) c.args.s.now c.args.at _ c.requires.0 c.requires.1 c.if-len-lt-CHARACTER_RECORD.false (omega arith) (omega arith))

pub returns-then-code-gt-LAST_CODE : goal.returns-then-code-gt-LAST_CODE
returns-then-code-gt-LAST_CODE c = sym (char_code (record { owner = c.args.owner; orientation = c.args.orientation }) c.args.s.now c.args.at _ c.requires.0 c.requires.1 c.if-len-lt-CHARACTER_RECORD.false (omega arith) (omega arith) (omega arith))

pub returns-in-Whole : goal.returns-in-Whole
returns-in-Whole c =
    rw (c.le16-font.ensures.0, c.le16-code.ensures.0)
    (sym (char_kept (record { owner = c.args.owner; orientation = c.args.orientation }) c.args.s.now c.args.at _ c.requires.0 c.requires.1 c.if-len-lt-CHARACTER_RECORD.false (omega arith) (omega arith) (omega arith) Whole (sym c.held_at.ensures ∙ c.in-Whole.is) refl))

pub returns-in-Unfinished : goal.returns-in-Unfinished
returns-in-Unfinished c =
    rw (c.le16-font.ensures.0, c.le16-code.ensures.0)
    (sym (char_kept (record { owner = c.args.owner; orientation = c.args.orientation }) c.args.s.now c.args.at _ c.requires.0 c.requires.1 c.if-len-lt-CHARACTER_RECORD.false (omega arith) (omega arith) (omega arith) Unfinished (sym c.held_at.ensures ∙ c.in-Unfinished.is) refl))

pub returns-in-Foreign : goal.returns-in-Foreign
returns-in-Foreign c = sym (char_foreign (record { owner = c.args.owner; orientation = c.args.orientation }) c.args.s.now c.args.at _ c.requires.0 c.requires.1 c.if-len-lt-CHARACTER_RECORD.false (omega arith) (omega arith) (omega arith) (sym c.held_at.ensures ∙ c.in-Foreign.is))
