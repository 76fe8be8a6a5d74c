use mathlib.Core.Path.{sym}
use Rattle.form.proofs.Walks.{differ, pass_low, pass_untrue, pass_font, pass_character}
use native.Mathlib.Omega.{arith}
use Rattle.form.proofs.walk.pass.Goals as goal

pub returns-then-key-p : goal.returns-then-key-p
returns-then-key-p c = sym (pass_low _ _ _ _ c.if-key-p.true)

pub returns-then-ne : goal.returns-then-ne
returns-then-ne c = sym (pass_untrue _ _ _ _ c.if-key-p.false c.if-i-eq0.true (rw c.if-ne.true at (differ c.args.p.held c.args.p.met _ c.ne.ensures)))

pub overflow_add-result : goal.overflow_add-result
overflow_add-result c =
    let p = c.requires.font_le_last_font in omega (arith, p.0, p.1, p.2, p.3.at, p.3.characters, p.3.bytes)

pub overflow_add-result-then-i-eq0 : goal.overflow_add-result-then-i-eq0
overflow_add-result-then-i-eq0 c =
    let p = c.requires.font_le_last_font in omega (arith, p.0, p.1, p.2, p.3.at, p.3.characters, p.3.bytes)

pub overflow_add-result-then-i-eq0-2 : goal.overflow_add-result-then-i-eq0-2
overflow_add-result-then-i-eq0-2 c =
    let p = c.requires.font_le_last_font in omega (arith, p.0, p.1, p.2, p.3.at, p.3.characters, p.3.bytes)

pub returns-then-i-eq0 : goal.returns-then-i-eq0
returns-then-i-eq0 c = rw c.nearer_font.ensures (sym (pass_font _ _ _ _ c.if-key-p.false c.if-i-eq0.true (rw c.if-ne.false at (differ c.args.p.held c.args.p.met _ c.ne.ensures))))

pub overflow_add-result-2 : goal.overflow_add-result-2
overflow_add-result-2 c =
    let p = c.requires.font_le_last_font in omega (arith, p.0, p.1, p.2, p.3.at, p.3.characters, p.3.bytes)

pub overflow_add-result-3 : goal.overflow_add-result-3
overflow_add-result-3 c =
    let p = c.requires.font_le_last_font in omega (arith, p.0, p.1, p.2, p.3.at, p.3.characters, p.3.bytes)

pub overflow_add-result-4 : goal.overflow_add-result-4
overflow_add-result-4 c =
    let p = c.requires.font_le_last_font in omega (arith, p.0, p.1, p.2, p.3.at, p.3.characters, p.3.bytes)

pub overflow_add-result-5 : goal.overflow_add-result-5
overflow_add-result-5 c =
    let p = c.requires.font_le_last_font in omega (arith, p.0, p.1, p.2, p.3.at, p.3.characters, p.3.bytes)

pub overflow_sub-result : goal.overflow_sub-result
overflow_sub-result c = omega (arith, c.requires.character_record_le_len c.if-i-eq0.false)

pub overflow_add-result-6 : goal.overflow_add-result-6
overflow_add-result-6 c =
    let p = c.requires.font_le_last_font in omega (arith, p.0, p.1, p.2, p.3.at, p.3.characters, p.3.bytes)

pub returns : goal.returns
returns c = sym (pass_character _ _ _ _ c.if-key-p.false c.if-i-eq0.false)
