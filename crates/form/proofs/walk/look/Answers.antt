use mathlib.Core.Path.{sym}
use Rattle.form.proofs.Heads.{look_short, look_zero, look_long, look_other}
use native.Mathlib.Omega.{arith}
use Rattle.form.proofs.walk.look.Goals as goal

pub returns-then-left-lt-CHARACTER_RECORD : goal.returns-then-left-lt-CHARACTER_RECORD
returns-then-left-lt-CHARACTER_RECORD c = sym (look_short _ c.args.s.now c.args.at (omega arith))

pub returns-then-len-eq0 : goal.returns-then-len-eq0
returns-then-len-eq0 c = sym (look_zero _ c.args.s.now c.args.at (omega arith))

pub returns-then-left-len : goal.returns-then-left-len
returns-then-left-len c = sym (look_long _ c.args.s.now c.args.at (omega arith) (λ e. omega arith) (omega arith))

pub look_font-requires : goal.look_font-requires
look_font-requires c = (record { is = omega arith; some = omega arith; room = omega arith; fits = omega arith }, omega arith)

pub returns-then-kind-eq-FONT_KIND : goal.returns-then-kind-eq-FONT_KIND
returns-then-kind-eq-FONT_KIND c = c.look_font.ensures _

pub look_character-requires : goal.look_character-requires
look_character-requires c = (record { is = omega arith; some = omega arith; room = omega arith; fits = omega arith }, omega arith)

pub returns : goal.returns
returns c = sym (look_other _ c.args.s.now c.args.at (omega arith) (λ e. omega arith) (λ e. omega arith) (λ e. omega arith))
