use mathlib.Core.Path.{◌≡◌, sym, ap₂, ◌∙◌}
use mathlib.Core.Bool.{Bool, true, false, ◌&&◌}
use lib.ListN.{drop, length-drop}
use Rattle.form.specs.Layout.{most_store}
use Rattle.form.specs.Num.{all_zero}
use Rattle.form.specs.Model.{same_tally}
use Rattle.form.specs.Walk.{head_of, standing, walk_after, Ahead}
use Rattle.form.specs.declared.walk.Head.TheVariants.{Rec as HeadRec}
use Rattle.form.proofs.Walks.{alike, walked_end, walked_bad, walked_pass, ahead_pass, looked_item, within_more}
use native.Mathlib.Omega.{arith}
use Rattle.form.proofs.walk.walk_one.Goals as goal

pub pass-requires : goal.pass-requires
pass-requires c =
    let a = c.args in
    let i = c.in-Rec.i in
    let e : head_of (standing a.p) (drop a.p.at a.s.now) ≡ HeadRec i = sym c.look.ensures ∙ c.in-Rec.is in
    let k = looked_item (standing a.p) (drop a.p.at a.s.now) i e in record { font_le_last_font = (k.0, k.1, omega (arith, k.3, length-drop a.p.at a.s.now, c.requires.0), within_more _ most_store a.p c.requires.1 c.requires.0); character_record_le_len = λ f. k.2 }

pub returns-then-eq-zeros : goal.returns-then-eq-zeros
unfolding walk_after Ahead
returns-then-eq-zeros c =
    let a = c.args in
    let t = drop a.p.at a.s.now in
    let z : (same_tally a.p.held a.p.met && all_zero t) ≡ true = ap₂ (λ (x y : Bool). x && y) (sym (alike a.p.held a.p.met _ c.eq.ensures)) (sym c.zeros.ensures) ∙ c.if-eq-zeros.true in
    (sym (walked_end a.font a.mark a.p t (sym c.look.ensures ∙ c.in-End.is) ∙ rw z), tt)

pub returns-else-eq-zeros : goal.returns-else-eq-zeros
unfolding walk_after Ahead
returns-else-eq-zeros c =
    let a = c.args in
    let t = drop a.p.at a.s.now in
    let z : (same_tally a.p.held a.p.met && all_zero t) ≡ false = ap₂ (λ (x y : Bool). x && y) (sym (alike a.p.held a.p.met _ c.eq.ensures)) (sym c.zeros.ensures) ∙ c.if-eq-zeros.false in
    (sym (walked_end a.font a.mark a.p t (sym c.look.ensures ∙ c.in-End.is) ∙ rw z), tt)

pub returns-in-Rec : goal.returns-in-Rec
returns-in-Rec c =
    let a = c.args in
    let i = c.in-Rec.i in
    let e : head_of (standing a.p) (drop a.p.at a.s.now) ≡ HeadRec i = sym c.look.ensures ∙ c.in-Rec.is in
    rw c.pass.ensures (walked_pass a.font a.mark a.p i a.s.now e, ahead_pass a.font a.mark a.p i a.s.now e c.requires.1)

pub returns-in-Bad : goal.returns-in-Bad
unfolding walk_after Ahead
returns-in-Bad c =
    let a = c.args in
    (sym (walked_bad a.font a.mark a.p (drop a.p.at a.s.now) (sym c.look.ensures ∙ c.in-Bad.is)), tt)
