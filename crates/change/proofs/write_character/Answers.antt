use mathlib.Core.Path.{◌≡◌, ap, ◌∙◌}
use mathlib.Core.List.{List}
use Prim.Native.Nat.{ℕ, ◌+◌, ◌-◌}
use lib.ListN.{length, take, drop, length-take, length-drop}
use Rattle.blocks.specs.Character.{kept_first, descriptor_bytes}
use Rattle.blocks.proofs.KeptFirst.{kept_length}
use Rattle.form.specs.Layout.{character_kept_at, character_record}
use Rattle.form.specs.Model.{character_head}
use Rattle.change.specs.Put.{with_bytes}
use Rattle.change.proofs.Written.{char_put}
use native.Mathlib.Omega.{arith}
use Rattle.change.proofs.write_character.Goals as goal

pub returns : goal.returns
returns c =
    let a = c.args in
    let b = a.block.now in
    let d = take a.n (drop descriptor_bytes b) in
    let e : descriptor_bytes + a.n - descriptor_bytes ≡ a.n = omega arith in
    let l : length d ≡ a.n = simp (length-take, length-drop) (omega (arith, c.requires.1)) in
    let h : length (kept_first b) ≡ descriptor_bytes = kept_length b (omega (arith, c.requires.1)) in
    let q : with_bytes (with_bytes (with_bytes a.s.now a.at (character_head (character_record + length d) a.id.font a.id.code)) (a.at + character_kept_at) (kept_first b)) (a.at + character_record) d ≡ _ = char_put a.s.now a.at a.id.font a.id.code (kept_first b) d h (omega (arith, l, c.requires.0)) in
    c.copy.ensures ∙ ap (λ (k : ℕ). with_bytes c.write_descriptor.new.s (a.at + character_record) (take k (drop descriptor_bytes b))) e
    ∙ ap (λ (x : List ℕ). with_bytes x (a.at + character_record) d) (c.write_descriptor.ensures ∙ ap (λ (x : List ℕ). with_bytes x (a.at + character_kept_at) (kept_first b)) c.write_head.ensures)
    ∙ rw l at q
