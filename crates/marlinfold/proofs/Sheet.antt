-- A sheet answers as single choices do. Assumes nothing.
use Prim.Native.Nat.{ℕ, zero, suc, ◌+◌, ◌*◌}
use mathlib.Core.Path.{◌≡◌, refl, ap, ◌∙◌}
use mathlib.Core.List.{List, [], ◌∷◌}
use native.Mathlib.Omega.{arith}
use lib.ListN.{get_or}
use Rattle.sheet.specs.Sheet.{answer_of}
use Rattle.sheet.specs.declared.SheetAnswer.{SheetAnswer}
use Rattle.sheet.proofs.Sheet.{entry_is}
use Rattle.marlinfold.specs.Calls.{answer_numbers}
use Rattle.marlinfold.specs.Demands.{SheetBySingles}

abbrev none : SheetAnswer
none = record { font = 0; refusal = 0 }

numbers_at : (l : List SheetAnswer) (i : ℕ) → (get_or (answer_numbers l) (2 * i) 0 ≡ (get_or l i none).font) × (get_or (answer_numbers l) (2 * i + 1) 0 ≡ (get_or l i none).refusal)
unfolding answer_numbers
numbers_at [] i = (refl, refl)
numbers_at (a ∷ l) zero = (refl, refl)
numbers_at (a ∷ l) (suc i) =
    let h = numbers_at l i in
    let e : 2 * suc i ≡ suc (suc (2 * i)) = omega arith in
    let k : 2 * suc i + 1 ≡ suc (suc (2 * i + 1)) = omega arith in
    (ap (λ (j : ℕ). get_or (answer_numbers (a ∷ l)) j 0) e ∙ h.0, ap (λ (j : ℕ). get_or (answer_numbers (a ∷ l)) j 0) k ∙ h.1)

pub sheet_by_singles : SheetBySingles
unfolding answer_of
sheet_by_singles rs out s q i d l =
    let h = numbers_at _ i in
    let e = entry_is s rs out q i d none l in
    (h.0 ∙ ap (λ (a : SheetAnswer). a.font) e, h.1 ∙ ap (λ (a : SheetAnswer). a.refusal) e)
