-- The fonts that a choice is made among. W-208: each with the store that holds it, the soft store or the cartridge; the one store of a choice counts as
-- soft.
use Rattle.std.specs.Prelude.{ℕ, Bool, true, false, List, [], ◌∷◌, ◌++◌}
use Rattle.form.specs.Fonts.{Font}

-- a font: whether the soft store holds it, else the cartridge; its number; its kept bytes
pub record Candidate : Type 0 where
  pub soft : Bool
  pub number : ℕ
  pub kept : List ℕ

abbrev pub candidate : Bool → Font → Candidate
candidate soft f = record { soft = soft; number = f.number; kept = f.kept }

-- the font, whichever store holds it
abbrev pub as_font : Candidate → Font
as_font x = record { number = x.number; kept = x.kept }

-- the fonts of one store
unfoldable pub candidates : Bool → List Font → List Candidate
candidates soft [] = []
candidates soft (f ∷ l) = candidate soft f ∷ candidates soft l

-- W-208: "for this call demand 3 ranges over the fonts of both": those a of the soft store, and those b of the cartridge
unfoldable pub of_both : List Font → List Font → List Candidate
of_both a b = candidates true a ++ candidates false b
