-- What is to hold of the choice, for any fonts of which no two of one store have one number. W-208: a font is the pair of store and number.
use Rattle.std.specs.Prelude.{◌≡◌, ℕ, Bool, false, ◌⊎◌, ◌↔◌, List, Err, ◌≢◌}
use Rattle.choice.specs.Candidates.{Candidate}
use Rattle.choice.specs.Lists.{In}
use Rattle.choice.specs.Steps.{takes_part, Beats, Choice, chosen, choice}
use Rattle.choice.specs.declared.Request.{Request}
use Rattle.refusals.specs.declared.Refused.TheVariants.{NoneToChoose}

-- no two of the fonts of one store have one number
abbrev pub Keyed : List Candidate → Type 0
Keyed l = (x y : Candidate) → In x l → In y l → x.soft ≡ y.soft → x.number ≡ y.number → x ≡ y

-- another font
abbrev pub Other : Candidate → Candidate → Type 0
Other x y = x ≡ y → ⊥

-- none of the fonts of a store has the number n
abbrev pub Unused : Bool → ℕ → List Candidate → Type 0
Unused p n l = (x : Candidate) → In x l → x.soft ≡ p → x.number ≢ n

-- no other of the fonts l beats b
abbrev pub Unbeaten : Request → List Candidate → Candidate → Type 0
Unbeaten r l b = (d : Candidate) → In d l → Other d b → Beats r d b → ⊥

-- the font c is one of l, beats every other of l, and is the only one that no other beats
pub record Best (r : Request) (l : List Candidate) (c : Candidate) : Type 0 where
  pub one : In c l
  pub wins : (b : Candidate) → In b l → Other b c → Beats r c b
  pub unbeaten : Unbeaten r l c
  pub only : (b : Candidate) → In b l → Unbeaten r l b → b ≡ c

-- the answer a to the request r is right for the fonts l: it is 11, or names the best; and it is 11 exactly if none takes part
pub record Right (r : Request) (l : List Candidate) (a : Choice) : Type 0 where
  pub named : (a ≡ Err NoneToChoose) ⊎ ((c : Candidate) × (a ≡ chosen c.soft c.number) × Best r l c)
  pub refused : (a ≡ Err NoneToChoose) ↔ ((x : Candidate) → In x l → takes_part r x ≡ false)

-- k holds the fonts of l, in whatever order; those but number n of a store; those and f
abbrev pub Reordered : List Candidate → List Candidate → Type 0
Reordered l k = (x : Candidate) → In x k ↔ In x l

abbrev pub Without : Bool → ℕ → List Candidate → List Candidate → Type 0
Without p n l k = (x : Candidate) → In x k ↔ (In x l × (x.soft ≡ p → x.number ≢ n))

abbrev pub With : Candidate → List Candidate → List Candidate → Type 0
With f l k = (x : Candidate) → In x k ↔ ((x ≡ f) ⊎ In x l)

-- what holds of the choice among the fonts l, and among those of a list k that differs in one font
pub record Lawful (r : Request) (l : List Candidate) : Type 0 where
  pub right : Right r l (choice r l)
  -- the order of the fonts says nothing
  pub reordered : (k : List Candidate) → Reordered l k → choice r k ≡ choice r l
  -- a font that was not chosen goes: the choice stands
  pub removed : (p : Bool) (n : ℕ) (k : List Candidate) → Without p n l k → (choice r l ≢ chosen p n) → choice r k ≡ choice r l
  -- a font comes under an unused number: the choice stands or is the new font
  pub added :
      (f : Candidate) (k : List Candidate) → With f l k → Unused f.soft f.number l
      → (choice r k ≡ choice r l) ⊎ (choice r k ≡ chosen f.soft f.number)

-- the claim
abbrev pub Claim : Type 0
Claim = (r : Request) (l : List Candidate) → Keyed l → Lawful r l
