-- The records of a store by their keys.
use Rattle.std.specs.Prelude.{ℕ, ◌+◌, List, [], ◌∷◌, ◌++◌, Bool, cond, eqb, leb, ltb}
use Rattle.std.proofs.Math.Option.{Option, none, some}
use Rattle.form.specs.Layout.{key_of}
use Rattle.form.specs.Model.{Rec, Owner, owner_after, key}

-- the records that a test picks
unfoldable pub keep : (Rec → Bool) → List Rec → List Rec
keep t [] = []
keep t (r ∷ rs) = cond (t r) (r ∷ keep t rs) (keep t rs)

-- those with a key below k, and those from k on
abbrev pub below : ℕ → List Rec → List Rec
below k rs = keep (λ r. ltb (key r) k) rs

abbrev pub from : ℕ → List Rec → List Rec
from k rs = keep (λ r. leb k (key r)) rs

-- the records with keys from lo up to hi, without hi, give way to new ones
abbrev pub replaced : ℕ → ℕ → List Rec → List Rec → List Rec
replaced lo hi new rs = below lo rs ++ (new ++ from hi rs)

-- the font whose characters may stand behind these records
unfoldable pub after : Owner → List Rec → Owner
after u [] = u
after u (r ∷ rs) = after (owner_after u r) rs

-- the record with a key, if there is one
unfoldable pub find_record : ℕ → List Rec → Option Rec
find_record k [] = none
find_record k (r ∷ rs) = cond (eqb (key r) k) (some r) (find_record k rs)

-- the font of a number, and its character of a code, if they are there
abbrev pub font_at : ℕ → List Rec → Option Rec
font_at n rs = find_record (key_of n 0) rs

abbrev pub character_at : ℕ → ℕ → List Rec → Option Rec
character_at n c rs = find_record (key_of n (c + 1)) rs
