-- W-210: "over up to 64 stores handed in one by one", "in any order of handing in": which of the buffers that are handed in are stores, and their order.
use Rattle.std.specs.Prelude.{ℕ, List, [], ◌∷◌, Bool, true, false}
use Rattle.form.specs.Num.{Bytes}
use Rattle.form.specs.Records.{is_store}

unfoldable pub store_before : Bool → List ℕ → List (List ℕ) → List (List ℕ)
store_before true s ss = s ∷ ss
store_before false s ss = ss

-- those of the buffers that are stores
unfoldable pub stores_among : List (List ℕ) → List (List ℕ)
stores_among [] = []
stores_among (s ∷ ss) = store_before (is_store s) s (stores_among ss)

-- each is a list of bytes
abbrev pub AllBytes : List (List ℕ) → Type 0
AllBytes [] = Unit {0}
AllBytes (s ∷ ss) = Bytes s × AllBytes ss

-- the same buffers in another order: two neighbours the other way round, any number of times
pub data Rearranged : List (List ℕ) → List (List ℕ) → Type 0 where
  same : (ss : List (List ℕ)) → Rearranged ss ss
  later : (s : List ℕ) (ss ts : List (List ℕ)) → Rearranged ss ts → Rearranged (s ∷ ss) (s ∷ ts)
  swapped : (s t : List ℕ) (ss : List (List ℕ)) → Rearranged (s ∷ t ∷ ss) (t ∷ s ∷ ss)
  and_then : (ss ts us : List (List ℕ)) → Rearranged ss ts → Rearranged ts us → Rearranged ss us
