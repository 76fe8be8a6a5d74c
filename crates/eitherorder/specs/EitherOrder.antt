-- W-211: "Please establish: two calls out of the downloads and removals, on different font numbers, neither refused in either order, give in either order
-- the same answers and the same store bytes after the 12 of the first record. If neither is a character block, those 12 are the same as well."
use Rattle.std.specs.Prelude.{ℕ, ◌≡◌, List, [], ◌∷◌, take, drop, get_or}
use Rattle.marlinfold.specs.Calls.{Call, download_font, download_character, remove_font, remove_character, outcome, leaves, answer, ran}

-- "out of the downloads and removals": the four calls, on font number n
pub data Prepares (n : ℕ) : Call → Type 0 where
  by_font_block : (b : List ℕ) → Prepares n (download_font n b)
  by_character_block : (c : ℕ) (b : List ℕ) → Prepares n (download_character n c b)
  by_font_removal : Prepares n (remove_font n)
  by_character_removal : (c : ℕ) → Prepares n (remove_character n c)

-- "a character block": a first block or a continuation
abbrev pub IsCharacterBlock : Call → Type 0
IsCharacterBlock x = (n : ℕ) × (c : ℕ) × (b : List ℕ) × (x ≡ download_character n c b)

-- neither is refused, the call x first and y after it, on the buffer s
abbrev pub BothDone : Call → Call → List ℕ → Type 0
BothDone x y s = ((outcome x s).refusal ≡ 0) × ((outcome y (leaves x s)).refusal ≡ 0)

-- "the 12 of the first record"
abbrev pub first_record_bytes : ℕ
first_record_bytes = 12

-- what x and y give in either order
pub record SameEitherWay (x y : Call) (s : List ℕ) : Type 0 where
  -- "the same answers": all numbers of each call, whether it comes first or second
  pub first_answer : answer x s ≡ answer x (leaves y s)
  pub second_answer : answer y (leaves x s) ≡ answer y s
  -- "the same store bytes after the 12 of the first record"
  pub records : drop first_record_bytes (ran (x ∷ y ∷ []) s) ≡ drop first_record_bytes (ran (y ∷ x ∷ []) s)
  -- "If neither is a character block, those 12 are the same as well." They are the same also if only one of the two is: either order leaves the mark that
  -- it sets.
  pub mark :
      (IsCharacterBlock x → IsCharacterBlock y → ⊥)
      → take first_record_bytes (ran (x ∷ y ∷ []) s) ≡ take first_record_bytes (ran (y ∷ x ∷ []) s)

-- the claim: for every buffer
abbrev pub EitherOrder : Type 0
EitherOrder =
    (n m : ℕ) (x y : Call)
    → Prepares n x → Prepares m y
    → (n ≡ m → ⊥)
    → (s : List ℕ) → BothDone x y s
    → BothDone y x s
    → SameEitherWay x y s

-- A continuation ("byte 1 not zero") is never done right after an accepted character block for another font, which opens its own character or leaves none
-- open. So of two character blocks that are done in either order both are first blocks.
abbrev pub ContinuationAlone : Type 0
ContinuationAlone =
    (n m c k : ℕ) (b d s : List ℕ) → (n ≡ m → ⊥)
    → (get_or b 1 0 ≡ 0 → ⊥)
    → BothDone (download_character m k d) (download_character n c b) s → ⊥
