-- For the code alone: how the quarter turns are made, by blocks of eight by eight dots, each eight bytes in one number, the first byte highest.
use Rattle.std.specs.Prelude.{ℕ, zero, suc, ◌+◌, ◌*◌, ◌-◌, ◌/◌, ◌%◌, ◌^◌, ◌<◌, ◌≤◌, ◌≡◌, List, Bool, not, cond, eqb, ltb, get_or}
use Rattle.std.specs.Int.Bits.{bit_and, bit_or}
use Rattle.turning.specs.Turn.{turned}

-- the place i of n, counted from the other end where `back` says so
abbrev pub flipped : Bool → ℕ → ℕ → ℕ
flipped back n i = cond back (n - 1 - i) i

-- dot j of byte i of a block
abbrev pub block_dot : ℕ → ℕ → ℕ → Bool
block_dot x i j = eqb (x / 2 ^ (63 - (i * 8 + j)) % 2) 1

-- byte i of a block
abbrev pub block_byte : ℕ → ℕ → ℕ
block_byte x i = x / 2 ^ (56 - i * 8) % 256

-- the bits of `stay` keep their place, those of `up` move up by so many, and as many above them move down
unfoldable pub swapped : ℕ → ℕ → ℕ → ℕ → ℕ
swapped x stay up by = bit_or (bit_or (bit_and x stay) (bit_and x up * 2 ^ by % 2 ^ 64)) (bit_and (x / 2 ^ by) up)

-- k bytes in one number
unfoldable pub join_bytes : ℕ → (ℕ → ℕ) → ℕ
join_bytes zero f = 0
join_bytes (suc k) f = join_bytes k f * 256 + f k

-- byte `at` of a row of n bytes, the rows counted from the bottom where `up` says so; white where there is no such row
unfoldable pub column_byte : List ℕ → ℕ → ℕ → Bool → ℕ → ℕ → ℕ
column_byte s n h up at row = cond (ltb row h) (get_or s (flipped up h row * n + at) 0) 0

-- the first k bytes of a block x stand at place `at` of the rows, m bytes each, that come of the columns from `first` on;
-- the rows of the columns before are as they were, and the other places
pub record Put (x m w : ℕ) (up : Bool) (at first k : ℕ) (before out : List ℕ) : Type 0 where
  pub written : (c : ℕ) → first ≤ c → c < first + k → c < w → get_or out (flipped (not up) w c * m + at) 0 ≡ block_byte x (c - first)
  pub above : (c q : ℕ) → c < first → c < w → q < m → get_or out (flipped (not up) w c * m + q) 0 ≡ get_or before (flipped (not up) w c * m + q) 0
  pub beside : (c q : ℕ) → (q ≡ at → ⊥) → c < w → q < m → get_or out (flipped (not up) w c * m + q) 0 ≡ get_or before (flipped (not up) w c * m + q) 0

-- a picture that is turned by a quarter, or by three where not `up`, has in the output what comes of its first `done` columns
abbrev pub TurnedUpTo : Bool → ℕ → ℕ → ℕ → List ℕ → ℕ → List ℕ → Type 0
TurnedUpTo up w h m s done out = (c q : ℕ) → c < w → q < m → c < done
    → get_or out (flipped (not up) w c * m + q) 0 ≡ get_or (turned (cond up 1 3) w h s) (flipped (not up) w c * m + q) 0
