-- Numbers as bytes, low byte first, and bytes that are all 0.
use Rattle.std.specs.Prelude.{ℕ, zero, suc, ◌+◌, ◌*◌, ◌/◌, ◌%◌, ◌<◌, List, [], ◌∷◌, Bool, true, false, get_or, take, drop, eqb}

infixr 35 ◌and◌
-- both tests. It is the library's `◌&&◌`, but stays folded, so that a law can name its two sides.
unfoldable pub ◌and◌ : Bool → Bool → Bool
true and b = b
false and b = false

-- two bytes spell the numbers below this one
abbrev pub word_end : ℕ
word_end = 65536

-- and four bytes those below this one
abbrev pub double_end : ℕ
double_end = word_end * word_end

-- the number that bytes spell
unfoldable pub num : List ℕ → ℕ
num [] = 0
num (b ∷ s) = b + 256 * num s

-- the k bytes of n
unfoldable pub low_first : ℕ → ℕ → List ℕ
low_first zero n = []
low_first (suc k) n = n % 256 ∷ low_first k (n / 256)

-- the number in the k bytes from i
abbrev pub field : ℕ → ℕ → List ℕ → ℕ
field k i s = num (take k (drop i s))

unfoldable pub all_zero : List ℕ → Bool
all_zero [] = true
all_zero (b ∷ s) = eqb b 0 and all_zero s

-- each element is a byte: what a slice of u8 always gives
abbrev pub Bytes : List ℕ → Type 0
Bytes s = (i : ℕ) → get_or s i 0 < 256
