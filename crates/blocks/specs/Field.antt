-- The fields of a block: a byte, a 16-bit number with the high byte first, and the tests on them.
use Rattle.std.specs.Prelude.{ℕ, ◌+◌, ◌*◌, ◌/◌, ◌%◌, ◌^◌, List, Bool, ◌&&◌, cond, get_or, set, leb, ltb, eqb, ℤ, pos}
use Rattle.std.proofs.Math.IntN.{sub_ℕ}
use Rattle.std.specs.Int.Signed.{le_z, lt_z}

-- the byte at a place
abbrev pub byte : List ℕ → ℕ → ℕ
byte b at = get_or b at 0

-- two bytes, the high one first
abbrev pub high_low : ℕ → ℕ → ℕ
high_low high low = high * 256 + low

-- the 16-bit number at a place
abbrev pub word : List ℕ → ℕ → ℕ
word b at = high_low (byte b at) (byte b (at + 1))

-- the 16-bit number at a place is v, byte by byte
abbrev pub is_word : ℕ → ℕ → List ℕ → Bool
is_word at v b = eqb (byte b at) (v / 256) && eqb (byte b (at + 1)) (v % 256)

-- a field of w bits, read as a two's complement number
unfoldable pub signed : ℕ → ℕ → ℤ
signed w n = cond (ltb n (2 ^ w / 2)) (pos n) (sub_ℕ n (2 ^ w))

-- a field of w bits that is, as a signed number, -m up to m
unfoldable pub signed_within : ℕ → ℕ → ℕ → Bool
signed_within w m n = le_z (sub_ℕ 0 m) (signed w n) && le_z (signed w n) (pos m)

-- a field of w bits that is, as a signed number, below 0
unfoldable pub negative : ℕ → ℕ → Bool
negative w n = lt_z (signed w n) (pos 0)

-- a 16-bit number put at a place, the high byte first
abbrev pub put_word : ℕ → ℕ → List ℕ → List ℕ
put_word at v b = set (set b at (v / 256)) (at + 1) (v % 256)

-- the 16-bit number at a place with its extended byte: made the limit and 0 if the number is above the limit
abbrev pub cap_extended : ℕ → ℕ → ℕ → List ℕ → List ℕ
cap_extended at extended limit b = cond (leb (word b at) limit) b (set (put_word at limit b) extended 0)

-- the 16-bit number at a place, made 0 if it is negative as a signed number
abbrev pub floor_word : ℕ → List ℕ → List ℕ
floor_word at b = cond (negative 16 (word b at)) (put_word at 0 b) b
