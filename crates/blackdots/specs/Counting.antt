-- For the code alone: black dots by the ones of bytes and by the runs of rows.
use Rattle.std.specs.Prelude.{ℕ, zero, suc, ◌+◌, ◌*◌, ◌-◌, ◌%◌, ◌^◌, ◌≤◌, List, length, drop, get_or, ◌≡◌, Bool, false}
use Rattle.std.specs.Int.Bits.{bit_and}
use Rattle.std.specs.Int.Count.{ones}
use Rattle.pictures.specs.Drawing.{whole, read_line, line_from}
use Rattle.blackdots.specs.Black.{black_in}
use Rattle.blackdots.specs.declared.ones.TwoWords.{TwoWords}
use Rattle.blackdots.specs.declared.ones.Tallied.{Tallied}

-- the ones among the pad lowest bits of the last byte of each of h rows of n bytes
unfoldable pub overhang : ℕ → ℕ → List ℕ → ℕ → ℕ
overhang n pad d zero = 0
overhang n pad d (suc h) = overhang n pad d h + ones (get_or d (h * n + (n - 1)) 0 % 2 ^ pad)

-- the ones of k bytes that stand n apart from a place on, masked
unfoldable pub ones_apart : ℕ → ℕ → List ℕ → ℕ → ℕ → ℕ
ones_apart n mask d at zero = 0
ones_apart n mask d at (suc k) = ones_apart n mask d at k + ones (bit_and (get_or d (at + k * n) 0) mask)

-- the ones of two numbers
unfoldable pub ones_of_two : TwoWords → ℕ
ones_of_two p = ones p.first + ones p.second

-- what ones by places, and eights of them, come to
unfoldable pub ones_said : Tallied → ℕ
ones_said t = ones_of_two t.ones + 2 * ones_of_two t.twos + 4 * ones_of_two t.fours + 8 * (t.eights.first + t.eights.second)

-- the white ones among eight runs of which the first is white, and the black ones
abbrev pub white_eight : List ℕ → ℕ
white_eight d = get_or d 0 0 + get_or d 2 0 + get_or d 4 0 + get_or d 6 0

abbrev pub black_eight : List ℕ → ℕ
black_eight d = get_or d 1 0 + get_or d 3 0 + get_or d 5 0 + get_or d 7 0

-- of a row of w dots whose runs stand first in src, those from `rest` on are left, of which the first is white: the row lacks so many dots there, and so many before are black
pub record CountedTo (w : ℕ) (src rest : List ℕ) (left black : ℕ) : Type 0 where
  pub at : ℕ
  pub dots : List Bool
  pub long : length dots + left ≡ w
  pub dark : black_in dots ≡ black
  pub less : black + left ≤ w
  pub line : read_line w dots false at rest ≡ line_from w src 0
  pub is : rest ≡ drop at src

-- the row of w dots whose runs stand first in src is whole, `rest` comes after it, and so many of its dots are black
pub record WholeLine (w : ℕ) (src rest : List ℕ) (black : ℕ) : Type 0 where
  pub dots : List Bool
  pub next : ℕ
  pub is : line_from w src 0 ≡ whole dots next
  pub dark : black_in dots ≡ black
  pub left : rest ≡ drop next src
