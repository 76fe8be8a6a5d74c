-- W-203, "Labels on a turned page": a drawn picture turned clockwise by a quarter (1), a half (2) or three quarters (3).
use Rattle.std.specs.Prelude.{ℕ, zero, suc, ◌*◌, ◌<◌, ◌≤◌, ◌≡◌, List, [], ◌∷◌, ◌++◌, map, reverse, Bool, false, ◌&&◌, cond, leb, eqb, length, get_or, drop, take}
use Rattle.pictures.specs.Size.{within, side_limit, row_size, picture_size}
use Rattle.pictures.specs.Dots.{pack, unpack}
use Rattle.pictures.specs.Rows.{bitmap_row}

-- n things, each by its place from 0
unfoldable pub each : {A : Type 0} → ℕ → (ℕ → A) → List A
each zero f = []
each (suc n) f = f 0 ∷ each n (λ (i : ℕ). f (suc i))

-- a picture's h rows from the top, each its w dots from the left; bits beyond the width and bytes beyond the rows are not looked at
unfoldable pub picture_rows : ℕ → ℕ → List ℕ → List (List Bool)
picture_rows w h s = each h (bitmap_row w s)

-- the columns of rows w dots wide, from the left, each its dots from the top
unfoldable pub column_of : List (List Bool) → ℕ → List Bool
column_of rows c = map (λ (row : List Bool). get_or row c false) rows

unfoldable pub columns : ℕ → List (List Bool) → List (List Bool)
columns w rows = each w (column_of rows)

-- "turned by a quarter, a half or three quarters, clockwise": the rows of the result are
-- of a quarter, the columns from the left, each read from the bottom;
-- of a half, the rows from the bottom, each read from the right;
-- of three quarters, the columns from the right, each read from the top
unfoldable pub turn_rows : ℕ → ℕ → List (List Bool) → List (List Bool)
turn_rows t w rows =
    cond (eqb t 1) (map reverse (columns w rows))
    (cond (eqb t 2) (reverse (map reverse rows))
    (reverse (columns w rows)))

-- the bytes of rows, n to a row. "Padding in the result is white": a row has no dots there, and missing dots are white.
unfoldable pub pack_rows : ℕ → List (List Bool) → List ℕ
pack_rows n [] = []
pack_rows n (ds ∷ rows) = pack n ds ++ pack_rows n rows

-- the sides of the result: a half turn keeps them
abbrev pub turned_width : ℕ → ℕ → ℕ → ℕ
turned_width t w h = cond (eqb t 2) w h

abbrev pub turned_height : ℕ → ℕ → ℕ → ℕ
turned_height t w h = cond (eqb t 2) h w

abbrev pub turned_size : ℕ → ℕ → ℕ → ℕ
turned_size t w h = picture_size (turned_width t w h) (turned_height t w h)

-- the bytes of a picture w dots wide and h rows high, turned by t quarters
unfoldable pub turned : ℕ → ℕ → ℕ → List ℕ → List ℕ
turned t w h s = pack_rows (row_size (turned_width t w h)) (turn_rows t w (picture_rows w h s))

-- its width, height and bytes
abbrev pub is_picture : ℕ → ℕ → ℕ → Bool
is_picture w h size = within 1 side_limit w && (within 1 side_limit h && leb (picture_size w h) size)

-- "2 for a turn not 1 to 3, a width or height not 1 to 16,384, or a picture with too few bytes"
unfoldable pub turnable : ℕ → ℕ → ℕ → ℕ → Bool
turnable t w h size = within 1 3 t && is_picture w h size

-- what the call answers, and the output afterwards
pub record Turning : Type 0 where
  pub answer : ℕ
  pub bytes : List ℕ

-- a refusal leaves the output as it was
abbrev pub unturned : List ℕ → ℕ → Turning
unturned out k = record { answer = k; bytes = out }

-- "Refusals: 2 ..; then 12 for a short output." Bytes behind the turned picture stay as they were.
unfoldable pub turning_picture : ℕ → ℕ → ℕ → List ℕ → List ℕ → Turning
turning_picture t w h s out =
    cond (turnable t w h (length s))
    (cond (leb (turned_size t w h) (length out))
    (record { answer = 0; bytes = turned t w h s ++ drop (turned_size t w h) out })
    (unturned out 12))
    (unturned out 2)

-- ---- claims
-- "a picture with white padding": just its bytes, and no dot beyond the width is black
pub record WhitePadding (w h : ℕ) (s : List ℕ) : Type 0 where
  pub size : length s ≡ picture_size w h
  pub bytes : (i : ℕ) → get_or s i 0 < 256
  pub padding : (r c : ℕ) → r < h → w ≤ c → c < row_size w * 8 → get_or (unpack (drop (r * row_size w) s)) c false ≡ false

-- a call that is done and has made p of the picture s
pub record TurnsInto (t w h : ℕ) (s p : List ℕ) : Type 0 where
  pub out : List ℕ
  pub done : (turning_picture t w h s out).answer ≡ 0
  pub made : p ≡ (turning_picture t w h s out).bytes

-- "Turning a picture with white padding four times by a quarter gives it back, every byte."
abbrev pub FourQuarters : Type 0
FourQuarters = (w h : ℕ) (s p₁ p₂ p₃ p₄ : List ℕ) → WhitePadding w h s
    → TurnsInto 1 w h s p₁ → TurnsInto 1 h w p₁ p₂ → TurnsInto 1 w h p₂ p₃ → TurnsInto 1 h w p₃ p₄ → take (picture_size w h) p₄ ≡ s

-- two quarters are a half
abbrev pub TwoQuarters : Type 0
TwoQuarters = (w h : ℕ) (s p₁ p₂ p : List ℕ) → TurnsInto 1 w h s p₁ → TurnsInto 1 h w p₁ p₂ → TurnsInto 2 w h s p → take (picture_size w h) p₂ ≡ take (picture_size w h) p

-- a quarter and three quarters, in either order, are none
abbrev pub QuarterAndThree : Type 0
QuarterAndThree = (w h : ℕ) (s p₁ p₂ : List ℕ) → WhitePadding w h s
    → (TurnsInto 1 w h s p₁ → TurnsInto 3 h w p₁ p₂ → take (picture_size w h) p₂ ≡ s) × (TurnsInto 3 w h s p₁ → TurnsInto 1 h w p₁ p₂ → take (picture_size w h) p₂ ≡ s)
