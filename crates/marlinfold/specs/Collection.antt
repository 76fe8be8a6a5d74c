-- W-210, "Figures for the collection": what the calls make of the figures, by what the calls that tell and draw answer of the characters.
use Rattle.std.specs.Prelude.{ℕ, zero, suc, ◌+◌, ◌*◌, ◌-◌, ◌/◌, ◌<◌, ◌≤◌, ◌≡◌, ◌⊎◌, ◌↔◌, List, [], ◌∷◌, ◌++◌, map, Bool, true, false, eqb, length, take, drop, replicate}
use Rattle.std.specs.Int.Count.{ones}
use Rattle.blocks.specs.Character.{width, delta_x}
use Rattle.form.specs.Num.{field, Bytes}
use Rattle.form.specs.Records.{is_store}
use Rattle.choice.specs.Lists.{In}
use Rattle.collection.specs.Handed.{stores_among, AllBytes, Rearranged}
use Rattle.marlinfold.specs.Calls.{download_character, tell_character, draw_picture, add_figures, outcome}
use Rattle.marlinfold.specs.Trials.{A, store_after}

-- ── the figures' bytes: "the stores so far, then for codes 0 to 255 these seven in order, 8 bytes each, low byte first"
abbrev pub stores_so_far : List ℕ → ℕ
stores_so_far b = field 8 0 b

-- the seven of code c: "how many characters there are, the total of black dots, the least and greatest width, the sum of delta X, and the mean delta X as
-- quotient and remainder"
abbrev pub figure_number : ℕ → ℕ → List ℕ → ℕ
figure_number c i b = field 8 (8 + c * 56 + 8 * i) b

abbrev pub code_part : ℕ → List ℕ → List ℕ
code_part c b = take 56 (drop (8 + c * 56) b)

-- "They stand in 14,344 lent bytes, zero at the start"
abbrev pub figures_length : ℕ
figures_length = 14344

abbrev pub no_figures : List ℕ
no_figures = replicate figures_length 0

-- ── characters, as they are told and drawn
pub record Seen : Type 0 where
  -- the 16 kept bytes
  pub told : List ℕ
  -- the picture, in an output of zeros that has room for any
  pub drawn : List ℕ

-- the character of code c of font n of the store s
abbrev pub seen_at : List ℕ → ℕ → ℕ → Seen
seen_at s n c = record { told = (outcome (tell_character n c (replicate 16 0)) s).out; drawn = (outcome (draw_picture n c (replicate 32768 0)) s).out }

unfoldable pub seen_before : Bool → Seen → List Seen → List Seen
seen_before true x l = x ∷ l
seen_before false x l = l

-- those with code c of m fonts from number n on: all that telling finds
unfoldable pub seen_from : List ℕ → ℕ → ℕ → ℕ → List Seen
seen_from s c n zero = []
seen_from s c n (suc m) = seen_before (eqb (outcome (tell_character n c (replicate 16 0)) s).refusal 0) (seen_at s n c) (seen_from s c (n + 1) m)

-- those with code c in a store, of the fonts 0 to 32767, and in several
abbrev pub seen_in : ℕ → List ℕ → List Seen
seen_in c s = seen_from s c 0 32768

unfoldable pub seen_in_all : ℕ → List (List ℕ) → List Seen
seen_in_all c [] = []
seen_in_all c (s ∷ ss) = seen_in c s ++ seen_in_all c ss

-- ── what characters add to the numbers of their code
unfoldable pub sum_of : List ℕ → ℕ
sum_of [] = 0
sum_of (x ∷ l) = x + sum_of l

abbrev pub black_of : Seen → ℕ
black_of x = sum_of (map ones x.drawn)

abbrev pub width_of : Seen → ℕ
width_of x = width x.told

abbrev pub delta_of : Seen → ℕ
delta_of x = delta_x x.told

-- "a least width of 0 handed in counts as none", and so does a greatest
unfoldable pub handed_width : Bool → ℕ → List ℕ → List ℕ
handed_width true v ws = ws
handed_width false v ws = v ∷ ws

abbrev pub with_handed : ℕ → List ℕ → List ℕ
with_handed v ws = handed_width (eqb v 0) v ws

-- m is the least, or the greatest, of these widths: one of them, and none is less, or greater; 0 if there is none
pub record Least (ws : List ℕ) (m : ℕ) : Type 0 where
  pub one : In m ws ⊎ ((ws ≡ []) × (m ≡ 0))
  pub each : (w : ℕ) → In w ws → m ≤ w

pub record Greatest (ws : List ℕ) (m : ℕ) : Type 0 where
  pub one : In m ws ⊎ ((ws ≡ []) × (m ≡ 0))
  pub each : (w : ℕ) → In w ws → w ≤ m

-- the numbers of code c in b, and afterwards with the characters l more
pub record Counted (l : List Seen) (c : ℕ) (b after : List ℕ) : Type 0 where
  pub count : figure_number c 0 after ≡ figure_number c 0 b + length l
  pub dots : figure_number c 1 after ≡ figure_number c 1 b + sum_of (map black_of l)
  pub least : Least (with_handed (figure_number c 2 b) (map width_of l)) (figure_number c 2 after)
  pub greatest : Greatest (with_handed (figure_number c 3 b) (map width_of l)) (figure_number c 3 after)
  pub sum : figure_number c 4 after ≡ figure_number c 4 b + sum_of (map delta_of l)
  -- the mean is that of the sum and the count afterwards
  pub mean : 0 < length l → figure_number c 5 after * figure_number c 0 after + figure_number c 6 after ≡ figure_number c 4 after
  pub rest : 0 < length l → figure_number c 6 after < figure_number c 0 after
  -- "Codes a store lacks keep their bytes"
  pub lacking : length l ≡ 0 → code_part c after ≡ code_part c b

-- ── the claims
-- "Refusals: 1, then 2 for figures of another length, the 65th store, or a count, dots or sum handed in above what the stores so far allow at 65,536
-- bytes": 606 characters of a code in each
pub record Allowed (b : List ℕ) : Type 0 where
  pub long : length b ≡ figures_length
  pub stores : stores_so_far b < 64
  pub count : (c : ℕ) → c ≤ 255 → figure_number c 0 b ≤ stores_so_far b * 606
  pub dots : (c : ℕ) → c ≤ 255 → figure_number c 1 b ≤ stores_so_far b * 606 * 262144
  pub sum : (c : ℕ) → c ≤ 255 → figure_number c 4 b ≤ stores_so_far b * 606 * 32767

-- for any two buffers: 1 exactly for no store, else 0 exactly for figures that are allowed (and 2 for all others, by demand 1)
abbrev pub FiguresRefused : Type 0
FiguresRefused =
    (s b : List ℕ)
    → let k : ℕ = (outcome (add_figures b) s).refusal in
    ((k ≡ 1) ↔ (is_store s ≡ false)) × ((k ≡ 0) ↔ ((is_store s ≡ true) × Allowed b))

-- a store that is taken is one more, and its characters, code by code, are added to whatever was handed in
abbrev pub FiguresAdded : Type 0
FiguresAdded =
    (s b : List ℕ) → Bytes s → Bytes b → (outcome (add_figures b) s).refusal ≡ 0
    → let after : List ℕ = (outcome (add_figures b) s).out in
    (length after ≡ figures_length) × (stores_so_far after ≡ stores_so_far b + 1) × ((c : ℕ) → c ≤ 255 → Counted (seen_in c s) c b after)

-- "each store raises a code's count by at most (length - 12) / 108, rounded down, its dots by at most 262,144 times and its sum by at most 32,767 times
-- that bound"
abbrev pub FiguresBounded : Type 0
FiguresBounded =
    (s b : List ℕ) → Bytes s → Bytes b → (outcome (add_figures b) s).refusal ≡ 0
    → let after : List ℕ = (outcome (add_figures b) s).out in
    let most : ℕ = (length s - 12) / 108 in
    (c : ℕ) → c ≤ 255
    → (figure_number c 0 after ≤ figure_number c 0 b + most) × (figure_number c 1 after ≤ figure_number c 1 b + most * 262144) × (figure_number c 4 after ≤ figure_number c 4 b + most * 32767)

-- "While only these calls write there": the figures after buffers handed in one by one
unfoldable pub collected : List (List ℕ) → List ℕ → List ℕ
collected [] b = b
collected (s ∷ ss) b = collected ss (outcome (add_figures b) s).out

-- the stores that are then taken, "up to 64"
abbrev pub taken_among : List (List ℕ) → List (List ℕ)
taken_among ss = take 64 (stores_among ss)

-- "the figures after several stores equal those of all their characters together": any buffers, those that are refused among them
abbrev pub FiguresTogether : Type 0
FiguresTogether =
    (ss : List (List ℕ)) → AllBytes ss
    → let after : List ℕ = collected ss no_figures in
    (length after ≡ figures_length) × (stores_so_far after ≡ length (taken_among ss)) × ((c : ℕ) → c ≤ 255 → Counted (seen_in_all c (taken_among ss)) c no_figures after)

-- "in any order of handing in"
abbrev pub FiguresAnyOrder : Type 0
FiguresAnyOrder = (ss ts : List (List ℕ)) → Rearranged ss ts → AllBytes ss → length (stores_among ss) ≤ 64 → collected ss no_figures ≡ collected ts no_figures

-- so a store handed in to what these calls made is taken, up to the 64th
abbrev pub FiguresTaken : Type 0
FiguresTaken = (ss : List (List ℕ)) (s : List ℕ) → AllBytes ss → is_store s ≡ true → length (stores_among ss) < 64 → (outcome (add_figures (collected ss no_figures)) s).refusal ≡ 0

-- ── a row, computed, byte by byte: code 65 in two stores, 258 dots wide and 1 high with delta X 300, and 3 dots wide and 2 high with delta X 7; every bit
-- beyond the width is set
unfoldable pub wide_letter : List ℕ
wide_letter = 4 ∷ 0 ∷ 14 ∷ 1 ∷ 0 ∷ 0 ∷ 0 ∷ 0 ∷ 0 ∷ 0 ∷ 1 ∷ 2 ∷ 0 ∷ 1 ∷ 1 ∷ 44 ∷ replicate 33 255

unfoldable pub narrow_letter : List ℕ
narrow_letter = 4 ∷ 0 ∷ 14 ∷ 1 ∷ 0 ∷ 0 ∷ 0 ∷ 0 ∷ 0 ∷ 0 ∷ 0 ∷ 3 ∷ 0 ∷ 2 ∷ 0 ∷ 7 ∷ 255 ∷ 191 ∷ []

-- a store with A and this character of it
unfoldable pub letters_store : List ℕ → List ℕ
letters_store b = store_after 160 (A ∷ download_character 5 65 b ∷ [])

unfoldable pub two_stores : List (List ℕ)
two_stores = letters_store wide_letter ∷ letters_store narrow_letter ∷ []

-- two stores; two characters, 263 dots, least 3, greatest 258, sum 307, mean 153, rest 1
abbrev pub FiguresRow : Type 0
FiguresRow =
    let after : List ℕ = collected two_stores no_figures in
    (take 8 after ≡ 2 ∷ 0 ∷ 0 ∷ 0 ∷ 0 ∷ 0 ∷ 0 ∷ 0 ∷ [])
    × (take 56 (drop 3648 after)
    ≡ 2 ∷ 0 ∷ 0 ∷ 0 ∷ 0 ∷ 0 ∷ 0 ∷ 0
    ∷ 7 ∷ 1 ∷ 0 ∷ 0 ∷ 0 ∷ 0 ∷ 0 ∷ 0
    ∷ 3 ∷ 0 ∷ 0 ∷ 0 ∷ 0 ∷ 0 ∷ 0 ∷ 0
    ∷ 2 ∷ 1 ∷ 0 ∷ 0 ∷ 0 ∷ 0 ∷ 0 ∷ 0
    ∷ 51 ∷ 1 ∷ 0 ∷ 0 ∷ 0 ∷ 0 ∷ 0 ∷ 0
    ∷ 153 ∷ 0 ∷ 0 ∷ 0 ∷ 0 ∷ 0 ∷ 0 ∷ 0
    ∷ 1 ∷ 0 ∷ 0 ∷ 0 ∷ 0 ∷ 0 ∷ 0 ∷ 0 ∷ [])
