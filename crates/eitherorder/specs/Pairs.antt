-- W-211: such pairs of calls exist: an example of each pair of kinds; and what may differ otherwise, by examples. All computed.
use Rattle.std.specs.Prelude.{ℕ, ◌≡◌, List, [], ◌∷◌, take, get_or}
use Rattle.marlinfold.specs.Calls.{Call, download_character, remove_font, remove_character, outcome, leaves, ran}
use Rattle.marlinfold.specs.Trials.{A, B, like, store_after}
use Rattle.marlinfold.specs.Occurrences.{kind}
use Rattle.eitherorder.specs.EitherOrder.{Prepares, BothDone, first_record_bytes}

-- a first block of class 1 for 8 x 2 dots, with these rows
unfoldable pub two_rows : List ℕ → List ℕ
two_rows d = 4 ∷ 0 ∷ 14 ∷ 1 ∷ 0 ∷ 0 ∷ 0 ∷ 0 ∷ 0 ∷ 0 ∷ 0 ∷ 8 ∷ 0 ∷ 2 ∷ 0 ∷ 0 ∷ d

-- the trials' font A has number 5: a character of it, incomplete, and a continuation that completes it
unfoldable pub open_a : Call
open_a = download_character 5 65 (two_rows (255 ∷ []))

unfoldable pub more_a : Call
more_a = download_character 5 65 (4 ∷ 1 ∷ 129 ∷ [])

-- B has number 2: a character of it, complete and incomplete
unfoldable pub letter_b : Call
letter_b = download_character 2 66 (two_rows (255 ∷ 129 ∷ []))

unfoldable pub open_b : Call
open_b = download_character 2 66 (two_rows (255 ∷ []))

-- some calls on a fresh store, then x on font 5 and y on font 2
pub record Pair : Type 0 where
  pub before : List Call
  pub x : Call
  pub y : Call

unfoldable pub pair : List Call → Call → Call → Pair
pair before x y = record { before = before; x = x; y = y }

-- the ten pairs of kinds: a font block, a character block, a font removal and a character removal, each beside itself and those after it
unfoldable pub pairs : List Pair
pairs =
    pair [] A B
    ∷ pair (B ∷ []) A letter_b
    ∷ pair (B ∷ []) A (remove_font 2)
    ∷ pair (B ∷ letter_b ∷ []) A (remove_character 2 66)
    ∷ pair (A ∷ B ∷ []) open_a open_b
    ∷ pair (A ∷ B ∷ []) open_a (remove_font 2)
    ∷ pair (A ∷ B ∷ letter_b ∷ []) open_a (remove_character 2 66)
    ∷ pair (A ∷ B ∷ open_a ∷ []) (remove_font 5) (remove_font 2)
    ∷ pair (A ∷ B ∷ letter_b ∷ open_a ∷ []) (remove_font 5) (remove_character 2 66)
    ∷ pair (A ∷ B ∷ letter_b ∷ open_a ∷ []) (remove_character 5 65) (remove_character 2 66)
    ∷ []

-- a continuation beside each kind but a character block, which is impossible (`ContinuationAlone`)
unfoldable pub continued_pairs : List Pair
continued_pairs =
    pair (A ∷ open_a ∷ []) more_a B
    ∷ pair (A ∷ B ∷ open_a ∷ []) more_a (remove_font 2)
    ∷ pair (A ∷ B ∷ letter_b ∷ open_a ∷ []) more_a (remove_character 2 66)
    ∷ []

-- what `EitherOrder` asks for
abbrev pub PairDone : Pair → Type 0
PairDone p =
    let s : List ℕ = store_after 500 p.before in
    Prepares 5 p.x × Prepares 2 p.y × BothDone p.x p.y s × BothDone p.y p.x s

abbrev pub AllDone : List Pair → Type 0
AllDone [] = Unit {0}
AllDone (p ∷ l) = PairDone p × AllDone l

unfoldable pub kinds_of : List Pair → List (List ℕ)
kinds_of [] = []
kinds_of (p ∷ l) = (kind p.x ∷ kind p.y ∷ []) ∷ kinds_of l

-- by the numbers of `kind`: 2 a font block, 3 a character block, 4 a font removal, 5 a character removal
unfoldable pub ten_kinds : List (List ℕ)
ten_kinds =
    (2 ∷ 2 ∷ []) ∷ (2 ∷ 3 ∷ []) ∷ (2 ∷ 4 ∷ []) ∷ (2 ∷ 5 ∷ []) ∷ (3 ∷ 3 ∷ []) ∷ (3 ∷ 4 ∷ []) ∷ (3 ∷ 5 ∷ []) ∷ (4 ∷ 4 ∷ []) ∷ (4 ∷ 5 ∷ []) ∷ (5 ∷ 5 ∷ []) ∷ []

abbrev pub PairsOccur : Type 0
PairsOccur = AllDone pairs × (kinds_of pairs ≡ ten_kinds) × AllDone continued_pairs

-- of two character blocks the later one decides the first record: length 12, kind 1, open mark 1, font number and code, low byte first
abbrev pub LaterDecides : Type 0
LaterDecides =
    let s : List ℕ = store_after 500 (A ∷ B ∷ []) in
    (take first_record_bytes (ran (open_a ∷ open_b ∷ []) s) ≡ 12 ∷ 0 ∷ 0 ∷ 0 ∷ 1 ∷ 0 ∷ 1 ∷ 0 ∷ 2 ∷ 0 ∷ 66 ∷ 0 ∷ [])
    × (take first_record_bytes (ran (open_b ∷ open_a ∷ []) s) ≡ 12 ∷ 0 ∷ 0 ∷ 0 ∷ 1 ∷ 0 ∷ 1 ∷ 0 ∷ 5 ∷ 0 ∷ 65 ∷ 0 ∷ [])

-- on one font number the order decides: of two blocks for font 5 the later one is kept, with its pitch (120 is A's), which stands at byte 43
abbrev pub OneFontDiffers : Type 0
OneFontDiffers =
    let s : List ℕ = store_after 500 [] in
    let A' : Call = like 5 121 200 in
    BothDone A A' s × BothDone A' A s × (get_or (ran (A ∷ A' ∷ []) s) 43 0 ≡ 121) × (get_or (ran (A' ∷ A ∷ []) s) 43 0 ≡ 120)

-- A pair that is done in one order may be refused in the other: a continuation is done before a block for another font, and refused with 7 after it;
-- a block for which there is room only after a removal is refused with 10 before it.
abbrev pub OneOrderAlone : Type 0
OneOrderAlone =
    let s : List ℕ = store_after 500 (A ∷ B ∷ open_a ∷ []) in
    let t : List ℕ = store_after 94 (A ∷ []) in
    BothDone more_a open_b s × ((outcome open_b s).refusal ≡ 0) × ((outcome more_a (leaves open_b s)).refusal ≡ 7)
    × BothDone (remove_font 5) B t × ((outcome B t).refusal ≡ 10)
