-- Document 01, "Choosing": for each step, and for the order of two steps, a case that another rule would decide otherwise. The font that loses has the
-- lower number. All computed.
use Rattle.std.specs.Prelude.{ℕ, ◌/◌, ◌%◌, List, [], ◌∷◌, ◌++◌, replicate}
use Rattle.choice.specs.Request.{request_of}
use Rattle.sheet.specs.declared.SheetAnswer.{SheetAnswer}
use Rattle.marlinfold.specs.Calls.{Call, download_font, choose_font, choose_sheet, Answer}
use Rattle.marlinfold.specs.Trials.{A, request_with, extended, Trial, gives, names_font, not_in_range, AllHold}
use Rattle.marlinfold.specs.Occurrences.{NumberGiven, given, AllGiven}

-- a portrait font of set 277 under number n, by spacing, pitch, height, style, weight byte, typeface and the extended byte of the height
unfoldable pub styled : ℕ → ℕ → ℕ → ℕ → ℕ → ℕ → ℕ → ℕ → Call
styled n spacing p h style w face y =
    download_font n
    (0 ∷ 64 ∷ 0 ∷ 0 ∷ style / 256 ∷ 0 ∷ 0 ∷ 15 ∷ 0 ∷ 20 ∷ 0 ∷ 20 ∷ 0 ∷ spacing ∷ 1 ∷ 21 ∷ p / 256 ∷ p % 256 ∷ h / 256 ∷ h % 256 ∷ 0 ∷ 0 ∷ 0 ∷ style % 256 ∷ w
    ∷ face % 256 ∷ face / 256 ∷ (replicate 14 0 ++ (y ∷ replicate 22 0)))

-- fonts as the trials' A but for one field: proportional; by pitch, height, style, weight byte
unfoldable pub proportional : ℕ → ℕ → Call
proportional n p = styled n 1 p 200 0 0 3 0

unfoldable pub pitched : ℕ → ℕ → Call
pitched n p = styled n 0 p 200 0 0 3 0

unfoldable pub high : ℕ → ℕ → Call
high n h = styled n 0 120 h 0 0 3 0

unfoldable pub slanted : ℕ → ℕ → Call
slanted n style = styled n 0 120 200 style 0 3 0

unfoldable pub weighing : ℕ → ℕ → Call
weighing n w = styled n 0 120 200 0 w 3 0

-- the trials' base request, by spacing, style, weight (32 bits) and typeface
unfoldable pub wants : ℕ → ℕ → ℕ → ℕ → Call
wants spacing style w face = choose_font (request_of 277 spacing 1000 1200 style w face 0 300)

unfoldable pub step_cases : List Trial
step_cases =
    -- 2. "The spacing asked for, else the other."
    gives (proportional 3 120 ∷ pitched 5 120 ∷ []) (wants 0 0 0 3) (names_font 5)
    ∷ gives (pitched 3 120 ∷ proportional 5 120 ∷ []) (wants 1 0 0 3) (names_font 5)
    -- 3. "Pitch, only if those left are fixed."
    ∷ gives (proportional 3 72 ∷ proportional 5 120 ∷ []) (wants 1 0 0 3) (names_font 3)
    -- 4. "Least |H - 6 x kept height|, where 25 or less counts as 0.", below H and above it
    ∷ gives (high 3 150 ∷ high 5 190 ∷ []) (wants 0 0 0 3) (names_font 5)
    ∷ gives (high 3 196 ∷ high 5 200 ∷ []) (wants 0 0 0 3) (names_font 3)
    ∷ gives (high 3 195 ∷ high 5 200 ∷ []) (wants 0 0 0 3) (names_font 5)
    ∷ gives (high 3 230 ∷ high 5 180 ∷ []) (wants 0 0 0 3) (names_font 5)
    -- W-202: the height has an extended byte of its own, and a height that is cut loses it
    ∷ gives (styled 3 0 120 204 0 0 3 255 ∷ high 5 200 ∷ []) (wants 0 0 0 3) (names_font 5)
    ∷ gives (high 5 10922 ∷ download_font 6 (extended 0 0 277 120 10923 0 3 9 255) ∷ []) (choose_font (request_of 277 0 1000 99975 0 0 3 0 300)) (names_font 5)
    -- 5. "The style, if any has it.": both bytes of it
    ∷ gives (slanted 3 0 ∷ slanted 5 1 ∷ []) (wants 0 1 0 3) (names_font 5)
    ∷ gives (slanted 3 1 ∷ slanted 5 257 ∷ []) (wants 0 257 0 3) (names_font 5)
    ∷ gives (slanted 3 1 ∷ slanted 5 0 ∷ []) (wants 0 2 0 3) (names_font 3)
    -- 6. "for a request of 0 or more, the next thicker, failing that the nearest thinner": 3 and not 5, 7 and not 0, 2 and not 0
    ∷ gives (weighing 3 5 ∷ weighing 5 3 ∷ []) (wants 0 0 1 3) (names_font 5)
    ∷ gives (weighing 3 0 ∷ weighing 5 7 ∷ []) (wants 0 0 1 3) (names_font 5)
    ∷ gives (weighing 3 0 ∷ weighing 5 2 ∷ []) (wants 0 0 5 3) (names_font 5)
    -- "for a request below 0, the next thinner, failing that the nearest thicker": of -1, -3 and not 0, -2 and not -3, 1 and not 3
    ∷ gives (weighing 3 0 ∷ weighing 5 253 ∷ []) (wants 0 0 4294967295 3) (names_font 5)
    ∷ gives (weighing 3 253 ∷ weighing 5 254 ∷ []) (wants 0 0 4294967295 3) (names_font 5)
    ∷ gives (weighing 3 3 ∷ weighing 5 1 ∷ []) (wants 0 0 4294967295 3) (names_font 5)
    -- the order: the spacing before the height, the pitch before the height, the height before the style, the style before the weight, the weight
    -- before the typeface
    ∷ gives (proportional 3 120 ∷ high 5 150 ∷ []) (wants 0 0 0 3) (names_font 5)
    ∷ gives (pitched 3 72 ∷ high 5 150 ∷ []) (wants 0 0 0 3) (names_font 5)
    ∷ gives (styled 3 0 120 150 1 0 3 0 ∷ high 5 200 ∷ []) (wants 0 1 0 3) (names_font 5)
    ∷ gives (weighing 3 3 ∷ slanted 5 1 ∷ []) (wants 0 1 3 3) (names_font 5)
    ∷ gives (styled 3 0 120 200 0 3 4 0 ∷ weighing 5 0 ∷ []) (wants 0 0 0 4) (names_font 5)
    ∷ []

-- "A request: symbol set 0..2047, spacing 0 or 1, pitch R .. 0..57,600, height H .. 0..99,975, style 0..1023, weight -7..7, typeface 0..65535", W-203: page
-- orientation 0..3, W-206: mode 300 or 600: the greatest of each is taken, and one more of each alone is 2
unfoldable pub range_cases : List Trial
range_cases =
    gives (A ∷ []) (choose_font (request_of 2047 1 57600 99975 1023 7 65535 3 600)) (names_font 5)
    ∷ gives (A ∷ []) (choose_font (request_of 2047 1 57600 99975 1023 4294967289 65535 3 600)) (names_font 5)
    ∷ gives (A ∷ []) (choose_font (request_of 2048 1 57600 99975 1023 7 65535 3 600)) not_in_range
    ∷ gives (A ∷ []) (choose_font (request_of 2047 2 57600 99975 1023 7 65535 3 600)) not_in_range
    ∷ gives (A ∷ []) (choose_font (request_of 2047 1 57601 99975 1023 7 65535 3 600)) not_in_range
    ∷ gives (A ∷ []) (choose_font (request_of 2047 1 57600 99976 1023 7 65535 3 600)) not_in_range
    ∷ gives (A ∷ []) (choose_font (request_of 2047 1 57600 99975 1024 7 65535 3 600)) not_in_range
    ∷ gives (A ∷ []) (choose_font (request_of 2047 1 57600 99975 1023 8 65535 3 600)) not_in_range
    ∷ gives (A ∷ []) (choose_font (request_of 2047 1 57600 99975 1023 4294967288 65535 3 600)) not_in_range
    ∷ gives (A ∷ []) (choose_font (request_of 2047 1 57600 99975 1023 7 65536 3 600)) not_in_range
    ∷ gives (A ∷ []) (choose_font (request_of 2047 1 57600 99975 1023 7 65535 4 600)) not_in_range
    ∷ gives (A ∷ []) (choose_font (request_of 2047 1 57600 99975 1023 7 65535 3 301)) not_in_range
    ∷ []

-- W-201: "An out-of-range request refuses only its own entry.", and the answer after the requests stays
unfoldable pub unused : SheetAnswer
unused = record { font = 7; refusal = 8 }

unfoldable pub sheet_answered : List ℕ → Answer
sheet_answered out = record { refusal = 0; numbers = []; out = out }

unfoldable pub sheet_cases : List Trial
sheet_cases =
    gives (A ∷ []) (choose_sheet (request_with 277 1000 0 0 ∷ request_with 2048 1000 0 0 ∷ []) (replicate 3 unused)) (sheet_answered (5 ∷ 0 ∷ 0 ∷ 2 ∷ 7 ∷ 8 ∷ []))
    ∷ []

-- 64 requests are taken, with as many answers
unfoldable pub full_sheets : List NumberGiven
full_sheets =
    given 12 [] (choose_sheet (replicate 64 (request_with 277 1000 0 0)) (replicate 64 unused)) 0
    ∷ given 12 [] (choose_sheet (replicate 64 (request_with 277 1000 0 0)) (replicate 63 unused)) 12
    ∷ given 12 [] (choose_sheet (replicate 65 (request_with 277 1000 0 0)) (replicate 65 unused)) 2
    ∷ []

-- the claims
abbrev pub StepsDecide : Type 0
StepsDecide = AllHold step_cases

abbrev pub RangeDecides : Type 0
RangeDecides = AllHold range_cases

abbrev pub SheetsAnswer : Type 0
SheetsAnswer = AllHold sheet_cases × AllGiven full_sheets
