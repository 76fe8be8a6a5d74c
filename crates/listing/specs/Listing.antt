-- Document 01, "The stream": "The listing program reads at most 32,768 bytes of standard input into a fresh store of 16,384; more prints only
-- `input too long`."
use Rattle.std.specs.Prelude.{ℕ, ◌+◌, List, [], ◌∷◌, ◌++◌, cond, leb, length, replicate}
use Rattle.store.specs.Calls.{making_fresh}
use Rattle.form.specs.Fonts.{fonts_of}
use Rattle.stream.specs.Reading.{Reading, reading}
use Rattle.listing.specs.Line.{lines}
use Rattle.listing.specs.Summary.{summary}

-- "id set spacing pitch height style weight face chars", and the end of the line
abbrev pub heading : List ℕ
heading =
    105 ∷ 100 ∷ 32 ∷
    115 ∷ 101 ∷ 116 ∷ 32 ∷
    115 ∷ 112 ∷ 97 ∷ 99 ∷ 105 ∷ 110 ∷ 103 ∷ 32 ∷
    112 ∷ 105 ∷ 116 ∷ 99 ∷ 104 ∷ 32 ∷
    104 ∷ 101 ∷ 105 ∷ 103 ∷ 104 ∷ 116 ∷ 32 ∷
    115 ∷ 116 ∷ 121 ∷ 108 ∷ 101 ∷ 32 ∷
    119 ∷ 101 ∷ 105 ∷ 103 ∷ 104 ∷ 116 ∷ 32 ∷
    102 ∷ 97 ∷ 99 ∷ 101 ∷ 32 ∷
    99 ∷ 104 ∷ 97 ∷ 114 ∷ 115 ∷ 10 ∷ []

-- "input too long", and the end of the line
abbrev pub too_long : List ℕ
too_long = 105 ∷ 110 ∷ 112 ∷ 117 ∷ 116 ∷ 32 ∷ 116 ∷ 111 ∷ 111 ∷ 32 ∷ 108 ∷ 111 ∷ 110 ∷ 103 ∷ 10 ∷ []

-- "at most 32,768 bytes of standard input into a fresh store of 16,384"
abbrev pub most_input : ℕ
most_input = 32768

abbrev pub store_bytes : ℕ
store_bytes = 16384

unfoldable pub fresh_store : List ℕ
fresh_store = (making_fresh (replicate store_bytes 0)).bytes

-- what a reading left and answered
unfoldable pub listing_text : Reading → List ℕ
listing_text r = heading ++ (lines r.bytes (fonts_of r.bytes) ++ summary r.answer)

-- what is written for this input
unfoldable pub listing : List ℕ → List ℕ
listing input = cond (leb (length input) most_input) (listing_text (reading input fresh_store)) too_long

-- room for every text: the heading, no more bytes of lines than the store has, and the last line
abbrev pub text_room : ℕ
text_room = store_bytes + 256
