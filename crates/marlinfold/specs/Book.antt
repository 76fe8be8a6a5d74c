-- Document 01, "Demand 3", the book: the fonts meant, "made from the calls and their answers, never from the store".
use Rattle.std.specs.Prelude.{ℕ, ◌≡◌, List, [], ◌∷◌, ◌++◌, cond, eqb, length}
use Rattle.blocks.specs.Header.{kept_header}
use Rattle.form.specs.Fonts.{Font, fonts_after}
use Rattle.stream.specs.Reading.{Download, font_block, character_block}
use Rattle.stream.specs.Downloads.{spelled_downloads}
use Rattle.salvage.specs.Salvage.{salvaged_downloads}
use Rattle.marlinfold.specs.Calls.{Call, make_fresh, download_font, download_character, remove_font, remove_character, choose_font, tell_font, tell_character, draw_row, draw_picture, write_font, read_stream, choose_sheet, turn_picture, check_profile, write_profiled, choose_from_two, add_figures, salvage_stream, outcome, leaves, ran}

-- the book after one more call that was answered k
unfoldable pub noted : Call → ℕ → List Font → List Font
-- "Making fresh empties it."
noted make_fresh k book = cond (eqb k 0) [] book
-- "A font block answered 0 enters its font, in place of an older one of that number."
noted (download_font n b) k book = fonts_after 0 n (record { number = n; kept = kept_header b } ∷ []) k book
-- "A font removal answered 0 and a character block answered 10 strike theirs out"
noted (download_character n c b) k book = fonts_after 10 n [] k book
noted (remove_font n) k book = fonts_after 0 n [] k book
-- "Every other call or answer changes nothing." (A stream stands for its downloads: see `singly`.)
noted (remove_character n c) k book = book
noted (choose_font r) k book = book
noted (tell_font n out) k book = book
noted (tell_character n c out) k book = book
noted (draw_row n c row out) k book = book
noted (draw_picture n c out) k book = book
noted (write_font n out) k book = book
noted (read_stream b) k book = book
noted (choose_sheet rs out) k book = book
noted (turn_picture t w h pic out) k book = book
noted (check_profile n) k book = book
noted (write_profiled n out) k book = book
noted (choose_from_two p t r) k book = book
noted (add_figures b) k book = book
noted (salvage_stream b list) k book = book

-- the book that calls with these answers make of a book
unfoldable pub book_of : List Call → List ℕ → List Font → List Font
book_of [] ks book = book
book_of (c ∷ cs) [] book = book
book_of (c ∷ cs) (k ∷ ks) book = book_of cs ks (noted c k book)

-- ── "A stream counts as the downloads spelled by its whole commands before any 13, with the answers they get when made one by one in its place."
unfoldable pub call_of : Download → Call
call_of (font_block n b) = download_font n b
call_of (character_block n c b) = download_character n c b

unfoldable pub calls_of : List Download → List Call
calls_of [] = []
calls_of (d ∷ ds) = call_of d ∷ calls_of ds

unfoldable pub spelled_calls : List ℕ → List Call
spelled_calls b = calls_of (spelled_downloads b)

unfoldable pub salvaged_calls : List ℕ → List ℕ → List Call
salvaged_calls b list = calls_of (salvaged_downloads b (length list))

-- a call as single ones, and a list of calls
unfoldable pub single : Call → List Call
single make_fresh = make_fresh ∷ []
single (download_font n b) = download_font n b ∷ []
single (download_character n c b) = download_character n c b ∷ []
single (remove_font n) = remove_font n ∷ []
single (remove_character n c) = remove_character n c ∷ []
single (choose_font r) = choose_font r ∷ []
single (tell_font n out) = tell_font n out ∷ []
single (tell_character n c out) = tell_character n c out ∷ []
single (draw_row n c row out) = draw_row n c row out ∷ []
single (draw_picture n c out) = draw_picture n c out ∷ []
single (write_font n out) = write_font n out ∷ []
single (read_stream b) = spelled_calls b
single (choose_sheet rs out) = choose_sheet rs out ∷ []
single (turn_picture t w h pic out) = turn_picture t w h pic out ∷ []
single (check_profile n) = check_profile n ∷ []
single (write_profiled n out) = write_profiled n out ∷ []
single (choose_from_two p t r) = choose_from_two p t r ∷ []
single (add_figures b) = add_figures b ∷ []
-- W-212: "it counts as the downloads spelled by the commands that it reads whole outside the skipped stretches, up to its end or a 12"
single (salvage_stream b list) = salvaged_calls b list

unfoldable pub singly : List Call → List Call
singly [] = []
singly (c ∷ cs) = single c ++ singly cs

-- the answers that calls get when made one by one on the buffer s
unfoldable pub answers_to : List Call → List ℕ → List ℕ
answers_to [] s = []
answers_to (c ∷ cs) s = (outcome c s).refusal ∷ answers_to cs (leaves c s)

-- the book that a list of calls on the buffer s makes of a book
abbrev pub book_from : List Font → List Call → List ℕ → List Font
book_from book calls s = book_of (singly calls) (answers_to (singly calls) s) book

-- the book after a list of calls on the buffer s, which "starts empty"
abbrev pub book_after : List Call → List ℕ → List Font
book_after calls s = book_from [] calls s

-- a law of it: reading a stream leaves what making those calls one by one leaves
abbrev pub StreamSingly : Type 0
StreamSingly = (b s : List ℕ) → leaves (read_stream b) s ≡ ran (spelled_calls b) s

-- W-212: and so does a salvage reading
abbrev pub SalvageSingly : Type 0
SalvageSingly = (b list s : List ℕ) → leaves (salvage_stream b list) s ≡ ran (salvaged_calls b list) s
