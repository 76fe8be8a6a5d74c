-- The demands, each one claim about the outcomes of calls. Document 01 in the other hand: its table of refusals for demand 1, its "Demand 3" for
-- the third.
use Rattle.std.specs.Prelude.{ℕ, ◌+◌, ◌*◌, ◌-◌, ◌<◌, ◌≤◌, ◌≡◌, ◌⊎◌, ◌↔◌, List, [], ◌∷◌, ◌++◌, Bool, true, false, cond, ◌||◌, eqb, length, take, drop, get_or, replicate, Ok, Err}
use Rattle.refusals.specs.Refusals.{refusal_number}
use Rattle.choice.specs.Steps.{Choice, chosen as chosen_font}
use Rattle.std.proofs.Math.Option.{Option, none, some}
use Rattle.pictures.specs.Size.{row_size, picture_size}
use Rattle.pictures.specs.Dots.{unpack}
use Rattle.blocks.specs.Header.{block_limit}
use Rattle.blocks.specs.Character.{class, width, height}
use Rattle.form.specs.Layout.{last_font, last_code}
use Rattle.form.specs.Model.{Rec, Store, encode, decode}
use Rattle.form.specs.Order.{font_at, character_at}
use Rattle.form.specs.Records.{is_store, FontStands, CountsTrue}
use Rattle.form.specs.Fonts.{Font, fonts_of}
use Rattle.store.specs.Answer.{no_run}
use Rattle.store.specs.Calls.{store_without_font, characters_of, kept_of, data_of, onto}
use Rattle.store.specs.BadRuns.{BadRunIn, ChecksPassed, without_data}
use Rattle.choice.specs.Request.{in_range}
use Rattle.choice.specs.Lists.{In}
use Rattle.choice.specs.Candidates.{Candidate, as_font, candidates, of_both}
use Rattle.choice.specs.Right.{Keyed, Unused, Right}
use Rattle.choice.specs.declared.Request.{Request}
use Rattle.sheet.specs.declared.SheetAnswer.{SheetAnswer}
use Rattle.stream.specs.Reading.{Action, number_set, download, Progress, Ended, first_target, spelled_from, none_counted, read_from}
use Rattle.stream.specs.Downloads.{done_among, refused_among}
use Rattle.std.specs.Prelude.{None, Some}
use Rattle.stream.specs.RoundTrip.{only_font}
use Rattle.salvage.specs.Salvage.{salvage_of, room_of, list_of}
use Rattle.turning.specs.Turn.{WhitePadding}
use Rattle.profile.specs.Profile.{BrokenFirst, NoneBroken}
use Rattle.marlinfold.specs.Calls.{Call, make_fresh, download_font, download_character, remove_font, remove_character, choose_font, tell_font, tell_character, draw_row, draw_picture, write_font, read_stream, choose_sheet, turn_picture, check_profile, write_profiled, choose_from_two, add_figures, salvage_stream, answer_numbers, output_of, Outcome, answered, of_choice, outcome, answer, leaves, ran}
use Rattle.marlinfold.specs.Book.{call_of, spelled_calls, salvaged_calls, book_from, book_after}

-- ── demand 1: a call is done, or it refuses as the table says

-- "Each number is given only as listed": the numbers by which a call refuses and leaves all as it was
unfoldable pub listed : Call → List ℕ
-- "for 'make fresh': length not 12..65,536"
listed make_fresh = 1 ∷ []
-- "Length 64..32767, else 3", "else 4. Then, else 5" (W-206: format 20 by the same numbers), "It is refused with 10 exactly if the records would then not fit."
listed (download_font n b) = 1 ∷ 2 ∷ 3 ∷ 4 ∷ 5 ∷ 10 ∷ []
-- "else 3; font present, else 6; byte 0 is 4, else 4"; a first block 3, 4, 5 and 9, a continuation 7; "Then, for both: .. 9"
listed (download_character n c b) = 1 ∷ 2 ∷ 3 ∷ 6 ∷ 4 ∷ 5 ∷ 9 ∷ 7 ∷ []
-- "Removing checks 1, 2, 6, then 7 for a character."
listed (remove_font n) = 1 ∷ 2 ∷ 6 ∷ []
listed (remove_character n c) = 1 ∷ 2 ∷ 6 ∷ 7 ∷ []
-- "Choosing checks 1, 2, 11" (W-206: "2 for another mode")
listed (choose_font r) = 1 ∷ 2 ∷ 11 ∷ []
-- "checks as removing does, then 12"
listed (tell_font n out) = 1 ∷ 2 ∷ 6 ∷ 12 ∷ []
listed (tell_character n c out) = 1 ∷ 2 ∷ 6 ∷ 7 ∷ 12 ∷ []
-- "Drawing checks 1, 2, 6, 7, then 2 for a row not below the height, then 12."
listed (draw_row n c row out) = 1 ∷ 2 ∷ 6 ∷ 7 ∷ 12 ∷ []
listed (draw_picture n c out) = 1 ∷ 2 ∷ 6 ∷ 7 ∷ 12 ∷ []
-- "Write-out checks 1, 2, 6, 12"
listed (write_font n out) = 1 ∷ 2 ∷ 6 ∷ 12 ∷ []
-- "Reading checks 1 first."
listed (read_stream b) = 1 ∷ []
-- W-201: "Refusals: 1, then 2 for more than 64 requests, then 12 for an answer list shorter than the request list."
listed (choose_sheet rs out) = 1 ∷ 2 ∷ 12 ∷ []
-- W-203: "2 for a turn not 1 to 3, a width or height not 1 to 16,384, or a picture with too few bytes; then 12 for a short output"
listed (turn_picture t w h pic out) = 2 ∷ 12 ∷ []
-- W-207: "Refusals: 1, 2, 6 as before, then for the second call alone 14 'outside the profile' (new in document 01's table, all unchanged), then 12."
listed (check_profile n) = 1 ∷ 2 ∷ 6 ∷ []
listed (write_profiled n out) = 1 ∷ 2 ∷ 6 ∷ 14 ∷ 12 ∷ []
-- W-208: "Refusals: 1 if either isn't a store, then 2, 11."
listed (choose_from_two p t r) = 1 ∷ 2 ∷ 11 ∷ []
-- W-210: "Refusals: 1, then 2 for figures of another length, the 65th store, or a count, dots or sum handed in above what the stores so far allow"
listed (add_figures b) = 1 ∷ 2 ∷ []
-- W-212: "Refusals: 1"; its 12 leaves commands and stretches standing, and is a case of its own
listed (salvage_stream b list) = 1 ∷ []

abbrev pub is_in : ℕ → List ℕ → Bool
is_in k [] = false
is_in k (x ∷ l) = eqb k x || is_in k l

-- how many numbers a call answers beside the refusal
unfoldable pub others : Call → ℕ
others make_fresh = 0
others (download_font n b) = 0
others (download_character n c b) = 3
others (remove_font n) = 0
others (remove_character n c) = 0
others (choose_font r) = 1
others (tell_font n out) = 1
others (tell_character n c out) = 1
others (draw_row n c row out) = 0
others (draw_picture n c out) = 0
others (write_font n out) = 1
others (read_stream b) = 6
others (choose_sheet rs out) = 0
others (turn_picture t w h pic out) = 0
others (check_profile n) = 2
others (write_profiled n out) = 1
others (choose_from_two p t r) = 3
others (add_figures b) = 0
others (salvage_stream b list) = 3

-- "unchanged", and "A refusal answers 0 for every other number"
abbrev pub unchanged : Call → ℕ → List ℕ → Outcome
unchanged c k s = answered k (replicate (others c) 0) s (output_of c)

-- the whole commands of a stream before any 13, carried out on the buffer s
abbrev pub carried_out : List ℕ → List ℕ → Ended
carried_out b s = read_from b 0 first_target (record { counts = none_counted; bad = no_run; bytes = s })

-- W-209: of calls made one by one on the buffer s, the three numbers of the first that is refused with 8; "0 for all three otherwise"
unfoldable pub first_bad_run : List Call → List ℕ → List ℕ
first_bad_run [] s = 0 ∷ 0 ∷ 0 ∷ []
first_bad_run (c ∷ cs) s = cond (eqb (outcome c s).refusal 8) (outcome c s).numbers (first_bad_run cs (leaves c s))

-- 13 at a place: the counts so far, the place, and "the stream for its first such refusal, also where it ends in 13"
abbrev pub stopped_at : ℕ → List ℕ → List ℕ → Outcome
stopped_at at b s =
    let x : Progress = (carried_out b s).progress in
    answered 13 (x.counts.done ∷ x.counts.refused ∷ at ∷ first_bad_run (spelled_calls b) s) x.bytes []

-- The outcomes of a call on the buffer s that are refusals. Whether and with what number a call refuses is its line of `outcome`, where the exact
-- condition of each refusal stands; that each listed number occurs is the claim `ListedOccur`, that 8, 10 and 13 do is `OwnCasesOccur`, and that each
-- number which a call can answer does is `NumbersOccur`.
pub data Refusal (s : List ℕ) : Call → Outcome → Type 0 where
  as_listed : (c : Call) (k : ℕ) → is_in k (listed c) ≡ true → Refusal s c (unchanged c k s)
  -- 10, "character block: its font and all its characters removed"
  no_room :
      (n c : ℕ) (b : List ℕ) (st : Store) (r : Rec) → decode s ≡ some st → font_at n st.recs ≡ some r
      → Refusal s (download_character n c b) (answered 10 (0 ∷ 0 ∷ 0 ∷ []) (encode (store_without_font n st)) [])
  -- 8, W-209: "This amends '0 for every other number' in document 01 for refusal 8 and a stream's 13 alone."
  past_width :
      (n c : ℕ) (b : List ℕ) (row filled run : ℕ) (x : BadRunIn n c b s row filled run) → ChecksPassed n c b x.store
      → Refusal s (download_character n c b) (answered 8 (row ∷ filled ∷ run ∷ []) s [])
  -- 13, "commands before it stay done"; it "gives its place and the counts so far"
  broken : (b : List ℕ) (at : ℕ) → is_store s ≡ true → (carried_out b s).ending ≡ Some at → Refusal s (read_stream b) (stopped_at at b s)
  -- 12, W-212: "if the list has no place for a stretch, with the stretches listed so far and every command before the unlisted one standing; for this
  -- call that is a third exception in demand 1"
  no_place :
      (b list : List ℕ) → is_store s ≡ true → (salvage_of b (room_of (length list))).full ≡ true
      → Refusal s (salvage_stream b list) (answered 12 (0 ∷ 0 ∷ 0 ∷ []) (ran (salvaged_calls b list) s) (onto (list_of (salvage_of b (room_of (length list))).stretches) list))

-- demand 1: for every call with any numbers and any buffers
abbrev pub Demand1 : Type 0
Demand1 = (c : Call) (s : List ℕ) → ((outcome c s).refusal ≡ 0) ⊎ Refusal s c (outcome c s)

-- the calls without a store: making fresh makes one of any buffer, turning stands beside any buffer
pub data WithoutStore : Call → Type 0 where
  by_making : WithoutStore make_fresh
  by_turning : (t w h : ℕ) (pic out : List ℕ) → WithoutStore (turn_picture t w h pic out)

-- 1, "buffer not a store": every other call answers it before anything else, whatever its numbers and buffers are
abbrev pub StoreFirst : Type 0
StoreFirst = (c : Call) (s : List ℕ) → is_store s ≡ false → WithoutStore c ⊎ ((outcome c s).refusal ≡ 1)

-- ── demand 2, its second half: a font written out and read into a fresh store of the same length is there again with all its characters.
-- (Its first half is the exported contracts.)
-- the bytes that a call on s that writes a font gives, in an output that it fits: as many as the number that it answers
abbrev pub stream_by : Call → List ℕ → List ℕ
stream_by c s = take (get_or (outcome c s).numbers 0 0) (outcome c s).out

abbrev pub stream_of : ℕ → List ℕ → List ℕ → List ℕ
stream_of n out s = stream_by (write_font n out) s

-- what holds of font n of a store s, and of the bytes u after reading
pub record Again (n : ℕ) (s u : List ℕ) : Type 0 where
  -- the records afterwards are the font's own, all of them, and no other; the open mark names the last character, if that is incomplete
  pub store : Store
  pub before : decode s ≡ some store
  pub afterwards : decode u ≡ some (only_font n store)
  -- so that telling, drawing and writing the font answer as before
  pub font_told : (out : List ℕ) → answer (tell_font n out) u ≡ answer (tell_font n out) s
  pub character_told : (c : ℕ) (out : List ℕ) → answer (tell_character n c out) u ≡ answer (tell_character n c out) s
  pub row_drawn : (c row : ℕ) (out : List ℕ) → answer (draw_row n c row out) u ≡ answer (draw_row n c row out) s
  pub picture_drawn : (c : ℕ) (out : List ℕ) → answer (draw_picture n c out) u ≡ answer (draw_picture n c out) s
  pub font_written : (out : List ℕ) → answer (write_font n out) u ≡ answer (write_font n out) s
  -- W-207: and so do the calls on the profile
  pub profile_checked : answer (check_profile n) u ≡ answer (check_profile n) s
  pub profiled_written : (out : List ℕ) → answer (write_profiled n out) u ≡ answer (write_profiled n out) s

-- for every buffer s and output, where writing is done, and every buffer t of the same length: reading refuses no command and stops nowhere
abbrev pub RoundTrip : Type 0
RoundTrip =
    (n : ℕ) (out s t : List ℕ) → (outcome (write_font n out) s).refusal ≡ 0 → length t ≡ length s
    → let o : Outcome = outcome (read_stream (stream_of n out s)) (leaves make_fresh t) in
    (o.refusal ≡ 0) × (get_or o.numbers 1 0 ≡ 0) × Again n s o.store

-- "Write-out checks 1, 2, 6, 12 and answers its length.": of a font that is kept, 12 exactly if the output is shorter than the stream; else its length is
-- answered, and the bytes after it stay
abbrev pub WrittenExactly : Type 0
WrittenExactly =
    (n : ℕ) (s : List ℕ) (st : Store) (f : Rec) → n ≤ last_font → decode s ≡ some st → font_at n st.recs ≡ some f
    → (k : ℕ) × ((out : List ℕ)
    → let o : Outcome = outcome (write_font n out) s in
    ((o.refusal ≡ 0) ↔ (k ≤ length out)) × ((o.refusal ≡ 12) ↔ (length out < k)) × (o.refusal ≡ 0 → (o.numbers ≡ k ∷ []) × (drop k o.out ≡ drop k out)))

-- W-207: "A second call writes out the font only if it meets the profile." What it writes is what the write-out gives of a font that meets the
-- profile, and read as above it gives a font that meets the profile.
abbrev pub ProfiledComesBack : Type 0
ProfiledComesBack =
    (n : ℕ) (out s t : List ℕ) → (outcome (write_profiled n out) s).refusal ≡ 0 → length t ≡ length s
    → let o : Outcome = outcome (read_stream (stream_by (write_profiled n out) s)) (leaves make_fresh t) in
    (outcome (check_profile n) s ≡ answered 0 (0 ∷ 0 ∷ []) s [])
    × (outcome (write_profiled n out) s ≡ outcome (write_font n out) s)
    × (o.refusal ≡ 0) × (get_or o.numbers 1 0 ≡ 0) × Again n s o.store
    × (outcome (check_profile n) o.store ≡ answered 0 (0 ∷ 0 ∷ []) o.store [])

-- ── demand 3: the choice is right with respect to the book
-- "one more call that removes": a font removal answered 0, or a character block answered 10
pub data Removes (s : List ℕ) (n : ℕ) : Call → Type 0 where
  by_removal : (outcome (remove_font n) s).refusal ≡ 0 → Removes s n (remove_font n)
  by_no_room : (c : ℕ) (b : List ℕ) → (outcome (download_character n c b) s).refusal ≡ 10 → Removes s n (download_character n c b)

-- choosing on s answers a: it names a font, or refuses
abbrev pub Answers : Request → List ℕ → Choice → Type 0
Answers r s a = outcome (choose_font r) s ≡ of_choice s a

-- what holds of a store and a book, for a request
pub record Chooses (r : Request) (s : List ℕ) (book : List Font) : Type 0 where
  -- the fonts meant are those of the book
  pub meant : (x : Candidate) → In x (candidates true book) ↔ ((x.soft ≡ true) × In (as_font x) book)
  -- no two of the book's fonts have one number
  pub numbers : Keyed (candidates true book)
  -- "The choice is what choosing answers on the store as last left"
  pub choice : Choice
  pub chosen : Answers r s choice
  -- one of the book's, beats every other, the only one that no other beats; refused with 11 exactly if none takes part
  pub right : Right r (candidates true book) choice
  -- one more call that removes a font that was not chosen leaves the choice standing: "it stands if it gives the same font, or 11 again"
  pub removed : (n : ℕ) (c : Call) → Removes s n c → (choice ≡ chosen_font true n → ⊥) → Answers r (leaves c s) choice
  -- one that accepts a font under an unused number leaves it standing or makes the new font the choice
  pub accepted :
      (n : ℕ) (b : List ℕ) → (outcome (download_font n b) s).refusal ≡ 0 → Unused true n (candidates true book)
      → Answers r (leaves (download_font n b) s) choice ⊎ Answers r (leaves (download_font n b) s) (chosen_font true n)

-- demand 3: for every buffer that making fresh accepts, every list of calls on it from then on, and every request within range
abbrev pub Demand3 : Type 0
Demand3 =
    (s : List ℕ) → (outcome make_fresh s).refusal ≡ 0 → (calls : List Call) (r : Request) → in_range r ≡ true
    → Chooses r (ran calls (leaves make_fresh s)) (book_after calls (leaves make_fresh s))

-- "Choosing checks 1, 2, 11": for any buffer and any request. (When it is 11 is said above.)
abbrev pub ChoosingRefused : Type 0
ChoosingRefused =
    (s : List ℕ) (r : Request)
    → let k : ℕ = (outcome (choose_font r) s).refusal in
    ((k ≡ 1) ↔ (is_store s ≡ false)) × ((k ≡ 2) ↔ ((is_store s ≡ true) × (in_range r ≡ false)))

-- ── W-208: demand 3 for the choice from two stores, the soft store s and the cartridge t
-- a choice by its first numbers: the refusal, the font, "which store that is (1 soft, 2 cartridge)"
abbrev pub first_numbers : Choice → List ℕ
first_numbers (Ok c) = 0 ∷ c.number ∷ cond c.soft 1 2 ∷ []
first_numbers (Err r) = refusal_number r ∷ 0 ∷ 0 ∷ []

-- choosing answers a, wherever the record of the font that it names stands
abbrev pub AnswersFromTwo : Request → List ℕ → List ℕ → Choice → Type 0
AnswersFromTwo r s t a = (outcome (choose_from_two true t r) s).refusal ∷ take 2 (outcome (choose_from_two true t r) s).numbers ≡ first_numbers a

-- the place that it answers
abbrev pub place_answered : Request → List ℕ → List ℕ → ℕ
place_answered r s t = get_or (outcome (choose_from_two true t r) s).numbers 2 0

-- what holds of two stores and their books, for a request
pub record ChoosesFromTwo (r : Request) (s t : List ℕ) (soft_book cartridge_book : List Font) : Type 0 where
  -- the fonts meant are those of both books, each in its store
  pub meant : (x : Candidate) → In x (of_both soft_book cartridge_book) ↔ In (as_font x) (cond x.soft soft_book cartridge_book)
  -- no two fonts of one book have one number
  pub numbers : Keyed (of_both soft_book cartridge_book)
  pub choice : Choice
  pub chosen : AnswersFromTwo r s t choice
  -- one of both books', beats every other, the only one that no other beats; refused with 11 exactly if none takes part
  pub right : Right r (of_both soft_book cartridge_book) choice
  -- "The answer gives the chosen font's record itself": the record of the book's font stands whole at the place answered, in the store answered
  pub stands :
      (c : Candidate) → In c (of_both soft_book cartridge_book) → choice ≡ chosen_font c.soft c.number
      → FontStands (cond c.soft s t) (place_answered r s t) c.number c.kept
  -- one more call on either store that removes a font that was not chosen leaves the choice standing
  pub soft_removed : (n : ℕ) (c : Call) → Removes s n c → (choice ≡ chosen_font true n → ⊥) → AnswersFromTwo r (leaves c s) t choice
  pub cartridge_removed : (n : ℕ) (c : Call) → Removes t n c → (choice ≡ chosen_font false n → ⊥) → AnswersFromTwo r s (leaves c t) choice
  -- one that accepts a font under a number that is unused in that store leaves it standing or makes the new font the choice
  pub soft_accepted :
      (n : ℕ) (b : List ℕ) → (outcome (download_font n b) s).refusal ≡ 0 → Unused true n (of_both soft_book cartridge_book)
      → AnswersFromTwo r (leaves (download_font n b) s) t choice ⊎ AnswersFromTwo r (leaves (download_font n b) s) t (chosen_font true n)
  pub cartridge_accepted :
      (n : ℕ) (b : List ℕ) → (outcome (download_font n b) t).refusal ≡ 0 → Unused false n (of_both soft_book cartridge_book)
      → AnswersFromTwo r s (leaves (download_font n b) t) choice ⊎ AnswersFromTwo r s (leaves (download_font n b) t) (chosen_font false n)

-- how a store's list of calls begins, and its book: made fresh, with an empty one; or "a dump that these calls didn't make starts its book with the
-- fonts in its records"
pub data Begins : List ℕ → List Font → Type 0 where
  fresh : (s : List ℕ) → (outcome make_fresh s).refusal ≡ 0 → Begins (leaves make_fresh s) []
  dump : (s : List ℕ) → is_store s ≡ true → Begins s (fonts_of s)

-- "each store has its own list and its own book": for any two stores, with any calls on each, and every request within range
abbrev pub Demand3FromTwo : Type 0
Demand3FromTwo =
    (s t : List ℕ) (soft_book cartridge_book : List Font) → Begins s soft_book → Begins t cartridge_book → (soft_calls cartridge_calls : List Call) (r : Request)
    → in_range r ≡ true → ChoosesFromTwo r (ran soft_calls s) (ran cartridge_calls t) (book_from soft_book soft_calls s) (book_from cartridge_book cartridge_calls t)

-- "Refusals: 1 if either isn't a store, then 2": for any two buffers and any request. (When it is 11 is said above.)
abbrev pub RefusesFromTwo : Type 0
RefusesFromTwo =
    (s t : List ℕ) (r : Request)
    → let k : ℕ = (outcome (choose_from_two true t r) s).refusal in
    ((k ≡ 1) ↔ ((is_store s ≡ false) ⊎ (is_store t ≡ false))) × ((k ≡ 2) ↔ ((is_store s ≡ true) × (is_store t ≡ true) × (in_range r ≡ false)))

-- the call answers the same in the list of either store
abbrev pub OneFromTwo : Type 0
OneFromTwo = (s t : List ℕ) (r : Request) → answer (choose_from_two false s r) t ≡ answer (choose_from_two true t r) s

-- where one buffer is both stores, the font chosen is the soft store's: which is 1
abbrev pub SoftOfOne : Type 0
SoftOfOne = (s : List ℕ) (r : Request) → (outcome (choose_from_two true s r) s).refusal ≡ 0 → get_or (outcome (choose_from_two true s r) s).numbers 1 0 ≡ 1

-- ── W-201: "each entry what a single choice would give on the same store"
-- for every sheet that is done and each of its requests: the entry's two numbers are those that choosing answers
abbrev pub SheetBySingles : Type 0
SheetBySingles =
    (rs : List Request) (out : List SheetAnswer) (s : List ℕ) → (outcome (choose_sheet rs out) s).refusal ≡ 0
    → (i : ℕ) (none : Request) → i < length rs
    → let sheet : List ℕ = (outcome (choose_sheet rs out) s).out in
    let choice : Outcome = outcome (choose_font (get_or rs i none)) s in
    (get_or sheet (2 * i) 0 ≡ get_or choice.numbers 0 0) × (get_or sheet (2 * i + 1) 0 ≡ choice.refusal)

-- "Refusals: 1, then 2 for more than 64 requests, then 12 for an answer list shorter than the request list."; answers after the requests stay as they were
abbrev pub SheetRefused : Type 0
SheetRefused =
    (rs : List Request) (out : List SheetAnswer) (s : List ℕ)
    → let o : Outcome = outcome (choose_sheet rs out) s in
    ((o.refusal ≡ 1) ↔ (is_store s ≡ false)) × ((o.refusal ≡ 2) ↔ ((is_store s ≡ true) × (64 < length rs)))
    × ((o.refusal ≡ 12) ↔ ((is_store s ≡ true) × (length rs ≤ 64) × (length out < length rs)))
    × (o.refusal ≡ 0 → drop (2 * length rs) o.out ≡ drop (2 * length rs) (answer_numbers out))

-- ── W-209: "say which row was bad"
-- "The row reader is to answer with the picture row being read, counted from 0 with repeats, the dots already filled and the run that didn't fit; the
-- character download and stream reading carry these three numbers to their own answers": the numbers beside an 8 are those of the row rules, and no
-- earlier check refuses the block
abbrev pub BadRunTold : Type 0
BadRunTold =
    (n c : ℕ) (b s : List ℕ)
    → let o : Outcome = outcome (download_character n c b) s in
    o.refusal ≡ 8 → (x : BadRunIn n c b s (get_or o.numbers 0 0) (get_or o.numbers 1 0) (get_or o.numbers 2 0)) × ChecksPassed n c b x.store

-- "and 0 for all three otherwise", also where the block is taken
abbrev pub ZerosOtherwise : Type 0
ZerosOtherwise =
    (n c : ℕ) (b s : List ℕ)
    → let o : Outcome = outcome (download_character n c b) s in
    (o.refusal ≡ 8 → ⊥) → o.numbers ≡ 0 ∷ 0 ∷ 0 ∷ []

-- data with such a run is never taken, nor does it cost the font
abbrev pub BadRunRefused : Type 0
BadRunRefused =
    (n c : ℕ) (b s : List ℕ) (row filled run : ℕ) → BadRunIn n c b s row filled run
    → let k : ℕ = (outcome (download_character n c b) s).refusal in
    (k ≡ 0 → ⊥) × (k ≡ 10 → ⊥)

-- and it is refused with 8 wherever the same block without its data is taken, or finds no room
abbrev pub BadRunExactly : Type 0
BadRunExactly =
    (n c : ℕ) (b s : List ℕ) (row filled run : ℕ) → BadRunIn n c b s row filled run → length b ≤ block_limit
    → let k : ℕ = (outcome (download_character n c (without_data b)) s).refusal in
    (k ≡ 0) ⊎ (k ≡ 10) → outcome (download_character n c b) s ≡ answered 8 (row ∷ filled ∷ run ∷ []) s []

-- "the stream for its first such refusal, also where it ends in 13, and 0 for all three otherwise": its last three numbers are those of the first of
-- its downloads, made one by one, that is refused with 8, and 0 if none is; on any buffer, and however the stream ends
abbrev pub StreamFirstBadRun : Type 0
StreamFirstBadRun = (b s : List ℕ) → drop 3 (outcome (read_stream b) s).numbers ≡ first_bad_run (spelled_calls b) s

-- ── "Answer: commands done, commands refused."
-- the answers that the commands of a stream get one by one: a number its own, 0 or 2, a block what its download answers
unfoldable pub command_answers : List Action → List ℕ → List ℕ
command_answers [] s = []
command_answers (number_set k ∷ rest) s = k ∷ command_answers rest s
command_answers (download d ∷ rest) s = (outcome (call_of d) s).refusal ∷ command_answers rest (leaves (call_of d) s)

-- the first two numbers of a stream, however it ends, are those of its whole commands before any 13
abbrev pub CommandsAnswered : Type 0
CommandsAnswered =
    (b s : List ℕ) → is_store s ≡ true
    → let answers : List ℕ = command_answers (spelled_from b 0 first_target).actions s in
    take 2 (outcome (read_stream b) s).numbers ≡ done_among answers ∷ refused_among answers ∷ []

-- "13 .. gives its place": a stream is answered 13 with a place exactly if reading stops there; else 0, with the place 0
abbrev pub BrokenExactly : Type 0
BrokenExactly =
    (b s : List ℕ) → is_store s ≡ true
    → let o : Outcome = outcome (read_stream b) s in
    ((at : ℕ) → ((spelled_from b 0 first_target).ending ≡ Some at) ↔ ((o.refusal ≡ 13) × (get_or o.numbers 2 0 ≡ at)))
    × (((spelled_from b 0 first_target).ending ≡ None) ↔ ((o.refusal ≡ 0) × (get_or o.numbers 2 0 ≡ 0)))

-- ── telling "answers the number of characters or of data bytes"
abbrev pub NumbersTold : Type 0
NumbersTold =
    (n : ℕ) (s : List ℕ) (st : Store) → decode s ≡ some st
    → ((out : List ℕ) → (outcome (tell_font n out) s).refusal ≡ 0 → (outcome (tell_font n out) s).numbers ≡ length (characters_of n st.recs) ∷ [])
    × ((c : ℕ) (out : List ℕ) → (outcome (tell_character n c out) s).refusal ≡ 0
    → (r : Rec) × (character_at n c st.recs ≡ some r) × ((outcome (tell_character n c out) s).numbers ≡ length (data_of r) ∷ []))

-- "Telling copies the 64 or 16 kept bytes to an output, .. and checks as removing does, then 12": a call on s puts the bytes k to the front of an output,
-- or refuses it with 12 if it is shorter
abbrev pub TellsBytes : List ℕ → (List ℕ → Call) → List ℕ → Type 0
TellsBytes k f s =
    (out : List ℕ)
    → let o : Outcome = outcome (f out) s in
    (length out < length k → o.refusal ≡ 12) × (length k ≤ length out → (o.refusal ≡ 0) × (o.out ≡ k ++ drop (length k) out))

-- so the call does for every font of a store with its kept bytes, W-206: "Telling copies 68 bytes", and for every character of the font
abbrev pub ToldAsKept : Type 0
ToldAsKept =
    (n : ℕ) (s : List ℕ) (st : Store) (f : Rec) → decode s ≡ some st → font_at n st.recs ≡ some f
    → (length (kept_of f) ≡ 68) × TellsBytes (kept_of f) (tell_font n) s
    × ((c : ℕ) (r : Rec) → c ≤ last_code → character_at n c st.recs ≡ some r → (length (kept_of r) ≡ 16) × TellsBytes (kept_of r) (tell_character n c) s)

-- "An output longer than needed keeps its later bytes.": a call that is done with an output is done with a longer one, on the same buffer, with the same
-- numbers, and leaves the bytes by which it is longer
abbrev pub LeavesLater : (List ℕ → Call) → Type 0
LeavesLater f =
    (out later s : List ℕ)
    → let o : Outcome = outcome (f out) s in
    o.refusal ≡ 0 → outcome (f (out ++ later)) s ≡ answered 0 o.numbers s (o.out ++ later)

-- so do telling, drawing, writing and turning
abbrev pub LaterBytesStay : Type 0
LaterBytesStay =
    (n c row t w h : ℕ) (pic : List ℕ)
    → LeavesLater (tell_font n) × LeavesLater (tell_character n c) × LeavesLater (draw_row n c row) × LeavesLater (draw_picture n c)
    × LeavesLater (write_font n) × LeavesLater (write_profiled n) × LeavesLater (turn_picture t w h pic)

-- "draw one row, or the picture": a row that is drawn stands in the picture that is drawn, as that row from the top
abbrev pub RowsOfPicture : Type 0
RowsOfPicture =
    (n c row : ℕ) (out all s : List ℕ) (st : Store) (r : Rec) → decode s ≡ some st → character_at n c st.recs ≡ some r
    → (outcome (draw_row n c row out) s).refusal ≡ 0 → (outcome (draw_picture n c all) s).refusal ≡ 0
    → let size : ℕ = row_size (width (kept_of r)) in
    take size (outcome (draw_row n c row out) s).out ≡ take size (drop (row * size) (outcome (draw_picture n c all) s).out)

-- the dot in row r and column c of a picture w dots wide
abbrev pub dot_at : ℕ → List ℕ → ℕ → ℕ → Bool
dot_at w p r c = get_or (unpack (drop (r * row_size w) p)) c false

-- "Class 1: rows from the top, highest bit leftmost; missing bytes are white; bits beyond the width are drawn 0": each bit of a drawn row
abbrev pub DrawnByBits : Type 0
DrawnByBits =
    (n c row : ℕ) (out s : List ℕ) (st : Store) (r : Rec) → decode s ≡ some st → character_at n c st.recs ≡ some r → class (kept_of r) ≡ 1
    → (outcome (draw_row n c row out) s).refusal ≡ 0
    → let w : ℕ = width (kept_of r) in
    let dots : List Bool = unpack (outcome (draw_row n c row out) s).out in
    (i : ℕ) → (i < w → get_or dots i false ≡ dot_at w (data_of r) row i) × (w ≤ i → i < row_size w * 8 → get_or dots i false ≡ false)

-- "Drawing checks 1, 2, 6, 7, then 2 for a row not below the height, then 12": a character that is there is drawn, save for these two
abbrev pub DrawingRefused : Type 0
DrawingRefused =
    (n c row : ℕ) (out s : List ℕ) (st : Store) (f r : Rec)
    → decode s ≡ some st → font_at n st.recs ≡ some f → c ≤ last_code → character_at n c st.recs ≡ some r
    → let w : ℕ = width (kept_of r) in
    let h : ℕ = height (kept_of r) in
    let k : ℕ = (outcome (draw_row n c row out) s).refusal in
    let m : ℕ = (outcome (draw_picture n c out) s).refusal in
    (h ≤ row → k ≡ 2) × (row < h → length out < row_size w → k ≡ 12) × (row < h → row_size w ≤ length out → k ≡ 0)
    × (length out < picture_size w h → m ≡ 12) × (picture_size w h ≤ length out → m ≡ 0)

-- "store first, then number ranges. Font numbers 0..32767, codes 0..255. Removing checks 1, 2, 6": what a call on font n of a buffer s checks first
abbrev pub ChecksFont : ℕ → List ℕ → Call → Type 0
ChecksFont n s f =
    let k : ℕ = (outcome f s).refusal in
    (is_store s ≡ false → k ≡ 1) × (is_store s ≡ true → 32767 < n → k ≡ 2)
    × ((st : Store) → decode s ≡ some st → n ≤ 32767 → font_at n st.recs ≡ none → k ≡ 6)

-- "then 7 for a character": what a call on the character of code c checks first
abbrev pub ChecksCharacter : ℕ → ℕ → List ℕ → Call → Type 0
ChecksCharacter n c s f =
    let k : ℕ = (outcome f s).refusal in
    (is_store s ≡ false → k ≡ 1) × (is_store s ≡ true → (32767 < n) ⊎ (255 < c) → k ≡ 2)
    × ((st : Store) → decode s ≡ some st → n ≤ 32767 → c ≤ 255
    → (font_at n st.recs ≡ none → k ≡ 6) × ((r : Rec) → font_at n st.recs ≡ some r → character_at n c st.recs ≡ none → k ≡ 7))

-- so does each call on a kept font or on a kept character
abbrev pub ChecksInOrder : Type 0
ChecksInOrder =
    (n c row : ℕ) (out s : List ℕ)
    → ChecksFont n s (remove_font n) × ChecksFont n s (tell_font n out) × ChecksFont n s (write_font n out) × ChecksFont n s (check_profile n)
    × ChecksFont n s (write_profiled n out) × ChecksCharacter n c s (remove_character n c) × ChecksCharacter n c s (tell_character n c out)
    × ChecksCharacter n c s (draw_row n c row out) × ChecksCharacter n c s (draw_picture n c out)

-- ── W-203: "a drawn picture turned by a quarter, a half or three quarters, clockwise"
-- a call that is done and has made p of the picture s; whatever buffer stands beside it
pub record CallTurnsInto (t w h : ℕ) (s p : List ℕ) : Type 0 where
  pub out : List ℕ
  pub beside : List ℕ
  pub done : (outcome (turn_picture t w h s out) beside).refusal ≡ 0
  pub made : p ≡ (outcome (turn_picture t w h s out) beside).out

-- "Turning a picture with white padding four times by a quarter gives it back, every byte."
abbrev pub FourQuarterCalls : Type 0
FourQuarterCalls =
    (w h : ℕ) (s p₁ p₂ p₃ p₄ : List ℕ) → WhitePadding w h s
    → CallTurnsInto 1 w h s p₁ → CallTurnsInto 1 h w p₁ p₂ → CallTurnsInto 1 w h p₂ p₃ → CallTurnsInto 1 h w p₃ p₄ → take (picture_size w h) p₄ ≡ s

-- two quarters are a half
abbrev pub TwoQuarterCalls : Type 0
TwoQuarterCalls =
    (w h : ℕ) (s p₁ p₂ p : List ℕ) → CallTurnsInto 1 w h s p₁ → CallTurnsInto 1 h w p₁ p₂ → CallTurnsInto 2 w h s p
    → take (picture_size w h) p₂ ≡ take (picture_size w h) p

-- a quarter and three quarters, in either order, are none
abbrev pub QuarterAndThreeCalls : Type 0
QuarterAndThreeCalls =
    (w h : ℕ) (s p₁ p₂ : List ℕ) → WhitePadding w h s
    → (CallTurnsInto 1 w h s p₁ → CallTurnsInto 3 h w p₁ p₂ → take (picture_size w h) p₂ ≡ s)
    × (CallTurnsInto 3 w h s p₁ → CallTurnsInto 1 h w p₁ p₂ → take (picture_size w h) p₂ ≡ s)

-- where each dot of the result comes from, in a picture of h rows of w dots
abbrev pub TurnedPlaces : Type 0
TurnedPlaces =
    (w h : ℕ) (s p : List ℕ) (r c : ℕ)
    → (CallTurnsInto 1 w h s p → r < w → c < h → dot_at h p r c ≡ dot_at w s (h - 1 - c) r)
    × (CallTurnsInto 2 w h s p → r < h → c < w → dot_at w p r c ≡ dot_at w s (h - 1 - r) (w - 1 - c))
    × (CallTurnsInto 3 w h s p → r < w → c < h → dot_at h p r c ≡ dot_at w s c (w - 1 - r))

-- "2 for a turn not 1 to 3, a width or height not 1 to 16,384, or a picture with too few bytes"
abbrev pub CannotTurn : ℕ → ℕ → ℕ → ℕ → Type 0
CannotTurn t w h size = (t < 1) ⊎ (3 < t) ⊎ (w < 1) ⊎ (16384 < w) ⊎ (h < 1) ⊎ (16384 < h) ⊎ (size < picture_size w h)

-- "then 12 for a short output": a half turn keeps the sides, another swaps them. (That there is no third number is demand 1.)
abbrev pub TurnRefused : Type 0
TurnRefused =
    (t w h : ℕ) (pic out beside : List ℕ)
    → let k : ℕ = (outcome (turn_picture t w h pic out) beside).refusal in
    ((k ≡ 2) ↔ CannotTurn t w h (length pic))
    × ((k ≡ 12) ↔ ((CannotTurn t w h (length pic) → ⊥) × (length out < cond (eqb t 2) (picture_size w h) (picture_size h w))))

-- ── W-207: "a check of one font that answers 'meets the profile' (rule 0, code 0) exactly when all that holds, or else the first broken rule, numbered 1
-- to 7 in this order, and the lowest code that breaks it"
abbrev pub ProfileTold : Type 0
ProfileTold =
    (n : ℕ) (s : List ℕ) (st : Store) (f : Rec) → n ≤ last_font → decode s ≡ some st → font_at n st.recs ≡ some f
    → let o : Outcome = outcome (check_profile n) s in
    let at : ℕ → Option Rec = λ c. character_at n c st.recs in
    (o.refusal ≡ 0)
    × (((o.numbers ≡ 0 ∷ 0 ∷ []) × NoneBroken (kept_of f) at)
    ⊎ ((rule code : ℕ) × (o.numbers ≡ rule ∷ code ∷ []) × BrokenFirst (kept_of f) at rule code))

-- "A second call writes out the font only if it meets the profile. Refusals: 1, 2, 6 as before, then for the second call alone 14 'outside the profile'
-- .., then 12": on any buffer, for any number and output, it refuses as the check does, with 14 exactly where the check answers a rule, and is else the
-- write-out
abbrev pub ProfiledExactly : Type 0
ProfiledExactly =
    (n : ℕ) (out s : List ℕ)
    → let k : Outcome = outcome (check_profile n) s in
    let o : Outcome = outcome (write_profiled n out) s in
    (0 < k.refusal → o.refusal ≡ k.refusal)
    × (k.refusal ≡ 0 → 0 < get_or k.numbers 0 0 → o.refusal ≡ 14)
    × (k.refusal ≡ 0 → get_or k.numbers 0 0 ≡ 0 → o ≡ outcome (write_font n out) s)

-- ── W-205: "Every download, replacement, continuation and removal, also the one for lack of room, keeps both equal to a fresh count."
-- for every call, reading a stream among them: on a store it leaves a store; and wherever it leaves one, as making fresh does of any buffer of an
-- allowed length, the fonts hold true counts
abbrev pub HeldCounts : Type 0
HeldCounts = (c : Call) (s : List ℕ) → (is_store s ≡ true → is_store (leaves c s) ≡ true) × (is_store (leaves c s) ≡ true → CountsTrue (leaves c s))

-- so every call leaves of a store a store whose fonts hold true counts
abbrev pub CountsStay : Type 0
CountsStay = (c : Call) (s : List ℕ) → is_store s ≡ true → (is_store (leaves c s) ≡ true) × CountsTrue (leaves c s)

-- and so does making fresh of any buffer that it accepts
abbrev pub FreshCounts : Type 0
FreshCounts = (s : List ℕ) → (outcome make_fresh s).refusal ≡ 0 → (is_store (leaves make_fresh s) ≡ true) × CountsTrue (leaves make_fresh s)
