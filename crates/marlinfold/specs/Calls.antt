-- Document 01, "The calls, and what they answer", and the calls of document 02: the calls as values, and the outcome of each, which is its exported
-- contract.
use Rattle.std.specs.Prelude.{ℕ, Bool, true, false, List, [], ◌∷◌}
use Rattle.store.specs.Answer.{After, Telling}
use Rattle.store.specs.Calls.{making_fresh, downloading_font, removing_font, removing_character, telling_font, telling_character}
use Rattle.store.specs.Download.{downloading_character}
use Rattle.store.specs.Drawing.{drawing_row, drawing_picture}
use Rattle.choice.specs.Choosing.{choosing, refusal_of, font_of}
use Rattle.choice.specs.declared.Request.{Request}
use Rattle.choice.specs.Steps.{Choice}
use Rattle.cartridge.specs.Cartridge.{answering_from_two}
use Rattle.cartridge.specs.declared.RecordAnswer.{RecordAnswer}
use Rattle.sheet.specs.Sheet.{Sheet, choosing_sheet}
use Rattle.sheet.specs.declared.SheetAnswer.{SheetAnswer}
use Rattle.turning.specs.Turn.{Turning, turning_picture}
use Rattle.stream.specs.Reading.{Reading, reading}
use Rattle.stream.specs.Written.{WriteOut, writing_font}
use Rattle.salvage.specs.Salvage.{Salvaging, salvaging}
use Rattle.collection.specs.Figures.{Adding, adding_figures}
use Rattle.profile.specs.Profile.{checking_profile, writing_profiled}
use Rattle.profile.specs.declared.check.ProfileChecked.{ProfileChecked}

-- ── the calls, each with its numbers and its buffers other than the store; any numbers, any bytes
pub data Call : Type 0 where
  make_fresh : Call
  download_font : (n : ℕ) (block : List ℕ) → Call
  download_character : (n c : ℕ) (block : List ℕ) → Call
  remove_font : (n : ℕ) → Call
  remove_character : (n c : ℕ) → Call
  choose_font : (r : Request) → Call
  tell_font : (n : ℕ) (out : List ℕ) → Call
  tell_character : (n c : ℕ) (out : List ℕ) → Call
  draw_row : (n c row : ℕ) (out : List ℕ) → Call
  draw_picture : (n c : ℕ) (out : List ℕ) → Call
  write_font : (n : ℕ) (out : List ℕ) → Call
  read_stream : (stream : List ℕ) → Call
  -- W-201
  choose_sheet : (rs : List Request) (out : List SheetAnswer) → Call
  -- W-203; it is lent no store
  turn_picture : (t w h : ℕ) (pic out : List ℕ) → Call
  -- W-207
  check_profile : (n : ℕ) → Call
  write_profiled : (n : ℕ) (out : List ℕ) → Call
  -- W-208: on the soft store (true) or on the cartridge (false), with the other of the two beside it
  choose_from_two : (soft : Bool) (other : List ℕ) (r : Request) → Call
  -- W-210: the figures b, to which the store is added
  add_figures : (b : List ℕ) → Call
  -- W-212: the output is the list of stretches
  salvage_stream : (stream list : List ℕ) → Call

-- a sheet's answers as an output: the two numbers of each, one after the other
unfoldable pub answer_numbers : List SheetAnswer → List ℕ
answer_numbers [] = []
answer_numbers (a ∷ l) = a.font ∷ a.refusal ∷ answer_numbers l

-- the output that a call is lent; none is []
unfoldable pub output_of : Call → List ℕ
output_of make_fresh = []
output_of (download_font n b) = []
output_of (download_character n c b) = []
output_of (remove_font n) = []
output_of (remove_character n c) = []
output_of (choose_font r) = []
output_of (tell_font n out) = out
output_of (tell_character n c out) = out
output_of (draw_row n c row out) = out
output_of (draw_picture n c out) = out
output_of (write_font n out) = out
output_of (read_stream b) = []
output_of (choose_sheet rs out) = answer_numbers out
output_of (turn_picture t w h pic out) = out
output_of (check_profile n) = []
output_of (write_profiled n out) = out
output_of (choose_from_two p t r) = []
output_of (add_figures b) = b
output_of (salvage_stream b list) = list

-- ── what a call answers and leaves
pub record Outcome : Type 0 where
  -- the refusal's number, 0 for done
  pub refusal : ℕ
  -- the other numbers that the call answers
  pub numbers : List ℕ
  -- the store and the output afterwards: all their bytes; of a sheet, the numbers of all its answers
  pub store : List ℕ
  pub out : List ℕ

-- what the code answered and left
abbrev pub answered : ℕ → List ℕ → List ℕ → List ℕ → Outcome
answered k ns s out = record { refusal = k; numbers = ns; store = s; out = out }

-- a call that changes the store
abbrev pub of_change : After → Outcome
of_change a = answered a.answer [] a.bytes []

-- W-209: a character block: the picture row being read, the dots already filled and the run that didn't fit
abbrev pub of_download : After → Outcome
of_download a = answered a.answer (a.bad.row ∷ a.bad.filled ∷ a.bad.run ∷ []) a.bytes []

-- a call that is lent the store s to read alone: choosing answers the font number,
abbrev pub of_choice : List ℕ → Choice → Outcome
of_choice s a = answered (refusal_of a) (font_of a ∷ []) s []

-- telling the number of characters or of data bytes,
abbrev pub of_telling : List ℕ → Telling → Outcome
of_telling s a = answered a.refusal (a.count ∷ []) s a.out

-- drawing no number,
abbrev pub of_drawing : List ℕ → After → Outcome
of_drawing s a = answered a.answer [] s a.bytes

-- writing its length
abbrev pub of_writing : List ℕ → WriteOut → Outcome
of_writing s a = answered a.refusal (a.count ∷ []) s a.out

-- a stream: commands done, commands refused, the place of a 13, W-209: the three numbers of its first refusal 8
abbrev pub of_reading : Reading → Outcome
of_reading a = answered a.answer.refusal (a.answer.done ∷ a.answer.refused ∷ a.answer.place ∷ a.answer.bad.row ∷ a.answer.bad.filled ∷ a.answer.bad.run ∷ []) a.bytes []

-- a sheet: its answers are the output
abbrev pub of_sheet : List ℕ → Sheet → Outcome
of_sheet s a = answered a.refusal [] s (answer_numbers a.answers)

-- turning (W-203) no number; it is lent no store, and whatever buffer stands beside it is left as it was
abbrev pub of_turning : List ℕ → Turning → Outcome
of_turning s a = answered a.answer [] s a.bytes

-- checking a font against the profile (W-207): the first broken rule, and the lowest code that breaks it
abbrev pub of_check : List ℕ → ProfileChecked → Outcome
of_check s a = answered a.refusal (a.rule ∷ a.code ∷ []) s []

-- choosing from two stores (W-208): the font number, which store holds it, and its record's place there
abbrev pub of_record : List ℕ → RecordAnswer → Outcome
of_record s a = answered a.refusal (a.font ∷ a.which ∷ a.place ∷ []) s []

-- adding a store to figures (W-210) no number; the figures are the output
abbrev pub of_adding : List ℕ → Adding → Outcome
of_adding s a = answered a.answer [] s a.bytes

-- W-212: the stretches, commands done, commands refused
abbrev pub of_salvage : Salvaging → Outcome
of_salvage a = answered a.refusal (a.stretches ∷ a.done ∷ a.refused ∷ []) a.store a.out

-- a call on the buffer s
abbrev pub outcome : Call → List ℕ → Outcome
outcome make_fresh s = of_change (making_fresh s)
outcome (download_font n b) s = of_change (downloading_font n b s)
outcome (download_character n c b) s = of_download (downloading_character n c b s)
outcome (remove_font n) s = of_change (removing_font n s)
outcome (remove_character n c) s = of_change (removing_character n c s)
outcome (choose_font r) s = of_choice s (choosing s r)
outcome (tell_font n out) s = of_telling s (telling_font n s out)
outcome (tell_character n c out) s = of_telling s (telling_character n c s out)
outcome (draw_row n c row out) s = of_drawing s (drawing_row n c row s out)
outcome (draw_picture n c out) s = of_drawing s (drawing_picture n c s out)
outcome (write_font n out) s = of_writing s (writing_font n s out)
outcome (read_stream b) s = of_reading (reading b s)
outcome (choose_sheet rs out) s = of_sheet s (choosing_sheet s rs out)
outcome (turn_picture t w h pic out) s = of_turning s (turning_picture t w h pic out)
outcome (check_profile n) s = of_check s (checking_profile n s)
outcome (write_profiled n out) s = of_writing s (writing_profiled n s out)
outcome (choose_from_two true t r) s = of_record s (answering_from_two s t r)
outcome (choose_from_two false t r) s = of_record s (answering_from_two t s r)
outcome (add_figures b) s = of_adding s (adding_figures s b)
outcome (salvage_stream b list) s = of_salvage (salvaging b list s)

-- what a call leaves of the store
abbrev pub leaves : Call → List ℕ → List ℕ
leaves c s = (outcome c s).store

-- what it answers: all but the store
pub record Answer : Type 0 where
  pub refusal : ℕ
  pub numbers : List ℕ
  pub out : List ℕ

abbrev pub answer : Call → List ℕ → Answer
answer c s = record { refusal = (outcome c s).refusal; numbers = (outcome c s).numbers; out = (outcome c s).out }

-- the store after a list of calls: "Each call gets the whole of it, as the last one left it"
unfoldable pub ran : List Call → List ℕ → List ℕ
ran [] s = s
ran (c ∷ cs) s = ran cs (leaves c s)
