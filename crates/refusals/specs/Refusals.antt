-- Document 01, the table of refusals: their numbers, and results with the number in the place of the refusal, as the definitions state them.
use Rattle.std.specs.Prelude.{ℕ, Result, Ok, Err, ◌≡◌}
use Rattle.refusals.specs.declared.Refused.{Refused}
use Rattle.refusals.specs.declared.Refused.TheVariants.{NotStore, OutOfRange, BlockLength, NotTaken, FieldValue, NoFont, NoCharacter, RunPastRow, TooLarge, NoRoom, NoneToChoose, OutputShort, StreamBroken, OutsideProfile}

abbrev pub refusal_number : Refused → ℕ
refusal_number NotStore = 1
refusal_number OutOfRange = 2
refusal_number BlockLength = 3
refusal_number NotTaken = 4
refusal_number FieldValue = 5
refusal_number NoFont = 6
refusal_number NoCharacter = 7
refusal_number RunPastRow = 8
refusal_number TooLarge = 9
refusal_number NoRoom = 10
refusal_number NoneToChoose = 11
refusal_number OutputShort = 12
refusal_number StreamBroken = 13
refusal_number OutsideProfile = 14

-- a result, its refusal as its number
abbrev pub numbered_result : {A : Type 0} → Result A Refused → Result A ℕ
numbered_result (Ok a) = Ok a
numbered_result (Err r) = Err (refusal_number r)

-- the number that a result answers with: 0 "done", or the refusal's
abbrev pub answer_by : {A : Type 0} → Result A ℕ → ℕ
answer_by (Ok a) = 0
answer_by (Err k) = k

abbrev pub number_or_0 : {A : Type 0} → Result A Refused → ℕ
number_or_0 r = answer_by (numbered_result r)

-- a law of them: the number tells the refusal
abbrev pub NumbersTell : Type 0
NumbersTell = (a b : Refused) → refusal_number a ≡ refusal_number b → a ≡ b
