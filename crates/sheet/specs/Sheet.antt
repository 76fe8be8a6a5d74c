-- Document 02, W-201, "One sheet, one call": what choosing for a sheet of requests answers.
use Rattle.std.specs.Prelude.{ℕ, ◌<◌, ◌≡◌, List, [], ◌∷◌, ◌++◌, leb, length, drop, get_or}
use Rattle.form.specs.Checks.{checked}
use Rattle.form.specs.Records.{is_store}
use Rattle.choice.specs.Steps.{Choice}
use Rattle.choice.specs.Choosing.{choosing, refusal_of, font_of}
use Rattle.choice.specs.declared.Request.{Request}
use Rattle.sheet.specs.declared.SheetAnswer.{SheetAnswer}

-- "an answer is the font number, then the refusal number"
unfoldable pub answer_of : Choice → SheetAnswer
answer_of a = record { font = font_of a; refusal = refusal_of a }

-- "each entry what a single choice would give on the same store. An out-of-range request refuses only its own entry."
unfoldable pub entries : List ℕ → List Request → List SheetAnswer
entries s [] = []
entries s (r ∷ rs) = answer_of (choosing s r) ∷ entries s rs

-- "up to 64 fonts"
abbrev pub most_requests : ℕ
most_requests = 64

-- "Refusals: 1, then 2 for more than 64 requests, then 12 for an answer list shorter than the request list.": for so many requests and answers;
-- `refuse` makes the whole answer of a refusal
abbrev pub on_sheet : {A : Type 0} → (ℕ → A) → List ℕ → ℕ → ℕ → A → A
on_sheet refuse s requests room a =
    checked refuse (is_store s) 1 (checked refuse (leb requests most_requests) 2 (checked refuse (leb requests room) 12 a))

-- the refusal's number alone, 0 for done
unfoldable pub sheet_refusal : List ℕ → ℕ → ℕ → ℕ
sheet_refusal s requests room = on_sheet (λ k. k) s requests room 0

-- what the call answers, and the answers afterwards
pub record Sheet : Type 0 where
  pub refusal : ℕ
  pub answers : List SheetAnswer

-- a refusal of the whole sheet leaves every answer as it was
abbrev pub unanswered : List SheetAnswer → ℕ → Sheet
unanswered out k = record { refusal = k; answers = out }

-- every request answered; answers beyond the requests stay as they were
abbrev pub all_answered : List ℕ → List Request → List SheetAnswer → Sheet
all_answered s rs out = record { refusal = 0; answers = entries s rs ++ drop (length rs) out }

-- the call on the buffer s, with the requests rs and the answers out
unfoldable pub choosing_sheet : List ℕ → List Request → List SheetAnswer → Sheet
choosing_sheet s rs out = on_sheet (unanswered out) s (length rs) (length out) (all_answered s rs out)

-- a law of it: entry i of a sheet that is done is what choosing answers for request i, whatever the others are. (d and e stand beyond the lists' ends.)
abbrev pub EntryIs : Type 0
EntryIs =
    (s : List ℕ) (rs : List Request) (out : List SheetAnswer) → (choosing_sheet s rs out).refusal ≡ 0
    → (i : ℕ) (d : Request) (e : SheetAnswer) → i < length rs
    → get_or (choosing_sheet s rs out).answers i e ≡ answer_of (choosing s (get_or rs i d))
