-- What calls on a store answer, and what they leave.
use Rattle.std.specs.Prelude.{ℕ, List}
use Rattle.form.specs.Model.{Store, encode}
use Rattle.store.specs.declared.telling.Told.{Told}
use Rattle.store.specs.declared.download.BadRun.{BadRun}
use Rattle.store.specs.declared.download.Downloaded.{Downloaded}

-- what a call on a store answers, and the buffer afterwards. W-209: a character block refused with 8 also answers "the picture row being read, counted
-- from 0 with repeats, the dots already filled and the run that didn't fit", "and 0 for all three otherwise"
pub record After : Type 0 where
  pub answer : ℕ
  pub bad : BadRun
  pub bytes : List ℕ

abbrev pub no_run : BadRun
no_run = record { row = 0; filled = 0; run = 0 }

-- a refusal leaves the buffer as it was
abbrev pub refuse : List ℕ → ℕ → After
refuse s k = record { answer = k; bad = no_run; bytes = s }

abbrev pub done : Store → After
done st = record { answer = 0; bad = no_run; bytes = encode st }

-- what of it the code of a character block answers
abbrev pub downloaded_of : After → Downloaded
downloaded_of a = record { refusal = a.answer; bad = a.bad }

-- what telling answers, and the output afterwards
pub record Telling : Type 0 where
  pub refusal : ℕ
  pub count : ℕ
  pub out : List ℕ

-- the code's answer with the output
abbrev pub told_of : Told → List ℕ → Telling
told_of r out = record { refusal = r.refusal; count = r.count; out = out }

-- "A refusal answers 0 for every other number"
abbrev pub untold : List ℕ → ℕ → Telling
untold out k = record { refusal = k; count = 0; out = out }
