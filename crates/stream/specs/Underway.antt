-- For the code alone: a reading under way, step by step.
use Rattle.std.specs.Prelude.{ℕ, ◌+◌, ◌≤◌, ◌<◌, ◌≡◌, List, Result, Ok, Err, IsErr}
use Rattle.std.proofs.Math.Option.{none}
use Rattle.refusals.specs.Refusals.{numbered_result}
use Rattle.refusals.specs.declared.Refused.{Refused}
use Rattle.form.specs.Layout.{last_font, last_code}
use Rattle.form.specs.Model.{decode}
use Rattle.form.specs.Cursor.{Points}
use Rattle.form.specs.declared.locate.Cursor.{Cursor}
use Rattle.store.specs.declared.download.BadRun.{BadRun}
use Rattle.stream.specs.Reading.{count_answer, Ending, Ended, read_from, StreamAnswer, end_answer, unread}
use Rattle.stream.specs.declared.reading.CommandCounts.{CommandCounts}
use Rattle.std.specs.Prelude.{None, Some}
use Rattle.std.specs.declared.ops.ControlFlow.{ControlFlow}
use Rattle.std.specs.declared.ops.ControlFlow.TheVariants.{Continue, Break}
use Rattle.stream.specs.declared.reading.State.{State}
use Rattle.stream.specs.declared.reading.Stopped.{Stopped}
use Rattle.stream.specs.declared.reading.Target.{Target}

-- what reading gives from a state on, where the store is s
abbrev pub read_on : List ℕ → List ℕ → State → Ended
read_on b s x = read_from b x.at x.target (record { counts = x.counts; bad = x.bad; bytes = s })

-- the state of a reading of n bytes into the store s; no command is empty, so that no more were counted than bytes passed
pub record Underway (n : ℕ) (s : List ℕ) (x : State) : Type 0 where
  pub within : x.at ≤ n
  pub font : x.target.font ≤ last_font
  pub code : x.target.code ≤ last_code
  pub counts : x.counts.done + x.counts.refused ≤ x.at
  pub points : Points s x.cursor

-- after one command: on with a later state, or how the reading ended
abbrev pub Obeyed : Type 0
Obeyed = ControlFlow Ending State

-- the state after a command that was answered k, with the first bad run so far
abbrev pub state_behind : State → ℕ → Target → ℕ → BadRun → Cursor → State
state_behind x next t k run c = record { at = next; target = t; counts = count_answer k x.counts; bad = run; cursor = c }

-- what reading gives after one command of the state x, which left s
unfoldable pub read_after : List ℕ → List ℕ → State → Obeyed → Ended
read_after b s x (Continue y) = read_on b s y
read_after b s x (Break e) = record { ending = e; progress = record { counts = x.counts; bad = x.bad; bytes = s } }

-- what a reading that has ended gives, where the store is s
abbrev pub ended_of : Stopped → List ℕ → Ended
ended_of r s = record { ending = r.ending; progress = record { counts = r.counts; bad = r.bad; bytes = s } }

-- a 13 stands within the n bytes, at or behind as many bytes as commands were counted
unfoldable pub EndsWithin : ℕ → CommandCounts → Ending → Type 0
EndsWithin n x None = x.done + x.refused ≤ n
EndsWithin n x (Some at) = (x.done + x.refused ≤ at) × (at < n)

-- one command leads to a later state, or to the end, and leaves s
unfoldable pub Leads : ℕ → List ℕ → State → Obeyed → Type 0
Leads n s x (Continue y) = (x.at < y.at) × Underway n s y
Leads n s x (Break e) = EndsWithin n x.counts e × Points s x.cursor

-- ── the whole: the numbers of the code's result
abbrev pub read_by : Result Stopped ℕ → StreamAnswer
read_by (Ok x) = end_answer x.ending x.counts x.bad
read_by (Err k) = unread k

abbrev pub read_answer : Result Stopped Refused → StreamAnswer
read_answer r = read_by (numbered_result r)

-- no store is refused
abbrev pub RefusedNone : List ℕ → Result Stopped Refused → Type 0
RefusedNone s r = IsErr r → decode s ≡ none
