-- Document 01, "The stream": reading a stream. Its whole commands before any 13 spell what is to be done: numbers set and downloads made, one
-- by one, each download by the store's own definition; those answered 0 are counted as done, the others as refused.
use Rattle.std.specs.Prelude.{ℕ, zero, suc, ◌+◌, ◌-◌, List, [], ◌∷◌, Option, None, Some, cond, length, take, drop, eqb, leb}
use Rattle.form.specs.Layout.{last_font, last_code}
use Rattle.form.specs.Model.{decode}
use Rattle.form.specs.Checks.{on_store}
use Rattle.store.specs.Answer.{After, no_run}
use Rattle.store.specs.declared.download.BadRun.{BadRun}
use Rattle.store.specs.Calls.{downloading_font}
use Rattle.store.specs.Download.{downloading_character}
use Rattle.stream.specs.Command.{command_at}
use Rattle.stream.specs.declared.command.Command.{Command}
use Rattle.stream.specs.declared.command.Command.TheVariants.{SetFont, SetCode, FontBlock, CharacterBlock, Broken, End}
use Rattle.stream.specs.declared.reading.CommandCounts.{CommandCounts}
use Rattle.stream.specs.declared.reading.Target.{Target}

-- ── the font number and the code that a block is for
-- "Number and code start at 0"
abbrev pub first_target : Target
first_target = record { font = 0; code = 0 }

-- "out of range counts as refused with 2 .."
abbrev pub range_answer : ℕ → ℕ → ℕ
range_answer last n = cond (leb n last) 0 2

-- ".. and changes nothing"
unfoldable pub with_number : ℕ → Target → Target
with_number n t = cond (leb n last_font) (record { font = n; code = t.code }) t

unfoldable pub with_code : ℕ → Target → Target
with_code n t = cond (leb n last_code) (record { font = t.font; code = n }) t

-- ── what a stream spells
pub data Download : Type 0 where
  font_block : (n : ℕ) (block : List ℕ) → Download
  character_block : (n c : ℕ) (block : List ℕ) → Download

-- what a whole command asks for: a number or a code, with its answer, or a download
pub data Action : Type 0 where
  number_set : (answer : ℕ) → Action
  download : (d : Download) → Action

-- how the reading of a stream ends: with a 13 at a place, or with the stream
abbrev pub Ending : Type 0
Ending = Option ℕ

-- the actions before any 13, and where that is, if there is one
pub record Spelled : Type 0 where
  pub actions : List Action
  pub ending : Ending

abbrev pub spell : Action → Spelled → Spelled
spell a l = record { actions = a ∷ l.actions; ending = l.ending }

abbrev pub part : List ℕ → ℕ → ℕ → List ℕ
part b from to = take (to - from) (drop from b)

-- a command at a place of b, for the target t, and what is spelled from the place behind it
unfoldable pub onward : List ℕ → (ℕ → Target → Spelled) → ℕ → Target → Command → Spelled
onward b rest at t (SetFont n next) = spell (number_set (range_answer last_font n)) (rest next (with_number n t))
onward b rest at t (SetCode n next) = spell (number_set (range_answer last_code n)) (rest next (with_code n t))
onward b rest at t (FontBlock from to) = spell (download (font_block t.font (part b from to))) (rest to t)
onward b rest at t (CharacterBlock from to) = spell (download (character_block t.font t.code (part b from to))) (rest to t)
onward b rest at t Broken = record { actions = []; ending = Some at }
onward b rest at t End = record { actions = []; ending = None }

-- what b spells from a place on, k commands at most; no command is empty, so that there are no more of them than bytes
unfoldable pub spelled_in : ℕ → List ℕ → ℕ → Target → Spelled
spelled_in zero b at t = record { actions = []; ending = None }
spelled_in (suc k) b at t = onward b (spelled_in k b) at t (command_at b at)

unfoldable pub spelled_from : List ℕ → ℕ → Target → Spelled
spelled_from b at t = spelled_in (suc (length b - at)) b at t

-- ── carrying it out
-- the counts so far, W-209: the run of the first refusal 8 so far, and the store
pub record Progress : Type 0 where
  pub counts : CommandCounts
  pub bad : BadRun
  pub bytes : List ℕ

-- W-209: "the stream for its first such refusal .. and 0 for all three otherwise". A run that does not fit has a dot, so that run 0 is none so far.
unfoldable pub first_run : BadRun → BadRun → BadRun
first_run x new = cond (eqb x.run 0) new x

abbrev pub none_counted : CommandCounts
none_counted = record { done = 0; refused = 0 }

-- a command is counted by its answer
unfoldable pub count_answer : ℕ → CommandCounts → CommandCounts
count_answer zero x = record { done = x.done + 1; refused = x.refused }
count_answer (suc k) x = record { done = x.done; refused = x.refused + 1 }

unfoldable pub making : Download → List ℕ → After
making (font_block n b) s = downloading_font n b s
making (character_block n c b) s = downloading_character n c b s

-- "Refused blocks are passed over and counted."
unfoldable pub obey : Action → Progress → Progress
obey (number_set k) x = record { counts = count_answer k x.counts; bad = x.bad; bytes = x.bytes }
obey (download d) x =
    record { counts = count_answer (making d x.bytes).answer x.counts; bad = first_run x.bad (making d x.bytes).bad; bytes = (making d x.bytes).bytes }

unfoldable pub obey_all : List Action → Progress → Progress
obey_all [] x = x
obey_all (a ∷ rest) x = obey_all rest (obey a x)

-- reading from a place on, up to the end or a 13
pub record Ended : Type 0 where
  pub ending : Ending
  pub progress : Progress

unfoldable pub read_from : List ℕ → ℕ → Target → Progress → Ended
read_from b at t x = record { ending = (spelled_from b at t).ending; progress = obey_all (spelled_from b at t).actions x }

-- ── the answer: "commands done, commands refused"; 13 "gives its place and the counts so far"
pub record StreamAnswer : Type 0 where
  pub refusal : ℕ
  pub done : ℕ
  pub refused : ℕ
  pub place : ℕ
  pub bad : BadRun

pub record Reading : Type 0 where
  pub answer : StreamAnswer
  pub bytes : List ℕ

unfoldable pub end_answer : Ending → CommandCounts → BadRun → StreamAnswer
end_answer None x run = record { refusal = 0; done = x.done; refused = x.refused; place = 0; bad = run }
end_answer (Some at) x run = record { refusal = 13; done = x.done; refused = x.refused; place = at; bad = run }

abbrev pub reading_of : Ended → Reading
reading_of e = record { answer = end_answer e.ending e.progress.counts e.progress.bad; bytes = e.progress.bytes }

-- "A refusal answers 0 for every other number"
abbrev pub unread : ℕ → StreamAnswer
unread k = record { refusal = k; done = 0; refused = 0; place = 0; bad = no_run }

-- "Reading checks 1 first."
unfoldable pub reading : List ℕ → List ℕ → Reading
reading b s =
    on_store (λ k. record { answer = unread k; bytes = s }) (decode s)
    (λ st. reading_of (read_from b 0 first_target (record { counts = none_counted; bad = no_run; bytes = s })))
