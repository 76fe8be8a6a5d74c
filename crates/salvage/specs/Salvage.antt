-- W-212: reading past torn places. What a stream spells with its torn places passed over depends on its bytes and on how many stretches the list
-- has room for, never on the store; it is then carried out as a reading is.
use Rattle.std.specs.Prelude.{ℕ, zero, suc, ◌+◌, ◌-◌, ◌/◌, ◌≡◌, List, [], ◌∷◌, ◌++◌, Bool, true, false, cond, leb, length}
use Rattle.form.specs.Layout.{last_font}
use Rattle.form.specs.Num.{low_first}
use Rattle.form.specs.Model.{decode}
use Rattle.form.specs.Checks.{on_store}
use Rattle.store.specs.Answer.{no_run}
use Rattle.store.specs.Calls.{onto}
use Rattle.stream.specs.Command.{command_at}
use Rattle.stream.specs.Reading.{Action, Download, Progress, first_target, none_counted, spelled_from, obey_all}
use Rattle.stream.specs.Downloads.{downloads_in, made_all}
use Rattle.stream.specs.declared.command.Command.{Command}
use Rattle.stream.specs.declared.command.Command.TheVariants.{SetFont, SetCode, FontBlock, CharacterBlock, Broken, End}
use Rattle.stream.specs.Reading.{Ending}
use Rattle.std.specs.Prelude.{None, Some}

-- "a whole ESC *c#D command stands with a number within range"; "Such bytes inside picture data count too."
abbrev pub restarts : Command → Bool
restarts (SetFont n e) = leb n last_font
restarts (SetCode n e) = false
restarts (FontBlock f e) = false
restarts (CharacterBlock f e) = false
restarts Broken = false
restarts End = false

-- "the first .. place where": from a place on, k places at most; "If there is no such place, the rest is the last stretch": the end
unfoldable pub restart_in : ℕ → List ℕ → ℕ → ℕ
restart_in zero b at = length b
restart_in (suc k) b at = cond (restarts (command_at b at)) at (restart_in k b (at + 1))

unfoldable pub restart_from : List ℕ → ℕ → ℕ
restart_from b at = restart_in (length b - at) b at

-- "every skipped stretch by first place and length"
pub record Stretch : Type 0 where
  pub first : ℕ
  pub size : ℕ

-- what is read, what is skipped, and whether the list had no place for a stretch
pub record Salvage : Type 0 where
  pub actions : List Action
  pub stretches : List Stretch
  pub full : Bool

abbrev pub read_then : List Action → Salvage → Salvage
read_then some x = record { actions = some ++ x.actions; stretches = x.stretches; full = x.full }

abbrev pub skip_then : Stretch → Salvage → Salvage
skip_then t x = record { actions = x.actions; stretches = t ∷ x.stretches; full = x.full }

-- a reading ended so, where the list has room for so many stretches; `onward` goes on from a place with room for so many more
abbrev pub past_tear : List ℕ → (ℕ → ℕ → Salvage) → ℕ → Ending → Salvage
past_tear b onward room None = record { actions = []; stretches = []; full = false }
past_tear b onward zero (Some p) = record { actions = []; stretches = []; full = true }
past_tear b onward (suc room) (Some p) =
    -- "go to the first later place .., start there as a fresh reading would"
    skip_then (record { first = p; size = restart_from b (p + 1) - p }) (onward (restart_from b (p + 1)) room)

-- each stretch has a byte, so that there are no more of them than bytes
unfoldable pub salvage_in : ℕ → List ℕ → ℕ → ℕ → Salvage
salvage_in zero b at room = record { actions = []; stretches = []; full = false }
salvage_in (suc k) b at room = read_then (spelled_from b at first_target).actions (past_tear b (salvage_in k b) room (spelled_from b at first_target).ending)

unfoldable pub salvage_of : List ℕ → ℕ → Salvage
salvage_of b room = salvage_in (suc (length b)) b 0 room

-- "each number 8 bytes, low byte first"
abbrev pub stretch_bytes : ℕ
stretch_bytes = 16

unfoldable pub list_of : List Stretch → List ℕ
list_of [] = []
list_of (t ∷ ts) = low_first 8 t.first ++ (low_first 8 t.size ++ list_of ts)

-- how many stretches a list of n bytes has room for
abbrev pub room_of : ℕ → ℕ
room_of n = n / stretch_bytes

-- what the call answers, the store and the list afterwards
pub record Salvaging : Type 0 where
  pub refusal : ℕ
  pub stretches : ℕ
  pub done : ℕ
  pub refused : ℕ
  pub store : List ℕ
  pub out : List ℕ

-- "answers 0 with the number of stretches and the commands done and refused over the whole reading"; "12 if the list has no place for a stretch, with
-- the stretches listed so far and every command before the unlisted one standing"
abbrev pub salvaged_by : Salvage → List ℕ → Progress → Salvaging
salvaged_by x out p =
    record {
      refusal = cond x.full 12 0;
      stretches = cond x.full 0 (length x.stretches);
      done = cond x.full 0 p.counts.done;
      refused = cond x.full 0 p.counts.refused;
      store = p.bytes;
      out = onto (list_of x.stretches) out;
    }

unfoldable pub salvaging : List ℕ → List ℕ → List ℕ → Salvaging
salvaging b out s =
    on_store (λ k. record { refusal = k; stretches = 0; done = 0; refused = 0; store = s; out = out }) (decode s)
    (λ st. salvaged_by (salvage_of b (room_of (length out))) out (obey_all (salvage_of b (room_of (length out))).actions (record { counts = none_counted; bad = no_run; bytes = s })))

-- demand 3: "it counts as the downloads spelled by the commands that it reads whole outside the skipped stretches, up to its end or a 12"
unfoldable pub salvaged_downloads : List ℕ → ℕ → List Download
salvaged_downloads b n = downloads_in (salvage_of b (room_of n)).actions

-- it leaves what they leave, made one by one, whatever buffer it gets
abbrev pub SalvagedMade : Type 0
SalvagedMade = (b out s : List ℕ) → (salvaging b out s).store ≡ made_all (salvaged_downloads b (length out)) s
