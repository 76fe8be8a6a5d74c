-- For the code alone: a salvage reading under way.
use Rattle.std.specs.Prelude.{ℕ, suc, ◌+◌, ◌-◌, ◌*◌, List, ◌++◌, Result, Ok, Err, cond, length}
use Rattle.refusals.specs.Refusals.{numbered_result}
use Rattle.refusals.specs.declared.Refused.{Refused}
use Rattle.form.specs.Num.{low_first}
use Rattle.form.specs.declared.locate.Cursor.{Cursor}
use Rattle.store.specs.declared.download.BadRun.{BadRun}
use Rattle.change.specs.Put.{with_bytes}
use Rattle.stream.specs.Reading.{Progress, first_target, obey_all}
use Rattle.stream.specs.declared.reading.CommandCounts.{CommandCounts}
use Rattle.stream.specs.declared.reading.State.{State}
use Rattle.salvage.specs.Salvage.{Salvage, salvage_in, stretch_bytes, list_of, Salvaging}
use Rattle.salvage.specs.declared.SalvageCounts.{SalvageCounts}

-- what is read and skipped from a place on
unfoldable pub salvage_from : List ℕ → ℕ → ℕ → Salvage
salvage_from b at room = salvage_in (suc (length b - at)) b at room

-- the numbers and the bytes of a salvage reading that has n stretches behind it
abbrev pub salvaged_on : Salvage → List ℕ → ℕ → Progress → Salvaging
salvaged_on x out n p =
    record {
      refusal = cond x.full 12 0;
      stretches = cond x.full 0 (n + length x.stretches);
      done = cond x.full 0 p.counts.done;
      refused = cond x.full 0 p.counts.refused;
      store = p.bytes;
      out = with_bytes out (n * stretch_bytes) (list_of x.stretches);
    }

-- what it gives from a state on, with n stretches listed and room for so many more
unfoldable pub going_on : List ℕ → List ℕ → List ℕ → ℕ → ℕ → State → Salvaging
going_on b s out n room x =
    salvaged_on (salvage_from b x.at room) out n (obey_all (salvage_from b x.at room).actions (record { counts = x.counts; bad = x.bad; bytes = s }))

-- the code's result with the store and the list
abbrev pub both_by : Result SalvageCounts ℕ → List ℕ → List ℕ → Salvaging
both_by (Ok r) s out = record { refusal = 0; stretches = r.stretches; done = r.counts.done; refused = r.counts.refused; store = s; out = out }
both_by (Err k) s out = record { refusal = k; stretches = 0; done = 0; refused = 0; store = s; out = out }

abbrev pub with_both : Result SalvageCounts Refused → List ℕ → List ℕ → Salvaging
with_both r s out = both_by (numbered_result r) s out

-- "start there as a fresh reading would": number and code 0; the counts and the cursor are carried on
abbrev pub started_at : ℕ → CommandCounts → BadRun → Cursor → State
started_at at counts bad cursor = record { at = at; target = first_target; counts = counts; bad = bad; cursor = cursor }

-- a stretch in the list
abbrev pub stretch_of : ℕ → ℕ → List ℕ
stretch_of first size = low_first 8 first ++ low_first 8 size
