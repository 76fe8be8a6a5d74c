-- A stream's counts are those of the answers that its commands get one by one. Assumes nothing.
use Prim.Native.Nat.{ℕ, zero, suc, ◌+◌}
use mathlib.Core.Path.{◌≡◌, refl, ap, ◌∙◌}
use mathlib.Core.List.{List, [], ◌∷◌}
use native.Mathlib.Omega.{arith}
use native.Mathlib.Nat.{zero-add}
use Rattle.store.specs.Answer.{no_run}
use Rattle.store.specs.declared.download.BadRun.{BadRun}
use Rattle.stream.specs.Reading.{Action, number_set, download, Progress, Reading, none_counted, count_answer, making, obey, obey_all, end_answer, spelled_from, first_target, read_from}
use Rattle.stream.specs.Downloads.{answers_in, done_among, refused_among, CountedByAnswers}
use Rattle.stream.specs.declared.reading.CommandCounts.{CommandCounts}
use Rattle.stream.specs.Reading.{Ending}
use Rattle.std.specs.Prelude.{None, Some}
use Rattle.stream.proofs.Readings.{read_store}

-- one answer more
one_more : (k : ℕ) (l : List ℕ) (x : CommandCounts)
    → ((count_answer k x).done + done_among l ≡ x.done + done_among (k ∷ l)) × ((count_answer k x).refused + refused_among l ≡ x.refused + refused_among (k ∷ l))
unfolding count_answer done_among refused_among
one_more zero l x = (omega arith, refl)
one_more (suc k) l x = (refl, omega arith)

-- the counts of actions carried out are those before and those of their answers
pub counted : (l : List Action) (x : Progress)
    → ((obey_all l x).counts.done ≡ x.counts.done + done_among (answers_in l x.bytes)) × ((obey_all l x).counts.refused ≡ x.counts.refused + refused_among (answers_in l x.bytes))
unfolding obey_all obey answers_in
counted [] x = unfold done_among refused_among in (omega arith, omega arith)
counted (number_set k ∷ l) x =
    let i = counted l (obey (number_set k) x) in
    let m = one_more k (answers_in l x.bytes) x.counts in
    (i.0 ∙ m.0, i.1 ∙ m.1)
counted (download d ∷ l) x =
    let i = counted l (obey (download d) x) in
    let m = one_more (making d x.bytes).answer (answers_in l (making d x.bytes).bytes) x.counts in
    (i.0 ∙ m.0, i.1 ∙ m.1)

ended : (e : Ending) (x : CommandCounts) (run : BadRun) → ((end_answer e x run).done ≡ x.done) × ((end_answer e x run).refused ≡ x.refused)
unfolding end_answer
ended None x run = (refl, refl)
ended (Some at) x run = (refl, refl)

pub counted_by_answers : CountedByAnswers
unfolding read_from
counted_by_answers b s st q =
    let w = spelled_from b 0 first_target in
    let x : Progress = record { counts = none_counted; bad = no_run; bytes = s } in
    let y = obey_all w.actions x in
    let e = ended w.ending y.counts y.bad in
    let o = counted w.actions x in (
      ap (λ (a : Reading). a.answer.done) (read_store b s st q) ∙ e.0 ∙ o.0 ∙ zero-add _,
      ap (λ (a : Reading). a.answer.refused) (read_store b s st q) ∙ e.1 ∙ o.1 ∙ zero-add _,
    )
