-- A stream is a list of downloads: "the downloads spelled by its whole commands before any 13", in the words of demand 3.
use Rattle.std.specs.Prelude.{ℕ, zero, suc, ◌+◌, ◌≡◌, List, [], ◌∷◌, cond, eqb, length}
use Rattle.std.proofs.Math.Option.{some}
use Rattle.form.specs.Model.{Store, decode}
use Rattle.store.specs.Answer.{no_run}
use Rattle.store.specs.declared.download.BadRun.{BadRun}
use Rattle.stream.specs.Reading.{Download, Action, number_set, download, first_target, spelled_from, making, reading}

unfoldable pub downloads_in : List Action → List Download
downloads_in [] = []
downloads_in (number_set k ∷ rest) = downloads_in rest
downloads_in (download d ∷ rest) = d ∷ downloads_in rest

unfoldable pub spelled_downloads : List ℕ → List Download
spelled_downloads b = downloads_in (spelled_from b 0 first_target).actions

-- the bytes that downloads made one by one leave
unfoldable pub made_all : List Download → List ℕ → List ℕ
made_all [] s = s
made_all (d ∷ ds) s = made_all ds (making d s).bytes

-- reading leaves what they leave, whatever buffer it gets
abbrev pub DownloadsMade : Type 0
DownloadsMade = (b s : List ℕ) → (reading b s).bytes ≡ made_all (spelled_downloads b) s

-- W-209: of downloads made one by one, the run of the first that is refused with 8
unfoldable pub first_bad : List Download → List ℕ → BadRun
first_bad [] s = no_run
first_bad (d ∷ ds) s = cond (eqb (making d s).answer 8) (making d s).bad (first_bad ds (making d s).bytes)

-- reading answers it, whatever buffer it gets and however it ends
abbrev pub FirstBadTold : Type 0
FirstBadTold = (b s : List ℕ) → (reading b s).answer.bad ≡ first_bad (spelled_downloads b) s

-- and it counts each whole command before any 13 once
abbrev pub CommandsCounted : Type 0
CommandsCounted =
    (b s : List ℕ) (st : Store) → decode s ≡ some st
    → (reading b s).answer.done + (reading b s).answer.refused ≡ length (spelled_from b 0 first_target).actions

-- ── the counts. The answers that commands get one by one: a number its own, 0 or 2, a block what its download answers
unfoldable pub answers_in : List Action → List ℕ → List ℕ
answers_in [] s = []
answers_in (number_set k ∷ rest) s = k ∷ answers_in rest s
answers_in (download d ∷ rest) s = (making d s).answer ∷ answers_in rest (making d s).bytes

-- how many of them are 0, and how many are not
unfoldable pub done_among : List ℕ → ℕ
done_among [] = 0
done_among (zero ∷ l) = done_among l + 1
done_among (suc k ∷ l) = done_among l

unfoldable pub refused_among : List ℕ → ℕ
refused_among [] = 0
refused_among (zero ∷ l) = refused_among l
refused_among (suc k ∷ l) = refused_among l + 1

-- on a store, reading counts just these, however it ends
abbrev pub CountedByAnswers : Type 0
CountedByAnswers =
    (b s : List ℕ) (st : Store) → decode s ≡ some st
    → let answers : List ℕ = answers_in (spelled_from b 0 first_target).actions s in
    ((reading b s).answer.done ≡ done_among answers) × ((reading b s).answer.refused ≡ refused_among answers)
