-- An outcome by the numbers that the code answers.
use Prim.Native.Nat.{ℕ}
use mathlib.Core.Path.{◌≡◌}
use mathlib.Core.List.{List, [], ◌∷◌}
use Rattle.choice.specs.Choosing.{refusal_of, font_of}
use Rattle.choice.specs.Steps.{Choice}
use Rattle.turning.specs.Turn.{Turning}
use Rattle.store.specs.Answer.{After, downloaded_of}
use Rattle.store.specs.declared.download.Downloaded.{Downloaded}
use Rattle.cartridge.specs.declared.RecordAnswer.{RecordAnswer}
use Rattle.collection.specs.Figures.{Adding}
use Rattle.store.specs.declared.download.BadRun.{BadRun}
use Rattle.stream.specs.Reading.{Reading}
use Rattle.marlinfold.specs.Calls.{answered, of_download, of_choice, of_reading, of_turning, of_record, of_adding}

pub downloaded_by : {r : Downloaded} {a : After} {t : List ℕ} → r ≡ downloaded_of a → t ≡ a.bytes → answered r.refusal (r.bad.row ∷ r.bad.filled ∷ r.bad.run ∷ []) t [] ≡ of_download a
downloaded_by e f = rw (e, f)

pub chosen_by_lem : {s : List ℕ} {x a : Choice} {k n : ℕ} → k ≡ refusal_of x → n ≡ font_of x → x ≡ a → answered k (n ∷ []) s [] ≡ of_choice s a
chosen_by_lem p q e = rw (p, q, e)

pub turned_by : (a : Turning) {k : ℕ} {out : List ℕ} → k ≡ a.answer → out ≡ a.bytes → (s : List ℕ) → answered k [] s out ≡ of_turning s a
turned_by a p q s = rw (p, q)

pub read_by_lem : (a : Reading) {k done refused place : ℕ} {bad : BadRun} {t : List ℕ} → a.answer ≡ record { refusal = k; done = done; refused = refused; place = place; bad = bad } → t ≡ a.bytes
    → answered k (done ∷ refused ∷ place ∷ bad.row ∷ bad.filled ∷ bad.run ∷ []) t [] ≡ of_reading a
read_by_lem a e f = rw (e, f)

pub record_by : {s : List ℕ} {x a : RecordAnswer} → x ≡ a → answered x.refusal (x.font ∷ x.which ∷ x.place ∷ []) s [] ≡ of_record s a
record_by e = rw e

pub added_by : (a : Adding) {k : ℕ} {s out : List ℕ} → k ≡ a.answer → out ≡ a.bytes → answered k [] s out ≡ of_adding s a
added_by a p q = rw (p, q)
