-- W-209: the numbers of a run past the width, by a character block and through a stream. Assumes nothing.
use Prim.Native.Nat.{ℕ}
use mathlib.Core.Path.{◌≡◌, refl, sym, ap, ◌∙◌}
use mathlib.Core.List.{List, [], ◌∷◌}
use mathlib.Core.Bool.{Bool, true, false, cond}
use mathlib.Core.Option.{Option, none, some}
use native.Mathlib.Omega.{arith}
use lib.Dec.{eqb}
use borrow.Author.Tests.{ne_eqb}
use Rattle.form.specs.Model.{Store, decode}
use Rattle.form.specs.Checks.{on_store}
use Rattle.form.proofs.Locates.{store_is}
use Rattle.store.specs.Answer.{After}
use Rattle.store.specs.Calls.{downloading_font}
use Rattle.store.specs.Download.{downloading_character}
use Rattle.store.specs.declared.download.BadRun.{BadRun}
use Rattle.store.proofs.BadRuns.{Eight, font_run, character_run, bad_run_told, bad_run_refused, bad_run_exactly}
use Rattle.stream.specs.Reading.{Download, font_block, character_block, making}
use Rattle.stream.specs.Downloads.{spelled_downloads, first_bad}
use Rattle.stream.proofs.BadRuns.{carried_bad, first_bad_told}
use Rattle.marlinfold.specs.Calls.{of_download}
use Rattle.marlinfold.specs.Book.{call_of, calls_of, spelled_calls}
use Rattle.marlinfold.specs.Demands.{carried_out, first_bad_run, BadRunTold, ZerosOtherwise, BadRunRefused, BadRunExactly, StreamFirstBadRun}

pub told : BadRunTold
told n c b s e = go (decode s) refl
  where
    go : (o : Option Store) → decode s ≡ o → Eight n c b s (downloading_character n c b s).bad
    go none q = let z : (downloading_character n c b s).answer ≡ 1 = unfold downloading_character on_store in rw q in absurd (omega (arith, z, e))
    go (some st) q = bad_run_told n c b s (store_is s st q) e

pub refused : BadRunRefused
refused n c b s row filled run x = bad_run_refused n c b s row filled run x

pub exactly : BadRunExactly
exactly n c b s row filled run x l k = ap of_download (bad_run_exactly n c b s row filled run x l k)

abbrev pub three : BadRun → List ℕ
three r = r.row ∷ r.filled ∷ r.run ∷ []

pub zeros_otherwise : ZerosOtherwise
zeros_otherwise n c b s f = ap three ((character_run n c b s).1 f)

-- the calls of a stream as its downloads
calls_bad : (ds : List Download) (s : List ℕ) → first_bad_run (calls_of ds) s ≡ three (first_bad ds s)
unfolding first_bad_run first_bad calls_of call_of making
calls_bad [] s = refl
calls_bad (font_block n b ∷ ds) s = rw (ne_eqb (downloading_font n b s).answer 8 (font_run n b s).0) (calls_bad ds (downloading_font n b s).bytes)
calls_bad (character_block n c b ∷ ds) s = go (eqb (downloading_character n c b s).answer 8) (calls_bad ds (downloading_character n c b s).bytes)
  where
    a : After
    a = downloading_character n c b s

    go : (t : Bool) → first_bad_run (calls_of ds) a.bytes ≡ three (first_bad ds a.bytes)
        → cond t (three a.bad) (first_bad_run (calls_of ds) a.bytes) ≡ three (cond t a.bad (first_bad ds a.bytes))
    go true ih = refl
    go false ih = ih

pub carried_first : (b s : List ℕ) → three (carried_out b s).progress.bad ≡ first_bad_run (spelled_calls b) s
unfolding spelled_calls
carried_first b s = ap three (carried_bad b s) ∙ sym (calls_bad (spelled_downloads b) s)

pub stream_first : StreamFirstBadRun
unfolding spelled_calls
stream_first b s = ap three (first_bad_told b s) ∙ sym (calls_bad (spelled_downloads b) s)
