-- W-209: the run that reading a stream tells. Assumes nothing.
use mathlib.Core.Path.{◌≡◌, refl, sym, ap, ◌∙◌}
use mathlib.Core.List.{List, [], ◌∷◌}
use mathlib.Core.Bool.{Bool, true, false, cond}
use mathlib.Core.Option.{Option, none, some}
use Prim.Native.Nat.{ℕ}
use native.Mathlib.Omega.{arith}
use lib.Dec.{eqb}
use borrow.Author.Tests.{eqb-true, eqb-false, ne_eqb}
use Rattle.form.specs.Model.{Store, decode}
use Rattle.form.specs.Checks.{on_store}
use Rattle.store.specs.Answer.{After, no_run}
use Rattle.store.specs.Calls.{downloading_font}
use Rattle.store.specs.Download.{downloading_character}
use Rattle.store.specs.declared.download.BadRun.{BadRun}
use Rattle.store.proofs.BadRuns.{TellsRun, font_run, character_run}
use Rattle.stream.specs.Reading.{Download, font_block, character_block, Action, number_set, download, spelled_from, first_target, Progress, first_run, none_counted, making, obey, obey_all, read_from, Reading, end_answer, reading}
use Rattle.stream.specs.Downloads.{downloads_in, spelled_downloads, first_bad, FirstBadTold}
use Rattle.stream.specs.declared.reading.CommandCounts.{CommandCounts}
use Rattle.stream.specs.Reading.{Ending}
use Rattle.std.specs.Prelude.{None, Some}
use Rattle.stream.proofs.Readings.{read_not, read_store}

making_run : (d : Download) (s : List ℕ) → TellsRun (making d s)
unfolding making
making_run (font_block n b) s = let x = font_run n b s in ((λ e. absurd (x.0 e)), λ f. x.1)
making_run (character_block n c b) s = character_run n c b s

-- what is told after more commands: the run told so far, or else their first
abbrev Told : List Action → Progress → Type 0
Told l x = (x.bad.run ≡ 0 → x.bad ≡ no_run) → (obey_all l x).bad ≡ cond (eqb x.bad.run 0) (first_bad (downloads_in l) x.bytes) x.bad

module _ (d : Download) (rest : List Action) (x : Progress) (ih : Told rest (obey (download d) x)) where
  new : After
  new = making d x.bytes

  -- the run told after d is y
  then : (y : BadRun) → first_run x.bad new.bad ≡ y → (y.run ≡ 0 → y ≡ no_run)
      → (obey_all rest (obey (download d) x)).bad ≡ cond (eqb y.run 0) (first_bad (downloads_in rest) new.bytes) y
  unfolding obey new
  then y q g = rw (← q) (ih (rw (← q) at g))

  -- d is the first that can tell one
  first : (t : Bool) → eqb new.answer 8 ≡ t → first_run x.bad new.bad ≡ new.bad
      → (obey_all rest (obey (download d) x)).bad ≡ cond t new.bad (first_bad (downloads_in rest) new.bytes)
  unfolding new
  first true e q =
      let l = (making_run d x.bytes).0 (eqb-true _ _ e) in
      then new.bad q (λ z. absurd (omega (arith, l, z))) ∙ rw (ne_eqb new.bad.run 0 (λ z. omega (arith, l, z)))
  first false e q = then no_run (q ∙ (making_run d x.bytes).1 (eqb-false _ _ e)) (λ u. refl)

  one_more : (t : Bool) → eqb x.bad.run 0 ≡ t
      → (obey_all rest (obey (download d) x)).bad ≡ cond t (cond (eqb new.answer 8) new.bad (first_bad (downloads_in rest) new.bytes)) x.bad
  unfolding first_run
  one_more true e = first (eqb new.answer 8) refl (rw e)
  one_more false e = then x.bad (rw e) (λ z. absurd (eqb-false _ _ e z)) ∙ rw e

obeyed_bad : (l : List Action) (x : Progress) → Told l x
unfolding obey_all obey downloads_in first_bad new
obeyed_bad [] x f = go (eqb x.bad.run 0) refl
  where
    go : (t : Bool) → eqb x.bad.run 0 ≡ t → x.bad ≡ cond t no_run x.bad
    go true e = f (eqb-true _ _ e)
    go false e = refl
obeyed_bad (number_set k ∷ rest) x f = obeyed_bad rest (obey (number_set k) x) f
obeyed_bad (download d ∷ rest) x f = one_more d rest x (obeyed_bad rest (obey (download d) x)) (eqb x.bad.run 0) refl

end_bad : (e : Ending) (x : CommandCounts) (run : BadRun) → (end_answer e x run).bad ≡ run
unfolding end_answer
end_bad None x run = refl
end_bad (Some at) x run = refl

-- on a buffer that is not a store every download is refused with 1
none_bad : (l : List Download) (s : List ℕ) → decode s ≡ none → first_bad l s ≡ no_run
unfolding first_bad making downloading_font downloading_character on_store
none_bad [] s e = refl
none_bad (font_block n b ∷ l) s e = rw e (none_bad l s e)
none_bad (character_block n c b ∷ l) s e = rw e (none_bad l s e)

pub carried_bad : (b s : List ℕ) → (read_from b 0 first_target (record { counts = none_counted; bad = no_run; bytes = s })).progress.bad ≡ first_bad (spelled_downloads b) s
unfolding read_from spelled_downloads
carried_bad b s = obeyed_bad (spelled_from b 0 first_target).actions (record { counts = none_counted; bad = no_run; bytes = s }) (λ z. refl)

pub first_bad_told : FirstBadTold
unfolding read_from
first_bad_told b s = go (decode s) refl
  where
    go : (o : Option Store) → decode s ≡ o → (reading b s).answer.bad ≡ first_bad (spelled_downloads b) s
    go none e = ap (λ (r : Reading). r.answer.bad) (read_not b s e) ∙ sym (none_bad (spelled_downloads b) s e)
    go (some st) e = ap (λ (r : Reading). r.answer.bad) (read_store b s st e) ∙ end_bad (spelled_from b 0 first_target).ending _ _ ∙ carried_bad b s
