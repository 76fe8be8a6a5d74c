-- Laws of reading a stream, command by command. Assumes nothing.
use mathlib.Core.Path.{◌≡◌, refl, sym, ap, ◌∙◌, subst}
use mathlib.Core.List.{List, [], ◌∷◌}
use mathlib.Core.Bool.{Bool, true, false, cond}
use mathlib.Core.Option.{Option, none, some}
use Prim.Native.Nat.{ℕ, zero, suc, ◌+◌, ◌-◌, ◌<◌, ◌≤◌}
use native.Mathlib.Omega.{arith}
use native.Mathlib.Nat.{zero-add}
use lib.ListN.{length}
use lib.Dec.{leb}
use borrow.Author.Tests.{le-leb, leb-true, leb-false}
use Rattle.form.specs.Model.{Store, decode}
use Rattle.form.specs.Checks.{on_store}
use Rattle.store.specs.Calls.{downloading_font}
use Rattle.store.specs.Answer.{no_run}
use Rattle.store.specs.declared.download.BadRun.{BadRun}
use Rattle.store.specs.Download.{downloading_character}
use Rattle.form.specs.Cursor.{Points}
use Rattle.form.specs.declared.locate.Cursor.{Cursor}
use Rattle.stream.specs.Command.{command_at}
use Rattle.stream.specs.CommandEnds.{CommandEnds}
use Rattle.stream.specs.Reading.{Download, font_block, character_block, Action, number_set, download, Spelled, spell, part, onward, spelled_in, spelled_from, first_target, range_answer, with_number, with_code, Progress, none_counted, count_answer, making, obey, obey_all, read_from, Reading, end_answer, reading_of, reading, first_run}
use Rattle.stream.specs.Downloads.{downloads_in, spelled_downloads, made_all, DownloadsMade, CommandsCounted}
use Rattle.stream.specs.Underway.{read_on, Underway, state_behind, read_after, EndsWithin, Leads}
use Rattle.stream.specs.declared.command.Command.{Command}
use Rattle.stream.specs.declared.command.Command.TheVariants.{SetFont, SetCode, FontBlock, CharacterBlock, Broken, End}
use Rattle.stream.specs.declared.reading.CommandCounts.{CommandCounts}
use Rattle.stream.specs.Reading.{Ending}
use Rattle.std.specs.Prelude.{None, Some}
use Rattle.stream.specs.Underway.{Obeyed}
use Rattle.std.specs.declared.ops.ControlFlow.TheVariants.{Continue, Break}
use Rattle.stream.specs.declared.reading.State.{State}
use Rattle.stream.specs.declared.reading.Target.{Target}
use Rattle.stream.proofs.Commands.{command_at_ends, command_past}

-- ── more fuel changes nothing
same_onward : (b : List ℕ) (f g : ℕ → Target → Spelled) (n at : ℕ) (t : Target) (c : Command) → CommandEnds at n c
    → ((e : ℕ) (u : Target) → at < e → e ≤ n → f e u ≡ g e u) → onward b f at t c ≡ onward b g at t c
unfolding onward CommandEnds
same_onward b f g n at t (SetFont v e) h i = ap (spell (number_set (range_answer 32767 v))) (i e (with_number v t) h.0 h.1)
same_onward b f g n at t (SetCode v e) h i = ap (spell (number_set (range_answer 255 v))) (i e (with_code v t) h.0 h.1)
same_onward b f g n at t (FontBlock a e) h i = ap (spell (download (font_block t.font (part b a e)))) (i e t (omega (arith, h.0, h.1)) h.2)
same_onward b f g n at t (CharacterBlock a e) h i = ap (spell (download (character_block t.font t.code (part b a e)))) (i e t (omega (arith, h.0, h.1)) h.2)
same_onward b f g n at t Broken h i = refl
same_onward b f g n at t End h i = refl

enough : (k m : ℕ) (b : List ℕ) (at : ℕ) (t : Target) → length b - at < k → length b - at < m → spelled_in k b at t ≡ spelled_in m b at t
unfolding spelled_in
enough zero m b at t p q = absurd (omega arith)
enough (suc k) zero b at t p q = absurd (omega arith)
enough (suc k) (suc m) b at t p q =
    same_onward b (spelled_in k b) (spelled_in m b) (length b) at t (command_at b at) (command_at_ends b at) (λ e u l r. enough k m b e u (omega arith) (omega arith))

spelled_eq : (b : List ℕ) (at : ℕ) (t : Target) → spelled_from b at t ≡ onward b (spelled_from b) at t (command_at b at)
unfolding spelled_from spelled_in
spelled_eq b at t =
    same_onward b (spelled_in (length b - at) b) (λ e u. spelled_in (suc (length b - e)) b e u) (length b) at t (command_at b at) (command_at_ends b at)
    (λ e u l r. enough (length b - at) (suc (length b - e)) b e u (omega arith) (omega arith))

-- ── a command, and the rest
module _ (b : List ℕ) (at : ℕ) (t : Target) (x : Progress) where
  pub read_number : (n e : ℕ) → command_at b at ≡ SetFont n e → read_from b at t x ≡ read_from b e (with_number n t) (obey (number_set (range_answer 32767 n)) x)
  unfolding read_from obey_all onward
  read_number n e q = rw (spelled_eq b at t, q)

  pub read_code : (n e : ℕ) → command_at b at ≡ SetCode n e → read_from b at t x ≡ read_from b e (with_code n t) (obey (number_set (range_answer 255 n)) x)
  unfolding read_from obey_all onward
  read_code n e q = rw (spelled_eq b at t, q)

  pub read_font : (f e : ℕ) → command_at b at ≡ FontBlock f e → read_from b at t x ≡ read_from b e t (obey (download (font_block t.font (part b f e))) x)
  unfolding read_from obey_all onward
  read_font f e q = rw (spelled_eq b at t, q)

  pub read_character : (f e : ℕ) → command_at b at ≡ CharacterBlock f e
      → read_from b at t x ≡ read_from b e t (obey (download (character_block t.font t.code (part b f e))) x)
  unfolding read_from obey_all onward
  read_character f e q = rw (spelled_eq b at t, q)

  pub read_broken : command_at b at ≡ Broken → read_from b at t x ≡ record { ending = Some at; progress = x }
  unfolding read_from obey_all onward
  read_broken q = rw (spelled_eq b at t, q)

  pub read_end : command_at b at ≡ End → read_from b at t x ≡ record { ending = None; progress = x }
  unfolding read_from obey_all onward
  read_end q = rw (spelled_eq b at t, q)

-- ── the whole
pub read_not : (b s : List ℕ) → decode s ≡ none → reading b s ≡ record { answer = record { refusal = 1; done = 0; refused = 0; place = 0; bad = no_run }; bytes = s }
unfolding reading on_store
read_not b s e = rw e

pub read_store : (b s : List ℕ) (st : Store) → decode s ≡ some st → reading b s ≡ reading_of (read_from b 0 first_target (record { counts = none_counted; bad = no_run; bytes = s }))
unfolding reading on_store
read_store b s st e = rw e

-- ── a stream is a list of downloads
pub obeyed_made : (rest : List Action) (x : Progress) → (obey_all rest x).bytes ≡ made_all (downloads_in rest) x.bytes
unfolding obey_all obey downloads_in made_all
obeyed_made [] x = refl
obeyed_made (number_set k ∷ rest) x = obeyed_made rest (obey (number_set k) x)
obeyed_made (download d ∷ rest) x = obeyed_made rest (obey (download d) x)

-- each download on a buffer that is no store leaves it
making_not : (d : Download) (s : List ℕ) → decode s ≡ none → (making d s).bytes ≡ s
unfolding making downloading_font downloading_character on_store
making_not (font_block n b) s e = rw e
making_not (character_block n c b) s e = rw e

pub made_not : (ds : List Download) (s : List ℕ) → decode s ≡ none → made_all ds s ≡ s
unfolding made_all
made_not [] s e = refl
made_not (d ∷ ds) s e = ap (made_all ds) (making_not d s e) ∙ made_not ds s e

pub downloads_made : DownloadsMade
unfolding spelled_downloads read_from
downloads_made b s = go (decode s) refl
  where
    go : (o : Option Store) → decode s ≡ o → (reading b s).bytes ≡ made_all (downloads_in (spelled_from b 0 first_target).actions) s
    go none e = ap (λ (r : Reading). r.bytes) (read_not b s e) ∙ sym (made_not (downloads_in (spelled_from b 0 first_target).actions) s e)
    go (some st) e = ap (λ (r : Reading). r.bytes) (read_store b s st e) ∙ obeyed_made (spelled_from b 0 first_target).actions (record { counts = none_counted; bad = no_run; bytes = s })

count_more : (k : ℕ) (x : CommandCounts) → (count_answer k x).done + (count_answer k x).refused ≡ x.done + x.refused + 1
unfolding count_answer
count_more zero x = omega arith
count_more (suc k) x = omega arith

obeyed_counted : (rest : List Action) (x : Progress) → (obey_all rest x).counts.done + (obey_all rest x).counts.refused ≡ x.counts.done + x.counts.refused + length rest
unfolding obey_all obey
obeyed_counted [] x = omega arith
obeyed_counted (number_set k ∷ rest) x = obeyed_counted rest (obey (number_set k) x) ∙ omega (arith, count_more k x.counts)
obeyed_counted (download d ∷ rest) x = obeyed_counted rest (obey (download d) x) ∙ omega (arith, count_more (making d x.bytes).answer x.counts)

end_counts : (e : Ending) (x : CommandCounts) (run : BadRun) → (end_answer e x run).done + (end_answer e x run).refused ≡ x.done + x.refused
unfolding end_answer
end_counts None x run = refl
end_counts (Some at) x run = refl

pub commands_counted : CommandsCounted
unfolding read_from
commands_counted b s st e =
    let w = spelled_from b 0 first_target in
    ap (λ (r : Reading). r.answer.done + r.answer.refused) (read_store b s st e)
    ∙ end_counts w.ending (obey_all w.actions (record { counts = none_counted; bad = no_run; bytes = s })).counts _
    ∙ obeyed_counted w.actions (record { counts = none_counted; bad = no_run; bytes = s })
    ∙ zero-add (length w.actions)

-- ── the numbers and the counts
-- the target, the counts and the run that a reading starts with, by their fields
pub first_by_fields : (t : Target) → (t.font ≡ 0) × (t.code ≡ 0) → t ≡ first_target
first_by_fields t h =
    let f : ℕ → ℕ → Target = λ n c. record { font = n; code = c } in
    ap (λ (n : ℕ). f n t.code) h.0 ∙ ap (λ (c : ℕ). f 0 c) h.1

pub none_by_fields : (x : CommandCounts) → (x.done ≡ 0) × (x.refused ≡ 0) → x ≡ none_counted
none_by_fields x h =
    let f : ℕ → ℕ → CommandCounts = λ d r. record { done = d; refused = r } in
    ap (λ (d : ℕ). f d x.refused) h.0 ∙ ap (λ (r : ℕ). f 0 r) h.1

pub run_by_fields : (b : BadRun) → b.row ≡ 0 → b.filled ≡ 0 → b.run ≡ 0 → b ≡ no_run
run_by_fields b p q r =
    let f : ℕ → ℕ → ℕ → BadRun = λ x y z. record { row = x; filled = y; run = z } in
    ap (λ (x : ℕ). f x b.filled b.run) p ∙ ap (λ (y : ℕ). f 0 y b.run) q ∙ ap (λ (z : ℕ). f 0 0 z) r

pub number_low : (n : ℕ) (t : Target) → n ≤ 32767 → with_number n t ≡ record { font = n; code = t.code }
unfolding with_number
number_low n t l = rw (le-leb n 32767 l)

pub code_low : (n : ℕ) (t : Target) → n ≤ 255 → with_code n t ≡ record { font = t.font; code = n }
unfolding with_code
code_low n t l = rw (le-leb n 255 l)

-- a target in range stays so
abbrev InRange : Target → Type 0
InRange t = (t.font ≤ 32767) × (t.code ≤ 255)

number_range : (n : ℕ) (t : Target) → InRange t → InRange (with_number n t)
unfolding with_number
number_range n t h = go (leb n 32767) refl
  where
    go : (a : Bool) → leb n 32767 ≡ a → InRange (cond a (record { font = n; code = t.code }) t)
    go true q = (leb-true _ _ q, h.1)
    go false q = h

code_range : (n : ℕ) (t : Target) → InRange t → InRange (with_code n t)
unfolding with_code
code_range n t h = go (leb n 255) refl
  where
    go : (a : Bool) → leb n 255 ≡ a → InRange (cond a (record { font = t.font; code = n }) t)
    go true q = (h.0, leb-true _ _ q)
    go false q = h

-- ── where a command ends
abbrev Goes : Command → Type 0
Goes (SetFont n e) = Unit {0}
Goes (SetCode n e) = Unit {0}
Goes (FontBlock f e) = Unit {0}
Goes (CharacterBlock f e) = Unit {0}
Goes Broken = Unit {0}
Goes End = ⊥

module _ (b : List ℕ) (at : ℕ) where
  pub ends_number : (n e : ℕ) → command_at b at ≡ SetFont n e → (at < e) × (e ≤ length b)
  unfolding CommandEnds
  ends_number n e q = subst (CommandEnds at (length b)) q (command_at_ends b at)

  pub ends_code : (n e : ℕ) → command_at b at ≡ SetCode n e → (at < e) × (e ≤ length b)
  unfolding CommandEnds
  ends_code n e q = subst (CommandEnds at (length b)) q (command_at_ends b at)

  pub ends_font : (f e : ℕ) → command_at b at ≡ FontBlock f e → (at < f) × (f ≤ e) × (e ≤ length b)
  unfolding CommandEnds
  ends_font f e q = subst (CommandEnds at (length b)) q (command_at_ends b at)

  pub ends_character : (f e : ℕ) → command_at b at ≡ CharacterBlock f e → (at < f) × (f ≤ e) × (e ≤ length b)
  unfolding CommandEnds
  ends_character f e q = subst (CommandEnds at (length b)) q (command_at_ends b at)

  -- a 13 stands before the end
  broken_within : command_at b at ≡ Broken → at < length b
  broken_within q = go (leb (length b) at) refl
    where
      go : (a : Bool) → leb (length b) at ≡ a → at < length b
      go true h = absurd (subst Goes (sym q ∙ command_past b at (leb-true _ _ h)) tt)
      go false h = leb-false _ _ h

-- ── one command of the code, by what its calls answered: what its contract says
abbrev Obeys : List ℕ → List ℕ → State → List ℕ → Obeyed → Type 0
Obeys b s x u r = (read_after b u x r ≡ read_on b s x) × Leads (length b) u x r

module _ (b s : List ℕ) (x : State) (h : Underway (length b) s x) where
  under : (u : List ℕ) (t : Target) (k e : ℕ) (run : BadRun) (c : Cursor) → x.at < e → e ≤ length b → InRange t → Points u c → Underway (length b) u (state_behind x e t k run c)
  under u t k e run c l r i p = record { within = r; font = i.0; code = i.1; counts = omega (arith, h.counts, count_more k x.counts); points = p }

  in_range_lem : InRange x.target
  in_range_lem = (h.font, h.code)

  pub obey_number : (n e : ℕ) (y : State) → command_at b x.at ≡ SetFont n e → y ≡ state_behind x e (with_number n x.target) (range_answer 32767 n) x.bad x.cursor → Obeys b s x s (Continue y)
  unfolding read_after Leads obey
  obey_number n e y q i =
      let w = ends_number b x.at n e q in
      rw i (sym (read_number b x.at x.target (record { counts = x.counts; bad = x.bad; bytes = s }) n e q), (w.0, under s _ _ e _ _ w.0 w.1 (number_range n x.target in_range_lem) h.points))

  pub obey_code : (n e : ℕ) (y : State) → command_at b x.at ≡ SetCode n e → y ≡ state_behind x e (with_code n x.target) (range_answer 255 n) x.bad x.cursor → Obeys b s x s (Continue y)
  unfolding read_after Leads obey
  obey_code n e y q i =
      let w = ends_code b x.at n e q in
      rw i (sym (read_code b x.at x.target (record { counts = x.counts; bad = x.bad; bytes = s }) n e q), (w.0, under s _ _ e _ _ w.0 w.1 (code_range n x.target in_range_lem) h.points))

  pub obey_font : (f e : ℕ) (y : State) (c : Cursor) (u : List ℕ) → command_at b x.at ≡ FontBlock f e
      → y ≡ state_behind x e x.target (downloading_font x.target.font (part b f e) s).answer (first_run x.bad (downloading_font x.target.font (part b f e) s).bad) c → u ≡ (downloading_font x.target.font (part b f e) s).bytes
      → Points u c → Obeys b s x u (Continue y)
  unfolding read_after Leads obey making
  obey_font f e y c u q i j p =
      let w = ends_font b x.at f e q in
      let l : x.at < e = omega (arith, w.0, w.1) in
      let k = (downloading_font x.target.font (part b f e) s).answer in
      let g = first_run x.bad (downloading_font x.target.font (part b f e) s).bad in (
        ap (read_on b u) i ∙ ap (λ (m : List ℕ). read_on b m (state_behind x e x.target k g c)) j
            ∙ sym (read_font b x.at x.target (record { counts = x.counts; bad = x.bad; bytes = s }) f e q),
        subst (λ (z : State). (x.at < z.at) × Underway (length b) u z) (sym i) (l, under u x.target k e g c l w.2 in_range_lem p),
      )

  pub obey_character : (f e : ℕ) (y : State) (c : Cursor) (u : List ℕ) → command_at b x.at ≡ CharacterBlock f e
      → y ≡ state_behind x e x.target (downloading_character x.target.font x.target.code (part b f e) s).answer (first_run x.bad (downloading_character x.target.font x.target.code (part b f e) s).bad) c
      → u ≡ (downloading_character x.target.font x.target.code (part b f e) s).bytes → Points u c → Obeys b s x u (Continue y)
  unfolding read_after Leads obey making
  obey_character f e y c u q i j p =
      let w = ends_character b x.at f e q in
      let l : x.at < e = omega (arith, w.0, w.1) in
      let k = (downloading_character x.target.font x.target.code (part b f e) s).answer in
      let g = first_run x.bad (downloading_character x.target.font x.target.code (part b f e) s).bad in (
        ap (read_on b u) i ∙ ap (λ (m : List ℕ). read_on b m (state_behind x e x.target k g c)) j
            ∙ sym (read_character b x.at x.target (record { counts = x.counts; bad = x.bad; bytes = s }) f e q),
        subst (λ (z : State). (x.at < z.at) × Underway (length b) u z) (sym i) (l, under u x.target k e g c l w.2 in_range_lem p),
      )

  pub obey_broken : command_at b x.at ≡ Broken → Obeys b s x s (Break (Some x.at))
  unfolding read_after Leads EndsWithin
  obey_broken q = (sym (read_broken b x.at x.target (record { counts = x.counts; bad = x.bad; bytes = s }) q), ((h.counts, broken_within b x.at q), h.points))

  pub obey_end : command_at b x.at ≡ End → Obeys b s x s (Break None)
  unfolding read_after Leads EndsWithin
  obey_end q = (sym (read_end b x.at x.target (record { counts = x.counts; bad = x.bad; bytes = s }) q), (omega (arith, h.counts, h.within), h.points))

-- ── the loop
module _ (b s u : List ℕ) (x : State) (r : Obeyed) (h : Obeys b s x u r) where
  pub went_on : (y : State) → r ≡ Continue y → (read_on b u y ≡ read_on b s x) × ((x.at < y.at) × Underway (length b) u y)
  unfolding read_after Leads
  went_on y q = subst (Obeys b s x u) q h

  pub went_last : (e : Ending) → r ≡ Break e → (record { ending = e; progress = record { counts = x.counts; bad = x.bad; bytes = u } } ≡ read_on b s x) × (EndsWithin (length b) x.counts e × Points u x.cursor)
  unfolding read_after Leads
  went_last e q = subst (Obeys b s x u) q h

pub answered : {a b : Reading} → a ≡ b → (a.answer ≡ b.answer) × (a.bytes ≡ b.bytes)
answered e = (ap (λ (x : Reading). x.answer) e, ap (λ (x : Reading). x.bytes) e)
