-- When calls refuse, exactly: 1 before anything else, choosing, a sheet, a stream's 13, the write-out's 12. Assumes nothing.
use Prim.Native.Nat.{ℕ, zero, suc, ◌*◌, ◌<◌, ◌≤◌}
use mathlib.Core.Path.{◌≡◌, refl, sym, ap, ◌∙◌}
use mathlib.Core.Logic.{◌⊎◌, inl, inr, ◌↔◌, ⊎_elim}
use mathlib.Core.List.{List, [], ◌∷◌, ◌++◌}
use mathlib.Core.Bool.{Bool, true, false, cond, true≢false, false≢true}
use mathlib.Core.Option.{Option, none, some}
use native.Mathlib.Omega.{arith}
use borrow.Author.Tests.{leb-true, leb-false, le-leb}
use lib.Dec.{leb}
use lib.ListN.{length, get_or, drop}
use lib.Seq.{drop_at, drop-nil}
use Rattle.form.specs.Model.{Store, decode}
use Rattle.form.specs.Checks.{on_store, checked, finding, on_font, on_character}
use Rattle.form.specs.Records.{is_store, some_store}
use Rattle.form.specs.Fonts.{fonts_of}
use Rattle.store.specs.Calls.{onto, removing_font, downloading_font, removing_character, telling_font, telling_character}
use Rattle.store.specs.Download.{downloading_character}
use Rattle.store.specs.Drawing.{drawing_row, drawing_picture}
use Rattle.choice.specs.Choosing.{choosing, choosing_among, choosing_from_two, refusal_of}
use Rattle.choice.specs.Candidates.{Candidate, candidates}
use Rattle.choice.specs.Steps.{Choice, fonts_left, first_number, choice}
use Rattle.std.specs.Prelude.{Err}
use Rattle.refusals.specs.declared.Refused.TheVariants.{NotStore, OutOfRange}
use Rattle.choice.specs.Request.{in_range}
use Rattle.choice.specs.declared.Request.{Request}
use Rattle.cartridge.specs.Cartridge.{answering_from_two, record_answer}
use Rattle.sheet.specs.Sheet.{Sheet, unanswered, all_answered, choosing_sheet, entries}
use Rattle.sheet.specs.declared.SheetAnswer.{SheetAnswer}
use Rattle.stream.specs.Reading.{Progress, spelled_from, first_target, reading, reading_of, end_answer, read_from}
use Rattle.stream.proofs.Readings.{read_store}
use Rattle.stream.specs.Written.{unwritten, written, writing_font}
use Rattle.stream.specs.Reading.{Ending}
use Rattle.std.specs.Prelude.{None, Some}
use Rattle.profile.specs.Profile.{checking_profile, writing_profiled}
use Rattle.collection.specs.Figures.{adding_figures}
use Rattle.salvage.specs.Salvage.{salvaging}
use Rattle.marlinfold.specs.Calls.{make_fresh, download_font, download_character, remove_font, remove_character, choose_font, tell_font, tell_character, draw_row, draw_picture, write_font, read_stream, choose_sheet, turn_picture, check_profile, write_profiled, choose_from_two, add_figures, salvage_stream, answer_numbers, Outcome, of_reading, of_writing, outcome}
use Rattle.marlinfold.specs.Demands.{WithoutStore, by_making, by_turning, StoreFirst, ChoosingRefused, SheetRefused, BrokenExactly, WrittenExactly}

no_store : (s : List ℕ) → is_store s ≡ false → decode s ≡ none
unfolding is_store
no_store s i = go (decode s) refl i
  where
    go : (o : Option Store) → decode s ≡ o → some_store o ≡ false → o ≡ none
    go none q z = refl
    go (some st) q z = let y : ◌≡◌ {A = ℕ} 0 1 = cc in absurd (omega arith)

pub store_first : StoreFirst
unfolding on_store on_font on_character downloading_font downloading_character removing_font removing_character telling_font telling_character drawing_row drawing_picture choosing choosing_from_two answering_from_two record_answer choosing_sheet reading writing_font checking_profile writing_profiled adding_figures salvaging
store_first make_fresh s i = inl by_making
store_first (download_font n b) s i = inr (rw (no_store s i))
store_first (download_character n c b) s i = inr (rw (no_store s i))
store_first (remove_font n) s i = inr (rw (no_store s i))
store_first (remove_character n c) s i = inr (rw (no_store s i))
store_first (choose_font r) s i = inr (rw i)
store_first (tell_font n out) s i = inr (rw (no_store s i))
store_first (tell_character n c out) s i = inr (rw (no_store s i))
store_first (draw_row n c row out) s i = inr (rw (no_store s i))
store_first (draw_picture n c out) s i = inr (rw (no_store s i))
store_first (write_font n out) s i = inr (rw (no_store s i))
store_first (read_stream b) s i = inr (rw (no_store s i))
store_first (choose_sheet rs out) s i = inr (rw i)
store_first (turn_picture t w h pic out) s i = inl (by_turning t w h pic out)
store_first (check_profile n) s i = inr (rw (no_store s i))
store_first (write_profiled n out) s i = inr (rw (no_store s i))
store_first (choose_from_two true t r) s i = inr (rw i)
store_first (choose_from_two false t r) s i = go (is_store t) refl
  where
    go : (x : Bool) → is_store t ≡ x → WithoutStore (choose_from_two false t r) ⊎ ((outcome (choose_from_two false t r) s).refusal ≡ 1)
    go true q = inr (rw (q, i))
    go false q = inr (rw q)
store_first (add_figures b) s i = inr (rw (no_store s i))
store_first (salvage_stream b l) s i = inr (rw (no_store s i))

-- ── choosing
module _ (s : List ℕ) (r : Request) where
  -- by whether s is a store and the request is within range
  abbrev chosen_where : Bool → Bool → Choice
  chosen_where a c = cond a (cond c (choice r (candidates true (fonts_of s))) (Err OutOfRange)) (Err NotStore)

  font_or_none : (refusal_of (chosen_where true true) ≡ 0) ⊎ (refusal_of (chosen_where true true) ≡ 11)
  unfolding choice first_number
  font_or_none = go (fonts_left r (candidates true (fonts_of s)))
    where
      go : (l : List Candidate) → (refusal_of (first_number l) ≡ 0) ⊎ (refusal_of (first_number l) ≡ 11)
      go [] = inr refl
      go (f ∷ l) = inl refl

  refused_where : (a c : Bool) → ((refusal_of (chosen_where a c) ≡ 1) ↔ (a ≡ false)) × ((refusal_of (chosen_where a c) ≡ 2) ↔ ((a ≡ true) × (c ≡ false)))
  refused_where false c = ((λ _. refl, λ _. refl), (λ e. absurd (omega (arith, e)), λ h. absurd (false≢true h.0)))
  refused_where true false = ((λ e. absurd (omega (arith, e)), λ h. absurd (true≢false h)), (λ _. (refl, refl), λ _. refl))
  refused_where true true = (
    (λ e. absurd (⊎_elim (λ q. omega (arith, e, q)) (λ q. omega (arith, e, q)) font_or_none), λ h. absurd (true≢false h)),
    (λ e. absurd (⊎_elim (λ q. omega (arith, e, q)) (λ q. omega (arith, e, q)) font_or_none), λ h. absurd (true≢false h.1)),
  )

pub choosing_refused : ChoosingRefused
unfolding choosing choosing_among
choosing_refused s r = refused_where s r (is_store s) (in_range r)

-- ── a sheet
later_numbers : (a b : List SheetAnswer) → drop (2 * length a) (answer_numbers (a ++ b)) ≡ answer_numbers b
unfolding answer_numbers
later_numbers [] b = refl
later_numbers (x ∷ a) b = let e : 2 * length (x ∷ a) ≡ suc (suc (2 * length a)) = omega arith in ap (λ (k : ℕ). drop k (answer_numbers ((x ∷ a) ++ b))) e ∙ later_numbers a b

numbers_later : (n : ℕ) (out : List SheetAnswer) → answer_numbers (drop n out) ≡ drop (2 * n) (answer_numbers out)
unfolding answer_numbers
numbers_later zero out = refl
numbers_later (suc n) [] = sym (drop-nil (2 * suc n))
numbers_later (suc n) (x ∷ out) = let e : 2 * suc n ≡ suc (suc (2 * n)) = omega arith in numbers_later n out ∙ sym (ap (λ (k : ℕ). drop k (answer_numbers (x ∷ out))) e)

entries_length : (s : List ℕ) (rs : List Request) → length (entries s rs) ≡ length rs
unfolding entries
entries_length s [] = refl
entries_length s (r ∷ rs) = ap suc (entries_length s rs)

pub sheet_refused : SheetRefused
unfolding choosing_sheet
sheet_refused rs out s = go (is_store s) (leb (length rs) 64) refl (leb (length rs) (length out)) refl
  where
    sheet : Bool → Bool → Bool → Sheet
    sheet i a b = checked (unanswered out) i 1 (checked (unanswered out) a 2 (checked (unanswered out) b 12 (all_answered s rs out)))

    go : (i a : Bool) → leb (length rs) 64 ≡ a → (b : Bool) → leb (length rs) (length out) ≡ b
        → (((sheet i a b).refusal ≡ 1) ↔ (i ≡ false)) × (((sheet i a b).refusal ≡ 2) ↔ ((i ≡ true) × (64 < length rs)))
        × (((sheet i a b).refusal ≡ 12) ↔ ((i ≡ true) × (length rs ≤ 64) × (length out < length rs)))
        × ((sheet i a b).refusal ≡ 0 → drop (2 * length rs) (answer_numbers (sheet i a b).answers) ≡ drop (2 * length rs) (answer_numbers out))
    go false a p b q =
        ((λ _. refl, λ _. refl), (λ e. absurd (omega (arith, e)), λ h. absurd (false≢true h.0)), (λ e. absurd (omega (arith, e)), λ h. absurd (false≢true h.0)), λ e. absurd (omega (arith, e)))
    go true false p b q = (
      (λ e. absurd (omega (arith, e)), λ h. absurd (true≢false h)),
      (λ e. (refl, leb-false (length rs) 64 p), λ h. refl),
      (λ e. absurd (omega (arith, e)), λ h. absurd (omega (arith, h.1, leb-false (length rs) 64 p))),
      λ e. absurd (omega (arith, e)),
    )
    go true true p false q = (
      (λ e. absurd (omega (arith, e)), λ h. absurd (true≢false h)),
      (λ e. absurd (omega (arith, e)), λ h. absurd (omega (arith, h.1, leb-true (length rs) 64 p))),
      (λ e. (refl, leb-true (length rs) 64 p, leb-false (length rs) (length out) q), λ h. refl),
      λ e. absurd (omega (arith, e)),
    )
    go true true p true q = (
      (λ e. absurd (omega (arith, e)), λ h. absurd (true≢false h)),
      (λ e. absurd (omega (arith, e)), λ h. absurd (omega (arith, h.1, leb-true (length rs) 64 p))),
      (λ e. absurd (omega (arith, e)), λ h. absurd (omega (arith, h.2, leb-true (length rs) (length out) q))),
      λ e. ap (λ (k : ℕ). drop (2 * k) (answer_numbers (entries s rs ++ drop (length rs) out))) (sym (entries_length s rs)) ∙ later_numbers (entries s rs) (drop (length rs) out) ∙ numbers_later (length rs) out,
    )

-- ── a stream
pub stored : (s : List ℕ) → is_store s ≡ true → (st : Store) × (decode s ≡ some st)
unfolding is_store
stored s i = go (decode s) refl i
  where
    go : (o : Option Store) → decode s ≡ o → some_store o ≡ true → (st : Store) × (decode s ≡ some st)
    go none q z = let y : ◌≡◌ {A = ℕ} 0 1 = cc in absurd (omega arith)
    go (some st) q z = (st, q)

by_ending : (b s : List ℕ) (p : Progress) (e : Ending) → outcome (read_stream b) s ≡ of_reading (reading_of (record { ending = e; progress = p }))
    → let o : Outcome = outcome (read_stream b) s in
    ((at : ℕ) → (e ≡ Some at) ↔ ((o.refusal ≡ 13) × (get_or o.numbers 2 0 ≡ at))) × ((e ≡ None) ↔ ((o.refusal ≡ 0) × (get_or o.numbers 2 0 ≡ 0)))
unfolding end_answer
by_ending b s p None q =
    let k = ap (λ (o : Outcome). o.refusal) q in
    let n = ap (λ (o : Outcome). get_or o.numbers 2 0) q in
    (λ at. (λ e. let x : ◌≡◌ {A = ℕ} 0 1 = cc in absurd (omega arith), λ h. absurd (omega (arith, k, h.0))), (λ e. (k, n), λ h. refl))
by_ending b s p (Some i) q =
    let k = ap (λ (o : Outcome). o.refusal) q in
    let n = ap (λ (o : Outcome). get_or o.numbers 2 0) q in
    (λ at. (λ e. (k, let j : i ≡ at = cc in n ∙ j), λ h. ap (λ (a : ℕ). Some a) (sym n ∙ h.1)), (λ e. let x : ◌≡◌ {A = ℕ} 0 1 = cc in absurd (omega arith), λ h. absurd (omega (arith, k, h.0))))

pub broken_exactly : BrokenExactly
unfolding read_from
broken_exactly b s i = let st = stored s i in by_ending b s _ (spelled_from b 0 first_target).ending (ap of_reading (read_store b s st.0 st.1))

-- ── the write-out
pub written_exactly : WrittenExactly
unfolding writing_font on_font on_store finding
written_exactly n s st f l d q = (length (written n st.recs), λ out. rw (d, le-leb n 32767 l, q) (go out (leb (length (written n st.recs)) (length out)) refl))
  where
    bytes : List ℕ
    bytes = written n st.recs

    wrote : List ℕ → Bool → Outcome
    wrote out t = of_writing s (checked (unwritten out) t 12 (record { refusal = 0; count = length bytes; out = onto bytes out }))

    go : (out : List ℕ) (t : Bool) → leb (length bytes) (length out) ≡ t
        → (((wrote out t).refusal ≡ 0) ↔ (length bytes ≤ length out)) × (((wrote out t).refusal ≡ 12) ↔ (length out < length bytes))
        × ((wrote out t).refusal ≡ 0 → ((wrote out t).numbers ≡ length bytes ∷ []) × (drop (length bytes) (wrote out t).out ≡ drop (length bytes) out))
    go out true e = (
      (λ _. leb-true (length bytes) (length out) e, λ _. refl),
      (λ z. absurd (omega (arith, z)), λ z. absurd (omega (arith, z, leb-true (length bytes) (length out) e))),
      λ _. (refl, drop_at bytes (drop (length bytes) out) (length bytes) refl),
    )
    go out false e = (
      (λ z. absurd (omega (arith, z)), λ z. absurd (omega (arith, z, leb-false (length bytes) (length out) e))),
      (λ _. leb-false (length bytes) (length out) e, λ _. refl),
      λ z. absurd (omega (arith, z)),
    )
