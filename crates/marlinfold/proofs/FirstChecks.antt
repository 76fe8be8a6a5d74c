-- What calls on a kept font or on a kept character check first. Assumes nothing.
use Prim.Native.Nat.{ℕ, ◌<◌, ◌≤◌}
use mathlib.Core.Path.{◌≡◌, refl}
use mathlib.Core.Logic.{◌⊎◌, inl, inr}
use mathlib.Core.List.{List}
use mathlib.Core.Bool.{Bool, true, false, ◌&&◌, true≢false, false≢true}
use mathlib.Core.Option.{Option, none, some}
use borrow.Author.Tests.{le-leb, lt-leb}
use lib.Dec.{leb}
use Rattle.form.specs.Layout.{last_font, last_code}
use Rattle.form.specs.Model.{Rec, Store, decode}
use Rattle.form.specs.Order.{font_at, character_at}
use Rattle.form.specs.Records.{is_store, some_store}
use Rattle.form.specs.Checks.{on_store, checked, finding, numbered, on_font, on_character}
use Rattle.store.specs.Answer.{After, refuse, Telling, untold}
use Rattle.store.specs.Calls.{removing_font, removing_character, telling_font, telling_character}
use Rattle.store.specs.Drawing.{drawing_row, drawing_picture}
use Rattle.stream.specs.Written.{WriteOut, unwritten, writing_font}
use Rattle.profile.specs.Profile.{unchecked, checking_profile, writing_profiled}
use Rattle.profile.specs.declared.check.ProfileChecked.{ProfileChecked}
use Rattle.marlinfold.specs.Demands.{ChecksInOrder}

neither : (t : Bool) → (t && false) ≡ false
neither true = refl
neither false = refl

-- answers of A, each with its number; a refusal has its own
module _ {A : Type 0} (refusing : ℕ → A) (of : A → ℕ) (is : (k : ℕ) → of (refusing k) ≡ k) (n : ℕ) (s : List ℕ) (f : Store → Rec → A) where
  font_first : (is_store s ≡ false → of (on_font refusing n s f) ≡ 1) × (is_store s ≡ true → last_font < n → of (on_font refusing n s f) ≡ 2)
      × ((st : Store) → decode s ≡ some st → n ≤ last_font → font_at n st.recs ≡ none → of (on_font refusing n s f) ≡ 6)
  unfolding is_store on_font on_store finding
  font_first = (absent (decode s), high (decode s), λ st e l q. rw (e, le-leb n last_font l, q) (is 6))
    where
      found : Store → A
      found st = checked refusing (leb n last_font) 2 (finding refusing (font_at n st.recs) 6 (f st))

      absent : (o : Option Store) → some_store o ≡ false → of (on_store refusing o found) ≡ 1
      absent none e = is 1
      absent (some st) e = absurd (true≢false e)

      high : (o : Option Store) → some_store o ≡ true → last_font < n → of (on_store refusing o found) ≡ 2
      high none e l = absurd (false≢true e)
      high (some st) e l = rw (lt-leb n last_font l) (is 2)

  character_first : (c : ℕ)
      → (is_store s ≡ false → of (on_character refusing n c s f) ≡ 1) × (is_store s ≡ true → (last_font < n) ⊎ (last_code < c) → of (on_character refusing n c s f) ≡ 2)
      × ((st : Store) → decode s ≡ some st → n ≤ last_font → c ≤ last_code
      → (font_at n st.recs ≡ none → of (on_character refusing n c s f) ≡ 6)
      × ((r : Rec) → font_at n st.recs ≡ some r → character_at n c st.recs ≡ none → of (on_character refusing n c s f) ≡ 7))
  unfolding is_store on_character on_store finding
  character_first c = (
    absent (decode s),
    high (decode s),
    λ st e l m. (λ q. rw (e, le-leb n last_font l, le-leb c last_code m, q) (is 6), λ r q p. rw (e, le-leb n last_font l, le-leb c last_code m, q, p) (is 7)),
  )
    where
      found : Store → A
      found st = checked refusing (numbered n c) 2 (finding refusing (font_at n st.recs) 6 (λ r. finding refusing (character_at n c st.recs) 7 (f st)))

      absent : (o : Option Store) → some_store o ≡ false → of (on_store refusing o found) ≡ 1
      absent none e = is 1
      absent (some st) e = absurd (true≢false e)

      out_of_range : (last_font < n) ⊎ (last_code < c) → numbered n c ≡ false
      out_of_range (inl l) = rw (lt-leb n last_font l)
      out_of_range (inr l) = rw (lt-leb c last_code l) (neither (leb n last_font))

      high : (o : Option Store) → some_store o ≡ true → (last_font < n) ⊎ (last_code < c) → of (on_store refusing o found) ≡ 2
      high none e l = absurd (false≢true e)
      high (some st) e l = rw (out_of_range l) (is 2)

pub checks_in_order : ChecksInOrder
unfolding removing_font telling_font writing_font checking_profile writing_profiled removing_character telling_character drawing_row drawing_picture
checks_in_order n c row out s = (
  font_first (refuse s) (λ (a : After). a.answer) (λ k. refl) n s _,
  font_first (untold out) (λ (a : Telling). a.refusal) (λ k. refl) n s _,
  font_first (unwritten out) (λ (a : WriteOut). a.refusal) (λ k. refl) n s _,
  font_first unchecked (λ (a : ProfileChecked). a.refusal) (λ k. refl) n s _,
  font_first (unwritten out) (λ (a : WriteOut). a.refusal) (λ k. refl) n s _,
  character_first (refuse s) (λ (a : After). a.answer) (λ k. refl) n s _ c,
  character_first (untold out) (λ (a : Telling). a.refusal) (λ k. refl) n s _ c,
  character_first (refuse out) (λ (a : After). a.answer) (λ k. refl) n s _ c,
  character_first (refuse out) (λ (a : After). a.answer) (λ k. refl) n s _ c,
)
