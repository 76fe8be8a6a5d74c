-- Laws of a sheet: its checks, and its answers one after the other. Assumes nothing.
use Prim.Native.Nat.{ℕ, zero, suc, ◌+◌, ◌<◌, ◌≤◌}
use Rattle.std.specs.Prelude.{Option as Optional, Some, None}
use mathlib.Core.Path.{◌≡◌, refl, sym, ◌∙◌, ap}
use mathlib.Core.Bool.{Bool, true, false}
use mathlib.Core.List.{List, [], ◌∷◌, ◌++◌}
use native.Mathlib.Numerals.{add-one}
use native.Mathlib.Omega.{arith}
use lib.ListN.{length, get_or, drop, set}
use lib.Dec.{leb}
use borrow.Author.Tests.{le-leb, lt-leb, leb-true}
use Rattle.form.specs.Checks.{checked}
use Rattle.form.specs.Records.{is_store, Begun}
use Rattle.form.specs.Fonts.{fonts_of}
use Rattle.choice.specs.Candidates.{candidates}
use Rattle.choice.specs.Choosing.{choosing_among, choosing}
use Rattle.choice.specs.declared.Request.{Request}
use Rattle.choice.specs.Steps.{Choice}
use Rattle.sheet.specs.Sheet.{Sheet, answer_of, entries, most_requests, sheet_refusal, unanswered, all_answered, choosing_sheet, EntryIs}
use Rattle.sheet.specs.declared.SheetAnswer.{SheetAnswer}

-- ── the checks, by where the fonts begin
module _ (s : List ℕ) (v : Optional ℕ) (h : Begun s v) (n m : ℕ) where
  pub no_store : v ≡ None → 1 ≡ sheet_refusal s n m
  unfolding sheet_refusal
  no_store e = let f : Begun s None = rw e at h in rw f

  module _ (p : ℕ) (e : v ≡ Some p) where
    pub begun : Begun s (Some p)
    begun = rw e at h

    pub too_many : most_requests < n → 2 ≡ sheet_refusal s n m
    unfolding sheet_refusal
    too_many l = rw (begun.0, lt-leb n most_requests l)

    pub no_room : n ≤ most_requests → m < n → 12 ≡ sheet_refusal s n m
    unfolding sheet_refusal
    no_room l k = rw (begun.0, le-leb n most_requests l, lt-leb n m k)

    pub taken : n ≤ most_requests → n ≤ m → 0 ≡ sheet_refusal s n m
    unfolding sheet_refusal
    taken l k = rw (begun.0, le-leb n most_requests l, le-leb n m k)

-- a sheet that is taken has at most 64 requests, and room for each answer
pub room_for : (s : List ℕ) (n m : ℕ) → sheet_refusal s n m ≡ 0 → (n ≤ most_requests) × (n ≤ m)
unfolding sheet_refusal
room_for s n m e = go (is_store s) (leb n most_requests) (leb n m) refl refl e
  where
    go : (t a b : Bool) → leb n most_requests ≡ a → leb n m ≡ b
        → ◌≡◌ {A = ℕ} (checked (λ k. k) t 1 (checked (λ k. k) a 2 (checked (λ k. k) b 12 0))) 0 → (n ≤ most_requests) × (n ≤ m)
    go true true true p q z = (leb-true n most_requests p, leb-true n m q)
    go true true false p q z = absurd (omega (arith, z))
    go true false b p q z = absurd (omega (arith, z))
    go false a b p q z = absurd (omega (arith, z))

-- ── the call, by its refusal
module _ (s : List ℕ) (rs : List Request) (out : List SheetAnswer) where
  abbrev pub By : ℕ → Sheet → Type 0
  By k o = (o.refusal ≡ k) × ((k ≡ 0 → ⊥) → unanswered out k ≡ o) × (k ≡ 0 → all_answered s rs out ≡ o)

  pub by_refusal : By (sheet_refusal s (length rs) (length out)) (choosing_sheet s rs out)
  unfolding choosing_sheet sheet_refusal
  by_refusal = go (is_store s) (leb (length rs) most_requests) (leb (length rs) (length out))
    where
      go : (t a b : Bool)
          → By (checked (λ k. k) t 1 (checked (λ k. k) a 2 (checked (λ k. k) b 12 0)))
          (checked (unanswered out) t 1 (checked (unanswered out) a 2 (checked (unanswered out) b 12 (all_answered s rs out))))
      go true true true = (refl, (λ h. absurd (h refl)), λ e. refl)
      go true true false = (refl, (λ h. refl), λ e. absurd (omega (arith, e)))
      go true false b = (refl, (λ h. refl), λ e. absurd (omega (arith, e)))
      go false a b = (refl, (λ h. refl), λ e. absurd (omega (arith, e)))

-- ── entry i
entry_among : (s : List ℕ) (rs : List Request) (t : List SheetAnswer) (i : ℕ) (d : Request) (e : SheetAnswer) → i < length rs
    → get_or (entries s rs ++ t) i e ≡ answer_of (choosing s (get_or rs i d))
unfolding entries
entry_among s [] t i d e l = absurd (omega (arith, l))
entry_among s (r ∷ rs) t zero d e l = refl
entry_among s (r ∷ rs) t (suc i) d e l = entry_among s rs t i d e (omega (arith, l))

pub entry_is : EntryIs
entry_is s rs out q i d e l =
    let h = by_refusal s rs out in
    rw (sym (h.2 (sym h.0 ∙ q))) (entry_among s rs (drop (length rs) out) i d e l)

-- the answer to a request, on a buffer that is known to be a store
pub on_store : (s : List ℕ) (r : Request) (p : ℕ) → Begun s (Some p) → (x : Choice) → x ≡ choosing_among (candidates true (fonts_of s)) r → (a : SheetAnswer) → a ≡ answer_of x → a ≡ answer_of (choosing s r)
unfolding choosing
on_store s r p h x f a g = rw h.0 (g ∙ ap answer_of f)

-- ── the answers after i requests
module _ (s : List ℕ) where
  abbrev pub answers_after : ℕ → List Request → List SheetAnswer → List SheetAnswer
  answers_after zero rs out = out
  answers_after (suc i) [] out = out
  answers_after (suc i) (r ∷ rs) [] = []
  answers_after (suc i) (r ∷ rs) (a ∷ out) = answer_of (choosing s r) ∷ answers_after i rs out

  length_after : (i : ℕ) (rs : List Request) (out : List SheetAnswer) → length (answers_after i rs out) ≡ length out
  length_after zero rs out = refl
  length_after (suc i) [] out = refl
  length_after (suc i) (r ∷ rs) [] = refl
  length_after (suc i) (r ∷ rs) (a ∷ out) = ap suc (length_after i rs out)

  -- one more
  after_suc : (i : ℕ) (rs : List Request) (out : List SheetAnswer) (d : Request) → i < length rs
      → set (answers_after i rs out) i (answer_of (choosing s (get_or rs i d))) ≡ answers_after (suc i) rs out
  after_suc i [] out d l = absurd (omega (arith, l))
  after_suc zero (r ∷ rs) [] d l = refl
  after_suc zero (r ∷ rs) (a ∷ out) d l = refl
  after_suc (suc i) (r ∷ rs) [] d l = refl
  after_suc (suc i) (r ∷ rs) (a ∷ out) d l = ap (λ (t : List SheetAnswer). answer_of (choosing s r) ∷ t) (after_suc i rs out d (omega (arith, l)))

  -- all
  after_all : (rs : List Request) (out : List SheetAnswer) → length rs ≤ length out → answers_after (length rs) rs out ≡ entries s rs ++ drop (length rs) out
  unfolding entries
  after_all [] out l = refl
  after_all (r ∷ rs) [] l = absurd (omega (arith, l))
  after_all (r ∷ rs) (a ∷ out) l = ap (λ (t : List SheetAnswer). answer_of (choosing s r) ∷ t) (after_all rs out (omega (arith, l)))

  -- a turn of the loop, and its end
  module _ (i : ℕ) (rs : List Request) (out now : List SheetAnswer) (e : now ≡ answers_after i rs out) where
    pub again : (a : SheetAnswer) (d : Request) → i < length rs → a ≡ answer_of (choosing s (get_or rs i d)) → set now i a ≡ answers_after (i + 1) rs out
    again a d l q = rw (e, q, add-one i) (after_suc i rs out d l)

    pub ended : i ≤ length rs → length rs ≤ i → now ≡ answers_after (length rs) rs out
    ended l m =
        let q : i ≡ length rs = omega (arith, l, m) in
        e ∙ ap (λ (k : ℕ). answers_after k rs out) q

    pub same_length : length now ≡ length out
    same_length = rw e (length_after i rs out)

  -- the call, once each request is answered
  pub all_done : (rs : List Request) (out now : List SheetAnswer) → sheet_refusal s (length rs) (length out) ≡ 0 → length rs ≤ length out
      → now ≡ answers_after (length rs) rs out → record { refusal = 0; answers = now } ≡ choosing_sheet s rs out
  all_done rs out now e l q = rw (q, after_all rs out l) ((by_refusal s rs out).2 e)
