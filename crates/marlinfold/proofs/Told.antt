-- What telling and checking against the profile answer, through the calls. Assumes nothing.
use Prim.Native.Nat.{ℕ, ◌+◌, ◌<◌, ◌≤◌}
use mathlib.Core.Path.{◌≡◌, refl, ap, ◌∙◌, subst}
use mathlib.Core.Logic.{inl, inr, ⊎_elim}
use mathlib.Core.List.{List, [], ◌∷◌}
use mathlib.Core.Bool.{Bool, true, false}
use mathlib.Core.Option.{Option, none, some}
use native.Mathlib.Omega.{arith}
use borrow.Author.Tests.{le-leb, lt-leb, eqb-true, eqb-false}
use lib.Dec.{leb, eqb}
use lib.ListN.{length}
use Rattle.blocks.specs.Header.{header_bytes}
use Rattle.blocks.specs.Character.{descriptor_bytes}
use Rattle.form.specs.Layout.{key_of, last_font, last_code}
use Rattle.form.specs.Model.{Rec, font, character, Store, Owner, no_owner, allowed, decode}
use Rattle.form.specs.Order.{below, after, font_at, character_at}
use Rattle.form.specs.Checks.{on_store, checked, finding, numbered, on_font, on_character}
use Rattle.form.proofs.RecordBytes.{shaped}
use Rattle.form.proofs.Lookup.{found, font_at_lem, char_at}
use Rattle.store.proofs.Holds.{valid_decode}
use Rattle.store.specs.Answer.{Telling, untold}
use Rattle.store.specs.Calls.{characters_of, kept_of, data_of, onto, telling_font, telling_character}
use Rattle.stream.specs.Written.{WriteOut, unwritten, written, writing_bytes, writing_font}
use Rattle.profile.specs.Profile.{RuleBroken, broken_in, unchecked, checked_as, meets, checking_profile, writing_profiled}
use Rattle.profile.specs.declared.check.ProfileChecked.{ProfileChecked}
use Rattle.profile.proofs.Profile.{found_by_numbers}
use Rattle.marlinfold.specs.Calls.{of_writing}
use Rattle.marlinfold.specs.Demands.{NumbersTold, ToldAsKept, ProfileTold, ProfiledExactly}

font_told : (n : ℕ) (s out : List ℕ) (st : Store) → decode s ≡ some st → (telling_font n s out).refusal ≡ 0 → (telling_font n s out).count ≡ length (characters_of n st.recs)
unfolding telling_font on_font on_store finding
font_told n s out st e = rw e (go (leb n last_font) (font_at n st.recs) (leb header_bytes (length out)))
  where
    ends : Bool → Option Rec → Bool → Telling
    ends a o b = checked (untold out) a 2 (finding (untold out) o 6 (λ r. checked (untold out) b 12 (record { refusal = 0; count = length (characters_of n st.recs); out = onto (kept_of r) out })))

    go : (a : Bool) (o : Option Rec) (b : Bool) → (ends a o b).refusal ≡ 0 → (ends a o b).count ≡ length (characters_of n st.recs)
    go true (some r) true z = refl
    go true (some r) false z = absurd (omega (arith, z))
    go true none b z = absurd (omega (arith, z))
    go false o b z = absurd (omega (arith, z))

character_told : (n c : ℕ) (s out : List ℕ) (st : Store) → decode s ≡ some st → (telling_character n c s out).refusal ≡ 0
    → (r : Rec) × (character_at n c st.recs ≡ some r) × ((telling_character n c s out).count ≡ length (data_of r))
unfolding telling_character on_character on_store finding
character_told n c s out st e = rw e (go (numbered n c) (font_at n st.recs) (character_at n c st.recs) refl (leb descriptor_bytes (length out)))
  where
    ends : Bool → Option Rec → Option Rec → Bool → Telling
    ends a f o b =
        checked (untold out) a 2
        (finding (untold out) f 6 (λ _. finding (untold out) o 7 (λ r. checked (untold out) b 12 (record { refusal = 0; count = length (data_of r); out = onto (kept_of r) out }))))

    go : (a : Bool) (f o : Option Rec) → character_at n c st.recs ≡ o → (b : Bool) → (ends a f o b).refusal ≡ 0
        → (r : Rec) × (character_at n c st.recs ≡ some r) × ((ends a f o b).count ≡ length (data_of r))
    go true (some f) (some r) q true z = (r, q, refl)
    go true (some f) (some r) q false z = absurd (omega (arith, z))
    go true (some f) none q b z = absurd (omega (arith, z))
    go true none o q b z = absurd (omega (arith, z))
    go false f o q b z = absurd (omega (arith, z))

abbrev one : ℕ → List ℕ
one k = k ∷ []

pub numbers_told : NumbersTold
numbers_told n s st e = (
  λ out z. ap one (font_told n s out st e z),
  λ c out z. let x = character_told n c s out st e z in (x.0, x.1, ap one x.2),
)

-- ── the kept bytes
module _ (n : ℕ) (s : List ℕ) (st : Store) (e : decode s ≡ some st) where
  pub font_shaped : (f : Rec) → font_at n st.recs ≡ some f → (length (kept_of f) ≡ header_bytes) × (n ≤ last_font)
  font_shaped f q =
      let x = found (key_of n 0) 0 no_owner f st.recs (valid_decode s st e).order q in
      let u : Owner = after no_owner (below (key_of n 0) st.recs) in
      let y = font_at_lem n u f x.ok x.is in
      let p = shaped u (font n y.0) (subst (λ (r : Rec). allowed u r ≡ true) y.1 x.ok) in
      (ap (λ (r : Rec). length (kept_of r)) y.1 ∙ p.0, p.1)

  pub character_shaped : (c : ℕ) (r : Rec) → c ≤ last_code → character_at n c st.recs ≡ some r → length (kept_of r) ≡ descriptor_bytes
  character_shaped c r l q =
      let x = found (key_of n (c + 1)) 0 no_owner r st.recs (valid_decode s st e).order q in
      let u : Owner = after no_owner (below (key_of n (c + 1)) st.recs) in
      let y = char_at n c u r l x.ok x.is in
      let p = shaped u (character n c y.0 y.1) (subst (λ (r : Rec). allowed u r ≡ true) y.2 x.ok) in
      ap (λ (r : Rec). length (kept_of r)) y.2 ∙ p.0

-- bytes told to an output, by whether it is long enough
tells_by : (k out : List ℕ) (count : ℕ) (a : Telling)
    → a ≡ checked (untold out) (leb (length k) (length out)) 12 (record { refusal = 0; count = count; out = onto k out })
    → (length out < length k → a.refusal ≡ 12) × (length k ≤ length out → (a.refusal ≡ 0) × (a.out ≡ onto k out))
tells_by k out count a e = (λ l. rw (e, lt-leb (length k) (length out) l), λ l. (rw (e, le-leb (length k) (length out) l), rw (e, le-leb (length k) (length out) l)))

font_tells : (n : ℕ) (s out : List ℕ) (st : Store) (f : Rec) → decode s ≡ some st → font_at n st.recs ≡ some f → n ≤ last_font → length (kept_of f) ≡ header_bytes
    → telling_font n s out ≡ checked (untold out) (leb (length (kept_of f)) (length out)) 12 (record { refusal = 0; count = length (characters_of n st.recs); out = onto (kept_of f) out })
unfolding telling_font on_font on_store finding
font_tells n s out st f e q l k = rw (e, le-leb n last_font l, q, k)

character_tells : (n c : ℕ) (s out : List ℕ) (st : Store) (f r : Rec) → decode s ≡ some st → font_at n st.recs ≡ some f → n ≤ last_font → c ≤ last_code → character_at n c st.recs ≡ some r → length (kept_of r) ≡ descriptor_bytes
    → telling_character n c s out ≡ checked (untold out) (leb (length (kept_of r)) (length out)) 12 (record { refusal = 0; count = length (data_of r); out = onto (kept_of r) out })
unfolding telling_character on_character on_store finding
character_tells n c s out st f r e q l m p k = rw (e, le-leb n last_font l, le-leb c last_code m, q, p, k)

pub told_as_kept : ToldAsKept
told_as_kept n s st f e q =
    let x = font_shaped n s st e f q in (
      x.0,
      λ out. tells_by (kept_of f) out _ _ (font_tells n s out st f e q x.1 x.0),
      λ c r m p. let y = character_shaped n s st e c r m p in (y, λ out. tells_by (kept_of r) out _ _ (character_tells n c s out st f r e q x.1 m p y)),
    )

pub profile_told : ProfileTold
profile_told n s st f l e q =
    let x : checking_profile n s ≡ checked_as (broken_in n (kept_of f) st.recs) = unfold checking_profile on_font on_store finding in rw (e, le-leb n last_font l, q) in
    let y : (checking_profile n s).rule ∷ (checking_profile n s).code ∷ [] ≡ (broken_in n (kept_of f) st.recs).rule ∷ (broken_in n (kept_of f) st.recs).code ∷ [] =
    ap (λ (a : ProfileChecked). a.rule ∷ a.code ∷ []) x in (
      ap (λ (a : ProfileChecked). a.refusal) x,
      ⊎_elim (λ b. inl (y ∙ ap (λ (a : RuleBroken). a.rule ∷ a.code ∷ []) b.0, b.1)) (λ b. inr ((broken_in n (kept_of f) st.recs).rule, (broken_in n (kept_of f) st.recs).code, y, b))
          (found_by_numbers n (kept_of f) st.recs),
    )

-- ── writing out what meets the profile
-- what is claimed of the check's answer, the second call's and the write-out's
abbrev Exactly : ProfileChecked → WriteOut → WriteOut → Type 0
Exactly k o w = (0 < k.refusal → o.refusal ≡ k.refusal) × (k.refusal ≡ 0 → 0 < k.rule → o.refusal ≡ 14) × (k.refusal ≡ 0 → k.rule ≡ 0 → o ≡ w)

module _ (n : ℕ) (out : List ℕ) where
  all_refuse : (k : ℕ) → Exactly (unchecked k) (unwritten out k) (unwritten out k)
  all_refuse k = (λ _. refl, λ _ l. absurd (omega (arith, l)), λ _ _. refl)

  by_rule : (b : RuleBroken) (w : WriteOut) (t : Bool) → eqb b.rule 0 ≡ t → Exactly (checked_as b) (checked (unwritten out) t 14 w) w
  by_rule b w true q = (λ l. absurd (omega (arith, l)), λ _ l. absurd (omega (arith, l, eqb-true b.rule 0 q)), λ _ _. refl)
  by_rule b w false q = (λ l. absurd (omega (arith, l)), λ _ _. refl, λ _ e. absurd (eqb-false b.rule 0 q e))

  -- what each of the three answers of a font that is there, and of a store
  abbrev judged : Store → Rec → ProfileChecked
  judged st r = checked_as (broken_in n (kept_of r) st.recs)

  abbrev plain : Store → Rec → WriteOut
  plain st r = writing_bytes (written n st.recs) out

  abbrev profiled : Store → Rec → WriteOut
  profiled st r = checked (unwritten out) (meets (broken_in n (kept_of r) st.recs)) 14 (plain st r)

  abbrev in_store : {A : Type 0} → (ℕ → A) → (Store → Rec → A) → Store → A
  in_store refuse f st = checked refuse (leb n last_font) 2 (finding refuse (font_at n st.recs) 6 (f st))

  exactly : (s : List ℕ) → Exactly (checking_profile n s) (writing_profiled n s out) (writing_font n s out)
  unfolding checking_profile writing_profiled writing_font on_font on_store finding
  exactly s = go (decode s)
    where
      here : (st : Store) (o : Option Rec) → Exactly (finding unchecked o 6 (judged st)) (finding (unwritten out) o 6 (profiled st)) (finding (unwritten out) o 6 (plain st))
      here st none = all_refuse 6
      here st (some r) = let b : RuleBroken = broken_in n (kept_of r) st.recs in by_rule b (plain st r) (eqb b.rule 0) refl

      low : (st : Store) (t : Bool)
          → Exactly (checked unchecked t 2 (finding unchecked (font_at n st.recs) 6 (judged st)))
          (checked (unwritten out) t 2 (finding (unwritten out) (font_at n st.recs) 6 (profiled st)))
          (checked (unwritten out) t 2 (finding (unwritten out) (font_at n st.recs) 6 (plain st)))
      low st true = here st (font_at n st.recs)
      low st false = all_refuse 2

      go : (o : Option Store) → Exactly (on_store unchecked o (in_store unchecked judged)) (on_store (unwritten out) o (in_store (unwritten out) profiled)) (on_store (unwritten out) o (in_store (unwritten out) plain))
      go none = all_refuse 1
      go (some st) = low st (leb n last_font)

pub profiled_exactly : ProfiledExactly
profiled_exactly n out s = let x = exactly n out s in (x.0, x.1, λ e z. ap (of_writing s) (x.2 e z))
