-- W-208: demand 3 for the choice from two stores, and its refusals. Assumes nothing.
use Prim.Native.Nat.{ℕ}
use mathlib.Core.Path.{◌≡◌, refl, ap, ◌∙◌}
use mathlib.Core.Logic.{◌⊎◌, ◌↔◌, inl, inr, ⊎_elim}
use mathlib.Core.List.{List, [], ◌∷◌, ◌++◌}
use mathlib.Core.Bool.{Bool, true, false, cond, ◌&&◌, true≢false, false≢true}
use native.Mathlib.Omega.{arith}
use Rattle.form.specs.Records.{is_store}
use Rattle.form.specs.Fonts.{Font, fonts_of, fonts_with}
use Rattle.store.specs.Calls.{downloading_font}
use Rattle.store.proofs.Again.{fresh_leaves}
use Rattle.choice.specs.Lists.{In}
use Rattle.choice.specs.Request.{in_range}
use Rattle.choice.specs.Steps.{Choice, fonts_left, first_number, choice}
use Rattle.choice.specs.Candidates.{Candidate, candidate, as_font, candidates, of_both}
use Rattle.choice.specs.Choosing.{choosing_among, choosing_from_two, refusal_of, font_of, which_of}
use Rattle.choice.specs.Right.{Keyed, Without, With, Lawful}
use Rattle.choice.specs.declared.Request.{Request}
use Rattle.std.specs.Prelude.{Ok, Err}
use Rattle.refusals.specs.declared.Refused.TheVariants.{NotStore, OutOfRange}
use Rattle.refusals.proofs.Numbers.{number_some}
use Rattle.choice.proofs.Members.{in_left, in_right, in_either, font_in_lem, candidate_in, not_cartridge, not_soft, soft_in, cartridge_in}
use Rattle.choice.proofs.Choice.{two_keyed, soft_of_same}
use Rattle.choice.proofs.Right.{claim}
use Rattle.cartridge.specs.Cartridge.{chosen_place, record_answer, answering_from_two}
use Rattle.cartridge.proofs.Stands.{stands_in}
use Rattle.marlinfold.specs.Calls.{Call, leaves, ran}
use Rattle.marlinfold.specs.Book.{book_from}
use Rattle.marlinfold.specs.Demands.{first_numbers, AnswersFromTwo, place_answered, ChoosesFromTwo, Begins, fresh, dump, Demand3FromTwo, RefusesFromTwo, OneFromTwo, SoftOfOne}
use Rattle.marlinfold.proofs.Demand3.{singly_ran, Kept, calls_kept, candidates_without, candidates_with, keyed, gone, font_by, came}

-- ── fonts that come or go beside the fonts of another store
module _ (l k m : List Candidate) where
  without_left : (p : Bool) (n : ℕ) → ((x : Candidate) → In x m → x.soft ≡ p → ⊥) → Without p n l k → Without p n (l ++ m) (k ++ m)
  without_left p n o w x = (
    λ h. ⊎_elim (λ i. let y = (w x).0 i in (in_left x l m y.0, y.1)) (λ i. (in_right x l m i, λ s e. o x i s)) (in_either x k m h),
    λ h. ⊎_elim (λ i. in_left x k m ((w x).1 (i, h.1))) (λ i. in_right x k m i) (in_either x l m h.0),
  )

  without_right : (p : Bool) (n : ℕ) → ((x : Candidate) → In x m → x.soft ≡ p → ⊥) → Without p n l k → Without p n (m ++ l) (m ++ k)
  without_right p n o w x = (
    λ h. ⊎_elim (λ i. (in_left x m l i, λ s e. o x i s)) (λ i. let y = (w x).0 i in (in_right x m l y.0, y.1)) (in_either x m k h),
    λ h. ⊎_elim (λ i. in_left x m k i) (λ i. in_right x m k ((w x).1 (i, h.1))) (in_either x m l h.0),
  )

  with_left : (f : Candidate) → With f l k → With f (l ++ m) (k ++ m)
  with_left f w x = (
    λ h. ⊎_elim (λ i. ⊎_elim (λ e. inl e) (λ j. inr (in_left x l m j)) ((w x).0 i)) (λ i. inr (in_right x l m i)) (in_either x k m h),
    λ h. ⊎_elim (λ e. in_left x k m ((w x).1 (inl e))) (λ i. ⊎_elim (λ j. in_left x k m ((w x).1 (inr j))) (λ j. in_right x k m j) (in_either x l m i)) h,
  )

  with_right : (f : Candidate) → With f l k → With f (m ++ l) (m ++ k)
  with_right f w x = (
    λ h. ⊎_elim (λ i. inr (in_left x m l i)) (λ i. ⊎_elim (λ e. inl e) (λ j. inr (in_right x m l j)) ((w x).0 i)) (in_either x m k h),
    λ h. ⊎_elim (λ e. in_right x m k ((w x).1 (inl e))) (λ i. ⊎_elim (λ j. in_left x m k j) (λ j. in_right x m k ((w x).1 (inr j))) (in_either x m l i)) h,
  )

-- ── the fonts of both books
both_are_lem : (book cart : List Font) (x : Candidate) → In x (of_both book cart) ↔ In (as_font x) (cond x.soft book cart)
unfolding of_both
both_are_lem book cart x = (λ m. out x.soft refl m, λ h. back x.soft refl h)
  where
    out : (p : Bool) → x.soft ≡ p → In x (of_both book cart) → In (as_font x) (cond p book cart)
    out true q m = font_in_lem true book x (soft_in book cart x m q)
    out false q m = font_in_lem false cart x (cartridge_in book cart x m q)

    back : (p : Bool) → x.soft ≡ p → In (as_font x) (cond p book cart) → In x (candidates true book ++ candidates false cart)
    back true q h = in_left x (candidates true book) (candidates false cart) (candidate_in true book x q h)
    back false q h = in_right x (candidates true book) (candidates false cart) (candidate_in false cart x q h)

-- ── the claim
by_numbers : (a : Choice) → refusal_of a ∷ font_of a ∷ which_of a ∷ [] ≡ first_numbers a
by_numbers (Ok c) = refl
by_numbers (Err k) = refl

module _ (r : Request) (i : in_range r ≡ true) where
  two_by : (s t : List ℕ) (book cart : List Font) → Kept s book → Kept t cart → choosing_from_two s t r ≡ choice r (of_both book cart)
  unfolding choosing_from_two choosing_among
  two_by s t book cart k j = rw (k.0, j.0, i, k.1, j.1)

  says : (s t : List ℕ) (a : Choice) → choosing_from_two s t r ≡ a → AnswersFromTwo r s t a
  unfolding answering_from_two record_answer
  says s t a e = ap (λ (x : Choice). refusal_of x ∷ font_of x ∷ which_of x ∷ []) e ∙ by_numbers a

  place_is : (s t : List ℕ) → place_answered r s t ≡ chosen_place s t (choosing_from_two s t r)
  unfolding answering_from_two record_answer
  place_is s t = refl

  chooses_two : (s t : List ℕ) (book cart : List Font) → Kept s book → Kept t cart → ChoosesFromTwo r s t book cart
  unfolding of_both
  chooses_two s t book cart k j =
      let A = candidates true book in
      let B = candidates false cart in
      record {
        meant = both_are_lem book cart;
        numbers = kd;
        choice = choice r (of_both book cart);
        chosen = says s t _ (two_by s t book cart k j);
        right = c.right;
        stands = λ d m e. rw (place_is s t, two_by s t book cart k j ∙ e) (stands_in s t d (rw (k.1, j.1) m));
        soft_removed = λ n d w o. says (leaves d s) t _ (two_by (leaves d s) t (fonts_with n [] book) cart (gone s book k n d w) j
            ∙ c.removed true n (candidates true (fonts_with n [] book) ++ B) (without_left A (candidates true (fonts_with n [] book)) B true n (not_soft cart) (candidates_without true n book)) o);
        cartridge_removed = λ n d w o. says s (leaves d t) _ (two_by s (leaves d t) book (fonts_with n [] cart) k (gone t cart j n d w)
            ∙ c.removed false n (A ++ candidates false (fonts_with n [] cart)) (without_right B (candidates false (fonts_with n [] cart)) A false n (not_cartridge book) (candidates_without false n cart)) o);
        soft_accepted = λ n b e o.
            let f = font_by n b in
            let u = (downloading_font n b s).bytes in
            let q = two_by u t (fonts_with n (f ∷ []) book) cart (came s book k n b e) j in
            ⊎_elim (λ p. inl (says u t _ (q ∙ p))) (λ p. inr (says u t _ (q ∙ p)))
            (c.added (candidate true f) (candidates true (fonts_with n (f ∷ []) book) ++ B) (with_left A (candidates true (fonts_with n (f ∷ []) book)) B (candidate true f) (candidates_with true f book (λ x m. o x (in_left x A B m)))) o);
        cartridge_accepted = λ n b e o.
            let f = font_by n b in
            let u = (downloading_font n b t).bytes in
            let q = two_by s u book (fonts_with n (f ∷ []) cart) k (came t cart j n b e) in
            ⊎_elim (λ p. inl (says s u _ (q ∙ p))) (λ p. inr (says s u _ (q ∙ p)))
            (c.added (candidate false f) (A ++ candidates false (fonts_with n (f ∷ []) cart)) (with_right B (candidates false (fonts_with n (f ∷ []) cart)) A (candidate false f) (candidates_with false f cart (λ x m. o x (in_right x A B m)))) o);
      }
    where
      kd : Keyed (of_both book cart)
      kd = two_keyed book cart (keyed s book k true) (keyed t cart j false)

      c : Lawful r (of_both book cart)
      c = claim r (of_both book cart) kd

-- a store and its book, at the beginning and after calls
begun : {s : List ℕ} {book : List Font} → Begins s book → Kept s book
begun (fresh s e) = fresh_leaves s e
begun (dump s e) = (e, refl)

went : (s : List ℕ) (book : List Font) (calls : List Call) → Begins s book → Kept (ran calls s) (book_from book calls s)
went s book calls b = rw (singly_ran calls s) at (calls_kept calls s book (begun b))

pub demand3_from_two : Demand3FromTwo
demand3_from_two s t book cart b d calls others r i = chooses_two r i (ran calls s) (ran others t) (book_from book calls s) (book_from cart others t) (went s book calls b) (went t cart others d)

-- ── the refusals
module _ (s t : List ℕ) (r : Request) where
  -- by whether both are stores and the request is within range
  abbrev chosen_by : Bool → Bool → Bool → Choice
  chosen_by a b c = cond (a && b) (cond c (choice r (of_both (fonts_of s) (fonts_of t))) (Err OutOfRange)) (Err NotStore)

  named_or_none : (refusal_of (chosen_by true true true) ≡ 0) ⊎ (refusal_of (chosen_by true true true) ≡ 11)
  unfolding choice first_number
  named_or_none = go (fonts_left r (of_both (fonts_of s) (fonts_of t)))
    where
      go : (l : List Candidate) → (refusal_of (first_number l) ≡ 0) ⊎ (refusal_of (first_number l) ≡ 11)
      go [] = inr refl
      go (f ∷ l) = inl refl

  refuses_by : (a b c : Bool)
      → ((refusal_of (chosen_by a b c) ≡ 1) ↔ ((a ≡ false) ⊎ (b ≡ false))) × ((refusal_of (chosen_by a b c) ≡ 2) ↔ ((a ≡ true) × (b ≡ true) × (c ≡ false)))
  refuses_by false b c = ((λ _. inl refl, λ _. refl), (λ e. absurd (omega (arith, e)), λ h. absurd (false≢true h.0)))
  refuses_by true false c = ((λ _. inr refl, λ _. refl), (λ e. absurd (omega (arith, e)), λ h. absurd (false≢true h.1)))
  refuses_by true true false = ((λ e. absurd (omega (arith, e)), λ h. absurd (⊎_elim true≢false true≢false h)), (λ _. (refl, refl, refl), λ _. refl))
  refuses_by true true true = (
    (λ e. absurd (⊎_elim (λ q. omega (arith, e, q)) (λ q. omega (arith, e, q)) named_or_none), λ h. absurd (⊎_elim true≢false true≢false h)),
    (λ e. absurd (⊎_elim (λ q. omega (arith, e, q)) (λ q. omega (arith, e, q)) named_or_none), λ h. absurd (true≢false h.2)),
  )

pub refuses_from_two : RefusesFromTwo
unfolding answering_from_two record_answer choosing_from_two choosing_among
refuses_from_two s t r = refuses_by s t r (is_store s) (is_store t) (in_range r)

pub one_from_two : OneFromTwo
one_from_two s t r = refl

-- one buffer as both
soft_by : (s : List ℕ) (r : Request) (a c : Bool) → refusal_of (chosen_by s s r a a c) ≡ 0 → which_of (chosen_by s s r a a c) ≡ 1
soft_by s r false c e = absurd (omega (arith, e))
soft_by s r true false e = absurd (omega (arith, e))
soft_by s r true true e = go (choice r (of_both (fonts_of s) (fonts_of s))) refl e
  where
    go : (v : Choice) → choice r (of_both (fonts_of s) (fonts_of s)) ≡ v → refusal_of v ≡ 0 → which_of v ≡ 1
    go (Ok c) q h = rw (soft_of_same r (fonts_of s) c.soft c.number q) refl
    go (Err k) q h = absurd (omega (arith, h, number_some k))

pub soft_of_one : SoftOfOne
unfolding answering_from_two record_answer choosing_from_two choosing_among
soft_of_one s r e = soft_by s r (is_store s) (in_range r) e
