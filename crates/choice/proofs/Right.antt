-- The choice is right for any fonts of which no two of one store have one number, and stands as it should if one goes or comes. Assumes nothing.
use Rattle.std.proofs.Common.{◌≡◌, ℕ, Err, Bool, ◌⊎◌, List, [], ◌∷◌, sym, refl, ap, ◌∙◌, ap₂, inl, inr, ⊎_elim, arith}
use mathlib.Core.Bool.{Bool-discrete}
use native.Mathlib.Decide.{ℕ_discrete}
use Rattle.choice.specs.Candidates.{Candidate}
use Rattle.choice.specs.Lists.{In, having}
use Rattle.choice.specs.Steps.{fonts_left, chosen, choice, takes_part, Beats}
use Rattle.choice.specs.Right.{Keyed, Other, Unused, Best, Right, Reordered, Without, With, Claim}
use Rattle.choice.specs.declared.Request.{Request}
use Rattle.refusals.specs.declared.Refused.TheVariants.{NoneToChoose}
use Rattle.choice.proofs.Least.{not_both, in_having, having_out}
use Rattle.choice.proofs.Steps.{is_left}
use Rattle.choice.proofs.Choice.{only_one, choice_is, choice_none, either, stands}
use Rattle.choice.proofs.Single.{by_having, leaves_one}

module _ (r : Request) where
  module _ (l : List Candidate) (kd : Keyed l) (c : Candidate) (m : In c (fonts_left r l)) where
    -- of two fonts of which one is the one chosen, in either order, it is left
    of_two : (a b : Candidate) → In a l → In b l → (c ≡ a) ⊎ (c ≡ b) → In c (fonts_left r (having (takes_part r) (a ∷ b ∷ [])))
    of_two a b ma mb ab =
        (is_left r (having (takes_part r) (a ∷ b ∷ []))).back c
        (in_having (takes_part r) (a ∷ b ∷ []) c (⊎_elim inl (λ e. inr (inl e)) ab) ((is_left r l).base c m).1, ((is_left r l).base c m).1)
        (λ y w.
        (is_left r l).low c y m
        (⊎_elim (λ e. rw e ma) (⊎_elim (λ e. rw e mb) (λ z. absurd z)) (having_out (takes_part r) (a ∷ b ∷ []) y w.0).0, w.1))

    mine : In c l
    mine = ((is_left r l).base c m).0

    wins : (b : Candidate) → In b l → Other b c → Beats r c b
    unfolding Beats
    wins b mb o =
        leaves_one r (having (takes_part r) (c ∷ b ∷ [])) (by_having (takes_part r) (c ∷ b ∷ []) (λ x. ⊎_elim (λ e s h. o (kd b c mb mine (sym (ap (λ (g : Candidate). g.soft) e) ∙ s) (sym (ap (λ (g : Candidate). g.number) e) ∙ h))) (λ z. absurd z), (λ x z. absurd z, tt))) c
        (of_two c b mine mb (inl refl))

    -- a font of l is this one or another
    same_or_other : (b : Candidate) → In b l → (b ≡ c) ⊎ Other b c
    same_or_other b mb =
        elim (Bool-discrete b.soft c.soft) [
          | yes s ↦ elim (ℕ_discrete b.number c.number) [
            | yes e ↦ inl (kd b c mb mine s e)
            | no o ↦ inr (λ e. o (ap (λ (g : Candidate). g.number) e))
          ]
          | no o ↦ inr (λ e. o (ap (λ (g : Candidate). g.soft) e))
        ]

    pub best : Best r l c
    unfolding Beats
    best =
        record {
          one = mine;
          wins = wins;
          unbeaten = λ d md o h. ⊎_elim (λ e. o (sym e)) (λ z. absurd z) (rw h at (of_two d c md mine (inr refl)));
          only = λ b mb u. ⊎_elim (λ e. e) (λ o. absurd (u c mine (λ e. o (sym e)) (wins b mb o))) (same_or_other b mb);
        }

  pub right : (l : List Candidate) → Keyed l → Right r l (choice r l)
  right l kd =
      record {
        named = ⊎_elim (λ a. inl a.0) (λ c. inr (c.0, choice_is r l kd c.0 c.1, best l kd c.0 c.1)) (either r l);
        refused = (λ e. ⊎_elim (λ a. a.1) (λ c. absurd (never c.0.soft c.0.number (sym (choice_is r l kd c.0 c.1) ∙ e))) (either r l), choice_none r l);
      }
    where
      never : (p : Bool) (n : ℕ) → chosen p n ≡ Err NoneToChoose → ⊥
      never p n e = let z : ◌≡◌ {A = ℕ} 0 1 = cc in omega arith

  -- the same fonts in another order
  pub reordered : (l k : List Candidate) → Keyed l → Reordered l k → choice r k ≡ choice r l
  reordered l k kd h = stands r l k kd (λ x. (h x).0) (λ c m. (h c).1 ((is_left r l).base c m).0)

  -- a font that was not chosen goes
  pub removed : (l : List Candidate) → Keyed l → (p : Bool) (n : ℕ) (k : List Candidate) → Without p n l k → (choice r l ≡ chosen p n → ⊥) → choice r k ≡ choice r l
  removed l kd p n k h o =
      stands r l k kd (λ x m. ((h x).0 m).0)
      (λ c m. (h c).1 (((is_left r l).base c m).0, λ s e. o (choice_is r l kd c m ∙ ap₂ chosen s e)))

  -- a font comes under an unused number
  pub added : (l : List Candidate) → Keyed l → (f : Candidate) (k : List Candidate) → With f l k → Unused f.soft f.number l
      → (choice r k ≡ choice r l) ⊎ (choice r k ≡ chosen f.soft f.number)
  added l kd f k h o =
      ⊎_elim (λ a. inl (sym (stands r k l kk sub (λ d m. absurd (not_both (takes_part r d) ((is_left r k).base d m).1 (a.1 d ((is_left r k).base d m).0))))))
      (λ d. ⊎_elim (λ e. inr (choice_is r k kk d.0 d.1 ∙ ap (λ (g : Candidate). chosen g.soft g.number) e))
      (λ m. inl (sym (stands r k l kk sub (λ g mg. rw (only_one r k kk g d.0 mg d.1) m)))) ((h d.0).0 ((is_left r k).base d.0 d.1).0))
      (either r k)
    where
      sub : (x : Candidate) → In x l → In x k
      sub x m = (h x).1 (inr m)

      num : {x y : Candidate} → x ≡ y → x.number ≡ y.number
      num e = ap (λ (g : Candidate). g.number) e

      store : {x y : Candidate} → x ≡ y → x.soft ≡ y.soft
      store e = ap (λ (g : Candidate). g.soft) e

      kk : Keyed k
      kk x y mx my s e =
          ⊎_elim
          (λ ex. ⊎_elim (λ ey. ex ∙ sym ey) (λ ny. absurd (o y ny (sym s ∙ store ex) (sym e ∙ num ex))) ((h y).0 my))
          (λ nx. ⊎_elim (λ ey. absurd (o x nx (s ∙ store ey) (e ∙ num ey))) (λ ny. kd x y nx ny s e) ((h y).0 my))
          ((h x).0 mx)

pub claim : Claim
claim r l kd = record { right = right r l kd; reordered = λ k. reordered r l k kd; removed = removed r l kd; added = added r l kd }
