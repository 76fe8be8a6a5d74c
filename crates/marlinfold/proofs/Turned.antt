-- W-203 through the call. Assumes nothing.
use Prim.Native.Nat.{ℕ, ◌-◌, ◌<◌}
use mathlib.Core.Path.{◌≡◌, refl, subst, ◌∙◌}
use mathlib.Core.Logic.{◌⊎◌, ◌↔◌, inl, inr, ⊎_elim}
use mathlib.Core.List.{List, ◌++◌}
use mathlib.Core.Bool.{Bool, true, false, ◌&&◌, cond}
use native.Mathlib.Omega.{arith}
use borrow.Author.Tests.{leb-true, leb-false}
use lib.Dec.{leb, eqb}
use lib.ListN.{length, drop}
use Rattle.pictures.specs.Size.{within, picture_size}
use Rattle.turning.specs.Turn.{turnable, turned_size, turned, unturned, turning_picture, TurnsInto}
use Rattle.turning.proofs.Answers.{Good, good}
use Rattle.turning.proofs.Turns.{two_quarters_are_half, quarter_and_three_are_none, four_quarters_are_none, row_dots_lem, turned_dots}
use Rattle.marlinfold.specs.Demands.{CallTurnsInto, FourQuarterCalls, TwoQuarterCalls, QuarterAndThreeCalls, TurnedPlaces, CannotTurn, TurnRefused}

into : (t w h : ℕ) (s p : List ℕ) → CallTurnsInto t w h s p → TurnsInto t w h s p
into t w h s p x = record { out = x.out; done = x.done; made = x.made }

pub four_quarter_calls : FourQuarterCalls
four_quarter_calls w h s p₁ p₂ p₃ p₄ white a b c d =
    four_quarters_are_none w h s p₁ p₂ p₃ p₄ white (into 1 w h s p₁ a) (into 1 h w p₁ p₂ b) (into 1 w h p₂ p₃ c) (into 1 h w p₃ p₄ d)

pub two_quarter_calls : TwoQuarterCalls
two_quarter_calls w h s p₁ p₂ p a b c = two_quarters_are_half w h s p₁ p₂ p (into 1 w h s p₁ a) (into 1 h w p₁ p₂ b) (into 2 w h s p c)

pub quarter_and_three_calls : QuarterAndThreeCalls
quarter_and_three_calls w h s p₁ p₂ white =
    let x = quarter_and_three_are_none w h s p₁ p₂ white in
    (λ a b. x.0 (into 1 w h s p₁ a) (into 3 h w p₁ p₂ b), λ a b. x.1 (into 3 w h s p₁ a) (into 1 h w p₁ p₂ b))

pub turned_places : TurnedPlaces
turned_places w h s p r c = (
  λ x l m. turned_dots 1 w h s p (into 1 w h s p x) r c l m ∙ row_dots_lem w h s (h - 1 - c) r (omega arith) l,
  λ x l m. turned_dots 2 w h s p (into 2 w h s p x) r c l m ∙ row_dots_lem w h s (h - 1 - r) (w - 1 - c) (omega arith) (omega arith),
  λ x l m. turned_dots 3 w h s p (into 3 w h s p x) r c l m ∙ row_dots_lem w h s c (w - 1 - r) m (omega arith),
)

-- ── the refusals
one_fails : (s t : Bool) → (s && t) ≡ false → (s ≡ false) ⊎ (t ≡ false)
one_fails true t e = inr e
one_fails false t e = inl refl

outside : (low up n : ℕ) → within low up n ≡ false → (n < low) ⊎ (up < n)
outside low up n e = ⊎_elim (λ a. inl (leb-false low n a)) (λ b. inr (leb-false n up b)) (one_fails (leb low n) (leb n up) e)

module _ (t w h size : ℕ) where
  cannot_turn : turnable t w h size ≡ false → CannotTurn t w h size
  unfolding turnable
  cannot_turn e =
      ⊎_elim (λ a. ⊎_elim (λ l. inl l) (λ l. inr (inl l)) (outside 1 3 t a))
      (λ a. ⊎_elim (λ b. ⊎_elim (λ l. inr (inr (inl l))) (λ l. inr (inr (inr (inl l)))) (outside 1 16384 w b))
      (λ b. ⊎_elim (λ c. ⊎_elim (λ l. inr (inr (inr (inr (inl l))))) (λ l. inr (inr (inr (inr (inr (inl l)))))) (outside 1 16384 h c))
      (λ c. inr (inr (inr (inr (inr (inr (leb-false (picture_size w h) size c)))))))
      (one_fails (within 1 16384 h) (leb (picture_size w h) size) b))
      (one_fails (within 1 16384 w) (within 1 16384 h && leb (picture_size w h) size) a))
      (one_fails (within 1 3 t) (within 1 16384 w && (within 1 16384 h && leb (picture_size w h) size)) e)

  can_turn : Good t w h size → CannotTurn t w h size → ⊥
  can_turn g (inl l) = omega (arith, l, g.turn_low)
  can_turn g (inr (inl l)) = omega (arith, l, g.turn_high)
  can_turn g (inr (inr (inl l))) = omega (arith, l, g.wide)
  can_turn g (inr (inr (inr (inl l)))) = omega (arith, l, g.narrow)
  can_turn g (inr (inr (inr (inr (inl l))))) = omega (arith, l, g.high)
  can_turn g (inr (inr (inr (inr (inr (inl l)))))) = omega (arith, l, g.low)
  can_turn g (inr (inr (inr (inr (inr (inr l)))))) = omega (arith, l, g.enough)

size_by : (w h : ℕ) (half : Bool) → picture_size (cond half w h) (cond half h w) ≡ cond half (picture_size w h) (picture_size h w)
size_by w h true = refl
size_by w h false = refl

pub turn_refused : TurnRefused
unfolding turning_picture
turn_refused t w h pic out beside =
    subst (λ (size : ℕ). ((k ≡ 2) ↔ Cannot) × ((k ≡ 12) ↔ ((Cannot → ⊥) × (length out < size)))) (size_by w h (eqb t 2)) (go (turnable t w h (length pic)) refl (leb (turned_size t w h) (length out)) refl)
  where
    k : ℕ
    k = (turning_picture t w h pic out).answer

    Cannot : Type 0
    Cannot = CannotTurn t w h (length pic)

    ends : Bool → Bool → ℕ
    ends a b = (cond a (cond b (record { answer = 0; bytes = turned t w h pic ++ drop (turned_size t w h) out }) (unturned out 12)) (unturned out 2)).answer

    go : (a : Bool) → turnable t w h (length pic) ≡ a → (b : Bool) → leb (turned_size t w h) (length out) ≡ b
        → ((ends a b ≡ 2) ↔ Cannot) × ((ends a b ≡ 12) ↔ ((Cannot → ⊥) × (length out < turned_size t w h)))
    go false p b q = let v = cannot_turn t w h (length pic) p in ((λ _. v, λ _. refl), (λ e. absurd (omega (arith, e)), λ x. absurd (x.0 v)))
    go true p true q =
        let no = can_turn t w h (length pic) (good t w h (length pic) p) in
        ((λ e. absurd (omega (arith, e)), λ v. absurd (no v)), (λ e. absurd (omega (arith, e)), λ x. absurd (omega (arith, x.1, leb-true (turned_size t w h) (length out) q))))
    go true p false q =
        let no = can_turn t w h (length pic) (good t w h (length pic) p) in
        ((λ e. absurd (omega (arith, e)), λ v. absurd (no v)), (λ _. (no, leb-false (turned_size t w h) (length out) q), λ _. refl))
