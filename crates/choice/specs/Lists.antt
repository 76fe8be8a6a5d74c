-- Lists and tests: what the steps of the choice are written with.
use Rattle.std.specs.Prelude.{◌≡◌, Bool, true, cond, ◌&&◌, ◌⊎◌, List, [], ◌∷◌}

module _ {A : Type 0} where
  -- x stands in the list
  abbrev pub In : A → List A → Type 0
  In x [] = ⊥
  In x (y ∷ l) = (x ≡ y) ⊎ In x l

  -- those that pass the test p
  unfoldable pub having : (A → Bool) → List A → List A
  having p [] = []
  having p (x ∷ l) = cond (p x) (x ∷ having p l) (having p l)

  -- every one passes the test p
  unfoldable pub every : (A → Bool) → List A → Bool
  every p [] = true
  every p (x ∷ l) = p x && every p l

  -- the first list or, if it is empty, the second
  unfoldable pub or_if_empty : List A → List A → List A
  or_if_empty [] m = m
  or_if_empty (x ∷ l) m = x ∷ l

  -- those that pass the test, if any does; else all
  unfoldable pub prefer : (A → Bool) → List A → List A
  prefer p l = or_if_empty (having p l) l

  -- those with the least s, and those with the greatest, where `le` says of two numbers that the first is at most the second
  module _ {K : Type 0} (le : K → K → Bool) (s : A → K) where
    unfoldable pub least : List A → List A
    least l = having (λ x. every (λ y. le (s x) (s y)) l) l

    unfoldable pub greatest : List A → List A
    greatest l = having (λ x. every (λ y. le (s y) (s x)) l) l
