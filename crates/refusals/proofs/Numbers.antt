-- Laws of the refusals' numbers. Assumes nothing.
use Rattle.std.proofs.Common.{ℕ, Option, Some, None, IsErr, IsErrAnd, ok_or, cond, eqb, ◌<◌, ◌≡◌, Result, Ok, Err, refl, sym, ap, ◌∙◌, arith}
use Rattle.refusals.specs.Refusals.{refusal_number, numbered_result, number_or_0, NumbersTell}
use Rattle.refusals.specs.declared.Refused.{Refused}
use Rattle.refusals.specs.declared.Refused.TheVariants.{NotStore, OutOfRange, BlockLength, NotTaken, FieldValue, NoFont, NoCharacter, RunPastRow, TooLarge, NoRoom, NoneToChoose, OutputShort, StreamBroken, OutsideProfile}

-- the refusal with a number
abbrev named : ℕ → Refused
named n =
    (cond (eqb n 1) NotStore
    (cond (eqb n 2) OutOfRange
    (cond (eqb n 3) BlockLength
    (cond (eqb n 4) NotTaken
    (cond (eqb n 5) FieldValue
    (cond (eqb n 6) NoFont
    (cond (eqb n 7) NoCharacter
    (cond (eqb n 8) RunPastRow
    (cond (eqb n 9) TooLarge
    (cond (eqb n 10) NoRoom
    (cond (eqb n 11) NoneToChoose
    (cond (eqb n 12) OutputShort
    (cond (eqb n 13) StreamBroken
    OutsideProfile)))))))))))))

named_number : (r : Refused) → named (refusal_number r) ≡ r
named_number NotStore = refl
named_number OutOfRange = refl
named_number BlockLength = refl
named_number NotTaken = refl
named_number FieldValue = refl
named_number NoFont = refl
named_number NoCharacter = refl
named_number RunPastRow = refl
named_number TooLarge = refl
named_number NoRoom = refl
named_number NoneToChoose = refl
named_number OutputShort = refl
named_number StreamBroken = refl
named_number OutsideProfile = refl

pub numbers_tell : NumbersTell
numbers_tell a b e = sym (named_number a) ∙ ap named e ∙ named_number b

-- no refusal is 0
pub number_some : (r : Refused) → 0 < refusal_number r
number_some NotStore = omega arith
number_some OutOfRange = omega arith
number_some BlockLength = omega arith
number_some NotTaken = omega arith
number_some FieldValue = omega arith
number_some NoFont = omega arith
number_some NoCharacter = omega arith
number_some RunPastRow = omega arith
number_some TooLarge = omega arith
number_some NoRoom = omega arith
number_some NoneToChoose = omega arith
number_some OutputShort = omega arith
number_some StreamBroken = omega arith
number_some OutsideProfile = omega arith

-- what stands in a result by number stands in the result
pub is_ok_by : {A : Type 0} (r : Result A Refused) (a : A) → numbered_result r ≡ Ok a → r ≡ Ok a
is_ok_by (Ok a) b e = cc
is_ok_by (Err q) b e = cc

pub is_err_by : {A : Type 0} (r : Result A Refused) (k : ℕ) → numbered_result r ≡ Err k → (q : Refused) × (r ≡ Err q) × (refusal_number q ≡ k)
is_err_by (Ok a) k e = cc
is_err_by (Err q) k e = (q, refl, cc)

-- answered 0, it is done
pub done_by : {A : Type 0} (r : Result A Refused) → number_or_0 r ≡ 0 → (a : A) × (r ≡ Ok a)
done_by (Ok a) e = (a, refl)
done_by (Err q) e = absurd (omega (arith, number_some q))

-- ── a result that `?` hands on
pub handed_on : {A : Type 0} (r : Result A Refused) (q : Refused) → IsErr r × IsErrAnd r (λ e. e ≡ q) → numbered_result r ≡ Err (refusal_number q)
handed_on (Ok a) q h = absurd h.1
handed_on (Err e) q h = ap (λ (x : Refused). Err (refusal_number x)) h.1

-- an option that was refused in the place of none: it was none
pub none_handed_on : {A B : Type 0} (o : Option A) (q e : Refused) (r : Result B Refused) → ok_or o q ≡ Err e → IsErr r × IsErrAnd r (λ x. x ≡ e)
    → (o ≡ None) × (numbered_result r ≡ Err (refusal_number q))
none_handed_on None q e r w h = (refl, handed_on r e h ∙ cc)
none_handed_on (Some a) q e r w h = cc

-- a refusal whose number was taken
pub err_by : {A : Type 0} {r : Result A Refused} {q : Refused} {k : ℕ} → r ≡ Err q → k ≡ refusal_number q → numbered_result r ≡ Err k
err_by {r = r} {q = q} {k = k} e i = rw (e, i)
