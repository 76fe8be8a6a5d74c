-- What a buffer that is a store holds is valid, whatever its elements: no bound on them is needed. Assumes nothing.
use mathlib.Core.Path.{◌≡◌, refl, ◌∙◌, subst}
use mathlib.Core.List.{List, [], ◌∷◌}
use mathlib.Core.Bool.{Bool, true, false}
use mathlib.Core.Option.{Option, none, some}
use Prim.Native.Nat.{ℕ, zero, suc, ◌≤◌}
use native.Mathlib.Omega.{arith}
use lib.ListN.{length, drop, length-take, length-drop}
use Rattle.form.specs.Layout.{mark_record}
use Rattle.form.specs.Num.{◌and◌, all_zero}
use Rattle.form.specs.Model.{Rec, Store, no_owner, sorted, tally_of, counted, mark_ok, head_rec, size_of, cons_to, and_then, split_in, split, mark_in, begins, valid_or, decode, total, Valid}
use Rattle.form.proofs.Numbers.{both_l, both_r}
use Rattle.form.proofs.RecordBytes.{guard_test, guard_is, Headed, is_font_lem, is_character, head_inv}
use Rattle.form.proofs.Codec.{cons_to_some, begins_parts, store_of}

headed_size : (s : List ℕ) (r : Rec) → Headed s r → size_of r ≤ length s
unfolding size_of
headed_size s r (is_font_lem x) = omega arith
headed_size s r (is_character f k l) = simp (length-take, length-drop) (omega arith)

none_and : (f : Rec → Option (List Rec)) (rs : List Rec) → and_then none f ≡ some rs → ⊥
unfolding and_then
none_and f rs e = let z : ◌≡◌ {A = ℕ} 0 1 = cc in omega arith

some_and : (r : Rec) (f : Rec → Option (List Rec)) → cons_to r (f r) ≡ and_then (some r) f
unfolding and_then
some_and r f = refl

split_total : (k : ℕ) (s : List ℕ) (rs : List Rec) → split_in k s ≡ some rs → total rs ≤ length s
unfolding split_in
split_total zero s rs e = let z : ◌≡◌ {A = ℕ} 0 1 = cc in absurd (omega arith)
split_total (suc k) s rs e = zero? (all_zero s) refl (λ t u q. split_total k t u q)
  where
    none_total : total [] ≤ length s
    none_total = unfold total in omega arith

    cons_total : (r : Rec) (t : List Rec) → size_of r ≤ length s → total t ≤ length (drop (size_of r) s) → total (r ∷ t) ≤ length s
    cons_total r t a b = unfold total in omega (arith, a, b, length-drop (size_of r) s)

    rest : (r : Rec) → head_rec s ≡ some r → cons_to r (split_in k (drop (size_of r) s)) ≡ some rs → ((t : List ℕ) (u : List Rec) → split_in k t ≡ some u → total u ≤ length t) → total rs ≤ length s
    rest r q e' ih =
        let w = cons_to_some r (split_in k (drop (size_of r) s)) rs e' in
        subst (λ (l : List Rec). total l ≤ length s) w.2 (cons_total r w.0 (headed_size s r (head_inv s r q)) (ih (drop (size_of r) s) w.0 w.1))

    head? : (o : Option Rec) → head_rec s ≡ o → and_then o (λ r. split_in k (drop (size_of r) s)) ≡ some rs → ((t : List ℕ) (u : List Rec) → split_in k t ≡ some u → total u ≤ length t) → total rs ≤ length s
    head? none q e' ih = absurd (none_and (λ r. split_in k (drop (size_of r) s)) rs e')
    head? (some r) q e' ih = rest r q (some_and r (λ x. split_in k (drop (size_of x) s)) ∙ e') ih

    zero? : (b : Bool) → all_zero s ≡ b → ((t : List ℕ) (u : List Rec) → split_in k t ≡ some u → total u ≤ length t) → total rs ≤ length s
    zero? true q ih = let i : [] ≡ rs = cc (rw q at e) in subst (λ (l : List Rec). total l ≤ length s) i none_total
    zero? false q ih = head? (head_rec s) refl (rw q at e) ih

pub valid_decode : (s : List ℕ) (st : Store) → decode s ≡ some st → Valid st
unfolding decode valid_or split
valid_decode s st e = go (split (drop mark_record s)) refl (guard_is _ _ st e)
  where
    fr : begins s ≡ true
    fr = guard_test _ _ st e

    go : (o : Option (List Rec)) → split (drop mark_record s) ≡ o → valid_or (length s) (mark_in s) (drop mark_record s) o ≡ some st → Valid st
    go none q e' = let z : ◌≡◌ {A = ℕ} 0 1 = cc in absurd (omega arith)
    go (some rs) q e' =
        let ok : (sorted 0 no_owner rs and counted (tally_of rs) (drop mark_record s) rs) and mark_ok (mark_in s) rs ≡ true = guard_test _ _ st e' in
        let i : store_of s rs ≡ st = cc (guard_is _ _ st e') in
        let f = begins_parts s fr in
        let t : total rs ≤ length (drop mark_record s) = split_total (suc (length (drop mark_record s))) (drop mark_record s) rs q in
        subst Valid i
        (record { order = both_l _ _ (both_l _ _ ok); marked = both_r _ _ ok; small = f.1; room = omega (arith, t, f.0, length-drop mark_record s) })
