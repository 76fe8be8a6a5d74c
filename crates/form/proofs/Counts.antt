-- What the walk counts, font by font, is a fresh count of each font's characters. Assumes nothing.
use mathlib.Core.Path.{◌≡◌, refl, sym, ap, ap₂, ◌∙◌}
use mathlib.Core.List.{List, [], ◌∷◌, ◌++◌}
use mathlib.Core.Option.{some}
use mathlib.Core.Bool.{Bool, true, false}
use Prim.Native.Nat.{ℕ, ◌+◌, ◌<◌, ◌≤◌}
use native.Mathlib.Omega.{arith}
use native.Mathlib.Nat.{zero-add, add-zero}
use lib.ListN.{length, take, drop, replicate}
use Rattle.blocks.specs.Header.{header_bytes}
use Rattle.blocks.specs.Character.{descriptor_bytes}
use lib.Seq.{drop-drop}
use borrow.Author.Tests.{eq-eqb, ne_eqb}
use Rattle.form.specs.Layout.{key_of, font_record, character_record, mark_record}
use Rattle.form.specs.Num.{◌and◌, low_first}
use Rattle.form.specs.Model.{Rec, font, character, Owner, owner_after, no_owner, sorted, number, place, key, no_characters, one_more, tally_of, tally_in, same_tally, holds_tally, counted, size_of, total, Store, mark_bytes, font_head, tally_bytes, character_head, character_bytes, bytes_of, run, encode, decode}
use Rattle.form.specs.Order.{below, from, find_record}
use Rattle.form.specs.Records.{records_at, CountsTrue}
use Rattle.form.specs.Walk.{tallied}
use Rattle.form.specs.declared.tally.Tally.{Tally}
use Rattle.form.proofs.RecordBytes.{shaped, allowed_char, same_tally_lem}
use Rattle.form.proofs.Numbers.{both_l, both_r}
use Rattle.form.proofs.Order.{split_at}
use Rattle.form.proofs.Lookup.{found}
use Rattle.form.proofs.RecordRuns.{decoded}
use Rattle.form.proofs.Codec.{sorted_inv}

-- two numbers each added
abbrev pub plus : Tally → Tally → Tally
plus t u = record { characters = t.characters + u.characters; bytes = t.bytes + u.bytes }

-- ── numbers that differ for one font alone
abbrev pub Off : ℕ → (ℕ → Tally) → (ℕ → Tally) → Type 0
Off n T S = (m : ℕ) → (m ≡ n → ⊥) → T m ≡ S m

-- ── records behind a font
-- none of its number
later_none : (n m k : ℕ) (u : Owner) (rs : List Rec) → sorted k u rs ≡ true → key_of (n + 1) 0 ≤ k → m ≤ n → tally_of rs m ≡ no_characters
unfolding tally_of number place
later_none n m k u [] e l g = refl
later_none n m k u (font j h ∷ rs) e l g = let w = sorted_inv k u (font j h) rs e in later_none n m (key (font j h) + 1) (owner_after u (font j h)) rs w.rest (omega (arith, w.least)) g
later_none n m k u (character j c h d ∷ rs) e l g =
    let w = sorted_inv k u (character j c h d) rs e in
    let so = shaped u (character j c h d) w.ok in
    rw (ne_eqb j m (λ q. omega (arith, w.least, so.3))) (later_none n m (key (character j c h d) + 1) (owner_after u (character j c h d)) rs w.rest (omega (arith, w.least)) g)

-- what is held by fonts behind font n does not depend on its own numbers
counted_off : (n : ℕ) (T S : ℕ → Tally) → Off n T S → (k : ℕ) (u : Owner) (s : List ℕ) (rs : List Rec) → sorted k u rs ≡ true → key_of n 0 < k → counted T s rs ≡ counted S s rs
unfolding counted
counted_off n T S off k u s [] e l = refl
counted_off n T S off k u s (r ∷ rs) e l =
    let w = sorted_inv k u r rs e in
    rw (counted_off n T S off (key r + 1) (owner_after u r) (drop (size_of r) s) rs w.rest (omega (arith, w.least))) (one r (omega (arith, w.least)))
  where
    one : (r : Rec) → key_of n 0 < key r → holds_tally T s r and counted S (drop (size_of r) s) rs ≡ holds_tally S s r and counted S (drop (size_of r) s) rs
    one (font m h) g = unfold holds_tally number place in rw (off m (λ q. omega arith))
    one (character m c h d) g = unfold holds_tally in refl

-- ── the walk behind font n, which holds t and whose characters so far have m
same_more : (t m u : Tally) (k : ℕ) → same_tally t (plus (one_more true k m) u) ≡ same_tally t (plus m (one_more true k u))
same_more t m u k =
    let a : m.characters + 1 + u.characters ≡ m.characters + (u.characters + 1) = omega arith in
    let b : m.bytes + k + u.bytes ≡ m.bytes + (u.bytes + k) = omega arith in
    rw (a, b)

-- numbers of a font's characters alone
more_off : (n c : ℕ) (h d : List ℕ) (rs : List Rec) → Off n (tally_of rs) (tally_of (character n c h d ∷ rs))
unfolding tally_of
more_off n c h d rs m ne = rw (ne_eqb n m (λ q. ne (sym q)))

more_here : (n c : ℕ) (h d : List ℕ) (rs : List Rec) → tally_of (character n c h d ∷ rs) n ≡ one_more true (length d) (tally_of rs n)
unfolding tally_of
more_here n c h d rs = rw (eq-eqb n n refl)

and_true : (b : Bool) → b ≡ b and true
unfolding ◌and◌
and_true true = refl
and_true false = refl

-- with one character more
tallied_char : (n c : ℕ) (h d s : List ℕ) (t m : Tally) (rs : List Rec) (x : Bool)
    → counted (tally_of rs) (drop (character_record + length d) s) rs ≡ counted (tally_of (character n c h d ∷ rs)) (drop (character_record + length d) s) rs
    → x ≡ same_tally t (plus (one_more true (length d) m) (tally_of rs n)) and counted (tally_of rs) (drop (character_record + length d) s) rs
    → x ≡ same_tally t (plus m (tally_of (character n c h d ∷ rs) n)) and counted (tally_of (character n c h d ∷ rs)) s (character n c h d ∷ rs)
unfolding counted holds_tally size_of ◌and◌
tallied_char n c h d s t m rs x f i =
    i ∙ ap₂ (λ (a b : Bool). a and b) (same_more t m (tally_of rs n) (length d) ∙ ap (λ (y : Tally). same_tally t (plus m y)) (sym (more_here n c h d rs))) f

tallied_is : (n : ℕ) (t m : Tally) (k : ℕ) (u : Owner) (s : List ℕ) (rs : List Rec) → sorted k u rs ≡ true → u.owner ≡ n + 1 → key_of n 0 < k
    → tallied t m s rs ≡ same_tally t (plus m (tally_of rs n)) and counted (tally_of rs) s rs
unfolding tallied counted holds_tally size_of number place owner_after tally_of
tallied_is n t m k u s [] e o l = rw (add-zero m.characters, add-zero m.bytes) (and_true (same_tally t m))
tallied_is n t m k u s (font j h ∷ rs) e o l =
    let w = sorted_inv k u (font j h) rs e in
    let z : tally_of rs n ≡ no_characters = later_none n n (key (font j h) + 1) (owner_after u (font j h)) rs w.rest (omega (arith, w.least)) (omega arith) in
    let i = tallied_is j (tally_in s) no_characters (key (font j h) + 1) (owner_after u (font j h)) (drop font_record s) rs w.rest refl (omega arith) in
    rw (z, add-zero m.characters, add-zero m.bytes, i, zero-add (tally_of rs j).characters, zero-add (tally_of rs j).bytes)
tallied_is n t m k u s (character j c h d ∷ rs) e o l =
    let w = sorted_inv k u (character j c h d) rs e in
    let q : n ≡ j = omega (arith, (allowed_char u j c h d w.ok).owner) in
    let x = character j c h d in
    let i = tallied_is n t (one_more true (length d) m) (key x + 1) (owner_after u x) (drop (character_record + length d) s) rs w.rest o (omega (arith, w.least)) in
    let f = counted_off j (tally_of rs) (tally_of (x ∷ rs)) (more_off j c h d rs) (key x + 1) (owner_after u x) (drop (character_record + length d) s) rs w.rest (omega (arith, w.least)) in
    rw q (tallied_char j c h d s t m rs (tallied t (one_more true (length d) m) (drop (character_record + length d) s) rs) f (rw q at i))

-- from the front on
tallied_front : (s : List ℕ) (rs : List Rec) → sorted 0 no_owner rs ≡ true → tallied no_characters no_characters s rs ≡ counted (tally_of rs) s rs
unfolding tallied counted holds_tally size_of number place owner_after tally_of ◌and◌
tallied_front s [] e = refl
tallied_front s (font j h ∷ rs) e =
    let w = sorted_inv 0 no_owner (font j h) rs e in
    let i = tallied_is j (tally_in s) no_characters (key (font j h) + 1) (owner_after no_owner (font j h)) (drop font_record s) rs w.rest refl (omega arith) in
    rw (i, zero-add (tally_of rs j).characters, zero-add (tally_of rs j).bytes)
tallied_front s (character j c h d ∷ rs) e = absurd (omega (arith, (allowed_char no_owner j c h d (sorted_inv 0 no_owner (character j c h d) rs e).ok).owner))

pub settled_counted : (s : List ℕ) (rs : List Rec) → sorted 0 no_owner rs and tallied no_characters no_characters s rs ≡ sorted 0 no_owner rs and counted (tally_of rs) s rs
settled_counted s rs = go (sorted 0 no_owner rs) refl
  where
    go : (b : Bool) → sorted 0 no_owner rs ≡ b → b and tallied no_characters no_characters s rs ≡ b and counted (tally_of rs) s rs
    go true q = rw (tallied_front s rs q)
    go false q = unfold ◌and◌ in refl

-- ── what a font's record holds
counted_at : (T : ℕ → Tally) (a b : List Rec) (n : ℕ) (h s : List ℕ) → counted T s (a ++ (font n h ∷ b)) ≡ true → tally_in (drop (total a) s) ≡ T n
unfolding counted holds_tally total
counted_at T [] b n h s e = same_tally_lem _ _ (both_l _ _ e)
counted_at T (r ∷ a) b n h s e = ap tally_in (sym (drop-drop (total a) (size_of r) s)) ∙ counted_at T a b n h (drop (size_of r) s) (both_r _ _ e)

-- a store's counts are true
pub counts_true : (s : List ℕ) (st : Store) → decode s ≡ some st → CountsTrue s
unfolding records_at
counts_true s st e n h q =
    let rs = st.recs in
    let k = key_of n 0 in
    let d = decoded s st e in
    let f : find_record k rs ≡ some (font n h) = rw d.1 at q in
    let p : rs ≡ below k rs ++ (font n h ∷ from (k + 1) rs) = split_at k 0 no_owner rs d.2 ∙ ap (λ (l : List Rec). below k rs ++ l) (found k 0 no_owner (font n h) rs d.2 f).rest in
    let c : counted (tally_of rs) (drop mark_record s) (below k rs ++ (font n h ∷ from (k + 1) rs)) ≡ true = ap (counted (tally_of rs) (drop mark_record s)) (sym p) ∙ d.3 in
    rw d.1 (ap tally_in (sym (drop-drop (total (below k rs)) mark_record s)) ∙ counted_at (tally_of rs) (below k rs) (from (k + 1) rs) n h (drop mark_record s) c)

-- ── the numbers in their places: a store of font 5 and its character 65 with two data bytes
abbrev plain : Store
plain = record { size = 200; mark = record { on = 0; font_of = 0; code_of = 0 }; recs = font 5 (replicate header_bytes 0) ∷ character 5 65 (replicate descriptor_bytes 0) (7 ∷ 7 ∷ []) ∷ [] }

-- "after the font number": bytes 20 and 21 are the number of characters, 22 to 25 the sum
pub numbers_written : take 6 (drop 20 (encode plain)) ≡ 1 ∷ 0 ∷ 2 ∷ 0 ∷ 0 ∷ 0 ∷ []
unfolding encode mark_bytes run bytes_of character_bytes font_head tally_bytes character_head tally_of low_first
numbers_written = refl
