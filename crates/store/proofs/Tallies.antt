-- The numbers that fonts' records hold, and what a change of the records does to them. Assumes nothing.
use mathlib.Core.Path.{◌≡◌, refl, sym, ap, ◌∙◌}
use mathlib.Core.List.{List, [], ◌∷◌, ◌++◌, append_assoc}
use mathlib.Core.Bool.{Bool, true, false, not, cond}
use mathlib.Core.Option.{Option, none, some}
use Prim.Native.Nat.{ℕ, ◌+◌, ◌-◌, ◌<◌, ◌≤◌}
use native.Mathlib.Omega.{arith}
use native.Mathlib.Nat.{zero-add}
use lib.ListN.{length, drop, length-append}
use lib.Seq.{drop_at}
use lib.Dec.{eqb, leb, ltb}
use borrow.Author.Tests.{eq-eqb, ne_eqb, leb-true, ltb-true}
use Rattle.form.specs.Layout.{key_of, font_characters_at, font_kind, font_record, character_record, last_code, mark_record}
use Rattle.form.specs.Num.{◌and◌, low_first}
use Rattle.form.specs.Model.{Rec, font, character, Owner, owner_after, no_owner, sorted, number, place, key, no_characters, one_more, tally_of, tally_bytes, tally_in, font_head, bytes_of, run, size_of, total}
use Rattle.form.specs.Order.{keep, below, from, find_record, replaced, after}
use Rattle.store.specs.Calls.{characters_of, with_character}
use Rattle.change.specs.Put.{with_bytes}
use Rattle.change.specs.Change.{tally_by, recount}
use Rattle.form.specs.declared.tally.Tally.{Tally}
use Rattle.form.proofs.RecordBytes.{Shaped, shaped}
use Rattle.form.proofs.Codec.{sorted_inv, Fits, font_tally}
use Rattle.form.proofs.Order.{split_at, sorted_from, below_in}
use Rattle.form.proofs.Totals.{run_append, length_keep}
use Rattle.form.proofs.Counts.{plus, Off}
use Rattle.form.proofs.Lookup.{found, missing, char_at, from_from, below_below}
use Rattle.change.proofs.Puts.{put_mid}
use Rattle.store.proofs.Replaced.{NewFont, no_font, new_font, NewChar, no_char, new_char}

pub tally_append : (a b : List Rec) (n : ℕ) → tally_of (a ++ b) n ≡ plus (tally_of a n) (tally_of b n)
unfolding tally_of
tally_append [] b n = rw (zero-add (tally_of b n).characters, zero-add (tally_of b n).bytes)
tally_append (font m h ∷ a) b n = tally_append a b n
tally_append (character m c h d ∷ a) b n = rw (tally_append a b n) (go (eqb m n))
  where
    go : (t : Bool) → one_more t (length d) (plus (tally_of a n) (tally_of b n)) ≡ plus (one_more t (length d) (tally_of a n)) (tally_of b n)
    go true =
        let p : (tally_of a n).characters + (tally_of b n).characters + 1 ≡ (tally_of a n).characters + 1 + (tally_of b n).characters = omega arith in
        let q : (tally_of a n).bytes + (tally_of b n).bytes + length d ≡ (tally_of a n).bytes + length d + (tally_of b n).bytes = omega arith in
        rw (p, q)
    go false = refl

-- "a fresh count": the font's characters
pub tally_count : (rs : List Rec) (n : ℕ) → (tally_of rs n).characters ≡ length (characters_of n rs)
unfolding tally_of characters_of keep number place ◌and◌
tally_count [] n = refl
tally_count (font m h ∷ rs) n = go (eqb m n) (tally_count rs n)
  where
    go : (b : Bool) → (tally_of rs n).characters ≡ length (characters_of n rs) → (tally_of rs n).characters ≡ length (cond (b and false) (font m h ∷ characters_of n rs) (characters_of n rs))
    go true ih = ih
    go false ih = ih
tally_count (character m c h d ∷ rs) n = go (eqb m n) (tally_count rs n)
  where
    ne : eqb (c + 1) 0 ≡ false
    ne = ne_eqb (c + 1) 0 (λ e. omega arith)

    go : (b : Bool) → (tally_of rs n).characters ≡ length (characters_of n rs)
        → (one_more b (length d) (tally_of rs n)).characters ≡ length (cond (b and not (eqb (c + 1) 0)) (character m c h d ∷ characters_of n rs) (characters_of n rs))
    go true ih = rw ne (omega arith)
    go false ih = ih

-- records of other fonts
tally_none : (t : Rec → Bool) (m lo k : ℕ) (u : Owner) (rs : List Rec) → sorted k u rs ≡ true → lo ≤ k → ((r : Rec) → Shaped r → lo ≤ key r → t r ≡ true → number r ≡ m → ⊥)
    → tally_of (keep t rs) m ≡ no_characters
unfolding tally_of keep number
tally_none t m lo k u [] e l f = refl
tally_none t m lo k u (r ∷ rs) e l f =
    let w = sorted_inv k u r rs e in
    step r (shaped u r w.ok) (omega (arith, w.least)) (t r) refl (tally_none t m lo (key r + 1) (owner_after u r) rs w.rest (omega (arith, w.least)) f)
  where
    step : (r : Rec) → Shaped r → lo ≤ key r → (b : Bool) → t r ≡ b → tally_of (keep t rs) m ≡ no_characters → tally_of (cond b (r ∷ keep t rs) (keep t rs)) m ≡ no_characters
    step (font n h) so g true q ih = ih
    step (character n c h d) so g true q ih = rw (ne_eqb n m (f (character n c h d) so g q)) ih
    step r so g false q ih = ih

bytes_off : (n : ℕ) (T S : ℕ → Tally) → Off n T S → (r : Rec) → (key r ≡ key_of n 0 → ⊥) → bytes_of T r ≡ bytes_of S r
unfolding bytes_of number place
bytes_off n T S o (font m h) f = ap (λ (t : Tally). font_head m t ++ h) (o m (λ e. f (ap (λ (x : ℕ). key_of x 0) e)))
bytes_off n T S o (character m c h d) f = refl

run_off : (n : ℕ) (T S : ℕ → Tally) → Off n T S → (t : Rec → Bool) (lo k : ℕ) (u : Owner) (rs : List Rec) → sorted k u rs ≡ true → lo ≤ k → ((r : Rec) → lo ≤ key r → t r ≡ true → key r ≡ key_of n 0 → ⊥)
    → run T (keep t rs) ≡ run S (keep t rs)
unfolding run keep
run_off n T S off t lo k u [] e l f = refl
run_off n T S off t lo k u (r ∷ rs) e l f =
    let w = sorted_inv k u r rs e in
    step (omega (arith, w.least)) (t r) refl (run_off n T S off t lo (key r + 1) (owner_after u r) rs w.rest (omega (arith, w.least)) f)
  where
    step : lo ≤ key r → (b : Bool) → t r ≡ b → run T (keep t rs) ≡ run S (keep t rs) → run T (cond b (r ∷ keep t rs) (keep t rs)) ≡ run S (cond b (r ∷ keep t rs) (keep t rs))
    step g true q ih = rw (bytes_off n T S off r (f r g q), ih)
    step g false q ih = ih

-- what stands before a font's numbers
abbrev before : ℕ → List ℕ
before n = low_first 4 font_record ++ (low_first 2 font_kind ++ low_first 2 n)

before_length : (n : ℕ) → length (before n) ≡ font_characters_at
unfolding low_first
before_length n = refl

font_parts : (T : ℕ → Tally) (n : ℕ) (h : List ℕ) → bytes_of T (font n h) ≡ before n ++ (tally_bytes (T n) ++ h)
unfolding bytes_of font_head
font_parts T n h = simp append_assoc

tally_length : (t : Tally) → length (tally_bytes t) ≡ 6
unfolding tally_bytes low_first
tally_length t = refl

-- records that have no font n
abbrev pub NoFont : ℕ → List Rec → Type 0
NoFont n rs = (T S : ℕ → Tally) → Off n T S → run T rs ≡ run S rs

-- records apart at the font n: A before it, W behind it
pub record Apart (n : ℕ) (h : List ℕ) (rs A W : List Rec) : Type 0 where
  pub are : rs ≡ A ++ (font n h ∷ W)
  pub sized : (T : ℕ → Tally) → length (run T A) ≡ total A
  pub front : NoFont n A
  pub back : NoFont n W

module _ (n : ℕ) (h : List ℕ) (rs A W : List Rec) (x : Apart n h rs A W) (M Z : List ℕ) (lm : length M ≡ mark_record) where
  run_at : (T : ℕ → Tally) → run T rs ≡ run T A ++ (bytes_of T (font n h) ++ run T W)
  unfolding run
  run_at T = ap (run T) x.are ∙ run_append T A (font n h ∷ W)

  -- the font's numbers written in their place
  pub retally : (T S : ℕ → Tally) → Off n T S → with_bytes (M ++ (run T rs ++ Z)) (mark_record + total A + font_characters_at) (tally_bytes (S n)) ≡ M ++ (run S rs ++ Z)
  retally T S off =
      let F = run T A in
      let B = run T W in
      let p : M ++ (run T rs ++ Z) ≡ (M ++ (F ++ before n)) ++ (tally_bytes (T n) ++ (h ++ (B ++ Z))) = rw (run_at T, font_parts T n h) (simp append_assoc) in
      let q : M ++ (run S rs ++ Z) ≡ (M ++ (F ++ before n)) ++ (tally_bytes (S n) ++ (h ++ (B ++ Z))) = rw (run_at S, font_parts S n h, ← (x.front T S off), ← (x.back T S off)) (simp append_assoc) in
      let l : length (M ++ (F ++ before n)) ≡ mark_record + total A + font_characters_at = omega (arith, length-append M (F ++ before n), length-append F (before n), before_length n, x.sized T) in
      rw (p, q) (put_mid (M ++ (F ++ before n)) (tally_bytes (T n)) (h ++ (B ++ Z)) (tally_bytes (S n)) (mark_record + total A + font_characters_at) l (tally_length (S n) ∙ sym (tally_length (T n))))

  -- and read there
  pub tally_there : (T : ℕ → Tally) → Fits T → tally_in (drop (mark_record + total A) (M ++ (run T rs ++ Z))) ≡ T n
  tally_there T fits =
      let p : M ++ (run T rs ++ Z) ≡ (M ++ run T A) ++ (bytes_of T (font n h) ++ (run T W ++ Z)) = rw (run_at T) (simp append_assoc) in
      let d : drop (mark_record + total A) (M ++ (run T rs ++ Z)) ≡ bytes_of T (font n h) ++ (run T W ++ Z) = rw p (drop_at (M ++ run T A) (bytes_of T (font n h) ++ (run T W ++ Z)) (mark_record + total A) (omega (arith, length-append M (run T A), x.sized T))) in
      ap tally_in d ∙ font_tally T n h (run T W ++ Z) fits

-- ── a font with its characters gives way
pub no_font_below : (n k : ℕ) (rs : List Rec) → sorted 0 no_owner rs ≡ true → k ≤ key_of n 0 → NoFont n (below k rs)
no_font_below n k rs o l T S off = run_off n T S off (λ r. ltb (key r) k) 0 0 no_owner rs o (omega arith) (λ r g q e. omega (arith, ltb-true (key r) k q))

pub no_font_from : (n k : ℕ) (rs : List Rec) → sorted 0 no_owner rs ≡ true → key_of n 0 < k → NoFont n (from k rs)
no_font_from n k rs o l T S off = run_off n T S off (λ r. leb k (key r)) 0 0 no_owner rs o (omega arith) (λ r g q e. omega (arith, leb-true k (key r) q))

no_font_behind : (n k : ℕ) (rs : List Rec) → sorted 0 no_owner rs ≡ true → NoFont n (below k (from (key_of n 0 + 1) rs))
no_font_behind n k rs o T S off =
    let lo = key_of n 0 + 1 in
    run_off n T S off (λ r. ltb (key r) k) lo lo (after no_owner (below lo rs)) (from lo rs) (sorted_from lo 0 no_owner rs o) (omega arith) (λ r g q e. omega arith)

-- a record's key is its font's and its place
place_low : (r : Rec) → Shaped r → place r ≤ last_code + 1
unfolding place
place_low (font n h) so = omega arith
place_low (character n c h d) so = omega (arith, so.3)

module _ (rs : List Rec) (o : sorted 0 no_owner rs ≡ true) where
  tally_below : (n m k : ℕ) → k ≤ key_of n 0 → n ≤ m → tally_of (below k rs) m ≡ no_characters
  tally_below n m k l g = tally_none (λ r. ltb (key r) k) m 0 0 no_owner rs o (omega arith) (λ r so g' q e. omega (arith, ltb-true (key r) k q))

  tally_from : (n m k : ℕ) → key_of (n + 1) 0 ≤ k → m ≤ n → tally_of (from k rs) m ≡ no_characters
  tally_from n m k l g = tally_none (λ r. leb k (key r)) m 0 0 no_owner rs o (omega arith) (λ r so g' q e. omega (arith, leb-true k (key r) q, place_low r so))

  -- the records of one font, for another
  tally_span : (n m : ℕ) → (m ≡ n → ⊥) → tally_of (below (key_of (n + 1) 0) (from (key_of n 0) rs)) m ≡ no_characters
  tally_span n m ne =
      let lo = key_of n 0 in
      let hi = key_of (n + 1) 0 in
      tally_none (λ r. ltb (key r) hi) m lo lo (after no_owner (below lo rs)) (from lo rs) (sorted_from lo 0 no_owner rs o) (omega arith) (λ r so g q e. ne (omega (arith, ltb-true (key r) hi q, place_low r so)))

  -- all records, by three stretches
  tally_apart : (lo hi m : ℕ) → lo ≤ hi → tally_of rs m ≡ plus (tally_of (below lo rs) m) (plus (tally_of (below hi (from lo rs)) m) (tally_of (from hi rs) m))
  tally_apart lo hi m l =
      let s = sorted_from lo 0 no_owner rs o in
      let a : tally_of rs m ≡ plus (tally_of (below lo rs) m) (tally_of (from lo rs) m) = ap (λ (x : List Rec). tally_of x m) (split_at lo 0 no_owner rs o) ∙ tally_append (below lo rs) (from lo rs) m in
      let b : tally_of (from lo rs) m ≡ plus (tally_of (below hi (from lo rs)) m) (tally_of (from hi rs) m) =
      ap (λ (x : List Rec). tally_of x m) (split_at hi lo (after no_owner (below lo rs)) (from lo rs) s) ∙ tally_append (below hi (from lo rs)) (from hi (from lo rs)) m
      ∙ ap (λ (x : List Rec). plus (tally_of (below hi (from lo rs)) m) (tally_of x m)) (from_from lo hi 0 no_owner rs o l) in
      a ∙ ap (plus (tally_of (below lo rs) m)) b

  tally_replaced : (lo hi m : ℕ) (new : List Rec) → tally_of (replaced lo hi new rs) m ≡ plus (tally_of (below lo rs) m) (plus (tally_of new m) (tally_of (from hi rs) m))
  tally_replaced lo hi m new = tally_append (below lo rs) (new ++ from hi rs) m ∙ ap (plus (tally_of (below lo rs) m)) (tally_append new (from hi rs) m)

  new_font_tally : (n m : ℕ) (new : List Rec) → NewFont n new → tally_of new m ≡ no_characters
  unfolding tally_of
  new_font_tally n m new no_font = refl
  new_font_tally n m new (new_font h a b) = refl

  pub font_off : (n : ℕ) (new : List Rec) → NewFont n new → Off n (tally_of rs) (tally_of (replaced (key_of n 0) (key_of (n + 1) 0) new rs))
  font_off n new w m ne =
      rw (tally_apart (key_of n 0) (key_of (n + 1) 0) m (omega arith), tally_replaced (key_of n 0) (key_of (n + 1) 0) m new, tally_span n m ne, new_font_tally n m new w)

  pub font_fresh : (n : ℕ) (new : List Rec) → NewFont n new → tally_of (replaced (key_of n 0) (key_of (n + 1) 0) new rs) n ≡ no_characters
  font_fresh n new w =
      rw (tally_replaced (key_of n 0) (key_of (n + 1) 0) n new, tally_below n n (key_of n 0) (omega arith) (omega arith), new_font_tally n n new w, tally_from n n (key_of (n + 1) 0) (omega arith) (omega arith))

-- ── a character gives way
-- at most one character of font n, by its length
pub record One (n : ℕ) (rs : List Rec) : Type 0 where
  pub adds : tally_of rs n ≡ tally_by (total rs)
  pub others : (m : ℕ) → (m ≡ n → ⊥) → tally_of rs m ≡ no_characters
  pub nofont : NoFont n rs
  pub shape : (total rs ≡ 0 → ⊥) → character_record ≤ total rs

none_one : (n : ℕ) → One n []
unfolding tally_of total run
none_one n = record { adds = refl; others = λ m ne. refl; nofont = λ T S off. refl; shape = λ f. absurd (f refl) }

char_one : (n c : ℕ) (h d : List ℕ) → One n (character n c h d ∷ [])
unfolding tally_of total size_of run bytes_of
char_one n c h d =
    let a : eqb n n ≡ true = eq-eqb n n refl in
    let b : eqb (character_record + length d + 0) 0 ≡ false = ne_eqb (character_record + length d + 0) 0 (λ e. omega arith) in
    let e : character_record + length d + 0 - character_record ≡ length d = omega arith in
    record { adds = rw (a, b, e, zero-add (length d)); others = λ m ne. rw (ne_eqb n m (λ q. ne (sym q))); nofont = λ T S off. refl; shape = λ f. omega arith }

pub new_one : (n c : ℕ) (h : List ℕ) (new : List Rec) → NewChar n c h new → One n new
new_one n c h new no_char = none_one n
new_one n c h new (new_char k d a) = char_one n c k d

-- what stood there
pub record Gone (n k : ℕ) (rs : List Rec) : Type 0 where
  pub recs : List Rec
  pub are : from k rs ≡ recs ++ from (k + 1) rs
  pub one : One n recs
  pub size : total (below (k + 1) rs) ≡ total (below k rs) + total recs

pub gone : (n c : ℕ) (rs : List Rec) → sorted 0 no_owner rs ≡ true → c ≤ last_code → Gone n (key_of n (c + 1)) rs
unfolding total
gone n c rs o l = go (find_record (key_of n (c + 1)) rs) refl
  where
    k : ℕ
    k = key_of n (c + 1)

    here : (h d : List ℕ) → from (key_of n (c + 1)) rs ≡ character n c h d ∷ from (key_of n (c + 1) + 1) rs → total (below (key_of n (c + 1) + 1) rs) ≡ total (below (key_of n (c + 1)) rs) + size_of (character n c h d) → Gone n (key_of n (c + 1)) rs
    here h d a b = record { recs = character n c h d ∷ []; are = a; one = char_one n c h d; size = omega (arith, b) }

    go : (x : Option Rec) → find_record (key_of n (c + 1)) rs ≡ x → Gone n (key_of n (c + 1)) rs
    go none q = let m = missing (key_of n (c + 1)) 0 no_owner rs o q in record { recs = []; are = m.0; one = none_one n; size = omega (arith, ap total m.1) }
    go (some r) q =
        let f = found (key_of n (c + 1)) 0 no_owner r rs o q in
        let w = char_at n c _ r l f.ok f.is in
        here w.0 w.1 (f.rest ∙ ap (λ (x : Rec). x ∷ from (key_of n (c + 1) + 1) rs) w.2) (f.size ∙ ap (λ (x : Rec). total (below (key_of n (c + 1)) rs) + size_of x) w.2)

module _ (n c : ℕ) (h : List ℕ) (new rs : List Rec) (o : sorted 0 no_owner rs ≡ true) (l : c ≤ last_code) (w : NewChar n c h new) where
  abbrev mid : List Rec
  mid = (gone n c rs o l).recs

  -- the numbers before, and after
  char_before : (m : ℕ) → tally_of rs m ≡ plus (tally_of (below (key_of n (c + 1)) rs) m) (plus (tally_of mid m) (tally_of (from (key_of n (c + 1) + 1) rs) m))
  char_before m =
      let k = key_of n (c + 1) in
      ap (λ (x : List Rec). tally_of x m) (split_at k 0 no_owner rs o) ∙ tally_append (below k rs) (from k rs) m
      ∙ ap (plus (tally_of (below k rs) m)) (ap (λ (x : List Rec). tally_of x m) (gone n c rs o l).are ∙ tally_append mid (from (k + 1) rs) m)

  char_after : (m : ℕ) → tally_of (with_character n c new rs) m ≡ plus (tally_of (below (key_of n (c + 1)) rs) m) (plus (tally_of new m) (tally_of (from (key_of n (c + 1) + 1) rs) m))
  char_after m = tally_replaced rs o (key_of n (c + 1)) (key_of n (c + 1) + 1) m new

  pub char_off : Off n (tally_of rs) (tally_of (with_character n c new rs))
  char_off m ne = rw (char_before m, char_after m, (gone n c rs o l).one.others m ne, (new_one n c h new w).others m ne)

  pub char_recount : tally_of (with_character n c new rs) n ≡ recount (total mid) (total new) (tally_of rs n)
  char_recount =
      let k = key_of n (c + 1) in
      let A = tally_of (below k rs) n in
      let B = tally_of (from (k + 1) rs) n in
      let X = tally_by (total mid) in
      let Y = tally_by (total new) in
      let p : A.characters + (Y.characters + B.characters) ≡ A.characters + (X.characters + B.characters) + Y.characters - X.characters = omega arith in
      let q : A.bytes + (Y.bytes + B.bytes) ≡ A.bytes + (X.bytes + B.bytes) + Y.bytes - X.bytes = omega arith in
      char_after n ∙ ap (λ (t : Tally). plus A (plus t B)) (new_one n c h new w).adds
      ∙ rw (p, q) (sym (ap (recount (total mid) (total new)) (char_before n ∙ ap (λ (t : Tally). plus A (plus t B)) (gone n c rs o l).one.adds)))

  -- the font stands in the records afterwards as before
  pub char_apart : find_record (key_of n 0) rs ≡ some (font n h) → Apart n h (with_character n c new rs) (below (key_of n 0) rs) (below (key_of n (c + 1)) (from (key_of n 0 + 1) rs) ++ (new ++ from (key_of n (c + 1) + 1) rs))
  unfolding number place
  char_apart f =
      let j = key_of n 0 in
      let k = key_of n (c + 1) in
      let X = from (j + 1) rs in
      let N = new ++ from (k + 1) rs in
      let a : below k rs ≡ below j rs ++ (font n h ∷ below k X) =
      below_below j k 0 no_owner rs o (omega arith)
      ∙ ap (λ (x : List Rec). below j rs ++ x) (ap (below k) (found j 0 no_owner (font n h) rs o f).rest ∙ below_in k (font n h) X (omega arith)) in
      record {
        are = ap (λ (x : List Rec). x ++ N) a ∙ append_assoc (below j rs) (font n h ∷ below k X) N;
        sized = λ T. length_keep T (λ r. ltb (key r) j) 0 no_owner rs o;
        front = no_font_below n j rs o (omega arith);
        back = λ T S off.
            run_append T (below k X) N ∙ ap (λ (x : List ℕ). run T (below k X) ++ x) (run_append T new (from (k + 1) rs))
            ∙ rw (no_font_behind n k rs o T S off, (new_one n c h new w).nofont T S off, no_font_from n (k + 1) rs o (omega arith) T S off)
            (sym (run_append S (below k X) N ∙ ap (λ (x : List ℕ). run S (below k X) ++ x) (run_append S new (from (k + 1) rs))));
      }

  -- the numbers before have those of the character that goes
  pub char_had : ((tally_by (total mid)).characters ≤ (tally_of rs n).characters) × ((tally_by (total mid)).bytes ≤ (tally_of rs n).bytes)
  char_had =
      let k = key_of n (c + 1) in
      let A = tally_of (below k rs) n in
      let B = tally_of (from (k + 1) rs) n in
      let e : tally_of rs n ≡ plus A (plus (tally_by (total mid)) B) = char_before n ∙ ap (λ (t : Tally). plus A (plus t B)) (gone n c rs o l).one.adds in
      let p : (tally_of rs n).characters ≡ A.characters + ((tally_by (total mid)).characters + B.characters) = ap (λ (t : Tally). t.characters) e in
      let q : (tally_of rs n).bytes ≡ A.bytes + ((tally_by (total mid)).bytes + B.bytes) = ap (λ (t : Tally). t.bytes) e in
      (omega arith, omega arith)
