-- The record with a key, and the records of a font. Assumes nothing.
use mathlib.Core.Path.{◌≡◌, refl, sym, ap, ◌∙◌, subst}
use mathlib.Core.List.{List, [], ◌∷◌, ◌++◌}
use mathlib.Core.Bool.{Bool, true, false}
use mathlib.Core.Option.{Option, none, some}
use Prim.Native.Nat.{ℕ, ◌+◌, ◌<◌, ◌≤◌}
use native.Mathlib.Omega.{arith}
use lib.Dec.{eqb, ltb}
use borrow.Author.Tests.{eqb-true, eqb-false, eq-eqb, ne_eqb}
use Rattle.blocks.specs.Header.{orientation}
use Rattle.blocks.specs.Character.{is_kept_first}
use Rattle.form.specs.Layout.{key_of, last_code}
use Rattle.form.specs.Model.{Rec, font, character, Owner, owner_after, no_owner, allowed, sorted, number, place, key, size_of, total}
use Rattle.form.specs.Order.{keep, below, from, find_record, after}
use Rattle.form.proofs.RecordBytes.{allowed_char}
use Rattle.form.proofs.Codec.{Sorted, sorted_inv}
use Rattle.form.proofs.Order.{from_in, from_out, below_in, below_out, Side, before, behind, side, all_from, none_below, sorted_from, after_low}
use Rattle.form.proofs.Totals.{total_at, total_append}

pub find_here : (k : ℕ) (r : Rec) (rs : List Rec) → key r ≡ k → find_record k (r ∷ rs) ≡ some r
unfolding find_record
find_here k r rs e = rw (eq-eqb (key r) k e)

pub find_other : (k : ℕ) (r : Rec) (rs : List Rec) → (key r ≡ k → ⊥) → find_record k (r ∷ rs) ≡ find_record k rs
unfolding find_record
find_other k r rs e = rw (ne_eqb (key r) k e)

-- none among records behind it
pub find_behind : (k j : ℕ) (u : Owner) (rs : List Rec) → sorted j u rs ≡ true → k < j → find_record k rs ≡ none
unfolding find_record
find_behind k j u [] e l = refl
find_behind k j u (r ∷ rs) e l =
    let w = sorted_inv j u r rs e in
    find_other k r rs (λ q. omega (arith, w.least)) ∙ find_behind k (key r + 1) (owner_after u r) rs w.rest (omega (arith, w.least))

-- where a key stands: before the record, at it, or behind it
data At (k : ℕ) (r : Rec) : Type 0 where
  less : key r < k → At k r
  same : key r ≡ k → At k r
  more : k < key r → At k r

at : (k : ℕ) (r : Rec) → At k r
at k r = go (ltb (key r) k) refl (eqb (key r) k) refl
  where
    go : (a : Bool) → ltb (key r) k ≡ a → (b : Bool) → eqb (key r) k ≡ b → At k r
    go true p b q = less (borrow.Author.Tests.ltb-true _ _ p)
    go false p true q = same (eqb-true _ _ q)
    go false p false q = let l = borrow.Author.Tests.ltb-false (key r) k p in let n = eqb-false (key r) k q in more (omega arith)

-- what the records from a key on start with
pub data Start (k : ℕ) (rs : List Rec) : Option Rec → Type 0 where
  there : (r : Rec) → key r ≡ k → from k rs ≡ r ∷ from (k + 1) rs → below (k + 1) rs ≡ below k rs ++ (r ∷ []) → Start k rs (some r)
  absent : from k rs ≡ from (k + 1) rs → below k rs ≡ below (k + 1) rs → Start k rs none

start_more : (k j : ℕ) (u : Owner) (r : Rec) (rs : List Rec) → Sorted j u r rs → At k r → Start k rs (find_record k rs) → Start k (r ∷ rs) (find_record k (r ∷ rs))
start_more k j u r rs w (less l) ih = rw (find_other k r rs (λ e. omega arith)) (go (find_record k rs) ih)
  where
    go : (o : Option Rec) → Start k rs o → Start k (r ∷ rs) o
    go o (there x q e b) =
        there x q (rw (from_out k r rs l, from_out (k + 1) r rs (omega arith)) e) (rw (below_in k r rs l, below_in (k + 1) r rs (omega arith)) (ap (λ (y : List Rec). r ∷ y) b))
    go o (absent e b) = absent (rw (from_out k r rs l, from_out (k + 1) r rs (omega arith)) e) (rw (below_in k r rs l, below_in (k + 1) r rs (omega arith)) (ap (λ (x : List Rec). r ∷ x) b))
start_more k j u r rs w (same q) ih =
    let a : from k rs ≡ rs = all_from k (key r + 1) (owner_after u r) rs w.rest (omega arith) in
    let b : from (k + 1) rs ≡ rs = all_from (k + 1) (key r + 1) (owner_after u r) rs w.rest (omega arith) in
    let c : below k rs ≡ [] = none_below k (key r + 1) (owner_after u r) rs w.rest (omega arith) in
    let d : below (k + 1) rs ≡ [] = none_below (k + 1) (key r + 1) (owner_after u r) rs w.rest (omega arith) in
    rw (find_here k r rs q)
    (there r q (rw (from_in k r rs (omega arith), from_out (k + 1) r rs (omega arith), a, b)) (rw (below_out k r rs (omega arith), below_in (k + 1) r rs (omega arith), c, d)))
start_more k j u r rs w (more l) ih =
    let a : from k rs ≡ rs = all_from k (key r + 1) (owner_after u r) rs w.rest (omega arith) in
    let b : from (k + 1) rs ≡ rs = all_from (k + 1) (key r + 1) (owner_after u r) rs w.rest (omega arith) in
    let c : below k rs ≡ [] = none_below k (key r + 1) (owner_after u r) rs w.rest (omega arith) in
    let d : below (k + 1) rs ≡ [] = none_below (k + 1) (key r + 1) (owner_after u r) rs w.rest (omega arith) in
    rw (find_other k r rs (λ e. omega arith), find_behind k (key r + 1) (owner_after u r) rs w.rest (omega arith))
    (absent (rw (from_in k r rs (omega arith), from_in (k + 1) r rs (omega arith), a, b)) (rw (below_out k r rs (omega arith), below_out (k + 1) r rs (omega arith), c, d)))

pub starts : (k j : ℕ) (u : Owner) (rs : List Rec) → sorted j u rs ≡ true → Start k rs (find_record k rs)
unfolding find_record keep
starts k j u [] e = absent refl refl
starts k j u (r ∷ rs) e = let w = sorted_inv j u r rs e in start_more k j u r rs w (at k r) (starts k (key r + 1) (owner_after u r) rs w.rest)

-- ── what a found record says
pub record Found (k : ℕ) (u : Owner) (r : Rec) (rs : List Rec) : Type 0 where
  pub is : key r ≡ k
  pub rest : from k rs ≡ r ∷ from (k + 1) rs
  pub front : below (k + 1) rs ≡ below k rs ++ (r ∷ [])
  pub ok : allowed (after u (below k rs)) r ≡ true
  pub size : total (below (k + 1) rs) ≡ total (below k rs) + size_of r

pub found : (k j : ℕ) (u : Owner) (r : Rec) (rs : List Rec) → sorted j u rs ≡ true → find_record k rs ≡ some r → Found k u r rs
unfolding total
found k j u r rs e q = go (find_record k rs) (starts k j u rs e) q
  where
    go : (o : Option Rec) → Start k rs o → o ≡ some r → Found k u r rs
    go o (there x p f b) q =
        let i : x ≡ r = cc in
        let s : sorted k (after u (below k rs)) (x ∷ from (k + 1) rs) ≡ true = rw f at (sorted_from k j u rs e) in
        subst (λ (y : Rec). Found k u y rs) i
        (record { is = p; rest = f; front = b; ok = (sorted_inv k (after u (below k rs)) x (from (k + 1) rs) s).ok; size = ap total b ∙ total_append (below k rs) (x ∷ []) ∙ omega arith })
    go o (absent f b) q = let z : ◌≡◌ {A = ℕ} 0 1 = cc in absurd (omega arith)

pub missing : (k j : ℕ) (u : Owner) (rs : List Rec) → sorted j u rs ≡ true → find_record k rs ≡ none → (from k rs ≡ from (k + 1) rs) × (below k rs ≡ below (k + 1) rs)
missing k j u rs e q = go (find_record k rs) (starts k j u rs e) q
  where
    go : (o : Option Rec) → Start k rs o → o ≡ none → (from k rs ≡ from (k + 1) rs) × (below k rs ≡ below (k + 1) rs)
    go o (there x p f b) q = let z : ◌≡◌ {A = ℕ} 0 1 = cc in absurd (omega arith)
    go o (absent f b) q = (f, b)

-- ── two keys
below_side : {lo hi : ℕ} {u : Owner} {r : Rec} {rs : List Rec} → lo ≤ hi → Side lo u r rs → below hi rs ≡ below lo rs ++ below hi (from lo rs)
    → below hi (r ∷ rs) ≡ below lo (r ∷ rs) ++ below hi (from lo (r ∷ rs))
below_side {lo} {hi} {u} {r} {rs} m (before l) ih = rw (below_in hi r rs (omega arith), below_in lo r rs l, from_out lo r rs l) (ap (λ (x : List Rec). r ∷ x) ih)
below_side {lo} {hi} {u} {r} {rs} m (behind l z a) ih = rw (below_out lo r rs l, from_in lo r rs l, z, a)

pub below_below : (lo hi k : ℕ) (u : Owner) (rs : List Rec) → sorted k u rs ≡ true → lo ≤ hi → below hi rs ≡ below lo rs ++ below hi (from lo rs)
unfolding keep
below_below lo hi k u [] e m = refl
below_below lo hi k u (r ∷ rs) e m = let w = sorted_inv k u r rs e in below_side m (side lo k u r rs w) (below_below lo hi (key r + 1) (owner_after u r) rs w.rest m)

from_side : {lo hi : ℕ} {u : Owner} {r : Rec} {rs : List Rec} → lo ≤ hi → Side lo u r rs → from hi (from lo rs) ≡ from hi rs → from hi (from lo (r ∷ rs)) ≡ from hi (r ∷ rs)
from_side {lo} {hi} {u} {r} {rs} m (before l) ih = rw (from_out lo r rs l, from_out hi r rs (omega arith)) ih
from_side {lo} {hi} {u} {r} {rs} m (behind l z a) ih = rw (from_in lo r rs l, a)

pub from_from : (lo hi k : ℕ) (u : Owner) (rs : List Rec) → sorted k u rs ≡ true → lo ≤ hi → from hi (from lo rs) ≡ from hi rs
unfolding keep
from_from lo hi k u [] e m = refl
from_from lo hi k u (r ∷ rs) e m = let w = sorted_inv k u r rs e in from_side m (side lo k u r rs w) (from_from lo hi (key r + 1) (owner_after u r) rs w.rest m)

pub below_mono : (lo hi k : ℕ) (u : Owner) (rs : List Rec) → sorted k u rs ≡ true → lo ≤ hi → total (below lo rs) ≤ total (below hi rs)
below_mono lo hi k u rs e m = omega (arith, ap total (below_below lo hi k u rs e m) ∙ total_append (below lo rs) (below hi (from lo rs)))

-- ── a font and its characters
pub after_append : (u : Owner) (a b : List Rec) → after u (a ++ b) ≡ after (after u a) b
unfolding after
after_append u [] b = refl
after_append u (r ∷ a) b = after_append (owner_after u r) a b

-- a record with a font's key is that font
pub font_at_lem : (n : ℕ) (u : Owner) (r : Rec) → allowed u r ≡ true → key r ≡ key_of n 0 → (h : List ℕ) × (r ≡ font n h)
unfolding number place
font_at_lem n u (font m h) e q = let i : m ≡ n = omega arith in (h, rw i)
font_at_lem n u (character m c h d) e q = let p = allowed_char u m c h d e in absurd (omega (arith, p.code))

-- one with a character's key is that character
pub char_at : (n c : ℕ) (u : Owner) (r : Rec) → c ≤ last_code → allowed u r ≡ true → key r ≡ key_of n (c + 1) → (h : List ℕ) × (d : List ℕ) × (r ≡ character n c h d)
unfolding number place
char_at n c u (font m h) l e q = absurd (omega arith)
char_at n c u (character m b h d) l e q =
    let p = allowed_char u m b h d e in
    let i : m ≡ n = omega (arith, p.code) in
    let j : b ≡ c = omega (arith, p.code) in
    (h, d, rw (i, j))

same_under : (n : ℕ) (u : Owner) (r : Rec) → allowed u r ≡ true → key_of n 0 < key r → key r < key_of (n + 1) 0 → owner_after u r ≡ u
unfolding owner_after number place
same_under n u (font m h) e a b = absurd (omega arith)
same_under n u (character m c h d) e a b = refl

-- behind a font's own record, up to the next font, stand its characters
after_chars : (n h k : ℕ) (u : Owner) (rs : List Rec) → sorted k u rs ≡ true → key_of n 0 < k → h ≤ key_of (n + 1) 0 → after u (below h rs) ≡ u
unfolding keep after
after_chars n h k u [] e a b = refl
after_chars n h k u (r ∷ rs) e a b =
    let w = sorted_inv k u r rs e in
    go w (side h k u r rs w) (after_chars n h (key r + 1) (owner_after u r) rs w.rest (omega (arith, w.least)) b)
  where
    go : Sorted k u r rs → Side h u r rs → after (owner_after u r) (below h rs) ≡ owner_after u r → after u (below h (r ∷ rs)) ≡ u
    go w (before l) ih = rw (below_in h r rs l) (ih ∙ same_under n u r w.ok (omega (arith, w.least)) (omega arith))
    go w (behind l z x) ih = rw (below_out h r rs l, z)

-- the font that a place among a font's characters stands under
pub after_font : (n p : ℕ) (h : List ℕ) (rs : List Rec) → sorted 0 no_owner rs ≡ true → find_record (key_of n 0) rs ≡ some (font n h) → 1 ≤ p → p ≤ 257
    → after no_owner (below (key_of n p) rs) ≡ owner_after no_owner (font n h)
unfolding after owner_after
after_font n p h rs e q a b =
    let lo = key_of n 0 in
    let f = found lo 0 no_owner (font n h) rs e q in
    let s = sorted_from (lo + 1) 0 no_owner rs e in
    let c : after no_owner (below (lo + 1) rs) ≡ owner_after no_owner (font n h) = ap (after no_owner) f.front ∙ after_append no_owner (below lo rs) (font n h ∷ []) in
    ap (after no_owner) (below_below (lo + 1) (key_of n p) 0 no_owner rs e (omega arith))
    ∙ after_append no_owner (below (lo + 1) rs) (below (key_of n p) (from (lo + 1) rs))
    ∙ after_chars n (key_of n p) (lo + 1) (after no_owner (below (lo + 1) rs)) (from (lo + 1) rs) s (omega arith) (omega arith) ∙ c

-- the descriptor of a character that is there is a kept one of its font's orientation
pub kept_under : (n c : ℕ) (g h d : List ℕ) (rs : List Rec) → sorted 0 no_owner rs ≡ true → c ≤ last_code → find_record (key_of n 0) rs ≡ some (font n g) → find_record (key_of n (c + 1)) rs ≡ some (character n c h d)
    → is_kept_first h (orientation g) ≡ true
unfolding owner_after
kept_under n c g h d rs e l p q =
    let t : after no_owner (below (key_of n (c + 1)) rs) ≡ owner_after no_owner (font n g) = after_font n (c + 1) g rs e p (omega arith) (omega arith) in
    let o : allowed (owner_after no_owner (font n g)) (character n c h d) ≡ true = rw t at (found (key_of n (c + 1)) 0 no_owner (character n c h d) rs e q).ok in
    (allowed_char (owner_after no_owner (font n g)) n c h d o).kept

first_is_font : (n : ℕ) (u : Owner) (r : Rec) → allowed u r ≡ true → u.owner ≤ n → key_of n 0 ≤ key r → key r < key_of (n + 1) 0 → (h : List ℕ) × (r ≡ font n h)
unfolding number place
first_is_font n u (font m h) e o a b = let i : m ≡ n = omega arith in (h, rw i)
first_is_font n u (character m c h d) e o a b = let p = allowed_char u m c h d e in absurd (omega (arith, p.owner, p.code))

-- without its font there is none of its characters
no_chars : (n : ℕ) (u : Owner) (rs : List Rec) → sorted (key_of n 0) u rs ≡ true → u.owner ≤ n → (((h : List ℕ) (bs : List Rec) → rs ≡ font n h ∷ bs → ⊥)) → from (key_of (n + 1) 0) rs ≡ rs
unfolding keep
no_chars n u [] e o never = refl
no_chars n u (r ∷ rs) e o never =
    let w = sorted_inv (key_of n 0) u r rs e in
    go (side (key_of (n + 1) 0) (key_of n 0) u r rs w) w
  where
    go : Side (key_of (n + 1) 0) u r rs → Sorted (key_of n 0) u r rs → from (key_of (n + 1) 0) (r ∷ rs) ≡ r ∷ rs
    go (before l) w = let x = first_is_font n u r w.ok o w.least l in absurd (never x.0 rs (ap (λ (y : Rec). y ∷ rs) x.1))
    go (behind l z a) w = rw (from_in (key_of (n + 1) 0) r rs l, a)

not_there : (n : ℕ) (h : List ℕ) (bs rs : List Rec) → sorted 0 no_owner rs ≡ true → from (key_of n 0) rs ≡ from (key_of n 0 + 1) rs → from (key_of n 0) rs ≡ font n h ∷ bs → ⊥
unfolding number place
not_there n h bs rs e a b =
    let s : sorted (key_of n 0 + 1) (after no_owner (below (key_of n 0 + 1) rs)) (font n h ∷ bs) ≡ true = rw (sym a ∙ b) at (sorted_from (key_of n 0 + 1) 0 no_owner rs e) in
    omega (arith, (sorted_inv (key_of n 0 + 1) (after no_owner (below (key_of n 0 + 1) rs)) (font n h) bs s).least)

pub gap : (n : ℕ) (rs : List Rec) → sorted 0 no_owner rs ≡ true → find_record (key_of n 0) rs ≡ none → (from (key_of n 0) rs ≡ from (key_of (n + 1) 0) rs) × (total (below (key_of n 0) rs) ≡ total (below (key_of (n + 1) 0) rs))
gap n rs e q =
    let lo = key_of n 0 in
    let hi = key_of (n + 1) 0 in
    let m = missing lo 0 no_owner rs e q in
    let s = sorted_from lo 0 no_owner rs e in
    let never : (h : List ℕ) (bs : List Rec) → from lo rs ≡ font n h ∷ bs → ⊥ = λ h bs x. not_there n h bs rs e m.0 x in
    let f : from lo rs ≡ from hi rs = sym (sym (from_from lo hi 0 no_owner rs e (omega arith)) ∙ no_chars n (after no_owner (below lo rs)) (from lo rs) s (after_low n 0 no_owner rs e (omega arith)) never) in
    (f, omega (arith, total_at lo 0 no_owner rs e, total_at hi 0 no_owner rs e, ap total f))
