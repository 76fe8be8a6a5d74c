-- Sorted records: those below a key and those from it on, and replacing those between two keys. Assumes nothing.
use mathlib.Core.Path.{◌≡◌, refl, ap, ◌∙◌, subst}
use mathlib.Core.List.{List, [], ◌∷◌, ◌++◌}
use mathlib.Core.Bool.{Bool, true, false}
use Prim.Native.Nat.{ℕ, ◌+◌, ◌<◌, ◌≤◌}
use native.Mathlib.Omega.{arith}
use lib.Dec.{ltb}
use borrow.Author.Tests.{ltb-true, ltb-false, le-leb, lt-ltb, le-ltb, lt-leb}
use Rattle.form.specs.Layout.{key_of}
use Rattle.form.specs.Model.{Rec, font, character, Owner, owner_after, allowed, sorted, number, place, key}
use Rattle.form.specs.Order.{keep, below, from, after}
use Rattle.form.proofs.RecordBytes.{shaped, allowed_char}
use Rattle.form.proofs.Codec.{Sorted, sorted_inv, sorted_cons}

-- ── one record
pub below_in : (h : ℕ) (r : Rec) (rs : List Rec) → key r < h → below h (r ∷ rs) ≡ r ∷ below h rs
unfolding keep
below_in h r rs l = rw (lt-ltb (key r) h l)

pub below_out : (h : ℕ) (r : Rec) (rs : List Rec) → h ≤ key r → below h (r ∷ rs) ≡ below h rs
unfolding keep
below_out h r rs l = rw (le-ltb (key r) h l)

pub from_in : (h : ℕ) (r : Rec) (rs : List Rec) → h ≤ key r → from h (r ∷ rs) ≡ r ∷ from h rs
unfolding keep
from_in h r rs l = rw (le-leb h (key r) l)

pub from_out : (h : ℕ) (r : Rec) (rs : List Rec) → key r < h → from h (r ∷ rs) ≡ from h rs
unfolding keep
from_out h r rs l = rw (lt-leb h (key r) l)

pub place_small : (u : Owner) (r : Rec) → allowed u r ≡ true → place r ≤ 256
unfolding place
place_small u (font n h) e = omega arith
place_small u (character n c h d) e = omega (arith, shaped u (character n c h d) e)

-- ── a list that starts at or behind a key
pub none_below : (h k : ℕ) (u : Owner) (rs : List Rec) → sorted k u rs ≡ true → h ≤ k → below h rs ≡ []
unfolding keep
none_below h k u [] e l = refl
none_below h k u (r ∷ rs) e l =
    let w = sorted_inv k u r rs e in
    below_out h r rs (omega (arith, w.least)) ∙ none_below h (key r + 1) (owner_after u r) rs w.rest (omega (arith, w.least))

pub all_from : (h k : ℕ) (u : Owner) (rs : List Rec) → sorted k u rs ≡ true → h ≤ k → from h rs ≡ rs
unfolding keep
all_from h k u [] e l = refl
all_from h k u (r ∷ rs) e l =
    let w = sorted_inv k u r rs e in
    from_in h r rs (omega (arith, w.least)) ∙ ap (λ (x : List Rec). r ∷ x) (all_from h (key r + 1) (owner_after u r) rs w.rest (omega (arith, w.least)))

pub weaken : (h k : ℕ) (u : Owner) (rs : List Rec) → sorted h u rs ≡ true → k ≤ h → sorted k u rs ≡ true
unfolding sorted
weaken h k u [] e l = refl
weaken h k u (r ∷ rs) e l = let w = sorted_inv h u r rs e in sorted_cons k u r rs (record { ok = w.ok; least = omega (arith, w.least); rest = w.rest })

-- ── the records before one are those below its key
later_key : (a : List Rec) (k : ℕ) (u : Owner) (r : Rec) (b : List Rec) → sorted k u (a ++ (r ∷ b)) ≡ true → k ≤ key r
later_key [] k u r b e = (sorted_inv k u r b e).least
later_key (x ∷ a) k u r b e = let w = sorted_inv k u x (a ++ (r ∷ b)) e in omega (arith, w.least, later_key a (key x + 1) (owner_after u x) r b w.rest)

pub below_front : (a : List Rec) (k : ℕ) (u : Owner) (r : Rec) (b : List Rec) → sorted k u (a ++ (r ∷ b)) ≡ true → below (key r) (a ++ (r ∷ b)) ≡ a
below_front [] k u r b e = let w = sorted_inv k u r b e in below_out (key r) r b (omega arith) ∙ none_below (key r) (key r + 1) (owner_after u r) b w.rest (omega arith)
below_front (x ∷ a) k u r b e =
    let w = sorted_inv k u x (a ++ (r ∷ b)) e in
    let l = later_key a (key x + 1) (owner_after u x) r b w.rest in
    below_in (key r) x (a ++ (r ∷ b)) (omega arith) ∙ ap (λ (y : List Rec). x ∷ y) (below_front a (key x + 1) (owner_after u x) r b w.rest)

-- ── sorted records split at a key
-- a record stands before the key, or it and all behind it stand from the key on
pub data Side (h : ℕ) (u : Owner) (r : Rec) (rs : List Rec) : Type 0 where
  before : key r < h → Side h u r rs
  behind : h ≤ key r → below h rs ≡ [] → from h rs ≡ rs → Side h u r rs

pub side : (h k : ℕ) (u : Owner) (r : Rec) (rs : List Rec) → Sorted k u r rs → Side h u r rs
side h k u r rs w = go (ltb (key r) h) refl
  where
    go : (b : Bool) → ltb (key r) h ≡ b → Side h u r rs
    go true q = before (ltb-true _ _ q)
    go false q =
        let l : h ≤ key r = ltb-false _ _ q in
        behind l (none_below h (key r + 1) (owner_after u r) rs w.rest (omega arith)) (all_from h (key r + 1) (owner_after u r) rs w.rest (omega arith))

split_side : {h : ℕ} {u : Owner} {r : Rec} {rs : List Rec} → Side h u r rs → rs ≡ below h rs ++ from h rs → r ∷ rs ≡ below h (r ∷ rs) ++ from h (r ∷ rs)
split_side {h} {u} {r} {rs} (before l) ih = rw (below_in h r rs l, from_out h r rs l) (ap (λ (x : List Rec). r ∷ x) ih)
split_side {h} {u} {r} {rs} (behind l z a) ih = rw (below_out h r rs l, from_in h r rs l, z, a)

pub split_at : (h k : ℕ) (u : Owner) (rs : List Rec) → sorted k u rs ≡ true → rs ≡ below h rs ++ from h rs
unfolding keep
split_at h k u [] e = refl
split_at h k u (r ∷ rs) e = let w = sorted_inv k u r rs e in split_side (side h k u r rs w) (split_at h (key r + 1) (owner_after u r) rs w.rest)

after_side : {h : ℕ} {u : Owner} {r : Rec} {rs : List Rec} → (k : ℕ) → Sorted k u r rs → Side h u r rs
    → sorted h (after (owner_after u r) (below h rs)) (from h rs) ≡ true → sorted h (after u (below h (r ∷ rs))) (from h (r ∷ rs)) ≡ true
unfolding after
after_side {h} {u} {r} {rs} k w (before l) ih = rw (below_in h r rs l, from_out h r rs l) ih
after_side {h} {u} {r} {rs} k w (behind l z a) ih = rw (below_out h r rs l, from_in h r rs l, z, a) (sorted_cons h u r rs (record { ok = w.ok; least = l; rest = w.rest }))

-- those from a key on are sorted behind those below it
pub sorted_from : (h k : ℕ) (u : Owner) (rs : List Rec) → sorted k u rs ≡ true → sorted h (after u (below h rs)) (from h rs) ≡ true
unfolding keep after sorted
sorted_from h k u [] e = refl
sorted_from h k u (r ∷ rs) e = let w = sorted_inv k u r rs e in after_side k w (side h k u r rs w) (sorted_from h (key r + 1) (owner_after u r) rs w.rest)

behind_side : {h : ℕ} {u : Owner} {r : Rec} {rs : List Rec} → (k : ℕ) (bs : List Rec) → Sorted k u r rs → Side h u r rs → k ≤ h
    → (key r + 1 ≤ h → sorted h (after (owner_after u r) (below h rs)) bs ≡ true → sorted (key r + 1) (owner_after u r) (below h rs ++ bs) ≡ true)
    → sorted h (after u (below h (r ∷ rs))) bs ≡ true → sorted k u (below h (r ∷ rs) ++ bs) ≡ true
unfolding after
behind_side {h} {u} {r} {rs} k bs w (before l) m ih e =
    let e' : sorted h (after (owner_after u r) (below h rs)) bs ≡ true = rw (below_in h r rs l) at e in
    rw (below_in h r rs l) (sorted_cons k u r (below h rs ++ bs) (record { ok = w.ok; least = w.least; rest = ih (omega arith) e' }))
behind_side {h} {u} {r} {rs} k bs w (behind l z a) m ih e =
    let e' : sorted h u bs ≡ true = rw (below_out h r rs l, z) at e in
    rw (below_out h r rs l, z) (weaken h k u bs e' m)

-- other records behind those below a key
pub sorted_behind : (h k : ℕ) (u : Owner) (rs bs : List Rec) → sorted k u rs ≡ true → k ≤ h → sorted h (after u (below h rs)) bs ≡ true → sorted k u (below h rs ++ bs) ≡ true
unfolding keep after
sorted_behind h k u [] bs e m q = weaken h k u bs q m
sorted_behind h k u (r ∷ rs) bs e m q =
    let w = sorted_inv k u r rs e in
    behind_side k bs w (side h k u r rs w) m (λ l. sorted_behind h (key r + 1) (owner_after u r) rs bs w.rest l) q

-- ── the font that records stand under
first_font : (k m : ℕ) (u v : Owner) (r : Rec) → allowed u r ≡ true → u.owner ≤ m → key_of m 0 ≤ key r → (allowed v r ≡ true) × (owner_after u r ≡ owner_after v r)
unfolding allowed owner_after number place
first_font k m u v (font n h) e o l = (e, refl)
first_font k m u v (character n c h d) e o l = let p = allowed_char u n c h d e in absurd (omega (arith, p.owner, p.code))

-- records that start with a font of a number from m on stand behind any font
pub sorted_anywhere : (k m : ℕ) (u v : Owner) (rs : List Rec) → sorted k u rs ≡ true → u.owner ≤ m → key_of m 0 ≤ k → sorted k v rs ≡ true
unfolding sorted
sorted_anywhere k m u v [] e o l = refl
sorted_anywhere k m u v (r ∷ rs) e o l =
    let w = sorted_inv k u r rs e in
    let p = first_font k m u v r w.ok o (omega (arith, w.least)) in
    sorted_cons k v r rs (record { ok = p.0; least = w.least; rest = subst (λ (x : Owner). sorted (key r + 1) x rs ≡ true) p.1 w.rest })

under_low : (m : ℕ) (u : Owner) (r : Rec) → u.owner ≤ m → number r < m → (owner_after u r).owner ≤ m
unfolding owner_after number
under_low m u (font n h) o l = omega arith
under_low m u (character n c h d) o l = o

-- those below the font m stand under a font of a lower number
pub after_low : (m k : ℕ) (u : Owner) (rs : List Rec) → sorted k u rs ≡ true → u.owner ≤ m → (after u (below (key_of m 0) rs)).owner ≤ m
unfolding keep after
after_low m k u [] e o = o
after_low m k u (r ∷ rs) e o =
    let w = sorted_inv k u r rs e in
    low_side k w (side (key_of m 0) k u r rs w) o (λ q. after_low m (key r + 1) (owner_after u r) rs w.rest q)
  where
    low_side : (k : ℕ) → Sorted k u r rs → Side (key_of m 0) u r rs → u.owner ≤ m → ((owner_after u r).owner ≤ m → (after (owner_after u r) (below (key_of m 0) rs)).owner ≤ m)
        → (after u (below (key_of m 0) (r ∷ rs))).owner ≤ m
    low_side k w (before l) o ih = rw (below_in (key_of m 0) r rs l) (ih (under_low m u r o (omega arith)))
    low_side k w (behind l z a) o ih = rw (below_out (key_of m 0) r rs l, z) o
