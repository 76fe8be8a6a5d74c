-- Replacing the records of a font, or one character, leaves sorted records. Assumes nothing.
use mathlib.Core.Path.{◌≡◌, refl, sym, ap, ◌∙◌, subst}
use mathlib.Core.List.{List, [], ◌∷◌, ◌++◌}
use mathlib.Core.Bool.{Bool, true, false, ◌||◌}
use mathlib.Core.Option.{some}
use mathlib.Core.Logic.{◌⊎◌, ⊎_elim}
use Prim.Native.Nat.{ℕ, ◌+◌, ◌*◌, ◌<◌, ◌≤◌}
use native.Mathlib.Omega.{arith}
use lib.Dec.{eqb}
use borrow.Author.Tests.{le-leb, ne_eqb}
use Rattle.blocks.specs.Header.{is_kept_header}
use Rattle.form.specs.Layout.{key_of, last_code, last_font, keys_each}
use Rattle.form.specs.Num.{◌and◌}
use Rattle.form.specs.Model.{Rec, font, character, Owner, owner_after, no_owner, allowed, sorted, number, place, key, unfinished, opened}
use Rattle.form.specs.Order.{keep, below, from, find_record, replaced, after}
use Rattle.form.proofs.Numbers.{both}
use Rattle.form.proofs.Codec.{Sorted, sorted_inv, sorted_cons}
use Rattle.form.proofs.Order.{below_in, below_out, Side, before, behind, side, split_at, weaken, sorted_from, sorted_behind, sorted_anywhere, after_low}
use Rattle.form.proofs.Lookup.{from_from, after_font}

-- what replaces a font with its characters: nothing, or that font
pub data NewFont (n : ℕ) : List Rec → Type 0 where
  no_font : NewFont n []
  new_font : (h : List ℕ) → n ≤ last_font → is_kept_header h ≡ true → NewFont n (font n h ∷ [])

-- what replaces a character of the font with header h: nothing, or that character
pub data NewChar (n c : ℕ) (h : List ℕ) : List Rec → Type 0 where
  no_char : NewChar n c h []
  new_char : (k d : List ℕ) → allowed (owner_after no_owner (font n h)) (character n c k d) ≡ true → NewChar n c h (character n c k d ∷ [])

module _ (rs : List Rec) (e : sorted 0 no_owner rs ≡ true) where
  font_new : (n : ℕ) (v : Owner) (new : List Rec) → NewFont n new → sorted (key_of n 0) v (new ++ from (key_of (n + 1) 0) rs) ≡ true
  unfolding allowed number place
  font_new n v new w =
      let lo = key_of n 0 in
      let hi = key_of (n + 1) 0 in
      let anywhere : (x : Owner) → sorted hi x (from hi rs) ≡ true =
      λ x. sorted_anywhere hi (n + 1) (after no_owner (below hi rs)) x (from hi rs) (sorted_from hi 0 no_owner rs e) (after_low (n + 1) 0 no_owner rs e (omega arith)) (omega arith) in
      go new w anywhere
    where
      go : (new : List Rec) → NewFont n new → ((x : Owner) → sorted (key_of (n + 1) 0) x (from (key_of (n + 1) 0) rs) ≡ true) → sorted (key_of n 0) v (new ++ from (key_of (n + 1) 0) rs) ≡ true
      go new no_font any = weaken (key_of (n + 1) 0) (key_of n 0) v (from (key_of (n + 1) 0) rs) (any v) (omega arith)
      go new (new_font h l k) any =
          sorted_cons (key_of n 0) v (font n h) (from (key_of (n + 1) 0) rs)
          (record {
            ok = both _ _ (le-leb _ _ l) k;
            least = omega arith;
            rest = weaken (key_of (n + 1) 0) (n * keys_each + 0 + 1) (owner_after v (font n h)) (from (key_of (n + 1) 0) rs) (any (owner_after v (font n h))) (omega arith);
          })

  pub font_replaced : (n : ℕ) (new : List Rec) → NewFont n new → sorted 0 no_owner (replaced (key_of n 0) (key_of (n + 1) 0) new rs) ≡ true
  font_replaced n new w = sorted_behind (key_of n 0) 0 no_owner rs _ e (omega arith) (font_new n (after no_owner (below (key_of n 0) rs)) new w)

  char_new : (n c : ℕ) (h : List ℕ) (new : List Rec) → NewChar n c h new → sorted (key_of n (c + 1) + 1) (owner_after no_owner (font n h)) (from (key_of n (c + 1) + 1) rs) ≡ true
      → sorted (key_of n (c + 1)) (owner_after no_owner (font n h)) (new ++ from (key_of n (c + 1) + 1) rs) ≡ true
  unfolding number place owner_after
  char_new n c h new no_char s = weaken (key_of n (c + 1) + 1) (key_of n (c + 1)) (owner_after no_owner (font n h)) (from (key_of n (c + 1) + 1) rs) s (omega arith)
  char_new n c h new (new_char k d a) s =
      sorted_cons (key_of n (c + 1)) (owner_after no_owner (font n h)) (character n c k d) (from (key_of n (c + 1) + 1) rs) (record { ok = a; least = omega arith; rest = s })

  pub char_replaced : (n c : ℕ) (h : List ℕ) (new : List Rec) → c ≤ last_code → find_record (key_of n 0) rs ≡ some (font n h) → NewChar n c h new
      → sorted 0 no_owner (replaced (key_of n (c + 1)) (key_of n (c + 1) + 1) new rs) ≡ true
  char_replaced n c h new l f w =
      let lo = key_of n (c + 1) in
      let i : lo + 1 ≡ key_of n (c + 1 + 1) = omega arith in
      let a : after no_owner (below lo rs) ≡ owner_after no_owner (font n h) = after_font n (c + 1) h rs e f (omega arith) (omega arith) in
      let b : after no_owner (below (lo + 1) rs) ≡ owner_after no_owner (font n h) = rw i (after_font n (c + 1 + 1) h rs e f (omega arith) (omega arith)) in
      let s : sorted (lo + 1) (owner_after no_owner (font n h)) (from (lo + 1) rs) ≡ true = subst (λ (x : Owner). sorted (lo + 1) x (from (lo + 1) rs) ≡ true) b (sorted_from (lo + 1) 0 no_owner rs e) in
      sorted_behind lo 0 no_owner rs _ e (omega arith) (subst (λ (x : Owner). sorted lo x (new ++ from (lo + 1) rs) ≡ true) (sym a) (char_new n c h new w s))

-- ── the open character
or_assoc : (a b c : Bool) → a || b || c ≡ a || (b || c)
or_assoc true b c = refl
or_assoc false b c = refl

pub opened_append : (k : ℕ) (a b : List Rec) → opened k (a ++ b) ≡ opened k a || opened k b
unfolding opened
opened_append k [] b = refl
opened_append k (r ∷ a) b = rw (opened_append k a b) (sym (or_assoc (eqb (key r) k and unfinished r) (opened k a) (opened k b)))

-- a key outside of a stretch
abbrev pub Outside : ℕ → ℕ → ℕ → Type 0
Outside lo hi k = (k < lo) ⊎ (hi ≤ k)

closed_one : (k : ℕ) (r : Rec) → (key r ≡ k → ⊥) → eqb (key r) k and unfinished r ≡ false
unfolding ◌and◌
closed_one k r n = rw (ne_eqb (key r) k n)

closed_side : {lo hi j : ℕ} {u : Owner} {r : Rec} {rs : List Rec} → (k : ℕ) → Outside lo hi k → lo ≤ j → Sorted j u r rs → Side hi u r rs → opened k (below hi rs) ≡ false → opened k (below hi (r ∷ rs)) ≡ false
unfolding opened
closed_side {lo} {hi} {j} {u} {r} {rs} k o m w (before l) ih =
    let n : key r ≡ k → ⊥ = λ q. ⊎_elim (λ (x : k < lo). omega (arith, w.least)) (λ (x : hi ≤ k). omega arith) o in
    rw (below_in hi r rs l, closed_one k r n) ih
closed_side {lo} {hi} {j} {u} {r} {rs} k o m w (behind l z a) ih = rw (below_out hi r rs l) ih

closed_in : (lo hi k j : ℕ) (u : Owner) (rs : List Rec) → Outside lo hi k → sorted j u rs ≡ true → lo ≤ j → opened k (below hi rs) ≡ false
unfolding opened keep
closed_in lo hi k j u [] o e m = refl
closed_in lo hi k j u (r ∷ rs) o e m =
    let w = sorted_inv j u r rs e in
    closed_side k o m w (side hi j u r rs w) (closed_in lo hi k (key r + 1) (owner_after u r) rs o w.rest (omega (arith, w.least)))

-- a character outside of what is replaced stays open
pub opened_replaced : (lo hi k : ℕ) (new rs : List Rec) → sorted 0 no_owner rs ≡ true → lo ≤ hi → Outside lo hi k → opened k new ≡ false → opened k (replaced lo hi new rs) ≡ opened k rs
opened_replaced lo hi k new rs e m o q =
    let s = sorted_from lo 0 no_owner rs e in
    let f : from lo rs ≡ below hi (from lo rs) ++ from hi rs = split_at hi lo (after no_owner (below lo rs)) (from lo rs) s ∙ ap (λ (x : List Rec). below hi (from lo rs) ++ x) (from_from lo hi 0 no_owner rs e m) in
    let a : opened k rs ≡ opened k (below lo rs) || opened k (from hi rs) =
    ap (opened k) (split_at lo 0 no_owner rs e) ∙ opened_append k (below lo rs) (from lo rs)
    ∙ ap (λ (x : Bool). opened k (below lo rs) || x) (ap (opened k) f ∙ opened_append k (below hi (from lo rs)) (from hi rs) ∙ rw (closed_in lo hi k lo (after no_owner (below lo rs)) (from lo rs) o s (omega arith))) in
    opened_append k (below lo rs) (new ++ from hi rs) ∙ ap (λ (x : Bool). opened k (below lo rs) || x) (opened_append k new (from hi rs) ∙ rw q) ∙ sym a
