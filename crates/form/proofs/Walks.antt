-- A walk over the records, step by step. Assumes nothing.
use mathlib.Core.Path.{◌≡◌, refl, sym, ap, ◌∙◌, subst}
use Rattle.std.specs.Prelude.{Some, None}
use Rattle.std.specs.declared.ops.ControlFlow.TheVariants.{Continue, Break}
use mathlib.Core.List.{List, [], ◌∷◌}
use mathlib.Core.Bool.{Bool, true, false, not, cond, ◌&&◌, ◌||◌}
use mathlib.Core.Option.{Option, none, some}
use Prim.Native.Nat.{ℕ, ◌+◌, ◌-◌, ◌<◌, ◌≤◌}
use native.Mathlib.Omega.{arith}
use native.Mathlib.Nat.{add-zero}
use lib.ListN.{length, take, drop, length-drop, length-take}
use lib.Seq.{drop-drop}
use lib.Dec.{eqb, leb, ltb}
use borrow.Author.Tests.{eqb-true, ltb-true, le-leb, lt-leb, eq-eqb, ne_eqb}
use Rattle.form.specs.Layout.{key_of, character_record, last_font}
use Rattle.form.specs.Num.{◌and◌, field, all_zero}
use Rattle.form.specs.Model.{Rec, font, character, Owner, owner_after, allowed, sorted, unfinished, opened, number, place, key, no_characters, one_more, same_tally, head_rec, size_of, total, cons_to, and_then, split}
use Rattle.form.specs.Walk.{tally_held, item_of, seen, head_of, standing, tally_behind, met_behind, settled, behind, passed, tallied, key_after, nearer, near_after, last_after, walked_over, walked, walk_after, Within, Ahead}
use Rattle.form.specs.declared.tally.Tally.{Tally}
use Rattle.form.specs.declared.walk.Item.{Item}
use Rattle.form.specs.declared.walk.Pos.{Pos}
use Rattle.form.specs.declared.walk.Head.TheVariants.{End, Rec as HeadRec, Bad}
use Rattle.form.proofs.Numbers.{zeros_field}
use Rattle.form.proofs.RecordBytes.{cond_same, shaped, allowed_char, zero_head, head_nonzero, Headed, is_font_lem, is_character, head_inv}
use Rattle.form.proofs.Codec.{split_eq}

-- ── what head_of tells
pub record Seen (u : Owner) (s : List ℕ) (i : Item) : Type 0 where
  pub rec : Rec
  pub head : head_rec s ≡ some rec
  pub ok : allowed u rec ≡ true
  pub item : item_of u s rec ≡ i

seen_rec : (u : Owner) (s : List ℕ) (i : Item) → seen u s (head_rec s) ≡ HeadRec i → Seen u s i
unfolding seen
seen_rec u s i e = go (head_rec s) refl e
  where
    go2 : (r : Rec) → head_rec s ≡ some r → (b : Bool) → allowed u r ≡ b → cond b (HeadRec (item_of u s r)) Bad ≡ HeadRec i → Seen u s i
    go2 r h true q e' = record { rec = r; head = h; ok = q; item = cc }
    go2 r h false q e' = let z : ◌≡◌ {A = ℕ} 0 1 = cc in absurd (omega arith)

    go : (o : Option Rec) → head_rec s ≡ o → seen u s o ≡ HeadRec i → Seen u s i
    go none h e' = let z : ◌≡◌ {A = ℕ} 0 1 = cc in absurd (omega arith)
    go (some r) h e' = go2 r h (allowed u r) refl e'

pub looked_rec : (u : Owner) (s : List ℕ) (i : Item) → head_of u s ≡ HeadRec i → Seen u s i
unfolding head_of
looked_rec u s i e = go (ltb (length s) character_record) (eqb (field 4 0 s) 0) e
  where
    go : (a b : Bool) → cond a End (cond b End (seen u s (head_rec s))) ≡ HeadRec i → Seen u s i
    go true b e' = let z : ◌≡◌ {A = ℕ} 0 1 = cc in absurd (omega arith)
    go false true e' = let z : ◌≡◌ {A = ℕ} 0 1 = cc in absurd (omega arith)
    go false false e' = seen_rec u s i e'

-- a record that is read has numbers in range and lies within the bytes
abbrev InRange : ℕ → Item → Type 0
InRange n i = (i.font ≤ last_font) × (i.place ≤ 256) × (character_record ≤ i.len) × (i.len ≤ n)

headed_item : (u : Owner) (s : List ℕ) (r : Rec) → Headed s r → allowed u r ≡ true → InRange (length s) (item_of u s r)
unfolding number place size_of
headed_item u s r (is_font_lem x) o = let p = shaped u r o in omega arith
headed_item u s r (is_character f k l) o =
    let p = shaped u r o in
    let m : length (take (field 4 0 s - character_record) (drop character_record s)) ≡ field 4 0 s - character_record = simp (length-take, length-drop) (omega arith) in
    omega arith

pub looked_item : (u : Owner) (s : List ℕ) (i : Item) → head_of u s ≡ HeadRec i → InRange (length s) i
looked_item u s i e =
    let w = looked_rec u s i e in
    subst (λ (j : Item). InRange (length s) j) w.item (headed_item u s w.rec (head_inv s w.rec w.head) w.ok)

-- ── one record more
-- an allowed record stands under its own font
under_is : (u : Owner) (r : Rec) → allowed u r ≡ true → owner_after u r ≡ record { owner = number r + 1; orientation = (owner_after u r).orientation }
unfolding owner_after number
under_is u (font n h) e = refl
under_is u (character n c h d) e = let p = allowed_char u n c h d e in rw p.owner

and_is : (a b : Bool) → (a and b) ≡ (a && b)
unfolding ◌and◌
and_is true b = refl
and_is false b = refl

-- two numbers that are compared, or found to differ, at once
pub alike : (t u : Tally) (r : Bool) → r ≡ (eqb t.characters u.characters && eqb t.bytes u.bytes) → r ≡ same_tally t u
alike t u r e = e ∙ sym (and_is (eqb t.characters u.characters) (eqb t.bytes u.bytes))

pub differ : (t u : Tally) (r : Bool) → r ≡ not (eqb t.characters u.characters && eqb t.bytes u.bytes) → same_tally t u ≡ not r
differ t u r e = and_is (eqb t.characters u.characters) (eqb t.bytes u.bytes) ∙ rw e (twice (eqb t.characters u.characters && eqb t.bytes u.bytes))
  where
    twice : (b : Bool) → b ≡ not (not b)
    twice true = refl
    twice false = refl

pub total_more : (r : Rec) (rs : List Rec) (n : ℕ) → n + total (r ∷ rs) ≡ n + size_of r + total rs
unfolding total
total_more r rs n = omega arith

or_assoc : (a b c : Bool) → (a || (b || c)) ≡ (a || b || c)
or_assoc true b c = refl
or_assoc false b c = refl

marked_more : (m : Bool) (k : ℕ) (r : Rec) (rs : List Rec) → (m || opened k (r ∷ rs)) ≡ (m || (eqb (key r) k && unfinished r) || opened k rs)
unfolding opened
marked_more m k r rs = rw (and_is (eqb (key r) k) (unfinished r)) (or_assoc m (eqb (key r) k && unfinished r) (opened k rs))

-- what fonts hold is true, record by record
tallied_more : (p : Pos) (u : Owner) (s : List ℕ) (r : Rec) (rs : List Rec)
    → tallied p.held p.met s (r ∷ rs) ≡ settled p (item_of u s r) and tallied (tally_behind p (item_of u s r)) (met_behind p (item_of u s r)) (drop (size_of r) s) rs
unfolding tallied settled tally_behind met_behind tally_held place size_of ◌and◌
tallied_more p u s (font n h) rs = refl
tallied_more p u s (character n c h d) rs =
    let e : eqb (c + 1) 0 ≡ false = ne_eqb (c + 1) 0 (λ q. omega arith) in
    let l : character_record + length d - character_record ≡ length d = omega arith in
    rw (e, l)

cond_step {ℓ} : {A : Type ℓ} (b c d e : Bool) (x y : A) → cond ((true and b and c) and (d and e)) x y ≡ cond (b and d) (cond (c and e) x y) y
unfolding ◌and◌
cond_step true true true e x y = refl
cond_step true true false e x y = refl
cond_step true false true e x y = refl
cond_step true false false e x y = refl
cond_step false c d e x y = refl

walked_cons : (n m : ℕ) (p : Pos) (s : List ℕ) (r : Rec) (o : Option (List Rec)) → allowed (standing p) r ≡ true
    → walked_over n m p s (cons_to r o) ≡ cond (leb p.key (key r) and settled p (item_of (standing p) s r)) (walked_over n m (behind n m p (item_of (standing p) s r)) (drop (size_of r) s) o) None
unfolding walked_over cons_to sorted key_after near_after last_after
walked_cons n m p s r none a = sym (cond_same (leb p.key (key r) and settled p (item_of (standing p) s r)) None)
walked_cons n m p s r (some rs) a =
    let i = item_of (standing p) s r in
    rw (tallied_more p (standing p) s r rs, a, cond_step (leb p.key (key r)) (sorted (key r + 1) (owner_after (standing p) r) rs) (settled p i) (tallied (tally_behind p i) (met_behind p i) (drop (size_of r) s) rs), total_more r rs p.at, marked_more p.marked m r rs)
    (rw (under_is (standing p) r a))

-- ── the end, a record, or neither
seen_not_end : (u : Owner) (s : List ℕ) (o : Option Rec) → seen u s o ≡ End → ⊥
unfolding seen
seen_not_end u s none e = let z : ◌≡◌ {A = ℕ} 0 1 = cc in omega arith
seen_not_end u s (some r) e = go (allowed u r) e
  where
    go : (b : Bool) → cond b (HeadRec (item_of u s r)) Bad ≡ End → ⊥
    go true e' = let z : ◌≡◌ {A = ℕ} 0 1 = cc in omega arith
    go false e' = let z : ◌≡◌ {A = ℕ} 0 1 = cc in omega arith

headed_least : (s : List ℕ) (r : Rec) → Headed s r → character_record ≤ length s
headed_least s r (is_font_lem x) = omega arith
headed_least s r (is_character f k l) = omega arith

short_none : (s : List ℕ) → length s < character_record → head_rec s ≡ none
short_none s h = go (head_rec s) refl
  where
    go : (o : Option Rec) → head_rec s ≡ o → head_rec s ≡ none
    go none q = q
    go (some r) q = absurd (omega (arith, headed_least s r (head_inv s r q)))

end_none : (u : Owner) (s : List ℕ) → head_of u s ≡ End → head_rec s ≡ none
unfolding head_of
end_none u s e = go (ltb (length s) character_record) refl (eqb (field 4 0 s) 0) refl e
  where
    go : (a : Bool) → ltb (length s) character_record ≡ a → (b : Bool) → eqb (field 4 0 s) 0 ≡ b → cond a End (cond b End (seen u s (head_rec s))) ≡ End → head_rec s ≡ none
    go true p b q e' = short_none s (ltb-true _ _ p)
    go false p true q e' = zero_head s (eqb-true _ _ q)
    go false p false q e' = absurd (seen_not_end u s (head_rec s) e')

zero_end : (u : Owner) (s : List ℕ) → all_zero s ≡ true → head_of u s ≡ End
unfolding head_of
zero_end u s e = simp (eq-eqb (field 4 0 s) 0 (zeros_field 4 s e), cond_same)

not_zero : (u : Owner) (s : List ℕ) → (head_of u s ≡ End → ⊥) → all_zero s ≡ false
not_zero u s n = go (all_zero s) refl
  where
    go : (b : Bool) → all_zero s ≡ b → all_zero s ≡ false
    go false q = q
    go true q = absurd (n (zero_end u s q))

pub split_cons : (s : List ℕ) (r : Rec) → head_rec s ≡ some r → split s ≡ cons_to r (split (drop (size_of r) s))
unfolding and_then
split_cons s r h = split_eq s ∙ rw (head_nonzero s r h, h)

split_none : (s : List ℕ) → head_rec s ≡ none → all_zero s ≡ false → split s ≡ none
unfolding and_then
split_none s h z = split_eq s ∙ rw (z, h)

bad_seen : (u : Owner) (s : List ℕ) → head_of u s ≡ Bad → seen u s (head_rec s) ≡ Bad
unfolding head_of
bad_seen u s e = go (ltb (length s) character_record) (eqb (field 4 0 s) 0) e
  where
    go : (a b : Bool) → cond a End (cond b End (seen u s (head_rec s))) ≡ Bad → seen u s (head_rec s) ≡ Bad
    go true b e' = cc
    go false true e' = cc
    go false false e' = e'

module _ (n m : ℕ) (p : Pos) where
  pub walked_end : (s : List ℕ) → head_of (standing p) s ≡ End
      → walked n m p s ≡ cond (same_tally p.held p.met && all_zero s) (Some (record { used = p.at; least = p.key; near = p.near; last = p.last }, p.marked)) None
  unfolding and_then walked_over tallied sorted total opened key_after near_after last_after
  walked_end s e =
      let w : split s ≡ cond (all_zero s) (some []) none = split_eq s ∙ rw (end_none (standing p) s e) in
      ap (walked_over n m p s) w ∙ go (same_tally p.held p.met) refl (all_zero s)
    where
      or_false : (b : Bool) → (b || false) ≡ b
      or_false true = refl
      or_false false = refl

      go : (t : Bool) → same_tally p.held p.met ≡ t → (b : Bool)
          → walked_over n m p s (cond b (some []) none) ≡ cond (t && b) (Some (record { used = p.at; least = p.key; near = p.near; last = p.last }, p.marked)) None
      go true i true = unfold ◌and◌ in rw i (simp (add-zero, or_false))
      go false i true = unfold ◌and◌ in rw i
      go true i false = refl
      go false i false = refl

  pub walked_bad : (s : List ℕ) → head_of (standing p) s ≡ Bad → walked n m p s ≡ None
  unfolding walked_over seen cons_to sorted ◌and◌
  walked_bad s e = go (head_rec s) refl
    where
      refused : (r : Rec) (o : Option (List Rec)) → allowed (standing p) r ≡ false → walked_over n m p s (cons_to r o) ≡ None
      refused r none x = refl
      refused r (some rs) x = rw x

      unsound : (r : Rec) → head_rec s ≡ some r → (b : Bool) → allowed (standing p) r ≡ b → walked n m p s ≡ None
      unsound r h true x = let y : HeadRec (item_of (standing p) s r) ≡ Bad = rw (h, x) at (bad_seen (standing p) s e) in cc
      unsound r h false x = ap (walked_over n m p s) (split_cons s r h) ∙ refused r (split (drop (size_of r) s)) x

      go : (o : Option Rec) → head_rec s ≡ o → walked n m p s ≡ None
      go none h = rw (split_none s h (not_zero (standing p) s (λ x. let z : ◌≡◌ {A = ℕ} 0 1 = cc in omega arith)))
      go (some r) h = unsound r h (allowed (standing p) r) refl

  pass_rec : (r : Rec) (s : List ℕ) → head_rec (drop p.at s) ≡ some r → allowed (standing p) r ≡ true
      → walk_after n m s (passed n m p (item_of (standing p) (drop p.at s) r)) ≡ walked n m p (drop p.at s)
  unfolding passed walk_after
  pass_rec r s h o =
      let t = drop p.at s in
      let i = item_of (standing p) t r in
      go (leb p.key (key r) and settled p i) ∙ sym (walked_cons n m p t r (split (drop (size_of r) t)) o) ∙ ap (walked_over n m p t) (sym (split_cons t r h))
    where
      go : (b : Bool) → walk_after n m s (cond b (Continue (behind n m p (item_of (standing p) (drop p.at s) r))) (Break None))
          ≡ cond b (walked_over n m (behind n m p (item_of (standing p) (drop p.at s) r)) (drop (size_of r) (drop p.at s)) (split (drop (size_of r) (drop p.at s)))) None
      go true = rw (drop-drop (size_of r) p.at s)
      go false = refl

  pub walked_pass : (i : Item) (s : List ℕ) → head_of (standing p) (drop p.at s) ≡ HeadRec i → walk_after n m s (passed n m p i) ≡ walked n m p (drop p.at s)
  walked_pass i s e =
      let w = looked_rec (standing p) (drop p.at s) i e in
      subst (λ (j : Item). walk_after n m s (passed n m p j) ≡ walked n m p (drop p.at s)) w.item (pass_rec w.rec s w.head w.ok)

  pub ahead_pass : (i : Item) (s : List ℕ) → head_of (standing p) (drop p.at s) ≡ HeadRec i → Within (length s) p → Ahead (length s) p (passed n m p i)
  unfolding passed Ahead met_behind
  ahead_pass i s e w = go (leb p.key (key_of i.font i.place) and settled p i)
    where
      k : InRange (length (drop p.at s)) i
      k = looked_item (standing p) (drop p.at s) i e

      met : (b : Bool) → ((cond b no_characters (one_more true (i.len - character_record) p.met)).characters ≤ p.met.characters + 1)
          × ((cond b no_characters (one_more true (i.len - character_record) p.met)).bytes ≤ p.met.bytes + i.len)
      met true = (omega arith, omega arith)
      met false = (omega arith, omega arith)

      go : (b : Bool) → Ahead (length s) p (cond b (Continue (behind n m p i)) (Break None))
      go true = (
        omega (arith, k),
        record {
          at = omega (arith, k, length-drop p.at s, w.at);
          characters = omega (arith, k, w.characters, (met (eqb i.place 0)).0);
          bytes = omega (arith, k, w.bytes, (met (eqb i.place 0)).1);
        },
      )
      go false = tt

-- ── passing a record, by its numbers
pub pass_low : (n m : ℕ) (p : Pos) (i : Item) → key_of i.font i.place < p.key → passed n m p i ≡ Break None
unfolding passed ◌and◌
pass_low n m p i h = rw (lt-leb p.key (key_of i.font i.place) h)

module _ (n m : ℕ) (p : Pos) (i : Item) (h : p.key ≤ key_of i.font i.place) where
  -- a font
  pub pass_untrue : i.place ≡ 0 → same_tally p.held p.met ≡ false → passed n m p i ≡ Break None
  unfolding passed settled ◌and◌
  pass_untrue z e = rw (le-leb p.key (key_of i.font i.place) h, eq-eqb i.place 0 z, e)

  pub pass_font : i.place ≡ 0 → same_tally p.held p.met ≡ true
      → passed n m p i ≡ Continue (record { at = p.at + i.len; near = nearer n i.font 0 p.at p.near; last = p.at; marked = p.marked || (eqb (key_of i.font i.place) m && i.unfinished); key = key_of i.font i.place + 1; owner = i.font + 1; orientation = i.orientation; held = i.held; met = no_characters })
  unfolding passed settled tally_behind met_behind nearer ◌and◌
  pass_font z e = rw (le-leb p.key (key_of i.font i.place) h, eq-eqb i.place 0 z, e)

  -- a character
  pub pass_character : (i.place ≡ 0 → ⊥)
      → passed n m p i ≡ Continue (record { at = p.at + i.len; near = p.near; last = p.at; marked = p.marked || (eqb (key_of i.font i.place) m && i.unfinished); key = key_of i.font i.place + 1; owner = i.font + 1; orientation = i.orientation; held = p.held; met = one_more true (i.len - character_record) p.met })
  unfolding passed settled tally_behind met_behind nearer ◌and◌
  pass_character z = rw (le-leb p.key (key_of i.font i.place) h, ne_eqb i.place 0 z)

pub within_more : (n m : ℕ) (p : Pos) → Within n p → n ≤ m → Within m p
within_more n m p w l = record { at = omega (arith, w.at); characters = w.characters; bytes = w.bytes }
