-- What a download leaves of the places that a cursor knows. Assumes nothing.
use mathlib.Core.Path.{◌≡◌, refl, sym, ap, ◌∙◌, subst}
use Rattle.std.specs.Prelude.{Option as Optional, Some, None}
use mathlib.Core.List.{List, [], ◌∷◌, ◌++◌, append-nil}
use mathlib.Core.Bool.{Bool, true, false, cond}
use mathlib.Core.Option.{Option, none, some}
use Prim.Native.Nat.{ℕ, ◌+◌, ◌≤◌}
use native.Mathlib.Omega.{arith}
use lib.ListN.{drop}
use lib.Seq.{drop-drop}
use lib.Dec.{eqb, leb, ltb}
use borrow.Author.Tests.{eqb-false}
use Rattle.blocks.specs.Header.{kept_header}
use Rattle.form.specs.Layout.{key_of, last_code, last_font, mark_record, most_store}
use Rattle.form.specs.Model.{Rec, font, character, Store, Owner, owner_after, no_owner, sorted, number, place, key, size_of, total, split, encode, decode, Valid}
use Rattle.form.specs.Order.{keep, below, from, replaced}
use Rattle.store.specs.Answer.{After}
use Rattle.store.specs.Calls.{put_font, store_without_font, with_character, downloading_font}
use Rattle.store.specs.Download.{put_character, downloading_character}
use Rattle.form.specs.Walk.{inspected, Stands}
use Rattle.form.specs.Cursor.{Points}
use Rattle.store.specs.Known.{Opening, font_end, Ordered, Came}
use Rattle.form.specs.declared.walk.Places.{Places}
use Rattle.form.specs.declared.locate.Cursor.{Cursor}
use Rattle.form.proofs.Codec.{sorted_inv, decode_encode}
use Rattle.form.proofs.Order.{below_in, below_out, from_in, from_out, none_below, sorted_from, Side, before, behind, side}
use Rattle.form.proofs.Totals.{total_at}
use Rattle.form.proofs.Lookup.{below_mono}
use Rattle.store.proofs.Changed.{total_replaced}
use Rattle.store.proofs.Holds.{valid_decode}
use Rattle.form.proofs.RecordRuns.{decoded}
use Rattle.form.proofs.Locates.{store_is, from_key, Told, told_first}
use Rattle.form.proofs.Ready.{same_store}
use Rattle.store.proofs.Again.{Guest, font_answers, character_answers}

-- ── what is replaced behind a key leaves what is below it
keep_append : (t : Rec → Bool) (a b : List Rec) → keep t (a ++ b) ≡ keep t a ++ keep t b
unfolding keep
keep_append t [] b = refl
keep_append t (r ∷ a) b = go (t r) (keep_append t a b)
  where
    go : (x : Bool) → keep t (a ++ b) ≡ keep t a ++ keep t b → cond x (r ∷ keep t (a ++ b)) (keep t (a ++ b)) ≡ cond x (r ∷ keep t a) (keep t a) ++ keep t b
    go true e = ap (λ (l : List Rec). r ∷ l) e
    go false e = e

low_side : {k h : ℕ} {u : Owner} {r : Rec} {rs : List Rec} → k ≤ h → Side h u r rs → Side k u r rs → below k (below h rs) ≡ below k rs → below k (below h (r ∷ rs)) ≡ below k (r ∷ rs)
low_side {k} {h} {u} {r} {rs} l (before a) (before b) ih = rw (below_in h r rs a, below_in k r (below h rs) b, below_in k r rs b) (ap (λ (l : List Rec). r ∷ l) ih)
low_side {k} {h} {u} {r} {rs} l (before a) (behind b z y) ih = rw (below_in h r rs a, below_out k r (below h rs) b, below_out k r rs b) ih
low_side {k} {h} {u} {r} {rs} l (behind a z y) (before b) ih = absurd (omega arith)
low_side {k} {h} {u} {r} {rs} l (behind a z y) (behind b z' y') ih = rw (below_out h r rs a, below_out k r rs b) ih

below_low : (k h j : ℕ) (u : Owner) (rs : List Rec) → sorted j u rs ≡ true → k ≤ h → below k (below h rs) ≡ below k rs
unfolding keep
below_low k h j u [] o l = refl
below_low k h j u (r ∷ rs) o l =
    let w = sorted_inv j u r rs o in
    low_side l (side h j u r rs w) (side k j u r rs w) (below_low k h (key r + 1) (owner_after u r) rs w.rest l)

from_side : {k : ℕ} {u : Owner} {r : Rec} {rs : List Rec} → Side k u r rs → from k (below k rs) ≡ [] → from k (below k (r ∷ rs)) ≡ []
from_side {k} {u} {r} {rs} (before a) ih = rw (below_in k r rs a, from_out k r (below k rs) a) ih
from_side {k} {u} {r} {rs} (behind a z y) ih = rw (below_out k r rs a) ih

from_low : (k j : ℕ) (u : Owner) (rs : List Rec) → sorted j u rs ≡ true → from k (below k rs) ≡ []
unfolding keep
from_low k j u [] o = refl
from_low k j u (r ∷ rs) o = let w = sorted_inv j u r rs o in from_side (side k j u r rs w) (from_low k (key r + 1) (owner_after u r) rs w.rest)

below_replaced : (k lo hi : ℕ) (new rs : List Rec) → sorted 0 no_owner rs ≡ true → k ≤ lo → lo ≤ hi → below k new ≡ [] → below k (replaced lo hi new rs) ≡ below k rs
below_replaced k lo hi new rs o l m e =
    let t : Rec → Bool = λ r. ltb (key r) k in
    let z : below k (from hi rs) ≡ [] = none_below k hi _ (from hi rs) (sorted_from hi 0 no_owner rs o) (omega arith) in
    let y : below k (new ++ from hi rs) ≡ [] = keep_append t new (from hi rs) ∙ rw (e, z) in
    keep_append t (below lo rs) (new ++ from hi rs) ∙ rw y (append-nil (below k (below lo rs))) ∙ below_low k lo 0 no_owner rs o l

-- ── the numbers of a store's places
fits_small : (st : Store) → Valid st → mark_record + total st.recs ≤ most_store
fits_small st v = omega (arith, v.room, v.small)

module _ (n p : ℕ) (s : List ℕ) (w : Places) (x : Stands n p s w) where
  valid_of : Valid x.store
  valid_of = valid_decode s x.store x.is

  used_of : w.used ≡ mark_record + total x.store.recs
  used_of = ap (λ (y : Places). y.used) (sym x.at)

  lo_of : w.lo ≡ mark_record + total (below (key_of n 0) x.store.recs)
  lo_of = ap (λ (y : Places). y.lo) (sym x.at)

  from_of : w.from ≡ mark_record + total (below (key_of n p) x.store.recs)
  from_of = ap (λ (y : Places). y.from) (sym x.at)

  to_of : w.to ≡ mark_record + total (below (key_of n p + 1) x.store.recs)
  to_of = ap (λ (y : Places). y.to) (sym x.at)

  hi_of : w.hi ≡ mark_record + total (below (key_of (n + 1) 0) x.store.recs)
  hi_of = ap (λ (y : Places). y.hi) (sym x.at)

  pub in_order : Ordered w
  in_order =
      let rs = x.store.recs in
      let o = valid_of.order in
      let m1 = below_mono (key_of n 0) (key_of (n + 1) 0) 0 no_owner rs o (omega arith) in
      let m2 = below_mono (key_of n p) (key_of n p + 1) 0 no_owner rs o (omega arith) in
      let t1 = total_at (key_of (n + 1) 0) 0 no_owner rs o in
      let t2 = total_at (key_of n p + 1) 0 no_owner rs o in
      record {
        span = omega (arith, lo_of, hi_of, m1);
        end = omega (arith, hi_of, used_of, t1);
        one = omega (arith, from_of, to_of, m2);
        last = omega (arith, to_of, used_of, t2);
        small = omega (arith, used_of, fits_small x.store valid_of);
      }

-- ── a store that is opened
pub opened_points : (s : List ℕ) (w : Places) → inspected 0 0 (decode s) ≡ Some w → Points s (record { used = w.used; font = 0; lo = w.lo; key = 0; at = w.lo })
unfolding inspected
opened_points s w e = go (decode s) refl e
  where
    go : (o : Option Store) → decode s ≡ o → inspected 0 0 o ≡ Some w → Points s (record { used = w.used; font = 0; lo = w.lo; key = 0; at = w.lo })
    go none q e' = let z : ◌≡◌ {A = ℕ} 0 1 = cc in absurd (omega arith)
    go (some st) q e' =
        let i : Rattle.form.specs.Walk.places_of 0 0 st.recs ≡ w = cc in
        record {
          store = st;
          is = q;
          low = omega arith;
          used = ap (λ (y : Places). y.used) (sym i);
          lo = ap (λ (y : Places). y.lo) (sym i);
          at = ap (λ (y : Places). y.lo) (sym i);
        }

-- what opening answered
pub opened_at : (s : List ℕ) (r : Optional Cursor) (c : Cursor) → r ≡ Some c → Opening s r → Points s c
unfolding Opening
opened_at s r c e x = subst (Opening s) e x

pub opened_not : (s : List ℕ) (r : Optional Cursor) → r ≡ None → Opening s r → decode s ≡ none
unfolding Opening
opened_not s r e x = subst (Opening s) e x

-- ── a font block
font_out : (n : ℕ) (h : List ℕ) → below (key_of n 0) (font n h ∷ []) ≡ []
unfolding keep number place
font_out n h = below_out (key_of n 0) (font n h) [] (omega arith)

module _ (n : ℕ) (b s : List ℕ) (w : Places) (x : Stands n 0 s w) (low : n ≤ last_font) where
  abbrev at_font : ℕ → Cursor
  at_font end = record { used = end; font = n; lo = w.lo; key = key_of n 0; at = w.lo }

  font_kept : (m : ℕ) → eqb m 0 ≡ false → Points s (at_font (font_end w m))
  font_kept m e = rw e (record { store = x.store; is = x.is; low = low; used = used_of n 0 s w x; lo = lo_of n 0 s w x; at = lo_of n 0 s w x })

  font_put : (st : Store) → decode s ≡ some st → Valid st → Valid (put_font n (kept_header b) st) → Points (encode (put_font n (kept_header b) st)) (at_font (font_end w 0))
  unfolding total size_of
  font_put st e v v' =
      let i : x.store ≡ st = same_store s x.is e in
      let rs = st.recs in
      let us : w.used ≡ mark_record + total rs = rw i at (used_of n 0 s w x) in
      let lo : w.lo ≡ mark_record + total (below (key_of n 0) rs) = rw i at (lo_of n 0 s w x) in
      let hi : w.hi ≡ mark_record + total (below (key_of (n + 1) 0) rs) = rw i at (hi_of n 0 s w x) in
      let new = font n (kept_header b) ∷ [] in
      let t = total_replaced (key_of n 0) (key_of (n + 1) 0) new rs v.order (omega arith) in
      let m = total_at (key_of (n + 1) 0) 0 no_owner rs v.order in
      let r : w.lo ≡ mark_record + total (below (key_of n 0) (replaced (key_of n 0) (key_of (n + 1) 0) new rs)) = lo ∙ ap (λ (l : List Rec). mark_record + total l) (sym (below_replaced (key_of n 0) (key_of n 0) (key_of (n + 1) 0) new rs v.order (omega arith) (omega arith) (font_out n (kept_header b)))) in
      record { store = put_font n (kept_header b) st; is = decode_encode (put_font n (kept_header b) st) v'; low = low; used = omega (arith, us, lo, hi, t, m); lo = r; at = r }

  pub font_points : Points (downloading_font n b s).bytes (at_font (font_end w (downloading_font n b s).answer))
  font_points = font_answers n b s (store_is s x.store x.is) (λ (a : After). Points a.bytes (at_font (font_end w a.answer))) (λ m e f. font_kept m e) font_put

  -- behind the code's call
  pub font_behind : (t : List ℕ) (k end : ℕ) → t ≡ (downloading_font n b s).bytes → k ≡ (downloading_font n b s).answer → end ≡ font_end w k → Points t (at_font end)
  font_behind t k end et ek en = rw (en, ek, et) font_points

-- ── a character block
char_out : (k n c : ℕ) (h d : List ℕ) → k ≤ key_of n (c + 1) → below k (character n c h d ∷ []) ≡ []
unfolding keep number place
char_out k n c h d l = below_out k (character n c h d) [] (omega arith)

-- the record that was put stands at its place
put_told : (n c : ℕ) (h d : List ℕ) (st : Store) → Valid st → Valid (put_character n c h d st) → Told (encode (put_character n c h d st)) (mark_record + total (below (key_of n (c + 1)) st.recs)) (character n c h d)
unfolding number place
put_told n c h d st v v' =
    let k = key_of n (c + 1) in
    let rs = st.recs in
    let Y = from (k + 1) rs in
    let new = character n c h d ∷ [] in
    let rs' = with_character n c new rs in
    let t = encode (put_character n c h d st) in
    let p = decoded t (put_character n c h d st) (decode_encode (put_character n c h d st) v') in
    let e : split (drop (total (below k rs')) (drop mark_record t)) ≡ some (from k rs') = from_key k 0 no_owner rs' (drop mark_record t) p.2 p.1 in
    let g : Rec → Bool = λ r. leb k (key r) in
    let f : from k rs' ≡ character n c h d ∷ from k Y = keep_append g (below k rs) (new ++ Y) ∙ rw (from_low k 0 no_owner rs v.order) (from_in k (character n c h d) Y (omega arith)) in
    let q : below k rs' ≡ below k rs = below_replaced k k (k + 1) new rs v.order (omega arith) (omega arith) (char_out k n c h d (omega arith)) in
    told_first t (mark_record + total (below k rs)) (character n c h d) (from k Y)
    (ap split (sym (drop-drop (total (below k rs)) mark_record t)) ∙ ap (λ (l : List Rec). split (drop (total l) (drop mark_record t))) (sym q) ∙ e ∙ ap some f)

module _ (n c : ℕ) (b s : List ℕ) (w : Places) (x : Stands n (c + 1) s w) (low : n ≤ last_font) (code : c ≤ last_code) where
  char_kept : (m : ℕ) → eqb m 0 ≡ false → eqb m 10 ≡ false → Came n c m s w
  char_kept m e f =
      let y = in_order n (c + 1) s w x in
      record {
        store = x.store;
        is = x.is;
        low = low;
        code = code;
        ordered = y;
        short = fits_small x.store (valid_of n (c + 1) s w x);
        lo = lo_of n (c + 1) s w x;
        struck = λ q. absurd (eqb-false m 10 f q);
        from = λ q. from_of n (c + 1) s w x;
        room = λ q. absurd (eqb-false m 0 e q);
        grown = λ q. absurd (eqb-false m 0 e q);
        same = λ q z. used_of n (c + 1) s w x;
      }

  module _ (st : Store) (e : decode s ≡ some st) where
    st_is : x.store ≡ st
    st_is = same_store s x.is e

    us : w.used ≡ mark_record + total st.recs
    us = rw st_is at (used_of n (c + 1) s w x)

    lo : w.lo ≡ mark_record + total (below (key_of n 0) st.recs)
    lo = rw st_is at (lo_of n (c + 1) s w x)

    fr : w.from ≡ mark_record + total (below (key_of n (c + 1)) st.recs)
    fr = rw st_is at (from_of n (c + 1) s w x)

    to : w.to ≡ mark_record + total (below (key_of n (c + 1) + 1) st.recs)
    to = rw st_is at (to_of n (c + 1) s w x)

    hi : w.hi ≡ mark_record + total (below (key_of (n + 1) 0) st.recs)
    hi = rw st_is at (hi_of n (c + 1) s w x)

    char_gone : Valid st → Valid (store_without_font n st) → Came n c 10 (encode (store_without_font n st)) w
    unfolding total keep
    char_gone v v' =
        let y = in_order n (c + 1) s w x in
        let t = total_replaced (key_of n 0) (key_of (n + 1) 0) [] st.recs v.order (omega arith) in
        let m = total_at (key_of (n + 1) 0) 0 no_owner st.recs v.order in
        record {
          store = store_without_font n st;
          is = decode_encode (store_without_font n st) v';
          low = low;
          code = code;
          ordered = y;
          short = fits_small (store_without_font n st) v';
          lo = lo ∙ ap (λ (l : List Rec). mark_record + total l) (sym (below_replaced (key_of n 0) (key_of n 0) (key_of (n + 1) 0) [] st.recs v.order (omega arith) (omega arith) refl));
          struck = λ q. omega (arith, us, lo, hi, t, m);
          from = λ q. absurd (q refl);
          room = λ q. absurd (omega (arith, q));
          grown = λ q. absurd (omega (arith, q));
          same = λ q z. absurd (q refl);
        }

  char_put : (st : Store) (h d : List ℕ) → Guest n c s h d st → Valid (put_character n c h d st) → Came n c 0 (encode (put_character n c h d st)) w
  unfolding total size_of
  char_put st h d g v' =
      let k = key_of n (c + 1) in
      let v = g.valid in
      let e = g.is in
      let rs = st.recs in
      let new = character n c h d ∷ [] in
      let y = in_order n (c + 1) s w x in
      let f = fr st e in
      let t = total_replaced k (k + 1) new rs v.order (omega arith) in
      let m = total_at (k + 1) 0 no_owner rs v.order in
      let d' : Told (encode (put_character n c h d st)) w.from (character n c h d) = rw f (put_told n c h d st v v') in
      record {
        store = put_character n c h d st;
        is = decode_encode (put_character n c h d st) v';
        low = low;
        code = code;
        ordered = y;
        short = fits_small (put_character n c h d st) v';
        lo = lo st e ∙ ap (λ (l : List Rec). mark_record + total l) (sym (below_replaced (key_of n 0) k (k + 1) new rs v.order (omega arith) (omega arith) (char_out (key_of n 0) n c h d (omega arith))));
        struck = λ q. absurd (omega (arith, q));
        from = λ q. f ∙ ap (λ (l : List Rec). mark_record + total l) (sym (below_replaced k k (k + 1) new rs v.order (omega arith) (omega arith) (char_out k n c h d (omega arith))));
        room = λ q. d'.room;
        grown = λ q. omega (arith, us st e, f, to st e, t, m, d'.len);
        same = λ q z. absurd (z refl);
      }

  pub character_came : Came n c (downloading_character n c b s).answer (downloading_character n c b s).bytes w
  character_came = character_answers n c b s (store_is s x.store x.is) (λ (a : After). Came n c a.answer a.bytes w)
      (char_kept 2 refl refl, char_kept 3 refl refl, char_kept 4 refl refl, char_kept 5 refl refl, char_kept 6 refl refl, char_kept 7 refl refl, char_kept 9 refl refl)
      (λ row f b y z. char_kept 8 refl refl) (λ st h d y. char_put st h _ y.guest) (λ st h d y. char_gone st y.guest.is y.guest.valid)

  -- behind the code's call
  pub character_behind : (t : List ℕ) (k : ℕ) → t ≡ (downloading_character n c b s).bytes → k ≡ (downloading_character n c b s).answer → Came n c k t w
  character_behind t k et ek = rw (ek, et) character_came
