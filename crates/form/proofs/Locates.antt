-- Places found by the heads of a store's records alone. Assumes nothing.
use mathlib.Core.Path.{◌≡◌, refl, sym, ap, ◌∙◌}
use mathlib.Core.List.{List, [], ◌∷◌}
use mathlib.Core.Bool.{Bool, true, false}
use mathlib.Core.Option.{Option, none, some}
use Prim.Native.Nat.{ℕ, ◌+◌, ◌-◌, ◌<◌, ◌≤◌}
use native.Mathlib.Omega.{arith}
use lib.ListN.{length, drop, length-drop}
use lib.Seq.{drop-drop}
use lib.Dec.{eqb, leb}
use borrow.Author.Tests.{eqb-true, leb-true}
use Rattle.form.specs.Layout.{key_of, character_kind, character_record, code_at, font_kind, kind_at, mark_record, most_store, number_at}
use Rattle.form.specs.Num.{field}
use Rattle.form.specs.Model.{Rec, Store, Owner, owner_after, no_owner, sorted, number, place, key, head_rec, size_of, total, split, decode}
use Rattle.form.specs.Order.{keep, below, from, after}
use Rattle.form.specs.Records.{is_store}
use Rattle.form.specs.Walk.{key_after, nearer, near_after, last_after, Stands}
use Rattle.form.specs.Cursor.{key_at, StoreEnds, Behind, EndKnown, Reaches, Seeking, Points}
use Rattle.form.specs.declared.locate.Cursor.{Cursor}
use Rattle.form.specs.declared.walk.RunEnd.{RunEnd}
use Rattle.form.proofs.Fields.{field_drop}
use Rattle.form.proofs.RecordBytes.{Headed, is_font_lem, is_character, head_inv}
use Rattle.form.proofs.Codec.{Sorted, sorted_inv, begins_parts}
use Rattle.form.proofs.Order.{below_in, below_out, from_in, from_out, none_below, sorted_from, Side, before, behind, side}
use Rattle.form.proofs.Totals.{total_at}
use Rattle.form.proofs.Lookup.{below_below}
use Rattle.form.proofs.RecordRuns.{Standing, at_end, at_record, stands_at, char_size, decoded}
use Rattle.form.proofs.Ready.{same_store}

pub is_store_lem : (s : List ℕ) → is_store s ≡ true → (st : Store) × (decode s ≡ some st)
unfolding is_store
is_store_lem s e = go (decode s) refl e
  where
    go : (o : Option Store) → decode s ≡ o → Rattle.form.specs.Records.some_store o ≡ true → (st : Store) × (decode s ≡ some st)
    go none q e' = let z : ◌≡◌ {A = ℕ} 0 1 = cc in absurd (omega arith)
    go (some st) q e' = (st, q)

pub store_is : (s : List ℕ) (st : Store) → decode s ≡ some st → is_store s ≡ true
unfolding is_store
store_is s st e = rw e

pub store_small : (s : List ℕ) (st : Store) → decode s ≡ some st → length s ≤ most_store
unfolding decode
store_small s st e = (begins_parts s (Rattle.form.proofs.RecordBytes.guard_test _ _ st e)).1

-- ── the records from a key on stand at its place
key_side : {k : ℕ} {u : Owner} {r : Rec} {rs : List Rec} → (s : List ℕ) → split s ≡ some (r ∷ rs) → Side k u r rs
    → split (drop (total (below k rs)) (drop (size_of r) s)) ≡ some (from k rs) → split (drop (total (below k (r ∷ rs))) s) ≡ some (from k (r ∷ rs))
unfolding total
key_side {k} {u} {r} {rs} s e (before l) ih = rw (below_in k r rs l, from_out k r rs l) (ap split (sym (drop-drop (total (below k rs)) (size_of r) s)) ∙ ih)
key_side {k} {u} {r} {rs} s e (behind l z a) ih = rw (below_out k r rs l, from_in k r rs l, z, a) e

-- behind a record stand the others
pub split_rest : (s : List ℕ) (r : Rec) (rs : List Rec) → split s ≡ some (r ∷ rs) → (head_rec s ≡ some r) × (split (drop (size_of r) s) ≡ some rs)
split_rest s r rs e = go (stands_at s (r ∷ rs) e)
  where
    go : Standing s (r ∷ rs) → (head_rec s ≡ some r) × (split (drop (size_of r) s) ≡ some rs)
    go (at_end i z) = let y : ◌≡◌ {A = ℕ} 0 1 = cc in absurd (omega arith)
    go (at_record x ts i h q) =
        let ix : x ≡ r = cc in
        let it : ts ≡ rs = cc in
        (rw (← ix) h, rw (← ix, ← it) q)

pub from_key : (k j : ℕ) (u : Owner) (rs : List Rec) (s : List ℕ) → sorted j u rs ≡ true → split s ≡ some rs → split (drop (total (below k rs)) s) ≡ some (from k rs)
unfolding keep total
from_key k j u [] s o e = e
from_key k j u (r ∷ rs) s o e =
    let w = sorted_inv j u r rs o in
    key_side s e (side k j u r rs w) (from_key k (key r + 1) (owner_after u r) rs (drop (size_of r) s) w.rest (split_rest s r rs e).1)

-- ── a record, as its head tells it
pub record Told (s : List ℕ) (here : ℕ) (r : Rec) : Type 0 where
  pub key : key r ≡ key_at s here
  pub len : size_of r ≡ field 4 here s
  pub room : here + character_record ≤ length s
  pub fits : here + field 4 here s ≤ length s
  pub some : 0 < field 4 here s

told_by : (s : List ℕ) (here : ℕ) (r : Rec) → Headed (drop here s) r → Told s here r
unfolding number place size_of
told_by s here r (is_font_lem x) =
    let kind : field 2 (here + kind_at) s ≡ font_kind = sym (field_drop 2 kind_at here s) ∙ x.kind in
    let n : field 2 number_at (drop here s) ≡ field 2 (here + number_at) s = field_drop 2 number_at here s in
    record {
      key = rw (kind, n);
      len = sym x.len;
      room = omega (arith, x.fits, x.len, length-drop here s);
      fits = omega (arith, x.fits, x.len, length-drop here s);
      some = omega (arith, x.len);
    }
told_by s here r (is_character f a b) =
    let kind : field 2 (here + kind_at) s ≡ character_kind = sym (field_drop 2 kind_at here s) ∙ a in
    let n : field 2 number_at (drop here s) ≡ field 2 (here + number_at) s = field_drop 2 number_at here s in
    let m : field 2 code_at (drop here s) ≡ field 2 (here + code_at) s = field_drop 2 code_at here s in
    record {
      key = rw (kind, n, m);
      len = char_size (drop here s) f b;
      room = omega (arith, f, b, length-drop here s);
      fits = omega (arith, f, b, length-drop here s);
      some = omega (arith, b);
    }

pub told_first : (s : List ℕ) (here : ℕ) (r : Rec) (rs : List Rec) → split (drop here s) ≡ some (r ∷ rs) → Told s here r
told_first s here r rs e = told_by s here r (head_inv (drop here s) r (split_rest (drop here s) r rs e).0)

-- ── a search
-- a search for k has come to here: the records from there on have what its sum still lacks
pub record Passing (s : List ℕ) (end k here : ℕ) : Type 0 where
  pub store : Store
  pub is : decode s ≡ some store
  pub small : length s ≤ most_store
  pub recs : List Rec
  pub rest : split (drop here s) ≡ some recs
  pub least : ℕ
  pub behind : Owner
  pub order : sorted least behind recs ≡ true
  pub sum : here + total (below k recs) ≡ mark_record + total (below k store.recs)
  pub last : here + total recs ≡ end

pub passing : (s : List ℕ) (end k here : ℕ) → Seeking s end k here → Passing s end k here
passing s end k here x =
    let st = x.store in
    let d = decoded s st x.is in
    let rs = st.recs in
    let e : split (drop (total (below x.base rs)) (drop mark_record s)) ≡ some (from x.base rs) = from_key x.base 0 no_owner rs (drop mark_record s) d.2 d.1 in
    let b = ap total (below_below x.base k 0 no_owner rs d.2 x.low) ∙ Rattle.form.proofs.Totals.total_append (below x.base rs) (below k (from x.base rs)) in
    record {
      store = st;
      is = x.is;
      small = store_small s st x.is;
      recs = from x.base rs;
      rest = ap (λ (y : ℕ). split (drop y s)) x.at ∙ ap split (sym (drop-drop (total (below x.base rs)) mark_record s)) ∙ e;
      least = x.base;
      behind = after no_owner (below x.base rs);
      order = sorted_from x.base 0 no_owner rs d.2;
      sum = omega (arith, x.at, b);
      last = omega (arith, x.at, x.used, total_at x.base 0 no_owner rs d.2);
    }

module _ (s : List ℕ) (end k here : ℕ) (x : Passing s end k here) where
  -- all records are passed
  pub passed_all : end ≤ here → Reaches s k here
  passed_all l =
      let t = total_at k x.least x.behind x.recs x.order in
      record { store = x.store; is = x.is; at = omega (arith, x.sum, x.last, t) }

  -- the record that begins here
  pub record Next : Type 0 where
    pub rec : Rec
    pub after : List Rec
    pub recs : x.recs ≡ rec ∷ after
    pub rest : split (drop (size_of rec) (drop here s)) ≡ some after
    pub told : Told s here rec

  pub next : here < end → Next
  unfolding total
  next l = go x.recs refl
    where
      go : (rs : List Rec) → x.recs ≡ rs → Next
      go [] e = absurd (omega (arith, x.last, ap total e))
      go (r ∷ ts) e = let q : split (drop here s) ≡ some (r ∷ ts) = x.rest ∙ ap some e in
          record { rec = r; after = ts; recs = e; rest = (split_rest (drop here s) r ts q).1; told = told_first s here r ts q }

  module _ (d : Next) where
    order_of : Sorted x.least x.behind d.rec d.after
    order_of = sorted_inv x.least x.behind d.rec d.after (rw d.recs at x.order)

    -- its key is not lower
    pub stopped : k ≤ key_at s here → Reaches s k here
    unfolding total
    stopped l =
        let q = d.told.key in
        let n : below k (d.rec ∷ d.after) ≡ [] = below_out k d.rec d.after (omega (arith, l, q)) ∙ none_below k (key d.rec + 1) (owner_after x.behind d.rec) d.after order_of.rest (omega (arith, l, q)) in
        let z : total (below k x.recs) ≡ 0 = ap (λ (l : List Rec). total (below k l)) d.recs ∙ ap total n in
        record { store = x.store; is = x.is; at = omega (arith, x.sum, z) }

    -- its key is lower: on behind it
    pub passed_one : key_at s here < k → Passing s end k (here + field 4 here s)
    unfolding total
    passed_one l =
        let q = d.told.key in
        let len = d.told.len in
        let n : below k (d.rec ∷ d.after) ≡ d.rec ∷ below k d.after = below_in k d.rec d.after (omega (arith, l, q)) in
        let z : total (below k x.recs) ≡ size_of d.rec + total (below k d.after) = ap (λ (l : List Rec). total (below k l)) d.recs ∙ ap total n in
        let y : total x.recs ≡ size_of d.rec + total d.after = ap total d.recs in
        record {
          store = x.store;
          is = x.is;
          small = x.small;
          recs = d.after;
          rest = ap (λ (y : ℕ). split (drop (here + y) s)) (sym len) ∙ ap split (sym (drop-drop (size_of d.rec) here s)) ∙ d.rest;
          least = key d.rec + 1;
          behind = owner_after x.behind d.rec;
          order = order_of.rest;
          sum = omega (arith, x.sum, z, len);
          last = omega (arith, x.last, y, len);
        }

-- ── where a search may begin
module _ (s : List ℕ) (c : Cursor) (x : Points s c) where
  pub from_here : (k : ℕ) → c.key ≤ k → Seeking s c.used k c.at
  from_here k l = record { store = x.store; is = x.is; used = x.used; base = c.key; low = l; at = x.at }

  pub ends_there : StoreEnds s c.used
  ends_there = record { store = x.store; is = x.is; used = x.used }

module _ (s : List ℕ) (end : ℕ) (x : StoreEnds s end) where
  pub from_front : (k : ℕ) → Seeking s end k mark_record
  unfolding total
  from_front k =
      let z : total (below 0 x.store.recs) ≡ 0 = ap total (none_below 0 0 no_owner x.store.recs (decoded s x.store x.is).2 (omega arith)) in
      record { store = x.store; is = x.is; used = x.used; base = 0; low = omega arith; at = omega (arith, z) }

  pub from_found : (j k here : ℕ) → Reaches s j here → j ≤ k → Seeking s end k here
  from_found j k here y l =
      let i : y.store ≡ x.store = same_store s y.is x.is in
      record { store = x.store; is = x.is; used = x.used; base = j; low = l; at = rw i at y.at }

  -- the four places, each found
  pub four : (n p lo from to hi : ℕ) → Reaches s (key_of n 0) lo → Reaches s (key_of n p) from → Reaches s (key_of n p + 1) to → Reaches s (key_of (n + 1) 0) hi
      → Stands n p s (record { used = end; lo = lo; from = from; to = to; hi = hi })
  four n p lo from to hi a b d e =
      let rs = x.store.recs in
      let at : (k here : ℕ) → Reaches s k here → mark_record + total (below k rs) ≡ here = λ k here y. let i : y.store ≡ x.store = same_store s y.is x.is in sym (rw i at y.at) in
      let a' : mark_record + total (below (key_of n 0) rs) ≡ lo = at (key_of n 0) lo a in
      let b' : mark_record + total (below (key_of n p) rs) ≡ from = at (key_of n p) from b in
      let d' : mark_record + total (below (key_of n p + 1) rs) ≡ to = at (key_of n p + 1) to d in
      let e' : mark_record + total (below (key_of (n + 1) 0) rs) ≡ hi = at (key_of (n + 1) 0) hi e in
      record { store = x.store; is = x.is; at = rw (a', b', d', e', ← x.used) }

-- ── behind the last key
key_up : (j : ℕ) (u : Owner) (rs : List Rec) → sorted j u rs ≡ true → j ≤ key_after j rs
unfolding key_after
key_up j u [] e = omega arith
key_up j u (r ∷ rs) e =
    let w = sorted_inv j u r rs e in
    omega (arith, w.least, key_up (key r + 1) (owner_after u r) rs w.rest)

all_below : (k j : ℕ) (u : Owner) (rs : List Rec) → sorted j u rs ≡ true → key_after j rs ≤ k → below k rs ≡ rs
unfolding key_after
all_below k j u [] e l = unfold keep in refl
all_below k j u (r ∷ rs) e l =
    let w = sorted_inv j u r rs e in
    below_in k r rs (omega (arith, key_up (key r + 1) (owner_after u r) rs w.rest)) ∙ ap (λ (x : List Rec). r ∷ x) (all_below k (key r + 1) (owner_after u r) rs w.rest l)

pub reached_end : (s : List ℕ) (end least k : ℕ) → Behind s end least → least ≤ k → Reaches s k end
reached_end s end least k x l =
    let y = x.ends in
    let e : total (below k y.store.recs) ≡ total y.store.recs = ap total (all_below k 0 no_owner y.store.recs (decoded s y.store y.is).2 (omega (arith, x.last))) in
    record { store = y.store; is = y.is; at = omega (arith, y.used, e) }

-- ── what a check leaves: the last font up to one, and the last record
none_total : (j : ℕ) (u : Owner) (r : Rec) (rs : List Rec) → sorted j u (r ∷ rs) ≡ true → total (below (key r) (r ∷ rs)) ≡ 0
unfolding total
none_total j u r rs e = ap total (below_out (key r) r rs (omega arith) ∙ none_below (key r) (key r + 1) (owner_after u r) rs (sorted_inv j u r rs e).rest (omega arith))

more_total : (k : ℕ) (r : Rec) (rs : List Rec) → key r < k → total (below k (r ∷ rs)) ≡ size_of r + total (below k rs)
unfolding total
more_total k r rs l = ap total (below_in k r rs l)

-- from a place that was known before, or that of some key up to font n's
data Nearby (n near at j value : ℕ) (rs : List Rec) : Type 0 where
  before_all : value ≡ near → Nearby n near at j value rs
  at_key : (base : ℕ) → j ≤ base → base ≤ key_of n 0 → value ≡ at + total (below base rs) → Nearby n near at j value rs

nearby_more : (n near near' at j value : ℕ) (u : Owner) (r : Rec) (rs : List Rec) → sorted j u (r ∷ rs) ≡ true
    → (value ≡ near' → Nearby n near at j value (r ∷ rs)) → Nearby n near' (at + size_of r) (key r + 1) value rs → Nearby n near at j value (r ∷ rs)
nearby_more n near near' at j value u r rs e f (before_all q) = f q
nearby_more n near near' at j value u r rs e f (at_key base l h q) =
    at_key base (omega (arith, (sorted_inv j u r rs e).least)) h (omega (arith, q, more_total base r rs (omega arith)))

nearby : (n near at j : ℕ) (u : Owner) (rs : List Rec) → sorted j u rs ≡ true → Nearby n near at j (near_after n near at rs) rs
unfolding near_after nearer
nearby n near at j u [] e = before_all refl
nearby n near at j u (r ∷ rs) e =
    step (eqb (place r) 0) refl (leb (number r) n) refl (λ near'. nearby n near' (at + size_of r) (key r + 1) (owner_after u r) rs (sorted_inv j u r rs e).rest)
  where
    here : place r ≡ 0 → number r ≤ n → (value : ℕ) → value ≡ at → Nearby n near at j value (r ∷ rs)
    here z l value q = at_key (key r) (sorted_inv j u r rs e).least (omega arith) (omega (arith, q, none_total j u r rs e))

    step : (b : Bool) → eqb (place r) 0 ≡ b → (c : Bool) → leb (number r) n ≡ c
        → ((near' : ℕ) → Nearby n near' (at + size_of r) (key r + 1) (near_after n near' (at + size_of r) rs) rs)
        → Nearby n near at j (near_after n (nearer n (number r) (place r) at near) (at + size_of r) rs) (r ∷ rs)
    step true p true q on = rw (p, q) (nearby_more n near at at j _ u r rs e (here (eqb-true _ _ p) (leb-true _ _ q) _) (on at))
    step true p false q on = rw (p, q) (nearby_more n near near at j _ u r rs e before_all (on near))
    step false p c q on = rw p (nearby_more n near near at j _ u r rs e before_all (on near))

last_of : (last at j : ℕ) (u : Owner) (r : Rec) (rs : List Rec) → sorted j u (r ∷ rs) ≡ true → last_after last at (r ∷ rs) ≡ at + total (below (key_after j (r ∷ rs) - 1) (r ∷ rs))
unfolding last_after key_after
last_of last at j u r [] e =
    let k : key r + 1 - 1 ≡ key r = omega arith in
    rw k (omega (arith, none_total j u r [] e))
last_of last at j u r (x ∷ ys) e =
    let w = sorted_inv j u r (x ∷ ys) e in
    let v = sorted_inv (key r + 1) (owner_after u r) x ys w.rest in
    let d = more_total (key_after (key x + 1) ys - 1) r (x ∷ ys) (omega (arith, v.least, key_up (key x + 1) (owner_after (owner_after u r) x) ys v.rest)) in
    last_of at (at + size_of r) (key r + 1) (owner_after u r) x ys w.rest ∙ omega (arith, d)

module _ (n : ℕ) (s : List ℕ) (e : RunEnd) (x : EndKnown n s e) where
  order : sorted 0 no_owner x.store.recs ≡ true
  order = (decoded s x.store x.is).2

  ends_so : StoreEnds s e.used
  ends_so = record { store = x.store; is = x.is; used = ap (λ (y : RunEnd). y.used) x.end }

  pub behind_it : Behind s e.used e.least
  behind_it = record { ends = record { store = x.store; is = x.is; used = ap (λ (y : RunEnd). y.used) x.end }; last = ap (λ (y : RunEnd). y.least) x.end }

  pub from_near : Seeking s e.used (key_of n 0) e.near
  from_near = go (nearby n mark_record mark_record 0 no_owner x.store.recs order)
    where
      v : e.near ≡ near_after n mark_record mark_record x.store.recs
      v = ap (λ (y : RunEnd). y.near) x.end

      go : Nearby n mark_record mark_record 0 (near_after n mark_record mark_record x.store.recs) x.store.recs → Seeking s e.used (key_of n 0) e.near
      go (before_all q) = rw (v ∙ q) (from_front s e.used ends_so (key_of n 0))
      go (at_key base l h q) = record { store = x.store; is = x.is; used = ap (λ (y : RunEnd). y.used) x.end; base = base; low = h; at = v ∙ q }

  pub last_reached : (k : ℕ) → k + 1 ≡ e.least → Reaches s k e.last
  last_reached k l = go x.store.recs refl
    where
      v : e.last ≡ last_after 0 mark_record x.store.recs
      v = ap (λ (y : RunEnd). y.last) x.end

      u : e.least ≡ key_after 0 x.store.recs
      u = ap (λ (y : RunEnd). y.least) x.end

      go : (rs : List Rec) → x.store.recs ≡ rs → Reaches s k e.last
      go [] q = unfold key_after in absurd (omega (arith, l, u ∙ ap (key_after 0) q))
      go (r ∷ rs) q =
          let z : k ≡ key_after 0 (r ∷ rs) - 1 = omega (arith, l, u ∙ ap (key_after 0) q) in
          let y : e.last ≡ mark_record + total (below k (r ∷ rs)) = v ∙ ap (last_after 0 mark_record) q ∙ last_of 0 mark_record 0 no_owner r rs (rw q at order) ∙ rw z in
          record { store = x.store; is = x.is; at = rw q y }
