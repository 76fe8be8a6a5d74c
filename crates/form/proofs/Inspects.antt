-- What the inspection of a buffer answers, by its first record and the walk over the others. Assumes nothing.
use mathlib.Core.Path.{◌≡◌, refl, ap, ◌∙◌}
use Rattle.std.specs.Prelude.{Some, None}
use mathlib.Core.List.{List}
use mathlib.Core.Bool.{Bool, true, false, not, cond, ◌||◌}
use mathlib.Core.Option.{Option, none, some}
use Prim.Native.Nat.{ℕ, ◌+◌, ◌<◌, ◌≤◌}
use native.Mathlib.Omega.{arith}
use lib.ListN.{length, drop}
use lib.Dec.{eqb, leb}
use borrow.Author.Tests.{eqb-true, le-leb, lt-leb, ne_eqb}
use Rattle.form.specs.Layout.{key_of, kind_at, last_code, last_font, least_store, mark_record, most_store, mark_kind}
use Rattle.form.specs.Num.{◌and◌, field}
use Rattle.form.specs.Model.{Rec, Mark, no_owner, Store, sorted, no_characters, tally_of, counted, opened, mark_ok, only_if, split, mark_in, begins, valid_or, decode}
use Rattle.form.specs.Cursor.{EndKnown}
use Rattle.form.proofs.Counts.{settled_counted}
use Rattle.form.specs.Walk.{Walked, walk_start, tallied, end_of, walked_over, walked, mark_seen, surveyed_over, surveyed, checked_store, inspected, Stands}
use Rattle.form.specs.declared.walk.Places.{Places}
use Rattle.form.specs.declared.walk.RunEnd.{RunEnd}
use Rattle.form.specs.declared.walk.MarkSeen.{MarkSeen}
use Rattle.form.specs.declared.walk.MarkSeen.TheVariants.{Shut, Open, Wrong}

-- ── the first record
module _ (s : List ℕ) where
  pub begins_short : length s < least_store → begins s ≡ false
  unfolding begins ◌and◌
  begins_short l = rw (lt-leb least_store (length s) l)

  pub begins_long : least_store ≤ length s → most_store < length s → begins s ≡ false
  unfolding begins ◌and◌
  begins_long a l = rw (le-leb least_store (length s) a, lt-leb (length s) most_store l)

  pub begins_len : least_store ≤ length s → length s ≤ most_store → (field 4 0 s ≡ mark_record → ⊥) → begins s ≡ false
  unfolding begins ◌and◌
  begins_len a b n = rw (le-leb least_store (length s) a, le-leb (length s) most_store b, ne_eqb (field 4 0 s) mark_record n)

  pub begins_is : least_store ≤ length s → length s ≤ most_store → field 4 0 s ≡ mark_record → begins s ≡ eqb (field 2 kind_at s) mark_kind
  unfolding begins ◌and◌
  begins_is a b n = rw (le-leb least_store (length s) a, le-leb (length s) most_store b, n)

module _ (m : Mark) where
  pub seen_shut : m.on ≡ 0 → m.font_of ≡ 0 → m.code_of ≡ 0 → mark_seen m ≡ Shut
  unfolding mark_seen ◌and◌
  seen_shut a b c = rw (a, b, c)

  pub seen_zero : m.on ≡ 0 → 0 < m.font_of + m.code_of → mark_seen m ≡ Wrong
  unfolding mark_seen ◌and◌
  seen_zero a l = rw a (go (eqb m.font_of 0) refl)
    where
      go : (b : Bool) → eqb m.font_of 0 ≡ b → cond (b and eqb m.code_of 0) Shut Wrong ≡ Wrong
      go true q = let z : m.font_of ≡ 0 = eqb-true _ _ q in rw (ne_eqb m.code_of 0 (λ e. omega arith))
      go false q = refl

  pub seen_on : (m.on ≡ 0 → ⊥) → (m.on ≡ 1 → ⊥) → mark_seen m ≡ Wrong
  unfolding mark_seen ◌and◌
  seen_on a b = rw (ne_eqb m.on 0 a, ne_eqb m.on 1 b)

  pub seen_font : m.on ≡ 1 → last_font < m.font_of → mark_seen m ≡ Wrong
  unfolding mark_seen ◌and◌
  seen_font a l = rw (a, lt-leb m.font_of last_font l)

  pub seen_code : m.on ≡ 1 → m.font_of ≤ last_font → last_code < m.code_of → mark_seen m ≡ Wrong
  unfolding mark_seen ◌and◌
  seen_code a b l = rw (a, le-leb m.font_of last_font b, lt-leb m.code_of last_code l)

  pub seen_open : m.on ≡ 1 → m.font_of ≤ last_font → m.code_of ≤ last_code → mark_seen m ≡ Open (key_of m.font_of (m.code_of + 1))
  unfolding mark_seen ◌and◌
  seen_open a b c = rw (a, le-leb m.font_of last_font b, le-leb m.code_of last_code c)

-- ── the records
module _ (n m : ℕ) (must : Bool) (s : List ℕ) where
  surveyed_some : (rs : List Rec) (u : RunEnd) (k : Bool) → walked_over n m walk_start s (some rs) ≡ Some (u, k) → surveyed_over n m must s (some rs) ≡ cond (not must || k) (Some u) None
  unfolding walked_over surveyed_over ◌and◌
  surveyed_some rs u k e = rw (← (settled_counted s rs)) (go (sorted 0 no_owner rs and tallied no_characters no_characters s rs) e)
    where
      go : (b : Bool) → cond {A = Walked} b (Some (end_of n walk_start rs, opened m rs)) None ≡ Some (u, k)
          → cond (b and (not must || opened m rs)) (Some (end_of n walk_start rs)) None ≡ cond (not must || k) (Some u) None
      go true e' =
          let q : ◌≡◌ {A = RunEnd × Bool} (end_of n walk_start rs, opened m rs) (u, k) = cc in
          let a : end_of n walk_start rs ≡ u = ap (λ (t : RunEnd × Bool). t.0) q in
          let b : opened m rs ≡ k = ap (λ (t : RunEnd × Bool). t.1) q in
          rw (← b, ← a)
      go false e' = let z : ◌≡◌ {A = ℕ} 0 1 = cc in absurd (omega arith)

  surveyed_none : (rs : List Rec) → walked_over n m walk_start s (some rs) ≡ None → surveyed_over n m must s (some rs) ≡ None
  unfolding walked_over surveyed_over ◌and◌
  surveyed_none rs e = rw (← (settled_counted s rs)) (go (sorted 0 no_owner rs and tallied no_characters no_characters s rs) e)
    where
      go : (b : Bool) → cond {A = Walked} b (Some (end_of n walk_start rs, opened m rs)) None ≡ None → cond (b and (not must || opened m rs)) (Some (end_of n walk_start rs)) None ≡ None
      go true e' = let z : ◌≡◌ {A = ℕ} 0 1 = cc in absurd (omega arith)
      go false e' = refl

  pub surveyed_run : (u : RunEnd) (k : Bool) → walked n m walk_start s ≡ Some (u, k) → surveyed n m must s ≡ cond (not must || k) (Some u) None
  surveyed_run u k e = go (split s) e
    where
      go : (o : Option (List Rec)) → walked_over n m walk_start s o ≡ Some (u, k) → surveyed_over n m must s o ≡ cond (not must || k) (Some u) None
      go none e' = unfold walked_over in let z : ◌≡◌ {A = ℕ} 0 1 = cc in absurd (omega arith)
      go (some rs) e' = surveyed_some rs u k e'

  pub surveyed_broken : walked n m walk_start s ≡ None → surveyed n m must s ≡ None
  surveyed_broken e = go (split s) e
    where
      go : (o : Option (List Rec)) → walked_over n m walk_start s o ≡ None → surveyed_over n m must s o ≡ None
      go none e' = unfold surveyed_over in refl
      go (some rs) e' = surveyed_none rs e'

-- ── both together
abbrev ok_by : MarkSeen → List Rec → Bool
ok_by Shut rs = true
ok_by (Open k) rs = opened k rs
ok_by Wrong rs = false

mark_by : (m : Mark) (rs : List Rec) → mark_ok m rs ≡ ok_by (mark_seen m) rs
unfolding mark_ok mark_seen
mark_by m rs = go (eqb m.on 0) (eqb m.font_of 0 and eqb m.code_of 0) (eqb m.on 1) (leb m.font_of last_font) (leb m.code_of last_code)
  where
    go : (a b c d e : Bool)
        → cond a b (c and d and e and opened (key_of m.font_of (m.code_of + 1)) rs)
        ≡ ok_by (cond a (cond b Shut Wrong) (cond (c and d and e) (Open (key_of m.font_of (m.code_of + 1))) Wrong)) rs
    go true true c d e = refl
    go true false c d e = refl
    go false b true true true = unfold ◌and◌ in refl
    go false b true true false = unfold ◌and◌ in refl
    go false b true false e = unfold ◌and◌ in refl
    go false b false d e = unfold ◌and◌ in refl

module _ (n : ℕ) (s : List ℕ) where
  pub check_not : begins s ≡ false → checked_store n (decode s) ≡ None
  unfolding decode only_if checked_store
  check_not e = rw e

  abbrev records : List ℕ
  records = drop mark_record s

  check_by : begins s ≡ true → checked_store n (decode s) ≡ checked_store n (valid_or (length s) (mark_in s) records (split records))
  unfolding decode only_if
  check_by e = rw e

  pub check_wrong : begins s ≡ true → mark_seen (mark_in s) ≡ Wrong → checked_store n (decode s) ≡ None
  check_wrong e w = check_by e ∙ go (split records)
    where
      go : (o : Option (List Rec)) → checked_store n (valid_or (length s) (mark_in s) records o) ≡ None
      go none = unfold valid_or checked_store in refl
      go (some rs) = unfold valid_or checked_store only_if in rw (mark_by (mark_in s) rs, w) (fail (sorted 0 no_owner rs and counted (tally_of rs) records rs) rs)
        where
          fail : (b : Bool) (rs : List Rec) → checked_store n (only_if (b and false) (some (record { size = length s; mark = mark_in s; recs = rs }))) ≡ None
          fail true rs = unfold ◌and◌ only_if checked_store in refl
          fail false rs = unfold ◌and◌ only_if checked_store in refl

  check_is : (m : ℕ) (must : Bool) → begins s ≡ true → ((rs : List Rec) → mark_ok (mark_in s) rs ≡ not must || opened m rs) → checked_store n (decode s) ≡ surveyed n m must records
  check_is m must e k = check_by e ∙ go (split records)
    where
      give : (b : Bool) (rs : List Rec) → checked_store n (only_if b (some (record { size = length s; mark = mark_in s; recs = rs }))) ≡ cond b (Some (end_of n walk_start rs)) None
      give true rs = unfold only_if checked_store in refl
      give false rs = unfold only_if checked_store in refl

      go : (o : Option (List Rec)) → checked_store n (valid_or (length s) (mark_in s) records o) ≡ surveyed_over n m must records o
      go none = unfold valid_or checked_store surveyed_over in refl
      go (some rs) = unfold valid_or surveyed_over in rw (k rs) (give ((sorted 0 no_owner rs and counted (tally_of rs) records rs) and (not must || opened m rs)) rs)

  pub check_shut : begins s ≡ true → mark_seen (mark_in s) ≡ Shut → checked_store n (decode s) ≡ surveyed n 0 false records
  check_shut e w = check_is 0 false e (λ rs. mark_by (mark_in s) rs ∙ rw w)

  pub check_open : (k : ℕ) → begins s ≡ true → mark_seen (mark_in s) ≡ Open k → checked_store n (decode s) ≡ surveyed n k true records
  check_open k e w = check_is k true e (λ rs. mark_by (mark_in s) rs ∙ rw w)

-- ── the places, by the check and the search behind it
pub not_checked : (n : ℕ) (s : List ℕ) → checked_store n (decode s) ≡ None → decode s ≡ none
not_checked n s e = go (decode s) refl e
  where
    go : (o : Option Store) → decode s ≡ o → checked_store n o ≡ None → decode s ≡ none
    go none q e' = q
    go (some st) q e' = unfold checked_store in let z : ◌≡◌ {A = ℕ} 0 1 = cc in absurd (omega arith)

pub inspect_not : (n p : ℕ) (s : List ℕ) → checked_store n (decode s) ≡ None → inspected n p (decode s) ≡ None
unfolding inspected
inspect_not n p s e = rw (not_checked n s e)

pub ends_by : (n : ℕ) (s : List ℕ) (e : RunEnd) → checked_store n (decode s) ≡ Some e → EndKnown n s e
ends_by n s u e = go (decode s) refl e
  where
    go : (o : Option Store) → decode s ≡ o → checked_store n o ≡ Some u → EndKnown n s u
    go none q e' = unfold checked_store in let z : ◌≡◌ {A = ℕ} 0 1 = cc in absurd (omega arith)
    go (some st) q e' = unfold checked_store in let a : u ≡ end_of n walk_start st.recs = cc in record { store = st; is = q; end = a }

pub inspect_found : (n p : ℕ) (s : List ℕ) (w : Places) → Stands n p s w → inspected n p (decode s) ≡ Some w
unfolding inspected
inspect_found n p s w x = rw x.is (ap Some x.at)
