-- The records of a store by their places. Assumes nothing.
use mathlib.Core.Path.{◌≡◌, refl, sym, ap, ◌∙◌, subst}
use Rattle.std.specs.Prelude.{Some}
use mathlib.Core.List.{List, [], ◌∷◌, ◌++◌, append_assoc}
use mathlib.Core.Bool.{Bool, true, false, cond}
use mathlib.Core.Option.{Option, none, some}
use Prim.Native.Nat.{ℕ, ◌+◌, ◌-◌, ◌<◌, ◌≤◌}
use native.Mathlib.Omega.{arith}
use lib.ListN.{length, take, drop, length-take, length-drop}
use lib.Seq.{drop-drop}
use Rattle.form.specs.Layout.{kind_at, number_at, mark_record, least_store, font_kind, font_record, font_kept_at, character_record, character_kept_at, code_at}
use Rattle.form.specs.Num.{field, all_zero}
use Rattle.form.specs.Model.{Rec, font_in, character_in, Store, owner_after, no_owner, allowed, sorted, key, head_rec, size_of, total, and_then, split, tally_of, counted, mark_in, decode, valid_or}
use Rattle.form.specs.Records.{is_store, records_in, records_at, RecordPlace, Begun, MetAt, font_from, FontMet, character_from, CharacterMet}
use Rattle.form.proofs.Numbers.{zeros_field, both_l, both_r}
use Rattle.form.proofs.Fields.{field_drop}
use Rattle.form.proofs.RecordBytes.{zero_head, Headed, is_font_lem, is_character, head_inv, guard_test, guard_is, allowed_char, allowed_font, kept_sides}
use Rattle.form.proofs.Codec.{sorted_inv, split_eq, cons_to_some, store_of, begins_parts}
use Rattle.form.proofs.Totals.{total_append}

-- ── what stands at a place of the run
pub data Standing (s : List ℕ) (rs : List Rec) : Type 0 where
  at_end : rs ≡ [] → all_zero s ≡ true → Standing s rs
  at_record : (r : Rec) (ts : List Rec) → rs ≡ r ∷ ts → head_rec s ≡ some r → split (drop (size_of r) s) ≡ some ts → Standing s rs

pub stands_at : (s : List ℕ) (rs : List Rec) → split s ≡ some rs → Standing s rs
stands_at s rs e = zero? (all_zero s) refl (sym (split_eq s) ∙ e)
  where
    head? : (o : Option Rec) → head_rec s ≡ o → and_then o (λ r. split (drop (size_of r) s)) ≡ some rs → Standing s rs
    head? none q e' = unfold and_then in let z : ◌≡◌ {A = ℕ} 0 1 = cc in absurd (omega arith)
    head? (some r) q e' = let w = cons_to_some r (split (drop (size_of r) s)) rs (unfold and_then in e') in at_record r w.0 (sym w.2) q w.1

    zero? : (b : Bool) → all_zero s ≡ b → cond b (some []) (and_then (head_rec s) (λ r. split (drop (size_of r) s))) ≡ some rs → Standing s rs
    zero? true q e' = at_end (cc) q
    zero? false q e' = head? (head_rec s) refl e'

pub headed_size : (s : List ℕ) (r : Rec) → Headed s r → (character_record ≤ length s) × (size_of r ≤ length s) × (0 < size_of r)
unfolding size_of
headed_size s r (is_font_lem x) = omega arith
headed_size s r (is_character f k l) =
    let m : length (take (field 4 0 s - character_record) (drop character_record s)) ≡ field 4 0 s - character_record = simp (length-take, length-drop) (omega arith) in
    omega arith

-- the place behind a record
place_next : (s : List ℕ) (at : ℕ) (p : RecordPlace s at) (r : Rec) (ts : List Rec) → p.recs ≡ r ∷ ts → head_rec (drop at s) ≡ some r → split (drop (size_of r) (drop at s)) ≡ some ts → RecordPlace s (at + size_of r)
place_next s at p r ts e h q =
    let w = headed_size (drop at s) r (head_inv (drop at s) r h) in
    let o : sorted p.least p.behind (r ∷ ts) ≡ true = rw e at p.order in
    record {
      within = omega (arith, w.1, length-drop at s, p.within);
      recs = ts;
      is = rw (← (drop-drop (size_of r) at s)) q;
      least = key r + 1;
      behind = owner_after p.behind r;
      order = (sorted_inv p.least p.behind r ts o).rest;
      before = p.before ++ (r ∷ []);
      all = p.all ∙ rw (e, append_assoc p.before (r ∷ []) ts);
      sum = unfold total in omega (arith, p.sum, total_append p.before (r ∷ []));
    }

pub char_size : (s : List ℕ) → field 4 0 s ≤ length s → character_record ≤ field 4 0 s → size_of (character_in s) ≡ field 4 0 s
unfolding size_of
char_size s f b = simp (length-take, length-drop) (omega arith)

-- a record that is read at a place
font_in_at : (s : List ℕ) (at : ℕ) → font_in (drop at s) ≡ font_from s (field 2 (at + number_at) s) (at + font_kept_at)
font_in_at s at = rw (drop-drop number_at at s, drop-drop font_kept_at at s)

character_in_at : (s : List ℕ) (at : ℕ) → character_in (drop at s) ≡ character_from s (field 2 (at + number_at) s) (field 2 (at + code_at) s) (at + character_kept_at) (at + character_record) (at + field 4 at s)
character_in_at s at =
    let e : at + field 4 at s - (at + character_record) ≡ field 4 at s - character_record = omega arith in
    rw (drop-drop number_at at s, drop-drop code_at at s, drop-drop character_kept_at at s, drop-drop character_record at s, e)

module _ (s : List ℕ) (at : ℕ) (p : RecordPlace s at) where
  pub records_are : (rs : List Rec) → p.recs ≡ rs → records_at s at ≡ rs
  unfolding records_at
  records_are rs e = rw (p.is, e)

  pub records_short : length s - at < character_record → records_at s at ≡ []
  records_short l = go (stands_at (drop at s) p.recs p.is)
    where
      go : Standing (drop at s) p.recs → records_at s at ≡ []
      go (at_end e z) = records_are [] e
      go (at_record r ts e h q) = absurd (omega (arith, headed_size (drop at s) r (head_inv (drop at s) r h), length-drop at s))

  pub records_zero : field 4 at s ≡ 0 → records_at s at ≡ []
  records_zero x = go (stands_at (drop at s) p.recs p.is)
    where
      go : Standing (drop at s) p.recs → records_at s at ≡ []
      go (at_end e z) = records_are [] e
      go (at_record r ts e h q) = let z : none ≡ some r = sym (zero_head (drop at s) x) ∙ h in let y : ◌≡◌ {A = ℕ} 0 1 = cc in absurd (omega arith)

  -- where records stand, there is room for one, and its length is not 0
  pub record_room : (records_at s at ≡ [] → ⊥) → at + character_record ≤ length s
  record_room some-here = go (stands_at (drop at s) p.recs p.is)
    where
      go : Standing (drop at s) p.recs → at + character_record ≤ length s
      go (at_end e z) = absurd (some-here (records_are [] e))
      go (at_record r ts e h q) = omega (arith, p.within, headed_size (drop at s) r (head_inv (drop at s) r h), length-drop at s)

  pub record_here : (field 4 at s ≡ 0 → ⊥) → records_at s at ≡ [] → ⊥
  record_here x e = go (stands_at (drop at s) p.recs p.is)
    where
      go : Standing (drop at s) p.recs → ⊥
      go (at_end e' z) = x (zeros_field 4 (drop at s) z)
      go (at_record r ts e' h q) = let z : [] ≡ r ∷ ts = sym e ∙ records_are (r ∷ ts) e' in let y : ◌≡◌ {A = ℕ} 0 1 = ap length z ∙ cc in absurd (omega arith)

  -- a record, and those behind it
  met_at : (r : Rec) (ts : List Rec) → p.recs ≡ r ∷ ts → head_rec (drop at s) ≡ some r → split (drop (size_of r) (drop at s)) ≡ some ts → MetAt s at r (at + size_of r)
  unfolding records_at
  met_at r ts e h q =
      let k = place_next s at p r ts e h q in
      let q' : split (drop (at + size_of r) s) ≡ some ts = rw (← (drop-drop (size_of r) at s)) q in
      let n : records_at s (at + size_of r) ≡ ts = rw q' in
      record { records = records_are (r ∷ ts) e ∙ ap (λ (l : List Rec). r ∷ l) (sym n); place = k; size = refl; ahead = omega (arith, headed_size (drop at s) r (head_inv (drop at s) r h)); within = k.within }

  -- the first of the records from there on stands there
  pub met_first : (r : Rec) (ts : List Rec) → records_at s at ≡ r ∷ ts → MetAt s at r (at + size_of r)
  met_first r ts e = go (stands_at (drop at s) p.recs p.is)
    where
      go : Standing (drop at s) p.recs → MetAt s at r (at + size_of r)
      go (at_end e' z) = let x : [] ≡ r ∷ ts = sym (records_are [] e') ∙ e in let y : ◌≡◌ {A = ℕ} 0 1 = ap length x ∙ cc in absurd (omega arith)
      go (at_record r' ts' e' h q) =
          let x : r' ∷ ts' ≡ r ∷ ts = sym (records_are (r' ∷ ts') e') ∙ e in
          let i : r' ≡ r = cc in
          subst (λ (y : Rec). MetAt s at y (at + size_of y)) i (met_at r' ts' e' h q)

  allowed_here : (r : Rec) (ts : List Rec) → p.recs ≡ r ∷ ts → allowed p.behind r ≡ true
  allowed_here r ts e = let o : sorted p.least p.behind (r ∷ ts) ≡ true = rw e at p.order in (sorted_inv p.least p.behind r ts o).ok

  abbrev font_here : Rec
  font_here = font_from s (field 2 (at + number_at) s) (at + font_kept_at)

  font_is : (ts : List Rec) → p.recs ≡ font_here ∷ ts → head_rec (drop at s) ≡ some font_here → split (drop (size_of font_here) (drop at s)) ≡ some ts → FontMet s at (field 2 (at + number_at) s) (at + font_kept_at) (at + font_record)
  unfolding size_of
  font_is ts e h q =
      let a = allowed_font p.behind _ _ (allowed_here font_here ts e) in
      let m : MetAt s at font_here (at + font_record) = met_at font_here ts e h q in
      record { met = m; low = a.0; here = refl; room = omega (arith, m.within); header = a.1 }

  pub font_met : (field 4 at s ≡ 0 → ⊥) → field 2 (at + kind_at) s ≡ font_kind → FontMet s at (field 2 (at + number_at) s) (at + font_kept_at) (at + font_record)
  font_met x k = go (stands_at (drop at s) p.recs p.is)
    where
      by : (r : Rec) (ts : List Rec) → Headed (drop at s) r → p.recs ≡ r ∷ ts → head_rec (drop at s) ≡ some r → split (drop (size_of r) (drop at s)) ≡ some ts → FontMet s at (field 2 (at + number_at) s) (at + font_kept_at) (at + font_record)
      by r ts (is_font_lem y) e h q =
          let i = font_in_at s at in
          font_is ts (e ∙ ap (λ (y : Rec). y ∷ ts) i) (h ∙ ap some i) (ap (λ (y : Rec). split (drop (size_of y) (drop at s))) (sym i) ∙ q)
      by r ts (is_character f a b) e h q = absurd (omega (arith, field_drop 2 kind_at at s))

      go : Standing (drop at s) p.recs → FontMet s at (field 2 (at + number_at) s) (at + font_kept_at) (at + font_record)
      go (at_end e z) = absurd (x (zeros_field 4 (drop at s) z))
      go (at_record r ts e h q) = by r ts (head_inv (drop at s) r h) e h q

  abbrev character_here : Rec
  character_here = character_from s (field 2 (at + number_at) s) (field 2 (at + code_at) s) (at + character_kept_at) (at + character_record) (at + field 4 at s)

  abbrev Passed : Type 0
  Passed = CharacterMet s at (field 2 (at + number_at) s) (field 2 (at + code_at) s) (at + character_kept_at) (at + character_record) (at + field 4 at s)

  character_is : (ts : List Rec) → character_record ≤ field 4 at s → size_of character_here ≡ field 4 at s → p.recs ≡ character_here ∷ ts → head_rec (drop at s) ≡ some character_here
      → split (drop (size_of character_here) (drop at s)) ≡ some ts → Passed
  character_is ts b z e h q =
      let a = allowed_char p.behind _ _ _ _ (allowed_here character_here ts e) in
      let m : MetAt s at character_here (at + field 4 at s) = subst (λ (y : ℕ). MetAt s at character_here (at + y)) z (met_at character_here ts e h q) in
      record {
        met = m;
        low = a.low;
        code = a.code;
        join = omega arith;
        last = omega arith;
        orientation = p.behind.orientation;
        descriptor = a.kept;
        held = a.whole;
        wide = (kept_sides _ _ a.kept).0;
      }

  pub character_met : (field 4 at s ≡ 0 → ⊥) → (field 2 (at + kind_at) s ≡ font_kind → ⊥) → Passed
  character_met x k = go (stands_at (drop at s) p.recs p.is)
    where
      by : (r : Rec) (ts : List Rec) → Headed (drop at s) r → p.recs ≡ r ∷ ts → head_rec (drop at s) ≡ some r → split (drop (size_of r) (drop at s)) ≡ some ts → Passed
      by r ts (is_font_lem y) e h q = absurd (k (sym (field_drop 2 kind_at at s) ∙ y.kind))
      by r ts (is_character f a b) e h q =
          let i = character_in_at s at in
          let z : size_of character_here ≡ field 4 at s = ap size_of (sym i) ∙ char_size (drop at s) f b in
          character_is ts b z (e ∙ ap (λ (y : Rec). y ∷ ts) i) (h ∙ ap some i) (ap (λ (y : Rec). split (drop (size_of y) (drop at s))) (sym i) ∙ q)

      go : Standing (drop at s) p.recs → Passed
      go (at_end e z) = absurd (x (zeros_field 4 (drop at s) z))
      go (at_record r ts e h q) = by r ts (head_inv (drop at s) r h) e h q

-- ── the beginning
-- the parts of a decoded store
pub decoded : (s : List ℕ) (st : Store) → decode s ≡ some st
    → (least_store ≤ length s) × (split (drop mark_record s) ≡ some st.recs) × (sorted 0 no_owner st.recs ≡ true) × (counted (tally_of st.recs) (drop mark_record s) st.recs ≡ true)
unfolding decode valid_or
decoded s st e = go (split (drop mark_record s)) refl (guard_is _ _ st e)
  where
    go : (o : Option (List Rec)) → split (drop mark_record s) ≡ o → valid_or (length s) (mark_in s) (drop mark_record s) o ≡ some st
        → (least_store ≤ length s) × (split (drop mark_record s) ≡ some st.recs) × (sorted 0 no_owner st.recs ≡ true) × (counted (tally_of st.recs) (drop mark_record s) st.recs ≡ true)
    go none q e' = let z : ◌≡◌ {A = ℕ} 0 1 = cc in absurd (omega arith)
    go (some rs) q e' =
        let i : store_of s rs ≡ st = cc (guard_is _ _ st e') in
        let j : rs ≡ st.recs = ap (λ (x : Store). x.recs) i in
        ((begins_parts s (guard_test _ _ st e)).0, rw (← j) q, rw (← j) (both_l _ _ (both_l _ _ (guard_test _ _ st e'))), rw (← j) (both_r _ _ (both_l _ _ (guard_test _ _ st e'))))

pub begun : (s : List ℕ) (st : Store) → decode s ≡ some st → Begun s (Some mark_record)
unfolding is_store records_in records_at total
begun s st e =
    let d = decoded s st e in
    (rw e, record { within = d.0; recs = st.recs; is = d.1; least = 0; behind = no_owner; order = d.2; before = []; all = rw e; sum = refl }, rw (d.1, e))

pub not_begun : (s : List ℕ) → decode s ≡ none → is_store s ≡ false
unfolding is_store
not_begun s e = rw e
