-- The records that stand in a slice, one after the other. Assumes nothing.
use mathlib.Core.Path.{◌≡◌, refl, sym, ap, ◌∙◌, subst}
use mathlib.Core.List.{List, [], ◌∷◌, ◌++◌}
use mathlib.Core.Bool.{true}
use mathlib.Core.Option.{none, some}
use Prim.Native.Nat.{ℕ, ◌+◌, ◌-◌, ◌<◌, ◌≤◌}
use native.Mathlib.Omega.{arith}
use lib.ListN.{length, take, drop, length-take, length-drop}
use lib.Seq.{drop-drop, take-take}
use borrow.Author.Tests.{le-leb}
use Rattle.std.proofs.lemmas.List.{drop-take}
use Rattle.std.specs.Prelude.{Some}
use Rattle.std.specs.Iterator.{MakesProgress, item_count}
use Rattle.blocks.specs.Header.{header_bytes}
use Rattle.blocks.specs.Character.{descriptor_bytes}
use Rattle.form.specs.Layout.{kind_at, number_at, code_at, font_kind, font_record, font_kept_at, character_record, character_kept_at}
use Rattle.form.specs.Num.{field, all_zero}
use Rattle.form.specs.Model.{Rec, font, character, font_in, character_in, Owner, owner_after, allowed, sorted, key, only_if, head_rec, size_of, total, cons_to, split_in, split}
use Rattle.form.specs.Records.{records_at, RecordPlace, Between, RecordRun, run_records}
use Rattle.form.specs.RecordsLeft.{FontKept, CharacterKept, RunsOn, record_of, records_left, BytesIn, StoodFirst}
use Rattle.form.specs.declared.records.Record.{Record}
use Rattle.form.specs.declared.records.Records.{Records}
use Rattle.form.proofs.Numbers.{zeros_field}
use Rattle.form.proofs.RecordBytes.{zero_head, Headed, is_font_lem, is_character, head_inv, allowed_char, allowed_font, kept_sides}
use Rattle.form.proofs.Codec.{sorted_inv, sorted_cons}
use Rattle.form.proofs.Walks.{split_cons}
use Rattle.form.proofs.RecordRuns.{Standing, at_end, at_record, stands_at, headed_size}

-- ── the first record
pub record FontFirst (b : List ℕ) : Type 0 where
  pub len : field 4 0 b ≡ font_record
  pub fits : font_record ≤ length b
  pub records : run_records b ≡ font (field 2 number_at b) (take header_bytes (drop font_kept_at b)) ∷ run_records (drop font_record b)
  pub kept : FontKept (field 2 number_at b) (take header_bytes (drop font_kept_at b))
  pub rest : RecordRun (drop font_record b)

-- the kept bytes and the data of a character at the front
abbrev pub character_part : List ℕ → List ℕ
character_part b = take (field 4 0 b - character_kept_at) (drop character_kept_at b)

abbrev pub character_at_front : List ℕ → Rec
character_at_front b = character (field 2 number_at b) (field 2 code_at b) (take descriptor_bytes (character_part b)) (drop descriptor_bytes (character_part b))

pub record CharacterFirst (b : List ℕ) : Type 0 where
  pub least : character_record ≤ field 4 0 b
  pub fits : field 4 0 b ≤ length b
  pub records : run_records b ≡ character_at_front b ∷ run_records (drop (field 4 0 b) b)
  pub kept : CharacterKept (field 2 number_at b) (field 2 code_at b) (character_part b)
  pub rest : RecordRun (drop (field 4 0 b) b)

-- the two parts of it
pub part_kept : (b : List ℕ) (z : ℕ) → character_record ≤ z → take descriptor_bytes (take (z - character_kept_at) (drop character_kept_at b)) ≡ take descriptor_bytes (drop character_kept_at b)
part_kept b z l = take-take descriptor_bytes (z - character_kept_at) (drop character_kept_at b) (omega arith)

pub part_data : (b : List ℕ) (z : ℕ) → character_record ≤ z → drop descriptor_bytes (take (z - character_kept_at) (drop character_kept_at b)) ≡ take (z - character_record) (drop character_record b)
part_data b z l =
    let n : z - character_kept_at ≡ descriptor_bytes + (z - character_record) = omega arith in
    ap (λ (m : ℕ). drop descriptor_bytes (take m (drop character_kept_at b))) n
    ∙ drop-take descriptor_bytes (z - character_record) (drop character_kept_at b)
    ∙ ap (λ (l : List ℕ). take (z - character_record) l) (drop-drop descriptor_bytes character_kept_at b)

char_len : (b : List ℕ) → field 4 0 b ≤ length b → character_record ≤ field 4 0 b → size_of (character_in b) ≡ field 4 0 b
unfolding size_of
char_len b f l = simp (length-take, length-drop) (omega arith)

module _ (b : List ℕ) (p : RecordRun b) where
  run_are : (rs : List Rec) → p.recs ≡ rs → run_records b ≡ rs
  unfolding run_records
  run_are rs e = rw (p.is, e)

  pub run_short : length b < character_record → run_records b ≡ []
  run_short l = go (stands_at b p.recs p.is)
    where
      go : Standing b p.recs → run_records b ≡ []
      go (at_end e z) = run_are [] e
      go (at_record r ts e h q) = absurd (omega (arith, headed_size b r (head_inv b r h)))

  pub run_zero : field 4 0 b ≡ 0 → run_records b ≡ []
  run_zero x = go (stands_at b p.recs p.is)
    where
      go : Standing b p.recs → run_records b ≡ []
      go (at_end e z) = run_are [] e
      go (at_record r ts e h q) = let z : none ≡ some r = sym (zero_head b x) ∙ h in let y : ◌≡◌ {A = ℕ} 0 1 = cc in absurd (omega arith)

  module _ (r : Rec) (ts : List Rec) (e : p.recs ≡ r ∷ ts) (q : split (drop (size_of r) b) ≡ some ts) where
    rest_run : RecordRun (drop (size_of r) b)
    rest_run =
        let o : sorted p.least p.behind (r ∷ ts) ≡ true = rw e at p.order in
        record { recs = ts; is = q; least = key r + 1; behind = owner_after p.behind r; order = (sorted_inv p.least p.behind r ts o).rest }

    first_is : run_records b ≡ r ∷ run_records (drop (size_of r) b)
    unfolding run_records
    first_is = rw (p.is, e, q)

    first_allowed : allowed p.behind r ≡ true
    first_allowed = let o : sorted p.least p.behind (r ∷ ts) ≡ true = rw e at p.order in (sorted_inv p.least p.behind r ts o).ok

  pub font_first : (field 4 0 b ≡ 0 → ⊥) → field 2 kind_at b ≡ font_kind → FontFirst b
  unfolding size_of
  font_first x k = go (stands_at b p.recs p.is)
    where
      by : (r : Rec) (ts : List Rec) → Headed b r → p.recs ≡ r ∷ ts → split (drop (size_of r) b) ≡ some ts → FontFirst b
      by r ts (is_font_lem y) e q =
          let a = allowed_font p.behind _ _ (first_allowed (font_in b) ts e q) in
          record {
            len = y.len;
            fits = omega (arith, y.fits, y.len);
            records = first_is (font_in b) ts e q;
            kept = record { low = a.0; whole = simp (length-take, length-drop) (omega (arith, y.fits, y.len)); header = a.1 };
            rest = rest_run (font_in b) ts e q;
          }
      by r ts (is_character f a l) e q = absurd (omega arith)

      go : Standing b p.recs → FontFirst b
      go (at_end e z) = absurd (x (zeros_field 4 b z))
      go (at_record r ts e h q) = by r ts (head_inv b r h) e q

  pub character_first : (field 4 0 b ≡ 0 → ⊥) → (field 2 kind_at b ≡ font_kind → ⊥) → CharacterFirst b
  character_first x k = go (stands_at b p.recs p.is)
    where
      by : (r : Rec) (ts : List Rec) → Headed b r → p.recs ≡ r ∷ ts → split (drop (size_of r) b) ≡ some ts → CharacterFirst b
      by r ts (is_font_lem y) e q = absurd (k y.kind)
      by r ts (is_character f a l) e q =
          let c = allowed_char p.behind _ _ _ _ (first_allowed (character_in b) ts e q) in
          let n = char_len b f l in
          record {
            least = l;
            fits = f;
            records = rw (part_kept b (field 4 0 b) l, part_data b (field 4 0 b) l) (subst (λ (m : ℕ). run_records b ≡ character_in b ∷ run_records (drop m b)) n (first_is (character_in b) ts e q));
            kept = record {
              low = c.low;
              code = c.code;
              whole = simp (length-take, length-drop) (omega arith);
              orientation = p.behind.orientation;
              descriptor = rw (part_kept b (field 4 0 b) l) c.kept;
              held = rw (part_kept b (field 4 0 b) l, part_data b (field 4 0 b) l) c.whole;
              wide = rw (part_kept b (field 4 0 b) l) (kept_sides _ _ c.kept).0;
            };
            rest = subst (λ (m : ℕ). RecordRun (drop m b)) n (rest_run (character_in b) ts e q);
          }

      go : Standing b p.recs → CharacterFirst b
      go (at_end e z) = absurd (x (zeros_field 4 b z))
      go (at_record r ts e h q) = by r ts (head_inv b r h) e q

  -- the length of the first record
  pub run_len : (field 4 0 b ≡ 0 → ⊥) → field 4 0 b ≤ length b
  run_len x = go (stands_at b p.recs p.is)
    where
      by : (r : Rec) → Headed b r → field 4 0 b ≤ length b
      by r (is_font_lem y) = y.fits
      by r (is_character f a l) = f

      go : Standing b p.recs → field 4 0 b ≤ length b
      go (at_end e z) = absurd (x (zeros_field 4 b z))
      go (at_record r ts e h q) = by r (head_inv b r h)

-- ── from a place of the run on
pub run_from : (s : List ℕ) (at : ℕ) → RecordPlace s at → RecordRun (drop at s)
run_from s at p = record { recs = p.recs; is = p.is; least = p.least; behind = p.behind; order = p.order }

pub run_from_records : (s : List ℕ) (at : ℕ) → run_records (drop at s) ≡ records_at s at
unfolding run_records records_at
run_from_records s at = refl

-- ── up to a place: the first records stand in the first bytes
pub part_take : (k j n : ℕ) (b : List ℕ) → j + k ≤ n → take k (drop j (take n b)) ≡ take k (drop j b)
part_take k j n b l =
    let e : n ≡ j + (n - j) = omega arith in
    ap (λ (m : ℕ). take k (drop j (take m b))) e ∙ ap (λ (t : List ℕ). take k t) (drop-take j (n - j) b) ∙ take-take k (n - j) (drop j b) (omega arith)

field_take : (k j n : ℕ) (b : List ℕ) → j + k ≤ n → field k j (take n b) ≡ field k j b
field_take k j n b l = ap Rattle.form.specs.Num.num (part_take k j n b l)

headed_is : (b : List ℕ) (r : Rec) → Headed b r → head_rec b ≡ some r
unfolding head_rec only_if
headed_is b r (is_font_lem x) = rw (le-leb (field 4 0 b) (length b) x.fits, x.kind, x.len)
headed_is b r (is_character f k l) = rw (le-leb (field 4 0 b) (length b) f, k, le-leb character_record (field 4 0 b) l)

headed_take : (b : List ℕ) (r : Rec) (n : ℕ) → Headed b r → size_of r ≤ n → head_rec (take n b) ≡ some r
unfolding size_of
headed_take b r n (is_font_lem x) l =
    let c = take n b in
    let f : field 4 0 c ≡ field 4 0 b = field_take 4 0 n b (omega arith) in
    let i : font_in c ≡ font_in b = rw (field_take 2 number_at n b (omega arith), part_take header_bytes font_kept_at n b (omega arith)) in
    let m : field 4 0 c ≤ length c = simp length-take (omega (arith, f, x.fits, x.len)) in
    headed_is c (font_in c) (is_font_lem (record { fits = m; kind = field_take 2 kind_at n b (omega arith) ∙ x.kind; len = f ∙ x.len })) ∙ ap some i
headed_take b r n (is_character g k h) l =
    let c = take n b in
    let z : field 4 0 b ≤ n = omega (arith, char_len b g h) in
    let f : field 4 0 c ≡ field 4 0 b = field_take 4 0 n b (omega arith) in
    let i : character_in c ≡ character_in b =
    rw (f, field_take 2 number_at n b (omega arith), field_take 2 code_at n b (omega arith), part_take descriptor_bytes character_kept_at n b (omega arith), part_take (field 4 0 b - character_record) character_record n b (omega arith)) in
    let m : field 4 0 c ≤ length c = simp length-take (omega (arith, f, g)) in
    headed_is c (character_in c) (is_character m (field_take 2 kind_at n b (omega arith) ∙ k) (omega (arith, f, h))) ∙ ap some i

pub split_first : (rs zs : List Rec) (b : List ℕ) → split b ≡ some (rs ++ zs) → split (take (total rs) b) ≡ some rs
unfolding total split split_in all_zero
split_first [] zs b e = refl
split_first (r ∷ rs) zs b e = go (split_first rs zs (drop (size_of r) b)) (stands_at b (r ∷ (rs ++ zs)) e)
  where
    go : (split (drop (size_of r) b) ≡ some (rs ++ zs) → split (take (total rs) (drop (size_of r) b)) ≡ some rs) → Standing b (r ∷ (rs ++ zs)) → split (take (size_of r + total rs) b) ≡ some (r ∷ rs)
    go ih (at_end y z) = let x : ◌≡◌ {A = ℕ} 0 1 = cc in absurd (omega arith)
    go ih (at_record r' ts y h q) =
        let i : r' ≡ r = cc in
        let t : ts ≡ rs ++ zs = cc in
        let h' : head_rec b ≡ some r = h ∙ ap some i in
        let q' : split (drop (size_of r) b) ≡ some (rs ++ zs) = rw (← i, ← t) q in
        let w : head_rec (take (size_of r + total rs) b) ≡ some r = headed_take b r (size_of r + total rs) (head_inv b r h') (omega arith) in
        split_cons (take (size_of r + total rs) b) r w ∙ rw (drop-take (size_of r) (total rs) b, ih q') (unfold cons_to in refl)

-- the first of sorted records are sorted
sorted_front : (k : ℕ) (u : Owner) (rs zs : List Rec) → sorted k u (rs ++ zs) ≡ true → sorted k u rs ≡ true
unfolding sorted
sorted_front k u [] zs e = refl
sorted_front k u (r ∷ rs) zs e =
    let w = sorted_inv k u r (rs ++ zs) e in
    sorted_cons k u r rs (record { ok = w.ok; least = w.least; rest = sorted_front (key r + 1) (owner_after u r) rs zs w.rest })

module _ (s : List ℕ) (at hi : ℕ) (rs : List Rec) (w : Between s at hi rs) where
  between_split : split (take (hi - at) (drop at s)) ≡ some rs
  unfolding records_at
  between_split =
      let n : hi - at ≡ total rs = omega (arith, w.sum) in
      let e : w.place.recs ≡ rs ++ records_at s hi = rw w.place.is at w.are in
      rw n (split_first rs (records_at s hi) (drop at s) (w.place.is ∙ ap some e))

  pub run_between : RecordRun (take (hi - at) (drop at s))
  run_between = record { recs = rs; is = between_split; least = w.place.least; behind = w.place.behind; order = sorted_front w.place.least w.place.behind rs (records_at s hi) (unfold records_at in rw (rw w.place.is at w.are) at w.place.order) }

  pub run_between_records : run_records (take (hi - at) (drop at s)) ≡ rs
  unfolding run_records
  run_between_records = rw between_split

-- ── where the first record stood
stood_first : (b : List ℕ) (r : Record) (z : ℕ) → size_of (record_of r) ≡ z → 0 < z → z ≤ length b → BytesIn b r → StoodFirst b r (drop z b)
stood_first b r z e a w i = record { ahead = rw e a; within = rw e w; bytes = i; after = ap (λ (m : ℕ). drop m b) (sym e) }

pub font_stood : (b : List ℕ) (r : Record) → FontFirst b → record_of r ≡ font (field 2 number_at b) (take header_bytes (drop font_kept_at b)) → BytesIn b r → StoodFirst b r (drop font_record b)
unfolding size_of
font_stood b r f e i = stood_first b r font_record (ap size_of e) (omega arith) f.fits i

character_size : (b : List ℕ) → CharacterFirst b → size_of (character_at_front b) ≡ field 4 0 b
unfolding size_of
character_size b f = simp (length-take, length-drop) (omega (arith, f.least, f.fits))

pub character_stood : (b : List ℕ) (r : Record) → CharacterFirst b
    → record_of r ≡ character_at_front b → (size_of (record_of r) ≡ field 4 0 b → BytesIn b r) → StoodFirst b r (drop (field 4 0 b) b)
character_stood b r f e i = let z = ap size_of e ∙ character_size b f in stood_first b r (field 4 0 b) z (omega (arith, f.least)) f.fits (i z)

-- ── a record that is given leaves one less
pub one_less : (old new : Records) (r : Record) → RunsOn new → records_left old ≡ record_of r ∷ records_left new → MakesProgress RunsOn (item_count records_left) old (Some r) new
one_less old new r k e = record { on = λ _. (k, tt, omega (arith, ap length e)); keeps = k; rests = λ _. tt }
