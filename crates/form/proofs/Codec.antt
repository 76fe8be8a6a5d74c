-- The laws of encode and decode.
use mathlib.Core.Path.{◌≡◌, refl, sym, ap, ◌∙◌, subst, fun_ext}
use mathlib.Core.List.{List, [], ◌∷◌, ◌++◌, append_assoc}
use mathlib.Core.Bool.{Bool, true, false, cond}
use mathlib.Core.Option.{Option, none, some}
use Prim.Native.Nat.{ℕ, zero, suc, ◌+◌, ◌-◌, ◌*◌, ◌<◌, ◌≤◌}
use native.Mathlib.Omega.{arith}
use lib.ListN.{length, drop, replicate, length-drop, length-append, length-replicate}
use lib.Seq.{drop_at}
use lib.Dec.{eqb, leb}
use borrow.Author.Tests.{eqb-true, leb-true, le-leb, eq-eqb}
use Rattle.form.specs.Num.{◌and◌, num, low_first, field, all_zero, Bytes, word_end, double_end}
use Rattle.form.specs.Model.{Rec, font, character, Mark, Store, bytes_of, run, mark_bytes, encode, key, allowed, Owner, no_owner, owner_after, sorted, opened, mark_ok, only_if, head_rec, size_of, cons_to, and_then, split_in, split, mark_in, begins, valid_or, decode, one_more, tally_of, tally_bytes, font_head, tally_in, same_tally, holds_tally, counted, total, Valid, ReadBack, WrittenBack}
use Rattle.form.specs.declared.tally.Tally.{Tally}
use Rattle.form.specs.Layout.{character_record, key_of, kind_at, last_code, last_font, least_store, mark_code_at, mark_font_at, mark_kind, mark_on_at, mark_record, most_store}
use Rattle.form.proofs.Numbers.{num_le, cut, zeros_are, zeros_all, both_l, both_r, both, bytes_drop}
use Rattle.form.proofs.RecordBytes.{guard_test, guard_is, size_pos, font_size, char_size, Shaped, shaped, head_encode, head_nonzero, head_fits}

-- ── the fuel of split does not matter
pub enough : (k m : ℕ) (s : List ℕ) → length s < k → length s < m → split_in k s ≡ split_in m s
unfolding split_in all_zero
enough zero m s p q = absurd (omega arith)
enough (suc k) zero s p q = absurd (omega arith)
enough (suc k) (suc m) [] p q = refl
enough (suc k) (suc m) (x ∷ s) p q =
    ap (λ (g : Rec → Option (List Rec)). cond (all_zero (x ∷ s)) (some []) (and_then (head_rec (x ∷ s)) g))
    (fun_ext (λ r. enough k m (drop (size_of r) (x ∷ s)) (omega (arith, length-drop (size_of r) (x ∷ s), size_pos r)) (omega (arith, length-drop (size_of r) (x ∷ s), size_pos r))))

pub split_eq : (s : List ℕ) → split s ≡ cond (all_zero s) (some []) (and_then (head_rec s) (λ r. split (drop (size_of r) s)))
unfolding split split_in all_zero
split_eq [] = refl
split_eq (x ∷ s) =
    ap (λ (g : Rec → Option (List Rec)). cond (all_zero (x ∷ s)) (some []) (and_then (head_rec (x ∷ s)) g))
    (fun_ext (λ r. enough (suc (length s)) (suc (length (drop (size_of r) (x ∷ s)))) (drop (size_of r) (x ∷ s)) (omega (arith, length-drop (size_of r) (x ∷ s), size_pos r)) (omega arith)))

-- ── runs
pub size_bytes : (T : ℕ → Tally) (r : Rec) → Shaped r → length (bytes_of T r) ≡ size_of r
unfolding size_of
size_bytes T (font n h) e = omega (arith, length-append (bytes_of T (font n h)) [], font_size T n h [] e.0)
size_bytes T (character n c h d) e = omega (arith, length-append (bytes_of T (character n c h d)) [], char_size T n c h d [] e.0)

-- ── sorted records, one by one
pub record Sorted (k : ℕ) (u : Owner) (r : Rec) (rs : List Rec) : Type 0 where
  pub ok : allowed u r ≡ true
  pub least : k ≤ key r
  pub rest : sorted (key r + 1) (owner_after u r) rs ≡ true

pub sorted_inv : (k : ℕ) (u : Owner) (r : Rec) (rs : List Rec) → sorted k u (r ∷ rs) ≡ true → Sorted k u r rs
unfolding sorted
sorted_inv k u r rs e = let e1 = both_r _ _ e in record { ok = both_l _ _ e; least = leb-true _ _ (both_l _ _ e1); rest = both_r _ _ e1 }

pub sorted_cons : (k : ℕ) (u : Owner) (r : Rec) (rs : List Rec) → Sorted k u r rs → sorted k u (r ∷ rs) ≡ true
unfolding sorted
sorted_cons k u r rs w = both _ _ w.ok (both _ _ (le-leb _ _ w.least) w.rest)

pub split_run : (T : ℕ → Tally) (rs : List Rec) (z k : ℕ) (u : Owner) → sorted k u rs ≡ true → split (run T rs ++ replicate z 0) ≡ some rs
unfolding run and_then cons_to
split_run T [] z k u e = rw split_eq (rw zeros_all)
split_run T (r ∷ rs) z k u e =
    let t = run T rs ++ replicate z 0 in
    let w = sorted_inv k u r rs e in
    let so = shaped u r w.ok in
    let he : head_rec (bytes_of T r ++ t) ≡ some r = head_encode T r t so in
    let ih : split t ≡ some rs = split_run T rs z (key r + 1) (owner_after u r) w.rest in
    let dr : drop (size_of r) (bytes_of T r ++ t) ≡ t = drop_at (bytes_of T r) t (size_of r) (size_bytes T r so) in
    rw (append_assoc, split_eq (bytes_of T r ++ t), head_nonzero (bytes_of T r ++ t) r he, he, dr, ih)

-- the numbers fit their bytes
abbrev pub Fits : (ℕ → Tally) → Type 0
Fits T = (n : ℕ) → ((T n).characters < word_end) × ((T n).bytes < double_end)

tally_read : (n : ℕ) (t : Tally) (s : List ℕ) → t.characters < word_end → t.bytes < double_end → tally_in (font_head n t ++ s) ≡ t
unfolding font_head tally_bytes low_first num
tally_read n t s a b =
    let p : num (low_first 2 t.characters) ≡ t.characters = num_le 2 t.characters (omega arith) in
    let q : num (low_first 4 t.bytes) ≡ t.bytes = num_le 4 t.bytes (omega arith) in
    simp (p, q)

-- the numbers of a font read at its record
pub font_tally : (T : ℕ → Tally) (n : ℕ) (h s : List ℕ) → Fits T → tally_in (bytes_of T (font n h) ++ s) ≡ T n
unfolding bytes_of
font_tally T n h s f = ap tally_in (append_assoc (font_head n (T n)) h s) ∙ tally_read n (T n) (h ++ s) (f n).0 (f n).1

tally_same : (t : Tally) → same_tally t t ≡ true
tally_same t = both _ _ (eq-eqb t.characters t.characters refl) (eq-eqb t.bytes t.bytes refl)

holds_bytes : (T : ℕ → Tally) (r : Rec) (s : List ℕ) → Fits T → holds_tally T (bytes_of T r ++ s) r ≡ true
unfolding holds_tally
holds_bytes T (font n h) s f = ap (λ (t : Tally). same_tally t (T n)) (font_tally T n h s f) ∙ tally_same (T n)
holds_bytes T (character n c h d) s f = refl

pub counted_run : (T : ℕ → Tally) (rs : List Rec) (z k : ℕ) (u : Owner) → Fits T → sorted k u rs ≡ true → counted T (run T rs ++ replicate z 0) rs ≡ true
unfolding run counted
counted_run T [] z k u f e = refl
counted_run T (r ∷ rs) z k u f e =
    let t = run T rs ++ replicate z 0 in
    let w = sorted_inv k u r rs e in
    let dr : drop (size_of r) (bytes_of T r ++ t) ≡ t = drop_at (bytes_of T r) t (size_of r) (size_bytes T r (shaped u r w.ok)) in
    rw (append_assoc (bytes_of T r) (run T rs) (replicate z 0), dr) (both _ _ (holds_bytes T r t f) (counted_run T rs z (key r + 1) (owner_after u r) f w.rest))

pub cons_to_some : (r : Rec) (o : Option (List Rec)) (rs : List Rec) → cons_to r o ≡ some rs → (t : List Rec) × (o ≡ some t) × (r ∷ t ≡ rs)
unfolding cons_to
cons_to_some r none rs e = let z : ◌≡◌ {A = ℕ} 0 1 = cc in absurd (omega arith)
cons_to_some r (some t) rs e = (t, refl, cc)

-- s is these records' bytes, and zeros
abbrev pub Runs : (ℕ → Tally) → List ℕ → List Rec → Type 0
Runs T s rs = (z : ℕ) × (s ≡ run T rs ++ replicate z 0)

module _ (T : ℕ → Tally) where
  split_rest : (k : ℕ) (s : List ℕ) (r : Rec) (rs : List Rec) → Bytes s → head_rec s ≡ some r
      → ((t : List Rec) → split_in k (drop (size_of r) s) ≡ some t → counted T (drop (size_of r) s) t ≡ true → Runs T (drop (size_of r) s) t)
      → cons_to r (split_in k (drop (size_of r) s)) ≡ some rs → counted T s rs ≡ true → Runs T s rs
  unfolding run counted
  split_rest k s r rs B he ih e q =
      let w = cons_to_some r (split_in k (drop (size_of r) s)) rs e in
      let o : holds_tally T s r and counted T (drop (size_of r) s) w.0 ≡ true = ap (counted T s) w.2 ∙ q in
      let v = ih w.0 w.1 (both_r _ _ o) in
      let hf = head_fits T s r B he (both_l _ _ o) in
      (v.0, sym hf.0 ∙ ap (λ (l : List ℕ). bytes_of T r ++ l) v.1 ∙ sym (append_assoc (bytes_of T r) (run T w.0) (replicate v.0 0)) ∙ ap (λ (l : List Rec). run T l ++ replicate v.0 0) w.2)

  split_step : (k : ℕ) (s : List ℕ) (rs : List Rec) → Bytes s
      → ((s' : List ℕ) (t : List Rec) → Bytes s' → split_in k s' ≡ some t → counted T s' t ≡ true → Runs T s' t)
      → split_in (suc k) s ≡ some rs → counted T s rs ≡ true → Runs T s rs
  unfolding split_in run and_then
  split_step k s rs B ih e c = zero? (all_zero s) refl
    where
      head? : (o : Option Rec) → head_rec s ≡ o → and_then o (λ r. split_in k (drop (size_of r) s)) ≡ some rs → Runs T s rs
      head? none q e' = let z : ◌≡◌ {A = ℕ} 0 1 = cc in absurd (omega arith)
      head? (some r) q e' = split_rest k s r rs B q (λ t. ih (drop (size_of r) s) t (bytes_drop (size_of r) s B)) e' c

      zero? : (b : Bool) → all_zero s ≡ b → Runs T s rs
      zero? true q = let i : [] ≡ rs = cc (rw q at e) in (length s, subst (λ (l : List Rec). s ≡ run T l ++ replicate (length s) 0) i (zeros_are s q))
      zero? false q = head? (head_rec s) refl (rw q at e)

  pub split_is : (k : ℕ) (s : List ℕ) (rs : List Rec) → Bytes s → split_in k s ≡ some rs → counted T s rs ≡ true → Runs T s rs
  unfolding split_in
  split_is zero s rs B e c = let z : ◌≡◌ {A = ℕ} 0 1 = cc in absurd (omega arith)
  split_is (suc k) s rs B e c = split_step k s rs B (λ s' t. split_is k s' t) e c

pub length_run : (T : ℕ → Tally) (k : ℕ) (u : Owner) (rs : List Rec) → sorted k u rs ≡ true → length (run T rs) ≡ total rs
unfolding run total
length_run T k u [] e = refl
length_run T k u (r ∷ rs) e =
    let w = sorted_inv k u r rs e in
    omega (arith, length-append (bytes_of T r) (run T rs), size_bytes T r (shaped u r w.ok), length_run T (key r + 1) (owner_after u r) rs w.rest)

-- the characters of a font take room
pub tally_total : (n : ℕ) (rs : List Rec) → character_record * (tally_of rs n).characters + (tally_of rs n).bytes ≤ total rs
unfolding tally_of total size_of
tally_total n [] = omega arith
tally_total n (font m h ∷ rs) = omega (arith, tally_total n rs)
tally_total n (character m c h d ∷ rs) = go (eqb m n) (tally_total n rs)
  where
    go : (b : Bool) → character_record * (tally_of rs n).characters + (tally_of rs n).bytes ≤ total rs
        → character_record * (one_more b (length d) (tally_of rs n)).characters + (one_more b (length d) (tally_of rs n)).bytes ≤ character_record + length d + total rs
    go true ih = omega arith
    go false ih = omega arith

pub tally_fits : (rs : List Rec) → total rs ≤ most_store → Fits (tally_of rs)
tally_fits rs l n = let t = tally_total n rs in (omega arith, omega arith)

-- ── the two laws
pub mark_length : (m : Mark) → length (mark_bytes m) ≡ mark_record
unfolding mark_bytes low_first
mark_length m = refl

-- numbers in a valid mark
pub mark_fits : (m : Mark) (rs : List Rec) → mark_ok m rs ≡ true → (m.on < word_end) × (m.font_of < word_end) × (m.code_of < word_end)
unfolding mark_ok
mark_fits m rs e = on? (eqb m.on 0) refl
  where
    Goal : Type 0
    Goal = (m.on < word_end) × (m.font_of < word_end) × (m.code_of < word_end)

    on? : (b : Bool) → eqb m.on 0 ≡ b → Goal
    on? true q =
        let e' : eqb m.font_of 0 and eqb m.code_of 0 ≡ true = rw q at e in
        let a : m.on ≡ 0 = eqb-true _ _ q in
        let b : m.font_of ≡ 0 = eqb-true _ _ (both_l _ _ e') in
        let c : m.code_of ≡ 0 = eqb-true _ _ (both_r _ _ e') in
        omega arith
    on? false q =
        let e1 : eqb m.on 1 and leb m.font_of last_font and leb m.code_of last_code and opened (key_of m.font_of (m.code_of + 1)) rs ≡ true = rw q at e in
        let e2 = both_r _ _ e1 in
        let a : m.on ≡ 1 = eqb-true _ _ (both_l _ _ e1) in
        let b : m.font_of ≤ last_font = leb-true _ _ (both_l _ _ e2) in
        let c : m.code_of ≤ last_code = leb-true _ _ (both_l _ _ (both_r _ _ e2)) in
        omega arith

pub length_encode : (st : Store) → Valid st → length (encode st) ≡ st.size
unfolding encode
length_encode st v = simp (length-append, length-replicate, mark_length) (omega (arith, v.room, length_run (tally_of st.recs) 0 no_owner st.recs v.order))

pub mark_back : (m : Mark) (t : List ℕ) → m.on < word_end → m.font_of < word_end → m.code_of < word_end → mark_in (mark_bytes m ++ t) ≡ m
unfolding mark_bytes low_first num
mark_back m t a b c =
    let qa : num (low_first 2 m.on) ≡ m.on = num_le 2 m.on (omega arith) in
    let qb : num (low_first 2 m.font_of) ≡ m.font_of = num_le 2 m.font_of (omega arith) in
    let qc : num (low_first 2 m.code_of) ≡ m.code_of = num_le 2 m.code_of (omega arith) in
    simp (qa, qb, qc)

pub begins_encode : (st : Store) → Valid st → begins (encode st) ≡ true
unfolding begins encode mark_bytes low_first num
begins_encode st v =
    let l = length_encode st v in
    let a : leb least_store (length (encode st)) ≡ true = le-leb least_store (length (encode st)) (omega (arith, l, v.room)) in
    let b : leb (length (encode st)) most_store ≡ true = le-leb (length (encode st)) most_store (omega (arith, l, v.small)) in
    both _ _ a (both _ _ b (both _ _ refl refl))

-- the zeros after the records
abbrev pub spare : Store → ℕ
spare st = st.size - length (mark_bytes st.mark ++ run (tally_of st.recs) st.recs)

pub encode_parts : (st : Store) → encode st ≡ mark_bytes st.mark ++ (run (tally_of st.recs) st.recs ++ replicate (spare st) 0)
unfolding encode
encode_parts st = append_assoc (mark_bytes st.mark) (run (tally_of st.recs) st.recs) (replicate (spare st) 0)

pub decode_encode : ReadBack
unfolding decode only_if valid_or
decode_encode st v =
    let f = mark_fits st.mark st.recs v.marked in
    let T = tally_of st.recs in
    let t = run T st.recs ++ replicate (spare st) 0 in
    let fits : Fits T = tally_fits st.recs (omega (arith, v.room, v.small)) in
    let c : counted T t st.recs ≡ true = counted_run T st.recs (spare st) 0 no_owner fits v.order in
    let e = encode_parts st in
    let m : mark_in (encode st) ≡ st.mark = rw e (mark_back st.mark t f.0 f.1 f.2) in
    let d : drop mark_record (encode st) ≡ t = rw e (drop_at (mark_bytes st.mark) t mark_record (mark_length st.mark)) in
    rw (begins_encode st v, length_encode st v, m, d, split_run T st.recs (spare st) 0 no_owner v.order, both _ _ (both _ _ v.order c) v.marked)

pub mark_sound : (s : List ℕ) → Bytes s → least_store ≤ length s → field 4 0 s ≡ mark_record → field 2 kind_at s ≡ mark_kind → mark_bytes (mark_in s) ++ drop mark_record s ≡ s
unfolding mark_bytes
mark_sound s B h e0 e4 =
    let k0 : low_first 4 mark_record ++ drop kind_at s ≡ s = subst (λ (x : ℕ). low_first 4 x ++ drop kind_at s ≡ s) e0 (cut 4 0 s B (omega arith)) in
    let k4 : low_first 2 mark_kind ++ drop mark_on_at s ≡ drop kind_at s = subst (λ (x : ℕ). low_first 2 x ++ drop mark_on_at s ≡ drop kind_at s) e4 (cut 2 kind_at s B (omega arith)) in
    simp (append_assoc, cut 2 mark_code_at s B (omega arith), cut 2 mark_font_at s B (omega arith), cut 2 mark_on_at s B (omega arith), k4, k0)

pub begins_parts : (s : List ℕ) → begins s ≡ true → (least_store ≤ length s) × (length s ≤ most_store) × (field 4 0 s ≡ mark_record) × (field 2 kind_at s ≡ mark_kind)
unfolding begins
begins_parts s e =
    let e1 = both_r _ _ e in
    let e2 = both_r _ _ e1 in
    (leb-true _ _ (both_l _ _ e), leb-true _ _ (both_l _ _ e1), eqb-true _ _ (both_l _ _ e2), eqb-true _ _ (both_r _ _ e2))

abbrev pub store_of : List ℕ → List Rec → Store
store_of s rs = record { size = length s; mark = mark_in s; recs = rs }

-- a buffer with the first record and a run of records is the store of them
stored : (s : List ℕ) (rs : List Rec) → Bytes s → begins s ≡ true → Runs (tally_of rs) (drop mark_record s) rs → (s ≡ encode (store_of s rs)) × (mark_record + length (run (tally_of rs) rs) ≤ length s)
stored s rs B fr w =
    let R = run (tally_of rs) rs in
    let f = begins_parts s fr in
    let z = w.0 in
    let ms = mark_sound s B f.0 f.2 f.3 in
    let l1 : length s - mark_record ≡ length R + z = sym (length-drop mark_record s) ∙ ap length w.1 ∙ length-append R (replicate z 0) ∙ ap (λ (x : ℕ). length R + x) (length-replicate z 0) in
    let l2 : length (mark_bytes (mark_in s) ++ R) ≡ mark_record + length R = length-append (mark_bytes (mark_in s)) R ∙ ap (λ (x : ℕ). x + length R) (mark_length (mark_in s)) in
    let zs : spare (store_of s rs) ≡ z = omega (arith, f.0) in (
      sym ms ∙ ap (λ (l : List ℕ). mark_bytes (mark_in s) ++ l) w.1 ∙ ap (λ (n : ℕ). mark_bytes (mark_in s) ++ (R ++ replicate n 0)) (sym zs) ∙ sym (encode_parts (store_of s rs)),
      omega (arith, f.0),
    )

pub encode_decode : WrittenBack
unfolding decode valid_or split
encode_decode s st B e = go (split (drop mark_record s)) refl (guard_is _ _ st e)
  where
    fr : begins s ≡ true
    fr = guard_test _ _ st e

    go : (o : Option (List Rec)) → split (drop mark_record s) ≡ o → valid_or (length s) (mark_in s) (drop mark_record s) o ≡ some st → (s ≡ encode st) × Valid st
    go none q e' = let z : ◌≡◌ {A = ℕ} 0 1 = cc in absurd (omega arith)
    go (some rs) q e' =
        let ok : (sorted 0 no_owner rs and counted (tally_of rs) (drop mark_record s) rs) and mark_ok (mark_in s) rs ≡ true = guard_test _ _ st e' in
        let so : sorted 0 no_owner rs ≡ true = both_l _ _ (both_l _ _ ok) in
        let i : store_of s rs ≡ st = cc (guard_is _ _ st e') in
        let w = stored s rs B fr (split_is (tally_of rs) (suc (length (drop mark_record s))) (drop mark_record s) rs (bytes_drop mark_record s B) q (both_r _ _ (both_l _ _ ok))) in
        subst (λ (x : Store). (s ≡ encode x) × Valid x) i
        (w.0, record { order = so; marked = both_r _ _ ok; small = (begins_parts s fr).1; room = omega (arith, w.1, length_run (tally_of rs) 0 no_owner rs so) })
