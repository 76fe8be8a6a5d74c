-- What a store's characters of a code come to at most. Assumes nothing.
use Prim.Native.Nat.{ℕ, zero, suc, ◌+◌, ◌*◌, ◌<◌, ◌≤◌}
use mathlib.Core.Path.{◌≡◌, refl, sym, ap, ◌∙◌}
use mathlib.Core.List.{List, [], ◌∷◌}
use mathlib.Core.Bool.{Bool, true, false, not, cond, ◌&&◌}
use mathlib.Core.Option.{some}
use native.Mathlib.Omega.{arith}
use borrow.Author.Tests.{leb-true, leb-false, eqb-true, not-true}
use lib.Dec.{eqb, leb}
use lib.ListN.{length, take, drop}
use Rattle.pictures.specs.Size.{bitmap_class, within, picture_size, data_limit}
use Rattle.pictures.specs.Picture.{judge, judge_bitmap, held, held_by}
use Rattle.pictures.specs.declared.picture.Held.TheVariants.{Foreign}
use Rattle.std.specs.Prelude.{Some, None, Ok}
use Rattle.blocks.specs.Field.{signed_within, negative}
use Rattle.blocks.specs.Character.{class, width, height, delta_x, descriptor_bytes, is_kept_first, fixed_first, held_class, first_fields, first_extent, first_size, format, continued, descriptor_size, orientation, left_offset, top_offset, character_format, size_taken, offset_limit}
use Rattle.blocks.specs.Field.{byte}
use Rattle.blocks.proofs.Signed.{negative_by}
use Rattle.pictures.proofs.Tests.{both}
use Rattle.form.specs.Layout.{mark_record, most_store}
use Rattle.form.specs.Num.{Bytes}
use Rattle.form.specs.Model.{Rec, font, character, Owner, no_owner, owner_after, sorted, key, Store, decode, split, is_kept, total, head_rec, size_of}
use Rattle.form.proofs.Numbers.{bytes_drop}
use Rattle.form.proofs.RecordBytes.{allowed_char, Headed, is_font_lem, is_character, head_inv}
use Rattle.form.proofs.RecordRuns.{Standing, at_end, at_record, stands_at, decoded}
use Rattle.form.proofs.Codec.{sorted_inv, encode_decode, length_encode}
use Rattle.blackdots.specs.Black.{black_dots}
use Rattle.blackdots.proofs.Drawn.{most_dots_lem}
use Rattle.collection.specs.declared.figure.Figure.{Figure}
use Rattle.collection.specs.Figures.{joined, figure_of, figure_in, most_of_code, most_dots, most_delta}
use Rattle.collection.specs.ByRecord.{RecsFit}
use Rattle.collection.proofs.Joining.{count_bound}

-- ── a kept descriptor
module _ (k : List ℕ) (o : ℕ) (e : is_kept_first k o ≡ true) where
  kept_parts : (fixed_first k ≡ true) × (first_fields k o ≡ true) × (first_size k ≡ true)
  unfolding is_kept_first
  kept_parts =
      let p = both (eqb (length k) descriptor_bytes) (fixed_first k && (held_class (class k) && (first_fields k o && first_size k))) e in
      let q = both (fixed_first k) (held_class (class k) && (first_fields k o && first_size k)) p.1 in
      let r = both (held_class (class k)) (first_fields k o && first_size k) q.1 in
      let s = both (first_fields k o) (first_size k) r.1 in
      (q.0, s.0, s.1)

  pub kept_picture : picture_size (width k) (height k) ≤ data_limit
  kept_picture = leb-true (picture_size (width k) (height k)) data_limit kept_parts.2

  pub kept_wide : (1 ≤ width k) × (width k ≤ 16384)
  kept_wide =
      let x = (both (eqb (orientation k) o) (first_extent k) kept_parts.1).1 in
      let a : Bool = signed_within 16 offset_limit (left_offset k) && signed_within 16 offset_limit (top_offset k) in
      let p = both (a && within 1 16384 (width k)) (within 1 16384 (height k)) x in
      let q = both a (within 1 16384 (width k)) p.0 in
      let z = both (leb 1 (width k)) (leb (width k) 16384) q.1 in
      (leb-true 1 (width k) z.0, leb-true (width k) 16384 z.1)

  kept_delta : delta_x k < 65536 → delta_x k ≤ most_delta
  kept_delta l =
      let f : Bool = eqb (format k) character_format && eqb (continued k) 0 && eqb (descriptor_size k) size_taken && eqb (byte k 5) 0 in
      let n : negative 16 (delta_x k) ≡ false = not-true (negative 16 (delta_x k)) (both f (not (negative 16 (delta_x k))) kept_parts.0).1 in
      let g : delta_x k < 32768 = leb-false 32768 (delta_x k) (sym (negative_by 16 (delta_x k) l) ∙ n) in
      omega arith

-- ── kept data
held_by_lem : (w h len : ℕ) → is_kept (held_by (judge_bitmap w h len) len) ≡ true → len ≤ picture_size w h
held_by_lem w h len e = go (leb (picture_size w h) len) refl e
  where
    go : (t : Bool) → leb (picture_size w h) len ≡ t → is_kept (held_by (cond t (Ok (Some (picture_size w h))) (Ok None)) len) ≡ true → len ≤ picture_size w h
    go false q e = let x : len < picture_size w h = leb-false (picture_size w h) len q in omega arith
    go true q e = by (eqb (picture_size w h) len) refl e
      where
        by : (u : Bool) → eqb (picture_size w h) len ≡ u → is_kept (held_by (Ok (Some (picture_size w h))) len) ≡ true → len ≤ picture_size w h
        by true p e = let x : picture_size w h ≡ len = eqb-true (picture_size w h) len p in omega arith
        by false p e = let x : false ≡ true = rw p at e in let z : ◌≡◌ {A = ℕ} 0 1 = cc in absurd (omega arith)

pub kept_least : (k w h : ℕ) (d : List ℕ) → is_kept (held k w h d) ≡ true → k ≡ bitmap_class → length d ≤ picture_size w h
unfolding held judge
kept_least k w h d e c = go (leb (length d) data_limit) refl (rw c at e)
  where
    go : (t : Bool) → leb (length d) data_limit ≡ t → is_kept (cond (leb (length d) data_limit) (held_by (judge_bitmap w h (length d)) (length d)) Foreign) ≡ true → length d ≤ picture_size w h
    go true q e = held_by_lem w h (length d) (rw q at e)
    go false q e = let x : false ≡ true = rw q at e in let z : ◌≡◌ {A = ℕ} 0 1 = cc in absurd (omega arith)

-- ── each character of records that a store holds, of bytes
bytes_take : (k : ℕ) (s : List ℕ) → Bytes s → Bytes (take k s)
bytes_take zero s B i = omega arith
bytes_take (suc k) [] B i = omega arith
bytes_take (suc k) (x ∷ s) B zero = B zero
bytes_take (suc k) (x ∷ s) B (suc i) = bytes_take k s (λ j. B (suc j)) i

abbrev Deltas : List Rec → Type 0
Deltas [] = Unit {0}
Deltas (font n h ∷ rs) = Deltas rs
Deltas (character n c h d ∷ rs) = (delta_x h < 65536) × Deltas rs

deltas_by : (s : List ℕ) (r : Rec) (ts : List Rec) → Bytes s → Headed s r → Deltas ts → Deltas (r ∷ ts)
deltas_by s r ts B (is_font_lem x) t = t
deltas_by s r ts B (is_character f k l) t =
    let b : Bytes (take descriptor_bytes (drop 10 s)) = bytes_take descriptor_bytes (drop 10 s) (bytes_drop 10 s B) in
    (omega (arith, b 14, b 15), t)

deltas : (rs : List Rec) (s : List ℕ) → split s ≡ some rs → Bytes s → Deltas rs
deltas [] s e B = tt
deltas (r ∷ ts) s e B = go (stands_at s (r ∷ ts) e) (deltas ts)
  where
    go : Standing s (r ∷ ts) → ((s' : List ℕ) → split s' ≡ some ts → Bytes s' → Deltas ts) → Deltas (r ∷ ts)
    go (at_end p z) f = let z : ◌≡◌ {A = ℕ} 0 1 = cc in absurd (omega arith)
    go (at_record r' ts' p h q) f =
        let i : r ≡ r' = cc in
        let j : ts ≡ ts' = cc in
        let h' : head_rec s ≡ some r = rw i h in
        let q' : split (drop (size_of r) s) ≡ some ts = rw (i, j) q in
        deltas_by s r ts B (head_inv s r h') (f (drop (size_of r) s) q' (bytes_drop (size_of r) s B))

pub record Each (rs : List Rec) : Type 0 where
  pub dots : (c : ℕ) → (figure_in rs c).dots ≤ (figure_in rs c).count * most_dots
  pub sum : (c : ℕ) → (figure_in rs c).sum ≤ (figure_in rs c).count * most_delta
  pub fit : RecsFit rs

more : (t : Bool) (h d : List ℕ) (f : Figure) → black_dots (class h) (width h) (height h) d ≤ most_dots → delta_x h ≤ most_delta → f.dots ≤ f.count * most_dots → f.sum ≤ f.count * most_delta
    → ((cond t (joined (figure_of h d) f) f).dots ≤ (cond t (joined (figure_of h d) f) f).count * most_dots) × ((cond t (joined (figure_of h d) f) f).sum ≤ (cond t (joined (figure_of h d) f) f).count * most_delta)
unfolding joined
more true h d f a b p q = (omega arith, omega arith)
more false h d f a b p q = (p, q)

each : (k : ℕ) (u : Owner) (rs : List Rec) → sorted k u rs ≡ true → Deltas rs → Each rs
unfolding figure_in
each k u [] e D = record { dots = λ c. omega arith; sum = λ c. omega arith; fit = tt }
each k u (font n h ∷ rs) e D =
    let w = sorted_inv k u (font n h) rs e in
    let i = each (key (font n h) + 1) (owner_after u (font n h)) rs w.rest D in
    record { dots = i.dots; sum = i.sum; fit = (tt, i.fit) }
each k u (character n m h d ∷ rs) e D =
    let w = sorted_inv k u (character n m h d) rs e in
    let a = allowed_char u n m h d w.ok in
    let i = each (key (character n m h d) + 1) (owner_after u (character n m h d)) rs w.rest D.1 in
    let x : black_dots (class h) (width h) (height h) d ≤ most_dots = omega (arith, most_dots_lem (class h) (width h) (height h) d, kept_picture h u.orientation a.kept) in
    let y : delta_x h ≤ most_delta = kept_delta h u.orientation a.kept D.0 in
    let z = kept_wide h u.orientation a.kept in
    record {
      dots = λ c. (more (eqb m c) h d (figure_in rs c) x y (i.dots c) (i.sum c)).0;
      sum = λ c. (more (eqb m c) h d (figure_in rs c) x y (i.dots c) (i.sum c)).1;
      fit = ((a.code, z.0, omega (arith, z.1)), i.fit);
    }

-- ── "each store raises a code's count by at most (length - 12) / 108, rounded down, its dots by at most 262,144 times and its sum by at most 32,767 times that bound"
pub record StoreBounds (s : List ℕ) (rs : List Rec) : Type 0 where
  pub small : length s ≤ most_store
  pub count : (c : ℕ) → (figure_in rs c).count ≤ most_of_code (length s)
  pub dots : (c : ℕ) → (figure_in rs c).dots ≤ most_of_code (length s) * most_dots
  pub sum : (c : ℕ) → (figure_in rs c).sum ≤ most_of_code (length s) * most_delta
  pub fit : RecsFit rs

pub store_bounds : (s : List ℕ) (st : Store) → Bytes s → decode s ≡ some st → StoreBounds s st.recs
store_bounds s st B e =
    let d = decoded s st e in
    let v = encode_decode s st B e in
    let len : length s ≡ st.size = ap length v.0 ∙ length_encode st v.1 in
    let i = each 0 no_owner st.recs d.2 (deltas st.recs (drop mark_record s) d.1 (bytes_drop mark_record s B)) in
    let n : (c : ℕ) → (figure_in st.recs c).count ≤ most_of_code (length s) = λ c. many (length s) st.recs c d.2 (omega (arith, v.1.room, len)) in
    record {
      small = omega (arith, v.1.small, len);
      count = n;
      dots = λ c. omega (arith, i.dots c, n c);
      sum = λ c. omega (arith, i.sum c, n c);
      fit = i.fit;
    }
  where
    many : (n : ℕ) (rs : List Rec) (c : ℕ) → sorted 0 no_owner rs ≡ true → mark_record + total rs ≤ n → (figure_in rs c).count ≤ most_of_code n
    many n rs c e l = omega (arith, (count_bound c 0 no_owner rs e).1 (λ x o. absurd (omega arith)), l)
