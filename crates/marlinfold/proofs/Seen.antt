-- W-210: what is told and drawn of each character of a store. Assumes nothing.
use Prim.Native.Nat.{ℕ, zero, suc, ◌+◌, ◌-◌, ◌<◌, ◌≤◌}
use mathlib.Core.Path.{◌≡◌, refl, sym, ap, ap₂, ◌∙◌, subst}
use mathlib.Core.List.{List, [], ◌∷◌, ◌++◌, map, append-nil}
use mathlib.Core.Bool.{Bool, true, false}
use mathlib.Core.Option.{Option, none, some}
use native.Mathlib.Omega.{arith}
use lib.Dec.{eqb}
use borrow.Author.Tests.{le-leb, eqb-true, eqb-false}
use lib.ListN.{length, drop, replicate, length-replicate, drop_of_length-le}
use Rattle.pictures.specs.Size.{data_limit, picture_size}
use Rattle.pictures.specs.Rows.{picture}
use Rattle.blocks.specs.Character.{descriptor_bytes, class, width, height, is_kept_first}
use Rattle.form.specs.Layout.{last_font, last_code, key_of}
use Rattle.form.specs.Model.{Rec, font, character, Store, Owner, no_owner, owner_after, sorted, number, place, key, decode}
use Rattle.form.specs.Order.{find_record}
use Rattle.form.specs.Checks.{checked, numbered, on_store, finding, on_character}
use Rattle.form.specs.Records.{is_store, records_in}
use Rattle.form.proofs.Codec.{Sorted, sorted_inv}
use Rattle.form.proofs.Locates.{is_store_lem}
use Rattle.form.proofs.Lookup.{find_here, find_other, find_behind}
use Rattle.form.proofs.RecordBytes.{allowed_char, shaped}
use Rattle.form.proofs.RecordRuns.{decoded}
use Rattle.store.specs.Answer.{untold}
use Rattle.store.specs.Calls.{onto, telling_character}
use Rattle.store.specs.Drawing.{picture_of, drawing_picture}
use Rattle.blackdots.specs.Black.{black_dots, ones_of}
use Rattle.blackdots.proofs.ByteOnes.{ones_append, ones_parts, ones_zeros}
use Rattle.blackdots.proofs.Drawn.{ones_drawn}
use Rattle.collection.proofs.Bounds.{kept_picture, kept_wide}
use Rattle.collection.proofs.Passing.{records_are}
use lib.Count.{ones}
use Rattle.marlinfold.specs.Collection.{Seen, seen_at, seen_before, seen_from, seen_in, sum_of, black_of}

-- ── a character among sorted records is found by its numbers, and so is its font
record Kept (all : List Rec) (n c : ℕ) (h d : List ℕ) : Type 0 where
  low : n ≤ last_font
  code : c ≤ last_code
  header : List ℕ
  font_there : find_record (key_of n 0) all ≡ some (font n header)
  there : find_record (key_of n (c + 1)) all ≡ some (character n c h d)
  orientation : ℕ
  kept : is_kept_first h orientation ≡ true
  long : length h ≡ descriptor_bytes

abbrev AllKept : List Rec → List Rec → Type 0
AllKept all [] = Unit {0}
AllKept all (font n h ∷ rs) = AllKept all rs
AllKept all (character n c h d ∷ rs) = Kept all n c h d × AllKept all rs

-- the records of `all` with keys from k on; u is the font that they stand under
record Looked (all : List Rec) (k : ℕ) (u : Owner) (rs : List Rec) : Type 0 where
  order : sorted k u rs ≡ true
  rest : (j : ℕ) → k ≤ j → find_record j all ≡ find_record j rs
  owner : (n : ℕ) → u.owner ≡ n + 1 → (g : List ℕ) × (find_record (key_of n 0) all ≡ some (font n g))

font_key : (n : ℕ) (h : List ℕ) → key (font n h) ≡ key_of n 0
unfolding number place
font_key n h = refl

character_key : (n c : ℕ) (h d : List ℕ) → key (character n c h d) ≡ key_of n (c + 1)
unfolding number place
character_key n c h d = refl

module _ (all : List Rec) (k : ℕ) (u : Owner) (r : Rec) (rs : List Rec) (l : Looked all k u (r ∷ rs)) where
  looked_here : find_record (key r) all ≡ some r
  looked_here = l.rest (key r) (sorted_inv k u r rs l.order).least ∙ find_here (key r) r rs refl

  looked_rest : (j : ℕ) → key r + 1 ≤ j → find_record j all ≡ find_record j rs
  looked_rest j g = l.rest j (omega (arith, g, (sorted_inv k u r rs l.order).least)) ∙ find_other j r rs (λ e. omega (arith, e, g))

looked_font : (all : List Rec) (k : ℕ) (u : Owner) (n : ℕ) (h : List ℕ) (rs : List Rec) → Looked all k u (font n h ∷ rs) → Looked all (key (font n h) + 1) (owner_after u (font n h)) rs
unfolding owner_after
looked_font all k u n h rs l =
    record {
      order = (sorted_inv k u (font n h) rs l.order).rest;
      rest = looked_rest all k u (font n h) rs l;
      owner = λ m e. let z : n ≡ m = omega (arith, e) in (h, subst (λ (x : ℕ). find_record (key_of x 0) all ≡ some (font x h)) z (ap (λ (x : ℕ). find_record x all) (sym (font_key n h)) ∙ looked_here all k u (font n h) rs l));
    }

looked_character : (all : List Rec) (k : ℕ) (u : Owner) (n c : ℕ) (h d : List ℕ) (rs : List Rec) → Looked all k u (character n c h d ∷ rs)
    → Kept all n c h d × Looked all (key (character n c h d) + 1) u rs
looked_character all k u n c h d rs l =
    let w = sorted_inv k u (character n c h d) rs l.order in
    let a = allowed_char u n c h d w.ok in
    let o = l.owner n a.owner in (
      record {
        low = a.low;
        code = a.code;
        header = o.0;
        font_there = o.1;
        there = ap (λ (x : ℕ). find_record x all) (sym (character_key n c h d)) ∙ looked_here all k u (character n c h d) rs l;
        orientation = u.orientation;
        kept = a.kept;
        long = (shaped u (character n c h d) w.ok).0;
      },
      record { order = stays w.rest; rest = looked_rest all k u (character n c h d) rs l; owner = l.owner },
    )
  where
    stays : sorted (key (character n c h d) + 1) (owner_after u (character n c h d)) rs ≡ true → sorted (key (character n c h d) + 1) u rs ≡ true
    stays e = unfold owner_after in e

all_kept : (all : List Rec) (k : ℕ) (u : Owner) (rs : List Rec) → Looked all k u rs → AllKept all rs
all_kept all k u [] l = tt
all_kept all k u (font n h ∷ rs) l = all_kept all (key (font n h) + 1) (owner_after u (font n h)) rs (looked_font all k u n h rs l)
all_kept all k u (character n c h d ∷ rs) l =
    let x = looked_character all k u n c h d rs l in
    (x.0, all_kept all (key (character n c h d) + 1) u rs x.1)

-- ── what is told and drawn of it
pub record Shown (s : List ℕ) (n c : ℕ) (h d : List ℕ) : Type 0 where
  pub told : (seen_at s n c).told ≡ h
  pub black : black_of (seen_at s n c) ≡ black_dots (class h) (width h) (height h) d
  pub wide : 0 < width h

-- the ones of all bytes
ones_sum : (l : List ℕ) → sum_of (map ones l) ≡ ones_of l
unfolding sum_of ones_of
ones_sum [] = refl
ones_sum (b ∷ l) = omega (arith, ones_sum l)

-- the outputs, of zeros
abbrev told_out : List ℕ
told_out = replicate descriptor_bytes 0

abbrev drawn_out : List ℕ
drawn_out = replicate data_limit 0

module _ (s : List ℕ) (st : Store) (e : decode s ≡ some st) (n c : ℕ) (h d : List ℕ) (x : Kept st.recs n c h d) where
  told_is : (telling_character n c s told_out).out ≡ onto h told_out
  unfolding telling_character on_character on_store finding
  told_is = rw (e, le-leb n last_font x.low, le-leb c last_code x.code, x.font_there, x.there)

  drawn_is : (drawing_picture n c s drawn_out).bytes ≡ onto (picture (class h) (width h) d (height h)) drawn_out
  unfolding drawing_picture on_character on_store finding picture_of
  drawn_is =
      let p : picture_size (width h) (height h) ≤ length drawn_out = rw (length-replicate {A = ℕ} data_limit 0) (kept_picture h x.orientation x.kept) in
      rw (e, le-leb n last_font x.low, le-leb c last_code x.code, x.font_there, x.there, le-leb _ _ p)

  -- the whole of an output of 16 bytes, and the ones of a larger one of zeros
  onto_all : onto h told_out ≡ h
  onto_all =
      let z : drop (length h) told_out ≡ [] = drop_of_length-le told_out {i = length h} (omega (arith, x.long, length-replicate {A = ℕ} descriptor_bytes 0)) in
      ap (λ (l : List ℕ). h ++ l) z ∙ append-nil h

  shown : Shown s n c h d
  shown =
      let pic : List ℕ = picture (class h) (width h) d (height h) in
      record {
        told = told_is ∙ onto_all;
        black = ones_sum (seen_at s n c).drawn ∙ ap ones_of drawn_is ∙ omega (arith, ones_append pic (drop (length pic) drawn_out), ones_parts (length pic) drawn_out, ones_zeros data_limit, ones_drawn (class h) (width h) (height h) d);
        wide = (kept_wide h x.orientation x.kept).0;
      }

-- ── of all characters of a store
abbrev pub AllShown : List ℕ → List Rec → Type 0
AllShown s [] = Unit {0}
AllShown s (font n h ∷ rs) = AllShown s rs
AllShown s (character n c h d ∷ rs) = Shown s n c h d × AllShown s rs

shown_by : (s : List ℕ) (st : Store) → decode s ≡ some st → (rs : List Rec) → AllKept st.recs rs → AllShown s rs
shown_by s st e [] k = tt
shown_by s st e (font n h ∷ rs) k = shown_by s st e rs k
shown_by s st e (character n c h d ∷ rs) k = (shown s st e n c h d k.0, shown_by s st e rs k.1)

pub all_shown : (s : List ℕ) → is_store s ≡ true → AllShown s (records_in s)
all_shown s i =
    let x = is_store_lem s i in
    let st : Store = x.0 in
    let l : Looked st.recs 0 no_owner st.recs = record { order = (decoded s st x.1).2; rest = λ j g. refl; owner = λ n e. absurd (omega (arith, e)) } in
    subst (AllShown s) (sym (records_are s st x.1)) (shown_by s st x.1 st.recs (all_kept st.recs 0 no_owner st.recs l))

-- ── those that telling finds are those of the records
unfoldable pub seen_among : List ℕ → ℕ → List Rec → List Seen
seen_among s c [] = []
seen_among s c (font n h ∷ rs) = seen_among s c rs
seen_among s c (character n k h d ∷ rs) = seen_before (eqb k c) (seen_at s n c) (seen_among s c rs)

module _ (s : List ℕ) (st : Store) (e : decode s ≡ some st) (c : ℕ) (lc : c ≤ last_code) where
  abbrev finds : ℕ → Bool
  finds n = eqb (telling_character n c s told_out).refusal 0

  tells_kept : (n : ℕ) (h d : List ℕ) → Kept st.recs n c h d → finds n ≡ true
  unfolding telling_character on_character on_store finding
  tells_kept n h d x = rw (e, le-leb n last_font x.low, le-leb c last_code x.code, x.font_there, x.there)

  tells_none : (n : ℕ) → find_record (key_of n (c + 1)) st.recs ≡ none → finds n ≡ false
  unfolding telling_character on_character on_store finding
  tells_none n q = rw (e, q) (go (numbered n c) (find_record (key_of n 0) st.recs))
    where
      go : (t : Bool) (o : Option Rec) → eqb (checked (untold told_out) t 2 (finding (untold told_out) o 6 (λ r. untold told_out 7))).refusal 0 ≡ false
      go false o = refl
      go true none = unfold finding in refl
      go true (some r) = unfold finding in refl

  -- numbers of fonts without such a character
  passed : (g n m n' m' : ℕ) → n + g ≡ n' → g + m' ≡ m → ((j : ℕ) → n ≤ j → j < n' → find_record (key_of j (c + 1)) st.recs ≡ none) → seen_from s c n m ≡ seen_from s c n' m'
  unfolding seen_from seen_before
  passed zero n m n' m' p q f = let x : n ≡ n' = omega arith in let y : m ≡ m' = omega arith in ap₂ (seen_from s c) x y
  passed (suc g) n zero n' m' p q f = absurd (omega arith)
  passed (suc g) n (suc m) n' m' p q f =
      rw (tells_none n (f n (omega arith) (omega arith))) (passed g (n + 1) m n' m' (omega arith) (omega arith) (λ j a b. f j (omega arith) b))

  found_next : (n m : ℕ) (h d : List ℕ) → Kept st.recs n c h d → seen_from s c n (suc m) ≡ seen_at s n c ∷ seen_from s c (n + 1) m
  unfolding seen_from seen_before
  found_next n m h d x = rw (tells_kept n h d x)

  are_among : (rs : List Rec) (k : ℕ) (u : Owner) (n m : ℕ) → sorted k u rs ≡ true → AllKept st.recs rs → n + m ≡ 32768
      → ((j : ℕ) → n ≤ j → find_record (key_of j (c + 1)) st.recs ≡ find_record (key_of j (c + 1)) rs) → ((j : ℕ) → k ≤ key_of j (c + 1) → n ≤ j) → seen_from s c n m ≡ seen_among s c rs
  unfolding seen_among seen_before
  are_among [] k u n m o a p f b = passed m n m (n + m) 0 refl (omega arith) (λ j l i. f j l ∙ (unfold find_record in refl)) ∙ (unfold seen_from in refl)
  are_among (font i h ∷ rs) k u n m o a p f b =
      let w = sorted_inv k u (font i h) rs o in
      are_among rs (key (font i h) + 1) (owner_after u (font i h)) n m w.rest a p
      (λ j l. f j l ∙ find_other (key_of j (c + 1)) (font i h) rs (λ z. omega (arith, z, font_key i h)))
      (λ j l. b j (omega (arith, l, w.least)))
  are_among (character i q h d ∷ rs) k u n m o a p f b =
      let w = sorted_inv k u (character i q h d) rs o in
      go w (eqb q c) refl (λ n' m' p' f' b'. are_among rs (key (character i q h d) + 1) (owner_after u (character i q h d)) n' m' w.rest a.1 p' f' b')
    where
      go : Sorted k u (character i q h d) rs → (t : Bool) → eqb q c ≡ t
          → ((n' m' : ℕ) → n' + m' ≡ 32768 → ((j : ℕ) → n' ≤ j → find_record (key_of j (c + 1)) st.recs ≡ find_record (key_of j (c + 1)) rs) → ((j : ℕ) → key (character i q h d) + 1 ≤ key_of j (c + 1) → n' ≤ j) → seen_from s c n' m' ≡ seen_among s c rs)
          → seen_from s c n m ≡ seen_before t (seen_at s i c) (seen_among s c rs)
      go w false z next =
          next n m p
          (λ j l. f j l ∙ find_other (key_of j (c + 1)) (character i q h d) rs (λ y. eqb-false q c z (omega (arith, y, character_key i q h d, a.0.code, lc))))
          (λ j l. b j (omega (arith, l, w.least)))
      go w true z next =
          let x : Kept st.recs i c h d = subst (λ (v : ℕ). Kept st.recs i v h d) (eqb-true q c z) a.0 in
          let y : key (character i q h d) ≡ key_of i (c + 1) = character_key i q h d ∙ ap (λ (v : ℕ). key_of i (v + 1)) (eqb-true q c z) in
          let g : n ≤ i = b i (omega (arith, y, w.least)) in
          let low : i ≤ 32767 = x.low in
          (passed (i - n) n m i (suc (32767 - i)) (omega (arith, g)) (omega (arith, g, low, p))
          (λ j l v. f j l ∙ find_other (key_of j (c + 1)) (character i q h d) rs (λ t. omega (arith, t, y, v)) ∙ find_behind (key_of j (c + 1)) (key (character i q h d) + 1) (owner_after u (character i q h d)) rs w.rest (omega (arith, y, v)))
          ∙ found_next i (32767 - i) h d x
          ∙ ap (λ (l : List Seen). seen_at s i c ∷ l)
          (next (i + 1) (32767 - i) (omega (arith, low)) (λ j l. f j (omega (arith, l, g)) ∙ find_other (key_of j (c + 1)) (character i q h d) rs (λ t. omega (arith, t, y, l))) (λ j l. omega (arith, l, y))))

pub seen_are : (s : List ℕ) → is_store s ≡ true → (c : ℕ) → c ≤ last_code → seen_in c s ≡ seen_among s c (records_in s)
seen_are s i c lc =
    let x = is_store_lem s i in
    let st : Store = x.0 in
    let o = (decoded s st x.1).2 in
    let l : Looked st.recs 0 no_owner st.recs = record { order = o; rest = λ j g. refl; owner = λ n e. absurd (omega (arith, e)) } in
    are_among s st x.1 c lc st.recs 0 no_owner 0 32768 o (all_kept st.recs 0 no_owner st.recs l) (omega arith) (λ j g. refl) (λ j g. omega arith)
    ∙ ap (seen_among s c) (sym (records_are s st x.1))
