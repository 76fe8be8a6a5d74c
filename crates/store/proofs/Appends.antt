-- Kept records that are downloaded again, in their order: each is accepted, and stands behind those before it. Assumes nothing.
use mathlib.Core.Path.{◌≡◌, refl, sym, ap, ◌∙◌, subst}
use mathlib.Core.List.{List, [], ◌∷◌, ◌++◌, append-nil}
use mathlib.Core.Bool.{Bool, true, false}
use mathlib.Core.Option.{some}
use Prim.Native.Nat.{ℕ, ◌+◌, ◌≤◌, ◌<◌}
use native.Mathlib.Omega.{arith}
use lib.ListN.{length, length-append}
use lib.Seq.{take_all}
use lib.Dec.{eqb}
use borrow.Author.Tests.{le-leb, eq-eqb}
use Rattle.blocks.specs.Header.{orientation, is_kept_header, kept_header, own_header, block_limit}
use Rattle.blocks.specs.Character.{class, width, height, character_length, kind_of, descriptor_bytes}
use Rattle.pictures.specs.Size.{data_limit}
use Rattle.pictures.specs.Picture.{judge, kept_data, held}
use Rattle.std.specs.Prelude.{Some, None, Ok}
use Rattle.pictures.specs.declared.picture.Held.{Held}
use Rattle.pictures.specs.declared.picture.Held.TheVariants.{Whole, Unfinished, Foreign}
use Rattle.blocks.proofs.KeptHeader.{is_kept_header_lem}
use Rattle.blocks.proofs.KeptFirst.{is_kept_block, is_kept_length}
use Rattle.pictures.proofs.KeptData.{whole_judged, unfinished_judged, kept_complete, kept_incomplete, incomplete_prefix, complete_prefix}
use Rattle.form.specs.Layout.{key_of, character_record, last_code, last_font, mark_record, most_store, font_record}
use Rattle.form.specs.Num.{◌and◌}
use Rattle.form.specs.Model.{Rec, font, character, Store, key, number, place, held_of, held_under, is_kept, is_unfinished, sorted, mark_ok, encode, total, size_of, shut, Valid}
use Rattle.form.specs.Order.{keep, below, from, replaced, find_record}
use Rattle.form.specs.Checks.{on_store, finding}
use Rattle.store.specs.Answer.{done}
use Rattle.store.specs.Calls.{fresh, used, closed_for, put_font, downloading_font, with_character}
use Rattle.store.specs.Download.{names, mark_for, put_character, downloading_character}
use Rattle.store.specs.Putting.{placing, receiving, receiving_first, receiving_more}
use Rattle.form.proofs.RecordBytes.{held_kept}
use Rattle.form.proofs.Codec.{decode_encode}
use Rattle.form.proofs.Totals.{total_append}
use Rattle.form.proofs.Order.{below_in, below_out, from_out}
use Rattle.form.proofs.Lookup.{find_here, find_other}
use Rattle.store.proofs.Changed.{changed}
use Rattle.store.proofs.Again.{put_valid, placed_valid}

-- ── records whose keys all lie below k
abbrev pub Low : ℕ → List Rec → Type 0
Low k [] = Unit {0}
Low k (r ∷ rs) = (key r < k) × Low k rs

pub low_more : (k m : ℕ) (rs : List Rec) → Low k rs → k ≤ m → Low m rs
low_more k m [] l h = tt
low_more k m (r ∷ rs) l h = (omega (arith, l.0), low_more k m rs l.1 h)

low_snoc : (k : ℕ) (rs : List Rec) (r : Rec) → Low k rs → key r < k → Low k (rs ++ (r ∷ []))
low_snoc k [] r l h = (h, tt)
low_snoc k (x ∷ rs) r l h = (l.0, low_snoc k rs r l.1 h)

below_low : (k : ℕ) (rs old : List Rec) → Low k rs → below k (rs ++ old) ≡ rs ++ below k old
below_low k [] old l = refl
below_low k (r ∷ rs) old l = below_in k r (rs ++ old) l.0 ∙ ap (λ (x : List Rec). r ∷ x) (below_low k rs old l.1)

from_low : (k m : ℕ) (rs old : List Rec) → Low k rs → k ≤ m → from m (rs ++ old) ≡ from m old
from_low k m [] old l h = refl
from_low k m (r ∷ rs) old l h = from_out m r (rs ++ old) (omega (arith, l.0)) ∙ from_low k m rs old l.1 h

find_low : (k : ℕ) (rs old : List Rec) → Low k rs → find_record k (rs ++ old) ≡ find_record k old
find_low k [] old l = refl
find_low k (r ∷ rs) old l = find_other k r (rs ++ old) (λ e. omega (arith, e, l.0)) ∙ find_low k rs old l.1

find_front : (k : ℕ) (rs old : List Rec) (r : Rec) → find_record k rs ≡ some r → find_record k (rs ++ old) ≡ some r
unfolding find_record
find_front k [] old r e = let z : ◌≡◌ {A = ℕ} 0 1 = cc in absurd (omega arith)
find_front k (x ∷ rs) old r e = go (eqb (key x) k) refl (find_front k rs old r)
  where
    go : (t : Bool) → eqb (key x) k ≡ t → (find_record k rs ≡ some r → find_record k (rs ++ old) ≡ some r) → find_record k (x ∷ (rs ++ old)) ≡ some r
    go true q f = rw q (rw q at e)
    go false q f = rw q (f (rw q at e))

-- a record with key k comes behind them, in the place of an older one of that key
behind : (k : ℕ) (new rs : List Rec) → Low k rs → replaced k (k + 1) new rs ≡ rs ++ new
unfolding keep
behind k new rs l =
    let a : below k rs ≡ rs = ap (below k) (sym (append-nil rs)) ∙ below_low k rs [] l ∙ append-nil rs in
    let b : from (k + 1) rs ≡ [] = ap (from (k + 1)) (sym (append-nil rs)) ∙ from_low k (k + 1) rs [] l (omega arith) in
    rw (a, b) (ap (λ (x : List Rec). rs ++ x) (append-nil new))

instead : (k : ℕ) (r : Rec) (new rs : List Rec) → Low k rs → key r ≡ k → replaced k (k + 1) new (rs ++ (r ∷ [])) ≡ rs ++ new
unfolding keep
instead k r new rs l e =
    let a : below k (rs ++ (r ∷ [])) ≡ rs = below_low k rs (r ∷ []) l ∙ ap (λ (x : List Rec). rs ++ x) (below_out k r [] (omega (arith, e))) ∙ append-nil rs in
    let b : from (k + 1) (rs ++ (r ∷ [])) ≡ [] = from_low k (k + 1) rs (r ∷ []) l (omega arith) ∙ from_out (k + 1) r [] (omega (arith, e)) in
    rw (a, b) (ap (λ (x : List Rec). rs ++ x) (append-nil new))

-- ── a store of font n, with header g, and of characters below key k
pub record Laid (n k : ℕ) (g : List ℕ) (st : Store) : Type 0 where
  pub valid : Valid st
  pub there : find_record (key_of n 0) st.recs ≡ some (font n g)
  pub low : Low k st.recs

-- the header's own bytes into a fresh store
pub fresh_valid : (size : ℕ) → mark_record ≤ size → size ≤ most_store → Valid (fresh size)
fresh_valid size room small = record { order = unfold sorted in refl; marked = unfold mark_ok ◌and◌ in refl; small = small; room = unfold total in omega arith }

abbrev pub first_store : ℕ → List ℕ → ℕ → Store
first_store n h size = record { size = size; mark = shut; recs = font n h ∷ [] }

module _ (n : ℕ) (h : List ℕ) (size : ℕ) (low : n ≤ last_font) (ok : is_kept_header h ≡ true) (room : mark_record + font_record ≤ size) (small : size ≤ most_store) where
  fresh_is : Valid (fresh size)
  fresh_is = fresh_valid size (omega arith) small

  put_is : put_font n (kept_header (own_header h)) (fresh size) ≡ first_store n h size
  unfolding closed_for keep ◌and◌
  put_is = ap (λ (x : List ℕ). put_font n x (fresh size)) (is_kept_header_lem h ok).1

  header_fits : used (put_font n (kept_header (own_header h)) (fresh size)) ≤ size
  unfolding total size_of keep
  header_fits = omega arith

  header_sent : downloading_font n (own_header h) (encode (fresh size)) ≡ done (first_store n h size)
  unfolding downloading_font on_store
  header_sent = rw (decode_encode (fresh size) fresh_is, le-leb n last_font low, (is_kept_header_lem h ok).0, le-leb (used (put_font n (kept_header (own_header h)) (fresh size))) size header_fits, put_is)

  header_laid : Laid n (key_of n 0 + 1) h (first_store n h size)
  unfolding number place
  header_laid = record {
    valid = subst Valid put_is (put_valid (fresh size) fresh_is n (own_header h) low (is_kept_header_lem h ok).0 header_fits);
    there = find_here (key_of n 0) (font n h) [] (unfold number place in refl);
    low = (unfold number place in omega arith, tt);
  }

  pub font_laid : (downloading_font n (own_header h) (encode (fresh size)) ≡ done (first_store n h size)) × Laid n (key_of n 0 + 1) h (first_store n h size)
  font_laid = (header_sent, header_laid)

-- ── a character behind them
-- data that is held is kept as it is, and accepted where it fits
module _ (n c : ℕ) (h d : List ℕ) (s : List ℕ) (st : Store) (small : length d ≤ data_limit) (fits : used (put_character n c h d st) ≤ st.size) where
  place_it : placing n c h d st ≡ done (put_character n c h d st)
  unfolding placing
  place_it = rw (le-leb (used (put_character n c h d st)) st.size fits)

  receive_whole : judge (class h) (width h) (height h) d ≡ Ok (Some (length d)) → receiving n c h d s st ≡ done (put_character n c h d st)
  unfolding receiving
  receive_whole e =
      let k : kept_data (class h) (width h) (height h) d ≡ d = kept_complete (class h) (width h) (height h) d (length d) e ∙ take_all (length d) d (omega arith) in
      rw (e, k, le-leb (length d) data_limit small) place_it

  receive_part : judge (class h) (width h) (height h) d ≡ Ok None → receiving n c h d s st ≡ done (put_character n c h d st)
  unfolding receiving
  receive_part e = rw (e, kept_incomplete (class h) (width h) (height h) d e, le-leb (length d) data_limit small) place_it

received : (n c : ℕ) (h d s : List ℕ) (st : Store) → is_kept (held_of h d) ≡ true → used (put_character n c h d st) ≤ st.size → receiving n c h d s st ≡ done (put_character n c h d st)
received n c h d s st ok fits = go (held_of h d) refl ok
  where
    go : (x : Held) → held_of h d ≡ x → is_kept x ≡ true → receiving n c h d s st ≡ done (put_character n c h d st)
    go Whole q e = let j = whole_judged (class h) (width h) (height h) d q in receive_whole n c h d s st j.1 fits j.0
    go Unfinished q e = let j = unfinished_judged (class h) (width h) (height h) d q in receive_part n c h d s st j.1 fits j.0
    go Foreign q e = let z : ◌≡◌ {A = ℕ} 0 1 = cc in absurd (omega arith)

-- the store with this character behind rs
abbrev pub last_store : ℕ → ℕ → List ℕ → List ℕ → List Rec → Store → Store
last_store n c h d rs st = changed (mark_for n c h d) (rs ++ (character n c h d ∷ [])) st

module _ (n c : ℕ) (g h : List ℕ) (low : n ≤ last_font) (code : c ≤ last_code) where
  -- the store that a download leaves, where the character stands behind rs
  module _ (d : List ℕ) (rs : List Rec) (st : Store) (v : Valid st) (there : find_record (key_of n 0) st.recs ≡ some (font n g)) (laid : Low (key_of n (c + 1)) rs) (front : find_record (key_of n 0) rs ≡ some (font n g))
      (is : with_character n c (character n c h d ∷ []) st.recs ≡ rs ++ (character n c h d ∷ [])) (ok : is_kept (held_under (orientation g) h d) ≡ true)
      (room : mark_record + total rs + character_record + length d ≤ st.size) where
    put_last : put_character n c h d st ≡ last_store n c h d rs st
    put_last = rw is

    last_fits : used (put_character n c h d st) ≤ st.size
    unfolding total size_of
    last_fits = rw is (omega (arith, total_append rs (character n c h d ∷ [])))

    last_received : (s : List ℕ) → receiving n c h d s st ≡ done (last_store n c h d rs st)
    last_received s = let k = held_kept (orientation g) h d ok in received n c h d s st (rw (← k.1) ok) last_fits ∙ ap done put_last

    last_laid : Laid n (key_of n (c + 1) + 1) g (last_store n c h d rs st)
    unfolding number place
    last_laid = record {
      valid = subst Valid put_last (placed_valid n c (encode st) h d st (record { is = decode_encode st v; valid = v; low = low; code = code; header = g; there = there; ok = ok }) last_fits);
      there = find_front (key_of n 0) rs (character n c h d ∷ []) (font n g) front;
      low = low_snoc (key_of n (c + 1) + 1) rs (character n c h d) (low_more (key_of n (c + 1)) (key_of n (c + 1) + 1) rs laid (omega arith)) (omega arith);
    }

  module _ (st : Store) (w : Laid n (key_of n (c + 1)) g st) where
    -- a first block
    first_received : (d s : List ℕ) → is_kept (held_under (orientation g) h d) ≡ true → receiving n c h d s st ≡ done (last_store n c h d st.recs st)
        → receiving_first n c g (h ++ d) s st ≡ done (last_store n c h d st.recs st)
    unfolding receiving_first
    first_received d s ok e =
        let k = is_kept_block h (orientation g) (held_kept (orientation g) h d ok).0 d in
        rw (k.1, k.2, k.3) e

    first_sent : (d : List ℕ) → is_kept (held_under (orientation g) h d) ≡ true → mark_record + total st.recs + character_record + length d ≤ st.size → descriptor_bytes + length d ≤ block_limit
        → downloading_character n c (h ++ d) (encode st) ≡ done (last_store n c h d st.recs st)
    unfolding downloading_character receiving_first receiving placing on_store finding character_length
    first_sent d ok room short =
        let f = (held_kept (orientation g) h d ok).0 in
        let l : length (h ++ d) ≡ descriptor_bytes + length d = length-append h d ∙ ap (λ (x : ℕ). x + length d) (is_kept_length h (orientation g) f) in
        let i = behind (key_of n (c + 1)) (character n c h d ∷ []) st.recs w.low in
        rw (
          decode_encode st w.valid,
          le-leb n last_font low,
          le-leb c last_code code,
          l,
          le-leb 2 (descriptor_bytes + length d) (omega arith),
          le-leb (descriptor_bytes + length d) block_limit short,
          w.there,
          (is_kept_block h (orientation g) f d).0,
        ) (first_received d (encode st) ok (last_received d st.recs st w.valid w.there w.low w.there i ok room (encode st)))

    pub first_laid : (d : List ℕ) → is_kept (held_under (orientation g) h d) ≡ true → mark_record + total st.recs + character_record + length d ≤ st.size → descriptor_bytes + length d ≤ block_limit
        → (downloading_character n c (h ++ d) (encode st) ≡ done (last_store n c h d st.recs st)) × Laid n (key_of n (c + 1) + 1) g (last_store n c h d st.recs st)
    first_laid d ok room short =
        let i = behind (key_of n (c + 1)) (character n c h d ∷ []) st.recs w.low in
        (first_sent d ok room short, last_laid d st.recs st w.valid w.there w.low w.there i ok room)

    -- a continuation, which follows a first block with data a
    module _ (a b : List ℕ) (w' : Laid n (key_of n (c + 1) + 1) g (last_store n c h a st.recs st)) (waits : is_unfinished (held_of h a) ≡ true) (ok : is_kept (held_under (orientation g) h (a ++ b)) ≡ true)
        (room : mark_record + total st.recs + character_record + length (a ++ b) ≤ st.size) (short : 2 + length b ≤ block_limit) where
      more_is : with_character n c (character n c h (a ++ b) ∷ []) (st.recs ++ (character n c h a ∷ [])) ≡ st.recs ++ (character n c h (a ++ b) ∷ [])
      more_is = instead (key_of n (c + 1)) (character n c h a) (character n c h (a ++ b) ∷ []) st.recs w.low (unfold number place in refl)

      more_named : names n c (mark_for n c h a) ≡ true
      unfolding mark_for ◌and◌
      more_named = rw (waits, eq-eqb n n refl, eq-eqb c c refl)

      more_found : find_record (key_of n (c + 1)) (st.recs ++ (character n c h a ∷ [])) ≡ some (character n c h a)
      more_found = find_low (key_of n (c + 1)) st.recs (character n c h a ∷ []) w.low ∙ find_here (key_of n (c + 1)) (character n c h a) [] (unfold number place in refl)

      more_received : (s : List ℕ) → receiving_more n c (4 ∷ 1 ∷ b) s (last_store n c h a st.recs st) ≡ done (last_store n c h (a ++ b) st.recs st)
      unfolding receiving_more finding
      more_received s =
          rw (more_named, more_found) (last_received (a ++ b) st.recs (last_store n c h a st.recs st) w'.valid w'.there w.low w.there more_is ok room s)

      more_length : character_length (4 ∷ 1 ∷ b) ≡ true
      unfolding character_length
      more_length = simp (le-leb 2 (length (4 ∷ 1 ∷ b)) (omega arith), le-leb (length (4 ∷ 1 ∷ b)) block_limit (omega (arith, short)))

      more_sent : downloading_character n c (4 ∷ 1 ∷ b) (encode (last_store n c h a st.recs st)) ≡ done (last_store n c h (a ++ b) st.recs st)
      unfolding downloading_character receiving_more receiving placing on_store finding kind_of
      more_sent =
          rw (
            decode_encode (last_store n c h a st.recs st) w'.valid,
            le-leb n last_font low,
            le-leb c last_code code,
            more_length,
            w'.there,
          ) (more_received (encode (last_store n c h a st.recs st)))

      pub more_laid : (downloading_character n c (4 ∷ 1 ∷ b) (encode (last_store n c h a st.recs st)) ≡ done (last_store n c h (a ++ b) st.recs st)) × Laid n (key_of n (c + 1) + 1) g (last_store n c h (a ++ b) st.recs st)
      more_laid = (more_sent, last_laid (a ++ b) st.recs (last_store n c h a st.recs st) w'.valid w'.there w.low w.there more_is ok room)

-- the first part of kept data waits for the rest
pub part_waits : (h a b : List ℕ) → is_kept (held_of h (a ++ b)) ≡ true → 0 < length b → held_of h a ≡ Unfinished
unfolding held
part_waits h a b ok l = go (held_of h (a ++ b)) refl ok
  where
    waits : judge (class h) (width h) (height h) a ≡ Ok None → length (a ++ b) ≤ data_limit → held_of h a ≡ Unfinished
    waits j s = unfold held in rw (le-leb (length a) data_limit (omega (arith, length-append a b)), j)

    go : (x : Held) → held_of h (a ++ b) ≡ x → is_kept x ≡ true → held_of h a ≡ Unfinished
    go Whole q e = let j = whole_judged (class h) (width h) (height h) (a ++ b) q in waits (complete_prefix (class h) (width h) (height h) a b j.0 l) j.1
    go Unfinished q e = let j = unfinished_judged (class h) (width h) (height h) (a ++ b) q in waits (incomplete_prefix (class h) (width h) (height h) a b j.0) j.1
    go Foreign q e = let z : ◌≡◌ {A = ℕ} 0 1 = cc in absurd (omega arith)
