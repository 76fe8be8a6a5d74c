-- Placing a character in a store. Assumes nothing.
use mathlib.Core.Path.{◌≡◌, refl, sym, ap, ◌∙◌}
use mathlib.Core.List.{List, [], ◌∷◌, ◌++◌, append-nil}
use mathlib.Core.Bool.{Bool, true, false, ◌||◌, cond}
use mathlib.Core.Option.{some}
use Prim.Native.Nat.{ℕ, ◌+◌, ◌-◌, ◌<◌, ◌≤◌}
use native.Mathlib.Omega.{arith}
use lib.ListN.{length, take, drop, replicate, length-append, length-drop}
use lib.Seq.{take_all}
use borrow.Author.Tests.{le-leb, lt-leb, eq-eqb}
use Rattle.blocks.specs.Header.{orientation}
use Rattle.blocks.specs.Character.{descriptor_bytes}
use Rattle.pictures.specs.Size.{data_limit}
use Rattle.form.specs.Layout.{key_of, character_record, last_code, last_font, mark_record}
use Rattle.form.specs.Num.{◌and◌, low_first, Bytes}
use Rattle.form.specs.Model.{Rec, font, character, owner_after, no_owner, tally_of, character_bytes, bytes_of, run, mark_bytes, encode, allowed, held_of, held_under, is_kept, is_unfinished, unfinished, opened, mark_ok, number, place, size_of, total, shut}
use Rattle.form.specs.Order.{below, from, find_record}
use Rattle.change.specs.Put.{with_bytes}
use Rattle.change.specs.Change.{spliced_at, Recounting, recounted, mark_of, remarked, unmarked_for}
use Rattle.form.specs.Checks.{on_store}
use Rattle.store.specs.Answer.{no_run}
use Rattle.store.specs.Calls.{used, with_character}
use Rattle.std.specs.Prelude.{Option as Maybe}
use Rattle.std.specs.Bool.{then_some}
use Rattle.change.specs.declared.CharacterId.{CharacterId}
use Rattle.store.specs.Download.{mark_for, put_character}
use Rattle.store.specs.Putting.{placing, placed}
use Rattle.form.specs.Walk.{Fitting, Growing, kept_at, data_at}
use Rattle.form.specs.declared.walk.Places.{Places}
use Rattle.form.proofs.Numbers.{both}
use Rattle.form.proofs.RecordBytes.{Shaped, shaped}
use Rattle.form.proofs.Codec.{size_bytes}
use Rattle.store.proofs.Replaced.{new_char, opened_append}
use Rattle.store.proofs.Marks.{mark_open, shut_ok, remark_bytes}
use Rattle.store.proofs.Changed.{encode_changed, total_replaced, order_char, uncounted, bytes_char, bytes_counted, recounting}
use Rattle.form.specs.declared.tally.Tally.{Tally}
use Rattle.form.proofs.Ready.{Ready, standing, record_bytes, same_store}
use Rattle.form.proofs.Seeks.{KeptChar}
use Rattle.store.proofs.Spots.{char_span, char_shape}
use Rattle.change.proofs.Extends.{extended}
use Rattle.store.proofs.FontCalls.{cut_done}

-- a part that goes to the end
pub to_end : (k : ℕ) (xs : List ℕ) → take (length xs - k) (drop k xs) ≡ drop k xs
to_end k xs = take_all (length xs - k) (drop k xs) (simp length-drop (omega arith))

-- ── the new record
pub new_allowed : (n c : ℕ) (g h d : List ℕ) → n ≤ last_font → c ≤ last_code → is_kept (held_under (orientation g) h d) ≡ true → allowed (owner_after no_owner (font n g)) (character n c h d) ≡ true
unfolding allowed owner_after
new_allowed n c g h d a b e = both _ _ (eq-eqb (n + 1) (n + 1) refl) (both _ _ (le-leb _ _ a) (both _ _ (le-leb _ _ b) e))

or_true : (x : Bool) → (x || true) ≡ true
or_true true = refl
or_true false = refl

new_opened : (n c : ℕ) (h d : List ℕ) (rs : List Rec) → is_unfinished (held_of h d) ≡ true → opened (key_of n (c + 1)) (character n c h d ∷ rs) ≡ true
unfolding opened unfinished number place ◌and◌
new_opened n c h d rs q = rw (eq-eqb (key_of n (c + 1)) (key_of n (c + 1)) refl, q)

-- the mark after it
-- the mark that names a character where it is unfinished
pub mark_given : (id : CharacterId) (h d : List ℕ) (b : Bool) (o : Maybe CharacterId) → o ≡ then_some b id → b ≡ is_unfinished (held_of h d) → mark_of o ≡ mark_for id.font id.code h d
unfolding mark_for
mark_given id h d b o e q = rw (e, ← q) (by_test b)
  where
    by_test : (t : Bool) → mark_of (then_some t id) ≡ cond t (record { on = 1; font_of = id.font; code_of = id.code }) shut
    by_test true = refl
    by_test false = refl

pub mark_new : (n c : ℕ) (h d : List ℕ) (rs : List Rec) → n ≤ last_font → c ≤ last_code → mark_ok (mark_for n c h d) (with_character n c (character n c h d ∷ []) rs) ≡ true
unfolding mark_for
mark_new n c h d rs a b = go (is_unfinished (held_of h d)) refl
  where
    go : (u : Bool) → is_unfinished (held_of h d) ≡ u → mark_ok (cond u (record { on = 1; font_of = n; code_of = c }) shut) (with_character n c (character n c h d ∷ []) rs) ≡ true
    go true q =
        let k = key_of n (c + 1) in
        mark_open (record { on = 1; font_of = n; code_of = c }) (with_character n c (character n c h d ∷ []) rs) (record { on = refl; number = a; code = b })
        (opened_append k (below k rs) (character n c h d ∷ from (k + 1) rs) ∙ rw (new_opened n c h d (from (k + 1) rs) q) (or_true (opened k (below k rs))))
    go false q = shut_ok (with_character n c (character n c h d ∷ []) rs)

char_run : (T : ℕ → Tally) (n c : ℕ) (h d : List ℕ) → Shaped (character n c h d) → length (run T (character n c h d ∷ [])) ≡ total (character n c h d ∷ [])
unfolding run total
char_run T n c h d e = omega (arith, length-append (bytes_of T (character n c h d)) [], size_bytes T (character n c h d) e)

-- ── placing, by the room that there is
-- what a character that fits finds
pub record Space (n c : ℕ) (h d s : List ℕ) (w : Places) : Type 0 where
  pub ready : Ready n (c + 1) s w
  pub low : n ≤ last_font
  pub code : c ≤ last_code
  pub header : List ℕ
  pub font_in : find_record (key_of n 0) ready.store.recs ≡ some (font n header)
  pub ok : allowed (owner_after no_owner (font n header)) (character n c h d) ≡ true

pub space : (n c : ℕ) (h d s : List ℕ) (w : Places) → Bytes s → Fitting n c h d s w → Space n c h d s w
space n c h d s w B f =
    let a = f.arrives in
    let r = standing n (c + 1) s B w a.stands in
    let i : a.stands.store ≡ r.store = same_store s a.stands.is r.is in
    record { ready = r; low = a.low; code = a.code; header = a.header; font_in = rw i at a.font_there; ok = new_allowed n c a.header h d a.low a.code f.ok }

module _ (n c : ℕ) (h d s : List ℕ) (w : Places) (x : Space n c h d s w) where
  new_shape : (length h ≡ descriptor_bytes) × (length d ≤ data_limit) × (n ≤ last_font) × (c ≤ last_code)
  new_shape = shaped (owner_after no_owner (font n x.header)) (character n c h d) x.ok

  pub data_small : length d ≤ data_limit
  data_small = new_shape.1

  lo : w.from ≡ mark_record + total (below (key_of n (c + 1)) x.ready.store.recs)
  lo = ap (λ (y : Places). y.from) x.ready.at

  hi : w.to ≡ mark_record + total (below (key_of n (c + 1) + 1) x.ready.store.recs)
  hi = ap (λ (y : Places). y.to) x.ready.at

  us : w.used ≡ mark_record + total x.ready.store.recs
  us = ap (λ (y : Places). y.used) x.ready.at

  grows : total (with_character n c (character n c h d ∷ []) x.ready.store.recs) + (w.to - w.from) ≡ total x.ready.store.recs + (character_record + length d)
  unfolding total size_of
  grows =
      let e = total_replaced (key_of n (c + 1)) (key_of n (c + 1) + 1) (character n c h d ∷ []) x.ready.store.recs x.ready.valid.order (omega arith) in
      omega (arith, e, lo, hi)

  -- no room: the font goes
  pub place_full : length s < w.used - (w.to - w.from) + (character_record + length d) → placed n c h d s ≡ record { answer = 10; bad = no_run; bytes = unmarked_for n (spliced_at w.lo (w.hi - w.lo) w.used 0 s) }
  unfolding placed placing on_store
  place_full q =
      let r = x.ready in
      let y : r.store.size < used (put_character n c h d r.store) = omega (arith, grows, us, r.one, r.last, r.size) in
      rw (r.is, lt-leb _ _ y, cut_done n (c + 1) s w r)

  fo : w.lo ≡ mark_record + total (below (key_of n 0) x.ready.store.recs)
  fo = ap (λ (y : Places). y.lo) x.ready.at

  -- room: the record stands, its font's numbers are made true, and then the mark
  module _ (q : w.used - (w.to - w.from) + (character_record + length d) ≤ length s) where
    new_total : total (character n c h d ∷ []) ≡ character_record + length d
    unfolding total size_of
    new_total = omega arith

    fits : mark_record + total (with_character n c (character n c h d ∷ []) x.ready.store.recs) ≤ x.ready.store.size
    fits = let r = x.ready in omega (arith, grows, us, r.one, r.last, r.size)

    put_bytes : with_bytes (spliced_at w.from (w.to - w.from) w.used (character_record + length d) s) w.from (character_bytes n c h d) ≡ uncounted n c (character n c h d ∷ []) x.ready.store
    unfolding run bytes_of
    put_bytes =
        let r = x.ready in
        let new = character n c h d ∷ [] in
        rw (lo, hi, us, r.bytes, ← (append-nil (character_bytes n c h d)), ← new_total)
        (bytes_char n c x.header new r.store r.valid x.code x.font_in (new_char h d x.ok) fits (char_run (tally_of r.store.recs) n c h d new_shape))

    pub place_ready : Recounting (with_bytes (spliced_at w.from (w.to - w.from) w.used (character_record + length d) s) w.from (character_bytes n c h d)) w.lo (w.to - w.from) (character_record + length d)
    place_ready =
        let r = x.ready in
        rw put_bytes (rw (fo, lo, hi, ← new_total) (recounting n c x.header (character n c h d ∷ []) r.store r.valid x.code x.font_in (new_char h d x.ok) fits))

    pub place_done : placed n c h d s
        ≡ record {
          answer = 0;
          bad = no_run;
          bytes = remarked (mark_for n c h d) (recounted w.lo (w.to - w.from) (character_record + length d) (with_bytes (spliced_at w.from (w.to - w.from) w.used (character_record + length d) s) w.from (character_bytes n c h d)));
        }
    unfolding placed placing on_store
    place_done =
        let r = x.ready in
        let st = r.store in
        let new = character n c h d ∷ [] in
        let rs = with_character n c new st.recs in
        let W = new_char h d x.ok in
        let T : List ℕ = run (tally_of rs) rs ++ replicate (st.size - (mark_record + total rs)) 0 in
        let b : recounted w.lo (w.to - w.from) (character_record + length d) (with_bytes (spliced_at w.from (w.to - w.from) w.used (character_record + length d) s) w.from (character_bytes n c h d)) ≡ mark_bytes st.mark ++ T =
        ap (recounted w.lo (w.to - w.from) (character_record + length d)) put_bytes ∙ rw (fo, lo, hi, ← new_total) (bytes_counted n c x.header new st r.valid x.code x.font_in W fits) in
        let y : encode (put_character n c h d st) ≡ remarked (mark_for n c h d) (recounted w.lo (w.to - w.from) (character_record + length d) (with_bytes (spliced_at w.from (w.to - w.from) w.used (character_record + length d) s) w.from (character_bytes n c h d))) =
        encode_changed (mark_for n c h d) rs st (order_char n c x.header new st r.valid x.code x.font_in W fits) ∙ sym (ap (remarked (mark_for n c h d)) b ∙ remark_bytes st.mark (mark_for n c h d) T) in
        rw (r.is, le-leb _ _ fits, y)

-- ── a record that grows
module _ (n c : ℕ) (t s : List ℕ) (w : Places) (B : Bytes s) (g : Growing n c t s w) where
  pub growing : Space n c (kept_at s w) (data_at s w ++ t) s w
  growing = space n c (kept_at s w) (data_at s w ++ t) s w B g.fits

  grow_same : g.fits.arrives.stands.store ≡ growing.ready.store
  grow_same = same_store s g.fits.arrives.stands.is growing.ready.is

  grow_there : find_record (key_of n (c + 1)) growing.ready.store.recs ≡ some (character n c (kept_at s w) (data_at s w))
  grow_there = rw grow_same at g.there

  abbrev grow_char : KeptChar n c s w
  grow_char =
      record {
        ready = growing.ready;
        low = growing.low;
        code = growing.code;
        header = growing.header;
        font_there = growing.font_in;
        kept = kept_at s w;
        bytes = data_at s w;
        there = grow_there;
      }

  pub grow_span : w.to ≡ w.from + character_record + length (data_at s w)
  grow_span = char_span n c s w grow_char

  pub grow_small : length (data_at s w) + length t ≤ data_limit
  grow_small = omega (arith, data_small n c (kept_at s w) (data_at s w ++ t) s w growing, length-append (data_at s w) t)

  grow_bytes : (u : List ℕ) × (drop w.from s ≡ character_bytes n c (kept_at s w) (data_at s w) ++ u)
  unfolding bytes_of
  grow_bytes =
      let r = growing.ready in
      let b = record_bytes (key_of n (c + 1)) (character n c (kept_at s w) (data_at s w)) r.store r.valid grow_there in
      let i : w.from ≡ mark_record + total (below (key_of n (c + 1)) r.store.recs) = ap (λ (y : Places). y.from) r.at in
      (b.0, ap (λ (k : ℕ). drop k s) i ∙ ap (drop (mark_record + total (below (key_of n (c + 1)) r.store.recs))) r.bytes ∙ b.1)

  -- the code's writes are those of the whole record
  pub grow_put : w.used + length t ≤ length s
      → with_bytes (with_bytes (spliced_at w.from (w.to - w.from) w.used (w.to - w.from + length t) s) w.from (low_first 2 (w.to - w.from + length t))) (w.from + (w.to - w.from)) t
      ≡ with_bytes (spliced_at w.from (w.to - w.from) w.used (character_record + length (data_at s w ++ t)) s) w.from (character_bytes n c (kept_at s w) (data_at s w ++ t))
  grow_put room =
      let d = data_at s w in
      let u = grow_bytes in
      let i : w.to - w.from ≡ character_record + length d = omega (arith, grow_span) in
      let j : character_record + length (d ++ t) ≡ character_record + length d + length t = omega (arith, length-append d t) in
      let k : length (kept_at s w) ≡ descriptor_bytes = (char_shape n c s w grow_char).0 in
      let e = extended n c w.from w.used (kept_at s w) d t s u.0 u.1 k (omega (arith, grow_small)) (omega (arith, grow_span, growing.ready.last)) in
      ap (λ (x : ℕ). with_bytes (with_bytes (spliced_at w.from x w.used (x + length t) s) w.from (low_first 2 (x + length t))) (w.from + x) t) i ∙ e
      ∙ ap (λ (x : ℕ). with_bytes (spliced_at w.from (character_record + length d) w.used x s) w.from (character_bytes n c (kept_at s w) (d ++ t))) (sym j)
      ∙ ap (λ (x : ℕ). with_bytes (spliced_at w.from x w.used (character_record + length (d ++ t)) s) w.from (character_bytes n c (kept_at s w) (d ++ t))) (sym i)
