-- The record of a kept font stands whole at its place, and the part that an answer names is such a record. Assumes nothing.
use Prim.Native.Nat.{ℕ, ◌+◌, ◌-◌, ◌≤◌}
use mathlib.Core.Path.{◌≡◌, refl, sym, ap, ◌∙◌, subst}
use mathlib.Core.Logic.{inl, inr}
use mathlib.Core.Bool.{Bool, true, false, ◌&&◌, cond}
use mathlib.Core.List.{List, [], ◌∷◌, ◌++◌}
use mathlib.Core.Option.{Option, none, some}
use native.Mathlib.Omega.{arith}
use lib.ListN.{take, drop, length-drop}
use lib.Seq.{drop-drop}
use borrow.Author.Tests.{le-leb}
use Rattle.blocks.specs.Header.{header_bytes}
use Rattle.form.specs.Layout.{mark_record, font_record, key_of, kind_at, number_at, font_kept_at}
use Rattle.form.specs.Num.{field}
use Rattle.form.specs.Model.{tally_in, tally_of, Rec, font, character, Store, Owner, owner_after, no_owner, sorted, number, place, key, total, head_rec, split, decode}
use Rattle.form.specs.Order.{below, from, find_record}
use Rattle.form.specs.Records.{is_store, records_in, records_at, records_behind, tally_by_font, font_place, FontStands}
use Rattle.form.specs.Fonts.{Font, fonts_in, fonts_of}
use Rattle.form.proofs.Fields.{field_drop}
use Rattle.form.proofs.RecordBytes.{Headed, is_font_lem, is_character, head_inv}
use Rattle.form.proofs.Codec.{sorted_inv}
use Rattle.form.proofs.RecordRuns.{decoded}
use Rattle.form.proofs.Lookup.{found, find_here, find_other, find_behind}
use Rattle.form.proofs.Locates.{from_key, split_rest}
use Rattle.form.proofs.Order.{split_at}
use Rattle.form.proofs.Counts.{counts_true}
use Rattle.choice.specs.Lists.{In}
use Rattle.choice.specs.Candidates.{Candidate, of_both}
use Rattle.choice.specs.Request.{in_range}
use Rattle.choice.specs.Steps.{Choice, chosen, choice}
use Rattle.choice.specs.Choosing.{choosing_among, choosing_from_two, which_of}
use Rattle.choice.specs.declared.Request.{Request}
use Rattle.std.specs.Prelude.{Ok, Err}
use Rattle.refusals.specs.declared.Refused.TheVariants.{NotStore, OutOfRange}
use Rattle.refusals.proofs.Numbers.{number_some}
use Rattle.choice.proofs.Members.{font_in_lem, soft_in, cartridge_in}
use Rattle.choice.proofs.Choice.{choice_in}
use Rattle.cartridge.specs.Cartridge.{chosen_place, record_answer, answering_from_two, MemoryPart, fits, record_part, Gives, of_soft, of_cartridge, nothing, GivesRecord}

-- ── among records by rising keys a font is found by its number
later : (f : Font) (r : Rec) (rs : List Rec) (u : Owner) → sorted (key r + 1) u rs ≡ true → find_record (key_of f.number 0) rs ≡ some (font f.number f.kept)
    → find_record (key_of f.number 0) (r ∷ rs) ≡ some (font f.number f.kept)
later f r rs u o e = find_other (key_of f.number 0) r rs not_here ∙ e
  where
    not_here : key r ≡ key_of f.number 0 → ⊥
    not_here q =
        let n : find_record (key_of f.number 0) rs ≡ none = find_behind (key_of f.number 0) (key r + 1) u rs o (omega arith) in
        let z : ◌≡◌ {A = ℕ} 0 1 = cc in
        omega arith

font_found : (f : Font) (rs : List Rec) (k : ℕ) (u : Owner) → sorted k u rs ≡ true → In f (fonts_in rs) → find_record (key_of f.number 0) rs ≡ some (font f.number f.kept)
unfolding fonts_in number place
font_found f [] k u o m = absurd m
font_found f (font n h ∷ rs) k u o (inl e) = rw e (find_here (key_of n 0) (font n h) rs refl)
font_found f (font n h ∷ rs) k u o (inr m) =
    let w = sorted_inv k u (font n h) rs o in
    later f (font n h) rs (owner_after u (font n h)) w.rest (font_found f rs (key (font n h) + 1) (owner_after u (font n h)) w.rest m)
font_found f (character n c h d ∷ rs) k u o m =
    let w = sorted_inv k u (character n c h d) rs o in
    later f (character n c h d) rs (owner_after u (character n c h d)) w.rest (font_found f rs (key (character n c h d) + 1) (owner_after u (character n c h d)) w.rest m)

-- ── a font's record by its bytes
module _ (s : List ℕ) (at n : ℕ) (h : List ℕ) (before later : List Rec) (w : records_in s ≡ before ++ (font n h ∷ later)) (p : at ≡ mark_record + total before) (c : tally_in (drop at s) ≡ tally_of (records_in s) n) where
  front : head_rec (drop at s) ≡ some (font n h) → FontStands s at n h
  front e = go (font n h) (head_inv (drop at s) (font n h) e) refl
    where
      go : (r : Rec) → Headed (drop at s) r → r ≡ font n h → FontStands s at n h
      go r (is_character f k l) q = let z : ◌≡◌ {A = ℕ} 0 1 = cc in absurd (omega arith)
      go r (is_font_lem x) q =
          let i : field 2 number_at (drop at s) ≡ n = cc in
          let j : take header_bytes (drop font_kept_at (drop at s)) ≡ h = cc in
          record {
            before = before;
            later = later;
            records = w;
            here = p;
            whole = omega (arith, x.fits, x.len, length-drop at s);
            size = x.len;
            kind = sym (field_drop 2 kind_at at s) ∙ x.kind;
            number = sym (field_drop 2 number_at at s) ∙ i;
            tally = c;
            kept = ap (take header_bytes) (sym (drop-drop font_kept_at at s)) ∙ j;
          }

behind_is : (s : List ℕ) (st : Store) → decode s ≡ some st → records_behind s ≡ st.recs
unfolding records_at
behind_is s st e = rw (decoded s st e).1

in_is : (s : List ℕ) (st : Store) → decode s ≡ some st → records_in s ≡ st.recs
unfolding records_in
in_is s st e = rw e

none_in : (s : List ℕ) → decode s ≡ none → fonts_in (records_in s) ≡ []
unfolding records_in fonts_in
none_in s e = rw e

font_stands : (s : List ℕ) (f : Font) → In f (fonts_of s) → FontStands s (font_place f.number (records_in s)) f.number f.kept
unfolding fonts_of
font_stands s f m = go (decode s) refl
  where
    go : (o : Option Store) → decode s ≡ o → FontStands s (font_place f.number (records_in s)) f.number f.kept
    go none e = absurd (rw (none_in s e) at m)
    go (some st) e =
        let d = decoded s st e in
        let k = key_of f.number 0 in
        let rs = st.recs in
        let i : records_in s ≡ rs = in_is s st e in
        let fd = font_found f rs 0 no_owner d.2 (rw i at m) in
        let fo = found k 0 no_owner (font f.number f.kept) rs d.2 fd in
        let at : ℕ = font_place f.number rs in
        let t : split (drop at s) ≡ some (font f.number f.kept ∷ from (k + 1) rs) = ap split (sym (drop-drop (total (below k rs)) mark_record s)) ∙ from_key k 0 no_owner rs (drop mark_record s) d.2 d.1 ∙ ap some fo.rest in
        let w : records_in s ≡ below k rs ++ (font f.number f.kept ∷ from (k + 1) rs) = i ∙ split_at k 0 no_owner rs d.2 ∙ ap (λ (l : List Rec). below k rs ++ l) fo.rest in
        let b : records_behind s ≡ rs = behind_is s st e in
        let ct : tally_by_font f.number s ≡ tally_of (records_behind s) f.number = counts_true s st e f.number f.kept (rw b fd) in
        let c : tally_in (drop at s) ≡ tally_of (records_in s) f.number = rw i (rw b at ct) in
        rw i (front s at f.number f.kept (below k rs) (from (k + 1) rs) w refl c (split_rest (drop at s) (font f.number f.kept) (from (k + 1) rs) t).0)

-- ── what is chosen is one of the fonts of both stores, and stands at its place
chosen_in : (s t : List ℕ) (r : Request) (p : Bool) (n : ℕ) → choosing_from_two s t r ≡ chosen p n → (c : Candidate) × In c (of_both (fonts_of s) (fonts_of t)) × (c.soft ≡ p) × (c.number ≡ n)
unfolding choosing_from_two choosing_among
chosen_in s t r p n e = go (is_store s && is_store t) (in_range r) e
  where
    go : (a b : Bool) → cond a (cond b (choice r (of_both (fonts_of s) (fonts_of t))) (Err OutOfRange)) (Err NotStore) ≡ chosen p n
        → (c : Candidate) × In c (of_both (fonts_of s) (fonts_of t)) × (c.soft ≡ p) × (c.number ≡ n)
    go true true q = choice_in r (of_both (fonts_of s) (fonts_of t)) p n q
    go true false q = let z : ◌≡◌ {A = ℕ} 0 1 = cc in absurd (omega arith)
    go false b q = let z : ◌≡◌ {A = ℕ} 0 1 = cc in absurd (omega arith)

-- a font of both stores stands at its place in its own
pub stands_in : (s t : List ℕ) (c : Candidate) → In c (of_both (fonts_of s) (fonts_of t)) → FontStands (cond c.soft s t) (chosen_place s t (chosen c.soft c.number)) c.number c.kept
stands_in s t c m = go c.soft refl
  where
    go : (p : Bool) → c.soft ≡ p → FontStands (cond p s t) (chosen_place s t (chosen p c.number)) c.number c.kept
    go true q = font_stands s _ (font_in_lem true (fonts_of s) c (soft_in (fonts_of s) (fonts_of t) c m q))
    go false q = font_stands t _ (font_in_lem false (fonts_of t) c (cartridge_in (fonts_of s) (fonts_of t) c m q))

chosen_stands : (s t : List ℕ) (r : Request) (p : Bool) (n : ℕ) → choosing_from_two s t r ≡ chosen p n → (h : List ℕ) × FontStands (cond p s t) (chosen_place s t (chosen p n)) n h
chosen_stands s t r p n e =
    let c = chosen_in s t r p n e in
    let h = c.0.kept in
    (h, subst (λ (x : ℕ). FontStands (cond p s t) (chosen_place s t (chosen p x)) x h) c.3 (subst (λ (q : Bool). FontStands (cond q s t) (chosen_place s t (chosen q c.0.number)) c.0.number h) c.2 (stands_in s t c.0 c.1)))

-- ── the part
fitting : (n at : ℕ) → at + font_record ≤ n → fits n at ≡ true
unfolding fits
fitting n at l = rw (le-leb font_record n (omega arith), le-leb at (n - font_record) (omega arith))

module _ (soft cartridge : MemoryPart) where
  abbrev Given : Choice → Type 0
  Given v = Gives soft cartridge (record_answer soft.bytes cartridge.bytes v) (record_part soft cartridge (record_answer soft.bytes cartridge.bytes v))

  module _ (r : Request) (n : ℕ) where
    by_soft : choosing_from_two soft.bytes cartridge.bytes r ≡ chosen true n → Given (chosen true n)
    unfolding record_answer record_part
    by_soft e = let f = chosen_stands soft.bytes cartridge.bytes r true n e in of_soft refl refl (record { part = rw (fitting _ _ f.1.whole); kept = f.0; stands = f.1 })

    by_cartridge : choosing_from_two soft.bytes cartridge.bytes r ≡ chosen false n → Given (chosen false n)
    unfolding record_answer record_part
    by_cartridge e = let f = chosen_stands soft.bytes cartridge.bytes r false n e in of_cartridge refl refl (record { part = rw (fitting _ _ f.1.whole); kept = f.0; stands = f.1 })

  by_refusal : (v : Choice) → ((record_answer soft.bytes cartridge.bytes v).refusal ≡ 0 → ⊥) → which_of v ≡ 0 → Given v
  unfolding record_answer record_part
  by_refusal v o e = nothing o (rw e)

pub gives_record : GivesRecord
unfolding answering_from_two
gives_record soft cartridge r = go (choosing_from_two soft.bytes cartridge.bytes r) refl
  where
    go : (v : Choice) → choosing_from_two soft.bytes cartridge.bytes r ≡ v → Given soft cartridge v
    go (Ok c) e = by_store c.soft c.number e
      where
        by_store : (p : Bool) (n : ℕ) → choosing_from_two soft.bytes cartridge.bytes r ≡ chosen p n → Given soft cartridge (chosen p n)
        by_store true n e = by_soft soft cartridge r n e
        by_store false n e = by_cartridge soft cartridge r n e
    go (Err k) e = by_refusal soft cartridge (Err k) (unfold record_answer in λ z. omega (arith, z, number_some k)) refl
