-- The kept fonts of a store among its records. Assumes nothing.
use mathlib.Core.Path.{◌≡◌, refl, sym, ap, ◌∙◌}
use Rattle.std.specs.Prelude.{Some}
use mathlib.Core.List.{List, [], ◌∷◌, ◌++◌}
use mathlib.Core.Bool.{true}
use mathlib.Core.Option.{Option, none, some}
use Prim.Native.Nat.{ℕ, suc, ◌+◌, ◌*◌, ◌-◌, ◌<◌}
use native.Mathlib.Omega.{arith}
use lib.ListN.{length, take, drop}
use Rattle.blocks.specs.Header.{header_bytes}
use Rattle.form.specs.Layout.{mark_record, character_record, keys_each}
use Rattle.form.specs.Num.{field}
use Rattle.form.specs.Model.{Rec, font, character, Store, Owner, owner_after, no_owner, sorted, number, place, key, total, decode}
use Rattle.form.specs.Records.{records_in, font_place, records_at, RecordPlace, Begun, font_from, FontMet, CharacterMet}
use Rattle.form.specs.Fonts.{fonts_in, fonts_of, fonts_at, RisingFrom}
use Rattle.std.specs.Iterator.{MakesProgress, item_count}
use Rattle.form.specs.FontsLeft.{font_given, fonts_to_come, FontsOn}
use Rattle.form.specs.declared.kept_fonts.KeptFont.{KeptFont}
use Rattle.form.specs.declared.kept_fonts.KeptFonts.{KeptFonts}
use Rattle.form.proofs.Codec.{sorted_inv}
use Rattle.form.proofs.RecordRuns.{records_are, records_short, records_zero, decoded}
use Rattle.form.specs.Order.{below}
use Rattle.form.proofs.Order.{below_front}

pub fonts_end : (s : List ℕ) (at : ℕ) → records_at s at ≡ [] → fonts_at s at ≡ []
unfolding fonts_at fonts_in
fonts_end s at e = ap fonts_in e

pub font_listed : (s : List ℕ) (at n kept next : ℕ) → FontMet s at n kept next → fonts_at s at ≡ record { number = n; kept = take header_bytes (drop kept s) } ∷ fonts_at s next
unfolding fonts_at fonts_in
font_listed s at n kept next m = ap fonts_in m.met.records

-- a character is passed over
pub character_passed : (s : List ℕ) (at n c kept bytes next : ℕ) → CharacterMet s at n c kept bytes next → fonts_at s at ≡ fonts_at s next
unfolding fonts_at fonts_in
character_passed s at n c kept bytes next m = ap fonts_in m.met.records

-- ── the numbers rise
pub rising : (m k : ℕ) (u : Owner) (rs : List Rec) → sorted k u rs ≡ true → m * keys_each < k + keys_each → RisingFrom m (fonts_in rs)
unfolding fonts_in number place
rising m k u [] e l = tt
rising m k u (font n h ∷ rs) e l =
    let w = sorted_inv k u (font n h) rs e in
    (omega (arith, w.least), rising (suc n) (n * keys_each + 0 + 1) (owner_after u (font n h)) rs w.rest (omega arith))
rising m k u (character n c h d ∷ rs) e l =
    let w = sorted_inv k u (character n c h d) rs e in
    rising m (n * keys_each + (c + 1) + 1) (owner_after u (character n c h d)) rs w.rest (omega (arith, w.least))

pub fonts_rise : (s : List ℕ) → RisingFrom 0 (fonts_of s)
unfolding fonts_of records_in
fonts_rise s = go (decode s) refl
  where
    go : (o : Option Store) → decode s ≡ o → RisingFrom 0 (fonts_in (Rattle.form.specs.Records.records_by o))
    go none e = unfold fonts_in in tt
    go (some st) e = rising 0 0 no_owner st.recs (decoded s st e).2 (omega arith)

-- ── the place of a font's record, which stands at a place of the run
records_sorted : (s : List ℕ) → sorted 0 no_owner (records_in s) ≡ true
unfolding records_in
records_sorted s = go (decode s) refl
  where
    go : (o : Option Store) → decode s ≡ o → sorted 0 no_owner (Rattle.form.specs.Records.records_by o) ≡ true
    go none e = unfold sorted in refl
    go (some st) e = (decoded s st e).2

pub font_place_lem : (s : List ℕ) (at n kept next : ℕ) (p : RecordPlace s at) → FontMet s at n kept next → at ≡ font_place n (records_in s)
unfolding number place
font_place_lem s at n kept next p m =
    let f = font_from s n kept in
    let e : records_in s ≡ p.before ++ (f ∷ records_at s next) = p.all ∙ ap (λ (l : List Rec). p.before ++ l) (sym (records_are s at p p.recs refl) ∙ m.met.records) in
    let b : below (key f) (records_in s) ≡ p.before = rw e (below_front p.before 0 no_owner f (records_at s next) (rw e at (records_sorted s))) in
    sym p.sum ∙ ap (λ (l : List Rec). mark_record + total l) (sym b)

-- the fonts from where the run begins
pub fonts_begun : (s : List ℕ) (p : ℕ) → Begun s (Some p) → fonts_at s p ≡ fonts_of s
unfolding fonts_of fonts_at
fonts_begun s p b = ap fonts_in b.2

-- ── a font that is given leaves one less
pub one_less : (old new : KeptFonts) (f : KeptFont) → FontsOn new → fonts_to_come old ≡ font_given f ∷ fonts_to_come new → MakesProgress FontsOn (item_count fonts_to_come) old (Some f) new
one_less old new f k e = record { on = λ _. (k, tt, omega (arith, ap length e)); keeps = k; rests = λ _. tt }
