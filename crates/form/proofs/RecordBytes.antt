-- A record's bytes: written and read again. Assumes nothing.
use mathlib.Core.Path.{◌≡◌, refl, sym, ap, ◌∙◌, subst}
use mathlib.Core.List.{List, ◌++◌, append_assoc}
use mathlib.Core.Bool.{Bool, true, false, cond, ◌&&◌}
use mathlib.Core.Option.{Option, none, some}
use Prim.Native.Nat.{ℕ, ◌+◌, ◌-◌, ◌<◌, ◌≤◌}
use native.Mathlib.Omega.{arith}
use lib.ListN.{length, take, drop, length-take, length-drop, length-append}
use lib.Seq.{take_at, drop_at, drop-drop}
use lib.Dec.{eqb, leb}
use borrow.Author.Tests.{eqb-true, leb-true, le-leb}
use Rattle.form.specs.Layout.{character_kept_at, character_kind, character_record, code_at, font_characters_at, font_bytes_at, font_kept_at, font_kind, font_record, kind_at, last_code, last_font, number_at}
use Rattle.form.specs.Num.{num, low_first, field, all_zero, Bytes}
use Rattle.blocks.specs.Header.{is_kept_header, header_bytes}
use Rattle.blocks.specs.Character.{class, width, height, left_offset, top_offset, read_first, first_checks, is_kept_first, descriptor_bytes, first_extent}
use Rattle.pictures.specs.Size.{bitmap_class, runs_class, data_limit, within}
use Rattle.pictures.specs.Picture.{held}
use Rattle.pictures.specs.declared.picture.Held.TheVariants.{Foreign}
use Rattle.blocks.proofs.KeptHeader.{is_kept_length as header_length_lem}
use Rattle.blocks.specs.Field.{byte, signed_within}
use Rattle.blocks.proofs.Checks.{taken, within_low}
use Rattle.pictures.proofs.Tests.{both as both_of}
use Rattle.blocks.proofs.KeptFirst.{is_kept_first_lem, is_kept_length as first_length_lem}
use Rattle.form.specs.Model.{Rec, font, character, font_head, font_in, character_head, character_in, character_bytes, bytes_of, held_of, held_under, is_kept, allowed, Owner, only_if, head_rec, size_of, tally_bytes, tally_in, same_tally, holds_tally}
use Rattle.form.specs.declared.tally.Tally.{Tally}
use Rattle.form.proofs.Numbers.{num_le, part, cut, zeros_field, both_l, both_r}

-- ── guard, cond
pub guard_none {ℓ} : {A : Type ℓ} (b : Bool) → only_if {A = A} b none ≡ none
unfolding only_if
guard_none true = refl
guard_none false = refl

pub cond_same {ℓ} : {A : Type ℓ} (b : Bool) (x : A) → cond b x x ≡ x
cond_same true x = refl
cond_same false x = refl

pub guard_test {ℓ} : {A : Type ℓ} (b : Bool) (o : Option A) (x : A) → only_if b o ≡ some x → b ≡ true
unfolding only_if
guard_test true o x e = refl
guard_test false o x e = cc

pub guard_is {ℓ} : {A : Type ℓ} (b : Bool) (o : Option A) (x : A) → only_if b o ≡ some x → o ≡ some x
unfolding only_if
guard_is true o x e = e
guard_is false o x e = cc

-- ── sizes
pub size_pos : (r : Rec) → character_record ≤ size_of r
unfolding size_of
size_pos (font n h) = omega arith
size_pos (character n c h d) = omega arith

-- ── a record's bytes
pub font_head_lem : (n : ℕ) (t : Tally) → length (font_head n t) ≡ font_kept_at
unfolding font_head tally_bytes low_first
font_head_lem n t = refl

pub character_head_lem : (len n c : ℕ) → length (character_head len n c) ≡ character_kept_at
unfolding character_head low_first
character_head_lem len n c = refl

pub font_size : (T : ℕ → Tally) (n : ℕ) (h t : List ℕ) → length h ≡ header_bytes → length (bytes_of T (font n h) ++ t) ≡ font_record + length t
unfolding bytes_of
font_size T n h t e = omega (arith, length-append (font_head n (T n) ++ h) t, length-append (font_head n (T n)) h, font_head_lem n (T n))

pub char_size : (T : ℕ → Tally) (n c : ℕ) (h d t : List ℕ) → length h ≡ descriptor_bytes → length (bytes_of T (character n c h d) ++ t) ≡ character_record + length d + length t
unfolding bytes_of character_bytes
char_size T n c h d t e =
    let H = character_head (character_record + length d) n c in
    omega (arith, length-append (H ++ (h ++ d)) t, length-append H (h ++ d), length-append h d, character_head_lem (character_record + length d) n c)

-- where the parts of a record stand
pub font_kept_in : (T : ℕ → Tally) (n : ℕ) (h t : List ℕ) → length h ≡ header_bytes → take header_bytes (drop font_kept_at (bytes_of T (font n h) ++ t)) ≡ h
unfolding bytes_of
font_kept_in T n h t e = rw (append_assoc (font_head n (T n)) h t, drop_at (font_head n (T n)) (h ++ t) font_kept_at (font_head_lem n (T n))) (take_at h t header_bytes e)

module _ (T : ℕ → Tally) (n c : ℕ) (h d t : List ℕ) (e : length h ≡ descriptor_bytes) where
  character_rest : drop character_kept_at (bytes_of T (character n c h d) ++ t) ≡ h ++ (d ++ t)
  unfolding bytes_of character_bytes
  character_rest =
      let H = character_head (character_record + length d) n c in
      rw (append_assoc H (h ++ d) t, drop_at H ((h ++ d) ++ t) character_kept_at (character_head_lem (character_record + length d) n c)) (append_assoc h d t)

  pub character_kept_in : take descriptor_bytes (drop character_kept_at (bytes_of T (character n c h d) ++ t)) ≡ h
  character_kept_in = rw character_rest (take_at h (d ++ t) descriptor_bytes e)

  pub character_data_in : take (length d) (drop character_record (bytes_of T (character n c h d) ++ t)) ≡ d
  character_data_in =
      let q : drop character_record (bytes_of T (character n c h d) ++ t) ≡ d ++ t = sym (drop-drop descriptor_bytes character_kept_at (bytes_of T (character n c h d) ++ t)) ∙ ap (drop descriptor_bytes) character_rest ∙ drop_at h (d ++ t) descriptor_bytes e in
      rw q (take_at d t (length d) refl)

-- what a record that may stand in a store has by itself
abbrev pub Shaped : Rec → Type 0
Shaped (font n h) = (length h ≡ header_bytes) × (n ≤ last_font)
Shaped (character n c h d) = (length h ≡ descriptor_bytes) × (length d ≤ data_limit) × (n ≤ last_font) × (c ≤ last_code)

pub kept_small : (k w h : ℕ) (d : List ℕ) → is_kept (held k w h d) ≡ true → length d ≤ data_limit
unfolding held
kept_small k w h d e = go (leb (length d) data_limit) refl
  where
    go : (b : Bool) → leb (length d) data_limit ≡ b → length d ≤ data_limit
    go true q = leb-true _ _ q
    go false q = let z : false ≡ true = rw q at e in let y : ◌≡◌ {A = ℕ} 0 1 = cc in absurd (omega arith)

pub held_kept : (o : ℕ) (h d : List ℕ) → is_kept (held_under o h d) ≡ true → (is_kept_first h o ≡ true) × (held_under o h d ≡ held_of h d)
unfolding held_under
held_kept o h d e = go (is_kept_first h o) refl
  where
    go : (b : Bool) → is_kept_first h o ≡ b → (is_kept_first h o ≡ true) × (cond (is_kept_first h o) (held_of h d) Foreign ≡ held_of h d)
    go true q = (q, rw q)
    go false q = let z : false ≡ true = rw q at e in let y : ◌≡◌ {A = ℕ} 0 1 = cc in absurd (omega arith)

-- a kept descriptor has a width and a height
pub kept_sides : (h : List ℕ) (o : ℕ) → is_kept_first h o ≡ true → (0 < width h) × (0 < height h)
unfolding read_first
kept_sides h o e =
    let f = (taken (first_checks h o) (is_kept_first_lem h o e).1).1.1.0 in
    let x = (both_of (eqb (byte h 4) o) (first_extent h) f).1 in
    let a : Bool = signed_within 16 16384 (left_offset h) && signed_within 16 16384 (top_offset h) in
    let p = both_of (a && within 1 16384 (width h)) (within 1 16384 (height h)) x in
    (within_low 1 16384 (width h) (both_of a (within 1 16384 (width h)) p.0).1, within_low 1 16384 (height h) p.1)

-- and one of the two classes
pub kept_class : (h : List ℕ) (o : ℕ) → is_kept_first h o ≡ true → (bitmap_class ≤ class h) × (class h ≤ runs_class)
unfolding read_first
kept_class h o e =
    let f = (taken (first_checks h o) (is_kept_first_lem h o e).1).1.0 in
    let p = (both_of (eqb (byte h 2) 14) (within 1 2 (class h)) f).1 in
    (within_low 1 2 (class h) p, leb-true (class h) 2 (both_of (leb 1 (class h)) (leb (class h) 2) p).1)

-- what a character that may stand behind the font u has
pub record Allowed (u : Owner) (n c : ℕ) (h d : List ℕ) : Type 0 where
  pub owner : u.owner ≡ n + 1
  pub low : n ≤ last_font
  pub code : c ≤ last_code
  pub kept : is_kept_first h u.orientation ≡ true
  pub whole : is_kept (held_of h d) ≡ true

pub allowed_char : (u : Owner) (n c : ℕ) (h d : List ℕ) → allowed u (character n c h d) ≡ true → Allowed u n c h d
unfolding allowed
allowed_char u n c h d e =
    let e1 = both_r _ _ e in
    let e2 = both_r _ _ e1 in
    let e3 = both_r _ _ e2 in
    let k = held_kept u.orientation h d e3 in
    record { owner = eqb-true _ _ (both_l _ _ e); low = leb-true _ _ (both_l _ _ e1); code = leb-true _ _ (both_l _ _ e2); kept = k.0; whole = rw k.1 at e3 }

pub allowed_font : (u : Owner) (n : ℕ) (h : List ℕ) → allowed u (font n h) ≡ true → (n ≤ last_font) × (is_kept_header h ≡ true)
unfolding allowed
allowed_font u n h e = (leb-true _ _ (both_l _ _ e), both_r _ _ e)

pub shaped : (u : Owner) (r : Rec) → allowed u r ≡ true → Shaped r
shaped u (font n h) e = let p = allowed_font u n h e in (header_length_lem h p.1, p.0)
shaped u (character n c h d) e =
    let p = allowed_char u n c h d e in
    (first_length_lem h u.orientation p.kept, kept_small (class h) (width h) (height h) d p.whole, p.low, p.code)

pub head_encode : (T : ℕ → Tally) (r : Rec) (t : List ℕ) → Shaped r → head_rec (bytes_of T r ++ t) ≡ some r
unfolding head_rec bytes_of character_bytes font_head tally_bytes character_head low_first num only_if
head_encode T (font n h) t e =
    let p = e in
    let q : num (low_first 2 n) ≡ n = num_le 2 n (omega arith) in
    simp (le-leb font_record (length (bytes_of T (font n h) ++ t)) (omega (arith, font_size T n h t p.0)), q, take_at h t header_bytes p.0)
head_encode T (character n c h d) t e =
    let p = e in
    let L = character_record + length d in
    let q0 : num (low_first 4 (character_record + length d)) ≡ character_record + length d = num_le 4 L (omega arith) in
    let q1 : num (low_first 2 n) ≡ n = num_le 2 n (omega arith) in
    let q2 : num (low_first 2 c) ≡ c = num_le 2 c (omega arith) in
    let q3 : (character_record + length d) - character_record ≡ length d = omega arith in
    let q4 : leb character_record (character_record + length d) ≡ true = le-leb character_record L (omega arith) in
    simp (q0, le-leb L (length (bytes_of T (character n c h d) ++ t)) (omega (arith, char_size T n c h d t p.0)))
    (simp (q1, q2, q4, q3, append_assoc h d t, take_at h (d ++ t) descriptor_bytes p.0, drop_at h (d ++ t) descriptor_bytes p.0, take_at d t (length d) refl))

-- a record at the front: its length is not 0
pub zero_head : (s : List ℕ) → field 4 0 s ≡ 0 → head_rec s ≡ none
unfolding head_rec only_if
zero_head s e = simp (e, guard_none, cond_same)

pub head_nonzero : (s : List ℕ) (r : Rec) → head_rec s ≡ some r → all_zero s ≡ false
head_nonzero s r e = go (all_zero s) refl
  where
    go : (b : Bool) → all_zero s ≡ b → all_zero s ≡ false
    go false q = q
    go true q = let z : none ≡ some r = sym (zero_head s (zeros_field 4 s q)) ∙ e in cc

-- what a font at the front has
pub record FontHeaded (s : List ℕ) : Type 0 where
  pub fits : field 4 0 s ≤ length s
  pub kind : field 2 kind_at s ≡ font_kind
  pub len : field 4 0 s ≡ font_record

-- the other way: what is read is what stands there
tally_back : (s : List ℕ) → Bytes s → font_kept_at ≤ length s → tally_bytes (tally_in s) ++ drop font_kept_at s ≡ drop font_characters_at s
unfolding tally_bytes
tally_back s B l = simp (append_assoc, cut 4 font_bytes_at s B (omega arith), cut 2 font_characters_at s B (omega arith))

head_back : (s : List ℕ) → Bytes s → FontHeaded s → font_head (field 2 number_at s) (tally_in s) ++ drop font_kept_at s ≡ s
unfolding font_head
head_back s B x =
    let k0 : low_first 4 font_record ++ drop kind_at s ≡ s = subst (λ (y : ℕ). low_first 4 y ++ drop kind_at s ≡ s) x.len (cut 4 0 s B (omega arith)) in
    let k4 : low_first 2 font_kind ++ drop number_at s ≡ drop kind_at s = subst (λ (y : ℕ). low_first 2 y ++ drop number_at s ≡ drop kind_at s) x.kind (cut 2 kind_at s B (omega arith)) in
    simp (append_assoc, tally_back s B (omega arith), cut 2 number_at s B (omega arith), k4, k0)

pub font_back : (T : ℕ → Tally) (s : List ℕ) → Bytes s → FontHeaded s → T (field 2 number_at s) ≡ tally_in s → bytes_of T (font_in s) ++ drop font_record s ≡ s
unfolding bytes_of
font_back T s B x e =
    rw e (append_assoc (font_head (field 2 number_at s) (tally_in s)) (take header_bytes (drop font_kept_at s)) (drop font_record s) ∙ ap (λ (l : List ℕ). font_head (field 2 number_at s) (tally_in s) ++ l) (part header_bytes font_kept_at s) ∙ head_back s B x)

pub char_back : (T : ℕ → Tally) (s : List ℕ) → Bytes s → field 2 kind_at s ≡ character_kind → character_record ≤ field 4 0 s → field 4 0 s ≤ length s
    → bytes_of T (character_in s) ++ drop (size_of (character_in s)) s ≡ s
unfolding bytes_of character_bytes character_head size_of
char_back T s B e4 h26 h =
    let l : length (take (field 4 0 s - character_record) (drop character_record s)) ≡ field 4 0 s - character_record = simp (length-take, length-drop) (omega arith) in
    let m : character_record + (field 4 0 s - character_record) ≡ field 4 0 s = omega arith in
    let k4 : low_first 2 character_kind ++ drop number_at s ≡ drop kind_at s = subst (λ (x : ℕ). low_first 2 x ++ drop number_at s ≡ drop kind_at s) e4 (cut 2 kind_at s B (omega arith)) in
    let d0 : take (field 4 0 s - character_record) (drop character_record s) ++ drop (field 4 0 s) s ≡ drop character_record s = subst (λ (x : ℕ). take (field 4 0 s - character_record) (drop character_record s) ++ drop x s ≡ drop character_record s) m (part (field 4 0 s - character_record) character_record s) in
    simp (append_assoc, l, m, d0, part descriptor_bytes character_kept_at s, cut 2 code_at s B (omega arith), cut 2 number_at s B (omega arith), k4, cut 4 0 s B (omega arith))

pub data Headed (s : List ℕ) : Rec → Type 0 where
  is_font_lem : FontHeaded s → Headed s (font_in s)
  is_character : field 4 0 s ≤ length s → field 2 kind_at s ≡ character_kind → character_record ≤ field 4 0 s → Headed s (character_in s)

pub head_inv : (s : List ℕ) (r : Rec) → head_rec s ≡ some r → Headed s r
unfolding head_rec
head_inv s r e = kind (eqb (field 2 kind_at s) font_kind) refl
  where
    fits : field 4 0 s ≤ length s
    fits = leb-true _ _ (guard_test _ _ r e)

    is_font : field 2 kind_at s ≡ font_kind → only_if (eqb (field 4 0 s) font_record) (some (font_in s)) ≡ some r → Headed s r
    is_font k o =
        let l : field 4 0 s ≡ font_record = eqb-true _ _ (guard_test _ _ r o) in
        let i : font_in s ≡ r = cc (guard_is _ _ r o) in
        subst (Headed s) i (is_font_lem (record { fits = fits; kind = k; len = l }))

    is_char : only_if (eqb (field 2 kind_at s) character_kind) (only_if (leb character_record (field 4 0 s)) (some (character_in s))) ≡ some r → Headed s r
    is_char o =
        let k : field 2 kind_at s ≡ character_kind = eqb-true _ _ (guard_test _ _ r o) in
        let o2 = guard_is _ _ r o in
        let l : character_record ≤ field 4 0 s = leb-true _ _ (guard_test _ _ r o2) in
        let i : character_in s ≡ r = cc (guard_is _ _ r o2) in
        subst (Headed s) i (is_character fits k l)

    kind : (b : Bool) → eqb (field 2 kind_at s) font_kind ≡ b → Headed s r
    kind true q = is_font (eqb-true _ _ q) (rw q at (guard_is _ _ r e))
    kind false q = is_char (rw q at (guard_is _ _ r e))

-- numbers that are the same
pub same_tally_lem : (t u : Tally) → same_tally t u ≡ true → t ≡ u
same_tally_lem t u e =
    let a : t.characters ≡ u.characters = eqb-true _ _ (both_l _ _ e) in
    let b : t.bytes ≡ u.bytes = eqb-true _ _ (both_r _ _ e) in
    rw (a, b)

headed_fits : (T : ℕ → Tally) (s : List ℕ) (r : Rec) → Bytes s → Headed s r → holds_tally T s r ≡ true → (bytes_of T r ++ drop (size_of r) s ≡ s) × (size_of r ≤ length s)
unfolding size_of holds_tally
headed_fits T s r B (is_font_lem x) e = (font_back T s B x (sym (same_tally_lem _ _ e)), omega arith)
headed_fits T s r B (is_character f k l) e = (char_back T s B k l f, simp (length-take, length-drop) (omega arith))

pub head_fits : (T : ℕ → Tally) (s : List ℕ) (r : Rec) → Bytes s → head_rec s ≡ some r → holds_tally T s r ≡ true → (bytes_of T r ++ drop (size_of r) s ≡ s) × (size_of r ≤ length s)
head_fits T s r B e q = headed_fits T s r B (head_inv s r e) q
