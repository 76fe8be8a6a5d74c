-- Document 02, W-207, "A profile for spine labels": its seven rules in their order, the first that a font breaks, and the two calls.
use Rattle.std.specs.Prelude.{ℕ, zero, suc, ◌+◌, ◌≤◌, ◌<◌, ◌≡◌, ◌⊎◌, List, [], ◌∷◌, Bool, true, false, not, ◌||◌, cond, eqb, leb, pos, ◌+ℤ◌}
use Rattle.std.proofs.Math.Option.{Option, none, some}
use Rattle.std.specs.Int.Signed.{le_z}
use Rattle.blocks.specs.Field.{signed, negative}
use Rattle.pictures.specs.Size.{within}
use Rattle.blocks.specs.Header.{font_type, spacing, cell_width, cell_height, pitch}
use Rattle.blocks.specs.Character.{left_offset, width, height, delta_x}
use Rattle.pictures.specs.declared.picture.Held.{Held}
use Rattle.pictures.specs.declared.picture.Held.TheVariants.{Whole, Unfinished, Foreign}
use Rattle.form.specs.Layout.{last_code}
use Rattle.form.specs.Model.{Rec, held_of}
use Rattle.form.specs.Order.{character_at}
use Rattle.form.specs.Checks.{checked, on_font}
use Rattle.store.specs.Calls.{kept_of, data_of}
use Rattle.stream.specs.Written.{WriteOut, unwritten, written, writing_bytes}
use Rattle.profile.specs.declared.check.ProfileChecked.{ProfileChecked}

-- what a rule asks at code c of a font with the header h, where o is the character of that code, if one is kept
abbrev pub Rule : Type 0
Rule = List ℕ → ℕ → Option Rec → Bool

-- ── rules of the font alone: they hold at every code or at none
-- 1, "type 0"
abbrev pub of_type_zero : Rule
of_type_zero h c o = eqb (font_type h) 0

-- 2, "fixed spacing"
abbrev pub fixed_spaced : Rule
fixed_spaced h c o = eqb (spacing h) 0

-- ── the rule on codes
abbrev pub first_required : ℕ
first_required = 32

abbrev pub last_required : ℕ
last_required = 127

-- complete: all rows are drawn
abbrev pub is_whole : Held → Bool
is_whole Whole = true
is_whole Unfinished = false
is_whole Foreign = false

-- "present and complete"
abbrev pub complete : Option Rec → Bool
complete none = false
complete (some r) = is_whole (held_of (kept_of r) (data_of r))

-- 3, "codes 32 to 127 all present and complete"
abbrev pub has_character : Rule
has_character h c o = not (within first_required last_required c) || complete o

-- ── "Rules after the one on codes are for every kept character of the font.": each is a test of its kept bytes k
-- 4, "left offset at least 0"
unfoldable pub left_inside : List ℕ → List ℕ → Bool
left_inside h k = not (negative 16 (left_offset k))

-- 5, "left offset plus width within the cell width"
unfoldable pub right_inside : List ℕ → List ℕ → Bool
right_inside h k = le_z (signed 16 (left_offset k) +ℤ pos (width k)) (pos (cell_width h))

-- 6, "height within the cell height"
unfoldable pub height_inside : List ℕ → List ℕ → Bool
height_inside h k = leb (height k) (cell_height h)

-- 7, "delta X equal to the kept pitch field"
unfoldable pub advances_by_pitch : List ℕ → List ℕ → Bool
advances_by_pitch h k = eqb (delta_x k) (pitch h)

-- where no character is kept, nothing is asked
abbrev pub of_each : (List ℕ → List ℕ → Bool) → Rule
of_each t h c none = true
of_each t h c (some r) = t h (kept_of r)

-- ── "the first broken rule, numbered 1 to 7 in this order"
abbrev pub character_rules : List Rule
character_rules = of_each left_inside ∷ of_each right_inside ∷ of_each height_inside ∷ of_each advances_by_pitch ∷ []

abbrev pub rules : List Rule
rules = of_type_zero ∷ fixed_spaced ∷ has_character ∷ character_rules

-- "the lowest code that breaks it": the first of n codes from c on at which a test fails
unfoldable pub lowest_breaking : (ℕ → Bool) → ℕ → ℕ → Option ℕ
lowest_breaking t c zero = none
lowest_breaking t c (suc n) = cond (t c) (lowest_breaking t (c + 1) n) (some c)

-- a rule by its number, and a code that breaks it
pub record RuleBroken : Type 0 where
  pub rule : ℕ
  pub code : ℕ

-- "'meets the profile' (rule 0, code 0)"
abbrev pub none_broken : RuleBroken
none_broken = record { rule = 0; code = 0 }

-- rule i with the code that breaks it, or what the rules after it give
abbrev pub broken_or : ℕ → Option ℕ → RuleBroken → RuleBroken
broken_or i none next = next
broken_or i (some c) next = record { rule = i; code = c }

-- of rules numbered from i on; `at` gives the character of each code. The codes are 0 to 255, so that a rule of the font alone, which holds at every
-- code or at none, has "0 for the type and the spacing".
unfoldable pub first_broken : List Rule → ℕ → List ℕ → (ℕ → Option Rec) → RuleBroken
first_broken [] i h at = none_broken
first_broken (t ∷ ts) i h at = broken_or i (lowest_breaking (λ c. t h c (at c)) 0 (last_code + 1)) (first_broken ts (i + 1) h at)

-- of font n with the header h among the records of a store
unfoldable pub broken_in : ℕ → List ℕ → List Rec → RuleBroken
broken_in n h rs = first_broken rules 1 h (λ c. character_at n c rs)

-- ── the calls
-- "A refusal answers 0 for every other number"
abbrev pub unchecked : ℕ → ProfileChecked
unchecked k = record { refusal = k; rule = 0; code = 0 }

abbrev pub checked_as : RuleBroken → ProfileChecked
checked_as b = record { refusal = 0; rule = b.rule; code = b.code }

-- "a check of one font": 1, 2, 6
unfoldable pub checking_profile : ℕ → List ℕ → ProfileChecked
checking_profile n s = on_font unchecked n s (λ st r. checked_as (broken_in n (kept_of r) st.recs))

abbrev pub meets : RuleBroken → Bool
meets b = eqb b.rule 0

-- "A second call writes out the font only if it meets the profile.": 1, 2, 6, 14 "outside the profile", 12
unfoldable pub writing_profiled : ℕ → List ℕ → List ℕ → WriteOut
writing_profiled n s out =
    on_font (unwritten out) n s
    (λ st r. checked (unwritten out) (meets (broken_in n (kept_of r) st.recs)) 14 (writing_bytes (written n st.recs) out))

-- ── laws of them. A font meets the profile "exactly when all that holds"
pub record Simple (h k : List ℕ) : Type 0 where
  pub left : left_inside h k ≡ true
  pub right : right_inside h k ≡ true
  pub tall : height_inside h k ≡ true
  pub advance : advances_by_pitch h k ≡ true

pub record Meets (n : ℕ) (h : List ℕ) (rs : List Rec) : Type 0 where
  pub plain : font_type h ≡ 0
  pub fixed : spacing h ≡ 0
  pub present : (c : ℕ) → first_required ≤ c → c ≤ last_required → (r : Rec) × (character_at n c rs ≡ some r) × (held_of (kept_of r) (data_of r) ≡ Whole)
  pub simple : (c : ℕ) (r : Rec) → c ≤ last_code → character_at n c rs ≡ some r → Simple h (kept_of r)

abbrev pub MeetsExactly : Type 0
MeetsExactly = (n : ℕ) (h : List ℕ) (rs : List Rec) → (meets (broken_in n h rs) ≡ true → Meets n h rs) × (Meets n h rs → broken_in n h rs ≡ none_broken)

-- "or else the first broken rule .. and the lowest code that breaks it": rules by their place, counted from 0
abbrev pub rule_at : List Rule → ℕ → Rule
rule_at [] j h c o = true
rule_at (t ∷ ts) zero h c o = t h c o
rule_at (t ∷ ts) (suc j) h c o = rule_at ts j h c o

-- of rules numbered from i on
pub record BreaksFirst (ts : List Rule) (i : ℕ) (h : List ℕ) (at : ℕ → Option Rec) (b : RuleBroken) : Type 0 where
  pub place : ℕ
  pub number : b.rule ≡ i + place
  pub code : b.code ≤ last_code
  pub broken : rule_at ts place h b.code (at b.code) ≡ false
  pub lowest : (c : ℕ) → c < b.code → rule_at ts place h c (at c) ≡ true
  pub first : (j c : ℕ) → j < place → c ≤ last_code → rule_at ts j h c (at c) ≡ true

abbrev pub FirstAndLowest : Type 0
FirstAndLowest = (n : ℕ) (h : List ℕ) (rs : List Rec) → meets (broken_in n h rs) ≡ false → BreaksFirst rules 1 h (λ c. character_at n c rs) (broken_in n h rs)

-- ── the rules by numbers: rule i is broken at code c of a font with the header h, where o is the character of that code, if one is kept
pub data Breaks (h : List ℕ) (c : ℕ) (o : Option Rec) (i : ℕ) : Type 0 where
  -- "type 0"; "fixed spacing"
  other_type : i ≡ 1 → 0 < font_type h → Breaks h c o i
  proportional : i ≡ 2 → 0 < spacing h → Breaks h c o i
  -- "codes 32 to 127 all present and complete"
  absent : i ≡ 3 → 32 ≤ c → c ≤ 127 → o ≡ none → Breaks h c o i
  incomplete : i ≡ 3 → (r : Rec) → o ≡ some r → 32 ≤ c → c ≤ 127 → (held_of (kept_of r) (data_of r) ≡ Whole → ⊥) → Breaks h c o i
  -- "left offset at least 0"; it stands in 16 bits, in two's complement
  left_of_cell : i ≡ 4 → (r : Rec) → o ≡ some r → 32768 ≤ left_offset (kept_of r) → left_offset (kept_of r) < 65536 → Breaks h c o i
  -- "left offset plus width within the cell width": from an offset of 0 and more, and from one below 0
  right_of_cell : i ≡ 5 → (r : Rec) → o ≡ some r → left_offset (kept_of r) < 32768 → cell_width h < left_offset (kept_of r) + width (kept_of r) → Breaks h c o i
  right_from_left : i ≡ 5 → (r : Rec) → o ≡ some r → 32768 ≤ left_offset (kept_of r) → cell_width h + 65536 < left_offset (kept_of r) + width (kept_of r) → Breaks h c o i
  -- "height within the cell height"; "delta X equal to the kept pitch field"
  above_cell : i ≡ 6 → (r : Rec) → o ≡ some r → cell_height h < height (kept_of r) → Breaks h c o i
  other_advance : i ≡ 7 → (r : Rec) → o ≡ some r → (delta_x (kept_of r) ≡ pitch h → ⊥) → Breaks h c o i

-- "the first broken rule, numbered 1 to 7 in this order, and the lowest code that breaks it"; `at` gives the character of each code
pub record BrokenFirst (h : List ℕ) (at : ℕ → Option Rec) (rule code : ℕ) : Type 0 where
  pub inside : code ≤ last_code
  pub broken : Breaks h code (at code) rule
  pub lowest : (c : ℕ) → c < code → Breaks h c (at c) rule → ⊥
  pub first : (i c : ℕ) → i < rule → c ≤ last_code → Breaks h c (at c) i → ⊥

-- none is broken
abbrev pub NoneBroken : List ℕ → (ℕ → Option Rec) → Type 0
NoneBroken h at = (i c : ℕ) → c ≤ last_code → Breaks h c (at c) i → ⊥

-- a law of the search: what it finds, by numbers
abbrev pub FoundByNumbers : Type 0
FoundByNumbers =
    (n : ℕ) (h : List ℕ) (rs : List Rec)
    → let at : ℕ → Option Rec = λ c. character_at n c rs in
    ((broken_in n h rs ≡ none_broken) × NoneBroken h at) ⊎ BrokenFirst h at (broken_in n h rs).rule (broken_in n h rs).code
