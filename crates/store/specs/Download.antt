-- Document 01, "The character block": what a download answers and leaves.
use Rattle.std.specs.Prelude.{◌≡◌, ℕ, zero, suc, List, [], ◌∷◌, ◌++◌, Bool, Ok, Err, cond, eqb, leb, length, drop}
use Rattle.blocks.specs.Header.{orientation}
use Rattle.blocks.specs.Character.{descriptor_bytes, continuation_bytes, class, width, height, character_length, kind_of, read_first, kept_first}
use Rattle.pictures.specs.Size.{data_limit}
use Rattle.pictures.specs.Picture.{Judged, judge, kept_data}
use Rattle.pictures.specs.Runs.{past_width}
use Rattle.blocks.specs.declared.character.Kind.{Kind}
use Rattle.blocks.specs.declared.character.Kind.TheVariants.{First, Continuation, Unknown}
use Rattle.form.specs.Num.{◌and◌}
use Rattle.form.specs.Model.{character, Mark, Store, held_of, is_unfinished, encode, decode, shut}
use Rattle.form.specs.Order.{font_at, character_at}
use Rattle.form.specs.Checks.{on_store, checked, taking, finding, numbered}
use Rattle.store.specs.Answer.{After, no_run, refuse, done}
use Rattle.store.specs.Calls.{used, store_without_font, with_character, kept_of, data_of}

-- ── what is kept

-- "An accepted first block makes its character the open one if incomplete, else leaves none open. A completing continuation closes it."
unfoldable pub mark_for : ℕ → ℕ → List ℕ → List ℕ → Mark
mark_for n c h d = cond (is_unfinished (held_of h d)) (record { on = 1; font_of = n; code_of = c }) shut

-- the store with this character in the place of one of its code
abbrev pub put_character : ℕ → ℕ → List ℕ → List ℕ → Store → Store
put_character n c h d st = record { size = st.size; mark = mark_for n c h d; recs = with_character n c (character n c h d ∷ []) st.recs }

-- 10, "no room": "its font and all its characters removed"
abbrev pub without_font : ℕ → Store → ℕ → After
without_font n st k = record { answer = k; bad = no_run; bytes = encode (store_without_font n st) }

-- ── what a block is

-- document 01's number for a kind: "byte 0 is 4, else 4"
abbrev pub kind_number : Kind → ℕ
kind_number First = 0
kind_number Continuation = 0
kind_number Unknown = 4

-- document 01's number for data: "8 if class 2 data has a run past the width before all rows are drawn"
abbrev pub judged_number : Judged → ℕ
judged_number (Ok n) = 0
judged_number (Err p) = 8

-- "byte 0 is 4, else 4": by its kind it comes to `first` or to `more`, and these, with a descriptor and data, to what holds for both
abbrev pub by_kind : {A : Type 0} → (ℕ → A) → Kind → ((List ℕ → List ℕ → A) → A) → ((List ℕ → List ℕ → A) → A) → (List ℕ → List ℕ → A) → A
by_kind refuse First first more both = first both
by_kind refuse Continuation first more both = more both
by_kind refuse Unknown first more both = refuse (kind_number Unknown)

-- the open mark names this character
abbrev pub names : ℕ → ℕ → Mark → Bool
names n c m = eqb m.on 1 and eqb m.font_of n and eqb m.code_of c

-- "8 if class 2 data has a run past the width before all rows are drawn"; W-209: with "the picture row being read, .. the dots already filled and the
-- run that didn't fit"
abbrev pub refuse_run : List ℕ → ℕ → ℕ → ℕ → After
refuse_run s row filled run = record { answer = judged_number (Err (past_width row filled run)); bad = record { row = row; filled = filled; run = run }; bytes = s }

-- data with no such run comes to a
abbrev pub within_width : List ℕ → Judged → After → After
within_width s (Ok n) a = a
within_width s (Err p) a = refuse_run s p.row p.filled p.run

-- what is judged, and what is kept, of the data d of a character with the descriptor h
abbrev pub judged_of : List ℕ → List ℕ → Judged
judged_of h d = judge (class h) (width h) (height h) d

abbrev pub kept_of_data : List ℕ → List ℕ → List ℕ
kept_of_data h d = kept_data (class h) (width h) (height h) d

-- ── the call
unfoldable pub downloading_character : ℕ → ℕ → List ℕ → List ℕ → After
downloading_character n c b s =
    -- "store first, then number ranges": 1, 2
    on_store (refuse s) (decode s)
    (λ st.
    checked (refuse s) (numbered n c) 2
    -- "Length 2..32767, else 3; font present, else 6; byte 0 is 4, else 4."
    (checked (refuse s) (character_length b) 3
    (finding (refuse s) (font_at n st.recs) 6
    (λ f.
    by_kind (refuse s) (kind_of b)
    -- "Byte 1 zero, a first block": 3, 4, 5, and 9 for its picture
    (λ both. taking (refuse s) (read_first b (orientation (kept_of f))) (both (kept_first b) (drop descriptor_bytes b)))
    -- "Byte 1 not zero, a continuation: its font number and code must be those of the open character, else 7. Its data joins what is kept."
    (λ both.
    checked (refuse s) (names n c st.mark) 7
    (finding (refuse s) (character_at n c st.recs) 7 (λ r. both (kept_of r) (data_of r ++ drop continuation_bytes b))))
    -- "Then, for both: 8 if class 2 data has a run past the width before all rows are drawn;
    (λ h d.
    within_width s (judged_of h d)
    -- 9 if kept data would pass 32,768 bytes;
    (checked (refuse s) (leb (length (kept_of_data h d)) data_limit) 9
    -- 10 if the records would not fit, the replaced character's room counted as free."
    (checked (without_font n st) (leb (used (put_character n c h (kept_of_data h d) st)) st.size) 10
    (done (put_character n c h (kept_of_data h d) st)))))))))

-- ── laws of them: in every case the number decides

-- what a case with the number k comes to: a where that is 0, else the refusal
abbrev pub numbered_by : {A : Type 0} → (ℕ → A) → ℕ → A → A
numbered_by refuse zero a = a
numbered_by refuse (suc k) a = refuse (suc k)

abbrev pub KindsNumbered : Type 0
KindsNumbered =
    (refused : ℕ → After) (k : Kind) (first more : (List ℕ → List ℕ → After) → After) (both : List ℕ → List ℕ → After)
    → by_kind refused k first more both ≡ numbered_by refused (kind_number k) (by_kind refused k first more both)

abbrev pub JudgedNumbered : Type 0
JudgedNumbered = (s : List ℕ) (j : Judged) (a : After) → (within_width s j a).answer ≡ numbered_by (λ k. k) (judged_number j) a.answer
