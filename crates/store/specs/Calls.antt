-- Document 01, "The calls, and what they answer": make fresh, download a font block, remove a font or a character, tell their kept bytes.
use Rattle.std.specs.Prelude.{ℕ, ◌+◌, List, [], ◌∷◌, ◌++◌, not, cond, eqb, leb, length, drop}
use Rattle.blocks.specs.Header.{header_bytes, read_header, kept_header}
use Rattle.blocks.specs.Character.{descriptor_bytes}
use Rattle.form.specs.Layout.{least_store, most_store, mark_record, last_font, key_of}
use Rattle.form.specs.Num.{◌and◌}
use Rattle.form.specs.Model.{Rec, font, character, Mark, shut, Store, number, place, total, decode}
use Rattle.form.specs.Order.{keep, replaced}
use Rattle.form.specs.Checks.{on_store, checked, taking, on_font, on_character}
use Rattle.store.specs.Answer.{After, refuse, done, Telling, untold}

-- ── make fresh: "A fresh store is the kind 1 record with none open, then zeros."
abbrev pub fresh : ℕ → Store
fresh size = record { size = size; mark = shut; recs = [] }

unfoldable pub making_fresh : List ℕ → After
making_fresh s = checked (refuse s) (leb least_store (length s) and leb (length s) most_store) 1 (done (fresh (length s)))

-- ── fonts

-- the bytes that the records take
abbrev pub used : Store → ℕ
used st = mark_record + total st.recs

-- the mark, closed if it names a character of font n
unfoldable pub closed_for : ℕ → Mark → Mark
closed_for n m = cond (eqb m.on 1 and eqb m.font_of n) shut m

-- the store with font n and all its characters replaced by new records
abbrev pub with_font : ℕ → List Rec → Store → Store
with_font n new st = record { size = st.size; mark = closed_for n st.mark; recs = replaced (key_of n 0) (key_of (n + 1) 0) new st.recs }

abbrev pub store_without_font : ℕ → Store → Store
store_without_font n st = with_font n [] st

-- "An accepted block first removes any font of that number with its characters."
abbrev pub put_font : ℕ → List ℕ → Store → Store
put_font n h st = with_font n (font n h ∷ []) st

-- "Removing checks 1, 2, 6"
unfoldable pub removing_font : ℕ → List ℕ → After
removing_font n s = on_font (refuse s) n s (λ st r. done (store_without_font n st))

unfoldable pub downloading_font : ℕ → List ℕ → List ℕ → After
downloading_font n b s =
    -- "store first, then number ranges": 1, 2
    on_store (refuse s) (decode s)
    (λ st.
    checked (refuse s) (leb n last_font) 2
    -- "The font block": 3, 4, 5
    (taking (refuse s) (read_header b)
    -- "It is refused with 10 exactly if the records would then not fit."
    (checked (refuse s) (leb (used (put_font n (kept_header b) st)) st.size) 10
    (done (put_font n (kept_header b) st)))))

-- ── characters

-- the mark, closed if it names this character
unfoldable pub closed_at : ℕ → ℕ → Mark → Mark
closed_at n c m = cond (eqb m.on 1 and eqb m.font_of n and eqb m.code_of c) shut m

-- the records with the character of code c of font n replaced by new ones
abbrev pub with_character : ℕ → ℕ → List Rec → List Rec → List Rec
with_character n c new rs = replaced (key_of n (c + 1)) (key_of n (c + 1) + 1) new rs

abbrev pub store_without_character : ℕ → ℕ → Store → Store
store_without_character n c st = record { size = st.size; mark = closed_at n c st.mark; recs = with_character n c [] st.recs }

-- "Removing checks 1, 2, 6, then 7 for a character."
unfoldable pub removing_character : ℕ → ℕ → List ℕ → After
removing_character n c s = on_character (refuse s) n c s (λ st r. done (store_without_character n c st))

-- ── telling: "copies the 64 (W-206: 68) or 16 kept bytes to an output, answers the number of characters or of data bytes, and checks as removing does, then 12"

-- the characters of font n
unfoldable pub characters_of : ℕ → List Rec → List Rec
characters_of n rs = keep (λ r. eqb (number r) n and not (eqb (place r) 0)) rs

abbrev pub kept_of : Rec → List ℕ
kept_of (font n h) = h
kept_of (character n c h d) = h

abbrev pub data_of : Rec → List ℕ
data_of (font n h) = []
data_of (character n c h d) = d

-- bytes put to the front of an output, whose later bytes stay
abbrev pub onto : List ℕ → List ℕ → List ℕ
onto b out = b ++ drop (length b) out

unfoldable pub telling_font : ℕ → List ℕ → List ℕ → Telling
telling_font n s out =
    on_font (untold out) n s
    (λ st r.
    checked (untold out) (leb header_bytes (length out)) 12
    (record { refusal = 0; count = length (characters_of n st.recs); out = onto (kept_of r) out }))

unfoldable pub telling_character : ℕ → ℕ → List ℕ → List ℕ → Telling
telling_character n c s out =
    on_character (untold out) n c s
    (λ st r.
    checked (untold out) (leb descriptor_bytes (length out)) 12
    (record { refusal = 0; count = length (data_of r); out = onto (kept_of r) out }))
