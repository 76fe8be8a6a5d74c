-- Demand 2, its second half: a font that was written, read into a fresh store of the same length.
use Rattle.std.specs.Prelude.{ℕ, ◌+◌, ◌≡◌, List, [], ◌∷◌, cond, length, leb}
use Rattle.std.proofs.Math.Option.{some}
use Rattle.form.specs.Model.{Rec, font, character, Mark, Store, encode, decode, shut}
use Rattle.form.specs.Order.{font_at}
use Rattle.form.specs.Records.{records_of}
use Rattle.store.specs.Calls.{fresh}
use Rattle.store.specs.Download.{mark_for}
use Rattle.store.specs.Answer.{no_run}
use Rattle.stream.specs.Written.{first_data, written}
use Rattle.stream.specs.Reading.{Reading, reading}

-- how many commands records are written as: D and a header; E, a first block and perhaps a continuation
unfoldable pub commands_of : Rec → ℕ
commands_of (font n h) = 2
commands_of (character n c h d) = cond (leb (length d) first_data) 2 3

unfoldable pub commands_in : List Rec → ℕ
commands_in [] = 0
commands_in (r ∷ rs) = commands_of r + commands_in rs

-- "The open mark isn't carried": afterwards it names the last character, if that is incomplete
unfoldable pub mark_after : Mark → List Rec → Mark
mark_after m [] = m
mark_after m (font n h ∷ rs) = mark_after m rs
mark_after m (character n c h d ∷ rs) = mark_after (mark_for n c h d) rs

-- a store of the same length that holds font n with its kept bytes and all its characters with theirs and their data, and nothing else
abbrev pub only_font : ℕ → Store → Store
only_font n st = record { size = st.size; mark = mark_after shut (records_of n st.recs); recs = records_of n st.recs }

-- every command is done, and that store is what is left
abbrev pub restored : ℕ → Store → Reading
restored n st = record { answer = record { refusal = 0; done = commands_in (records_of n st.recs); refused = 0; place = 0; bad = no_run }; bytes = encode (only_font n st) }

-- for every store and every font in it
abbrev pub FontComesBack : Type 0
FontComesBack =
    (s : List ℕ) (st : Store) → decode s ≡ some st → (n : ℕ) (r : Rec) → font_at n st.recs ≡ some r
    → (reading (written n st.recs) (encode (fresh st.size)) ≡ restored n st) × (decode (encode (only_font n st)) ≡ some (only_font n st))
