-- Document 02, W-208, "The old cartridge as a second place": the choice from two stores, and the chosen font's record.
use Rattle.std.specs.Prelude.{ℕ, ◌+◌, ◌-◌, ◌≡◌, List, Bool, cond, ◌&&◌, length, take, drop, eqb, leb, Ok, Err}
use Rattle.std.specs.Borrow.{Bor}
use Rattle.form.specs.Layout.{font_record}
use Rattle.form.specs.Records.{records_in, font_place, FontStands}
use Rattle.choice.specs.Steps.{Choice}
use Rattle.choice.specs.Choosing.{choosing_from_two, refusal_of, font_of, which_of}
use Rattle.choice.specs.declared.Request.{Request}
use Rattle.cartridge.specs.declared.RecordAnswer.{RecordAnswer}

-- "the record's place in it", 0 for a refusal
abbrev pub chosen_place : List ℕ → List ℕ → Choice → ℕ
chosen_place soft cartridge (Ok c) = font_place c.number (records_in (cond c.soft soft cartridge))
chosen_place soft cartridge (Err r) = 0

-- the numbers of an answer: "says which store that is (1 soft, 2 cartridge) and, for the C spooler, the record's place in it"
unfoldable pub record_answer : List ℕ → List ℕ → Choice → RecordAnswer
record_answer soft cartridge a = record { refusal = refusal_of a; font = font_of a; which = which_of a; place = chosen_place soft cartridge a }

unfoldable pub answering_from_two : List ℕ → List ℕ → Request → RecordAnswer
answering_from_two soft cartridge r = record_answer soft cartridge (choosing_from_two soft cartridge r)

-- ── the record itself: a part of memory, by where it begins (a block of memory, and a place in it) and its bytes
pub record MemoryPart : Type 0 where
  pub spot : ℕ × ℕ
  pub bytes : List ℕ

-- what a slice refers to
abbrev pub part_of : Bor (List ℕ) → MemoryPart
part_of s = record { spot = s.ref_ptr; bytes = s.now }

-- so many bytes of a part, from a place of it on
abbrev pub cut : MemoryPart → ℕ → ℕ → MemoryPart
cut s at n = record { spot = (s.spot.0, at + s.spot.1); bytes = take n (drop at s.bytes) }

-- a font's record that begins at a place ends within n bytes
unfoldable pub fits : ℕ → ℕ → Bool
fits n place = leb font_record n && leb place (n - font_record)

-- "as the part of whichever store holds it, without copying"; "A refusal gives back an empty part of the soft store." It is so for any numbers: what
-- names no part of its store is taken as a refusal.
unfoldable pub record_part : MemoryPart → MemoryPart → RecordAnswer → MemoryPart
record_part soft cartridge a =
    cond (eqb a.which 1 && fits (length soft.bytes) a.place) (cut soft a.place font_record)
    (cond (eqb a.which 2 && fits (length cartridge.bytes) a.place) (cut cartridge a.place font_record) (cut soft 0 0))

-- the answer a names a record in the store u, and the part p is that record, whole
pub record IsRecord (u p : MemoryPart) (a : RecordAnswer) : Type 0 where
  pub part : p ≡ cut u a.place font_record
  pub kept : List ℕ
  pub stands : FontStands u.bytes a.place a.font kept

-- the part p beside the numbers a of an answer: the record in the store that they name; for a refusal, an empty part of the soft store
pub data Gives (soft cartridge : MemoryPart) (a : RecordAnswer) (p : MemoryPart) : Type 0 where
  of_soft : a.refusal ≡ 0 → a.which ≡ 1 → IsRecord soft p a → Gives soft cartridge a p
  of_cartridge : a.refusal ≡ 0 → a.which ≡ 2 → IsRecord cartridge p a → Gives soft cartridge a p
  nothing : (a.refusal ≡ 0 → ⊥) → p ≡ cut soft 0 0 → Gives soft cartridge a p

-- the claim of the part: so it is of every choice from two buffers
abbrev pub GivesRecord : Type 0
GivesRecord =
    (soft cartridge : MemoryPart) (r : Request)
    → let a : RecordAnswer = answering_from_two soft.bytes cartridge.bytes r in
    Gives soft cartridge a (record_part soft cartridge a)
