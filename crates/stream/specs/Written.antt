-- Document 01, "The stream", "Writing a font": the stream that a kept font is written as, and the whole call.
use Rattle.std.specs.Prelude.{ℕ, List, [], ◌∷◌, ◌++◌, Result, Ok, Err, leb, length, take, drop}
use Rattle.refusals.specs.Refusals.{numbered_result}
use Rattle.refusals.specs.declared.Refused.{Refused}
use Rattle.blocks.specs.Header.{own_header}
use Rattle.blocks.specs.Character.{character_format}
use Rattle.form.specs.Model.{Rec, font, character}
use Rattle.form.specs.Records.{records_of}
use Rattle.form.specs.Checks.{checked, on_font}
use Rattle.store.specs.Calls.{onto}
use Rattle.stream.specs.Writing.{set_font, set_code, font_block_command, character_block_command}

-- "a first block with up to 32,751 data bytes"
abbrev pub first_data : ℕ
first_data = 32751

-- "one continuation (byte 1 is 1) for the rest": none, if there is no rest
abbrev pub continues : ℕ
continues = 1

unfoldable pub continuation : List ℕ → List ℕ
continuation [] = []
continuation (b ∷ d) = character_block_command (character_format ∷ continues ∷ b ∷ d)

-- "D, header (64 bytes), then per rising code E, a first block .., one continuation .." W-206: "The write-out gives back the format received",
-- 68 header bytes for format 20
unfoldable pub written_record : Rec → List ℕ
written_record (font n h) = set_font n ++ font_block_command (own_header h)
written_record (character n c h d) = set_code c ++ (character_block_command (h ++ take first_data d) ++ continuation (drop first_data d))

unfoldable pub written_run : List Rec → List ℕ
written_run [] = []
written_run (r ∷ rs) = written_record r ++ written_run rs

-- the font itself, then its characters by rising code, as the store has them
unfoldable pub written : ℕ → List Rec → List ℕ
written n rs = written_run (records_of n rs)

-- what writing answers, and the output afterwards
pub record WriteOut : Type 0 where
  pub refusal : ℕ
  pub count : ℕ
  pub out : List ℕ

-- "A refusal answers 0 for every other number"
abbrev pub unwritten : List ℕ → ℕ → WriteOut
unwritten out k = record { refusal = k; count = 0; out = out }

-- the code's result with the output
abbrev pub written_by : Result ℕ ℕ → List ℕ → WriteOut
written_by (Ok n) out = record { refusal = 0; count = n; out = out }
written_by (Err k) out = unwritten out k

abbrev pub written_of : Result ℕ Refused → List ℕ → WriteOut
written_of r out = written_by (numbered_result r) out

-- bytes put to an output that has room for them, else 12; the answer is their length
abbrev pub writing_bytes : List ℕ → List ℕ → WriteOut
writing_bytes b out = checked (unwritten out) (leb (length b) (length out)) 12 (record { refusal = 0; count = length b; out = onto b out })

-- "Write-out checks 1, 2, 6, 12 and answers its length."
unfoldable pub writing_font : ℕ → List ℕ → List ℕ → WriteOut
writing_font n s out = on_font (unwritten out) n s (λ st r. writing_bytes (written n st.recs) out)
