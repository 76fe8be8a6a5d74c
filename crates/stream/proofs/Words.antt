-- A stream read word by word: each command as it is written is carried out, and the rest is read behind it. Assumes nothing.
use Prim.Native.Nat.{ℕ, ◌+◌, ◌≤◌}
use mathlib.Core.Path.{◌≡◌, sym, ap, ◌∙◌}
use mathlib.Core.List.{List, [], ◌++◌, append-nil, append_assoc}
use native.Mathlib.Omega.{arith}
use borrow.Author.Tests.{le-leb}
use lib.ListN.{length, length-append}
use Rattle.form.specs.Model.{Store, encode}
use Rattle.store.specs.Answer.{done, no_run}
use Rattle.store.specs.Calls.{downloading_font}
use Rattle.store.specs.Download.{downloading_character}
use Rattle.stream.specs.Writing.{set_font, set_code, font_block_head, font_block_command, character_block_head, character_block_command}
use Rattle.stream.specs.Reading.{Download, number_set, download, font_block, character_block, Progress, Ended, range_answer, count_answer, making, part, obey, read_from, first_run}
use Rattle.std.specs.Prelude.{None}
use Rattle.stream.specs.declared.reading.Target.{Target}
use Rattle.stream.proofs.Commands.{command_past}
use Rattle.stream.proofs.Readings.{read_number, read_code, read_font, read_character, read_end, number_low, code_low}
use Rattle.stream.proofs.Spellings.{set_font_read, set_code_read, font_block_read, font_block_part, character_block_read, character_block_part}

-- the rest of a stream, whatever stood before it
abbrev pub reads : List ℕ → List ℕ → Target → Progress → Ended
reads pre rest t x = read_from (pre ++ rest) (length pre) t x

-- the place behind the first word of the rest
on_word : (pre word rest : List ℕ) (t : Target) (x : Progress) → read_from (pre ++ (word ++ rest)) (length pre + length word) t x ≡ reads (pre ++ word) rest t x
on_word pre word rest t x =
    let a : pre ++ (word ++ rest) ≡ (pre ++ word) ++ rest = sym (append_assoc pre word rest) in
    rw (a, ← (length-append pre word))

abbrev pub target : ℕ → ℕ → Target
target n c = record { font = n; code = c }

-- a reading that has done k commands and refused none, and left s
abbrev pub all_done : ℕ → List ℕ → Progress
all_done k s = record { counts = record { done = k; refused = 0 }; bad = no_run; bytes = s }

obey_low : (n last k : ℕ) (s : List ℕ) → n ≤ last → obey (number_set (range_answer last n)) (all_done k s) ≡ all_done (k + 1) s
unfolding obey count_answer
obey_low n last k s l = rw (le-leb n last l)

obey_done : (d : Download) (k : ℕ) (s : List ℕ) (st : Store) → making d s ≡ done st → obey (download d) (all_done k s) ≡ all_done (k + 1) (encode st)
unfolding obey count_answer first_run
obey_done d k s st a = rw a

module _ (pre rest : List ℕ) (n c k : ℕ) (s : List ℕ) where
  pub on_number : (m : ℕ) → m ≤ 32767 → reads pre (set_font m ++ rest) (target n c) (all_done k s) ≡ reads (pre ++ set_font m) rest (target m c) (all_done (k + 1) s)
  on_number m l =
      let b = pre ++ (set_font m ++ rest) in
      let e = length pre + length (set_font m) in
      read_number b (length pre) (target n c) (all_done k s) m e (set_font_read pre rest m (omega arith))
      ∙ ap (λ (t : Target). read_from b e t (obey (number_set (range_answer 32767 m)) (all_done k s))) (number_low m (target n c) l)
      ∙ ap (read_from b e (target m c)) (obey_low m 32767 k s l)
      ∙ on_word pre (set_font m) rest (target m c) (all_done (k + 1) s)

  pub on_code : (m : ℕ) → m ≤ 255 → reads pre (set_code m ++ rest) (target n c) (all_done k s) ≡ reads (pre ++ set_code m) rest (target n m) (all_done (k + 1) s)
  on_code m l =
      let b = pre ++ (set_code m ++ rest) in
      let e = length pre + length (set_code m) in
      read_code b (length pre) (target n c) (all_done k s) m e (set_code_read pre rest m (omega arith))
      ∙ ap (λ (t : Target). read_from b e t (obey (number_set (range_answer 255 m)) (all_done k s))) (code_low m (target n c) l)
      ∙ ap (read_from b e (target n m)) (obey_low m 255 k s l)
      ∙ on_word pre (set_code m) rest (target n m) (all_done (k + 1) s)

  pub on_font_lem : (block : List ℕ) (st : Store) → length block ≤ 32767 → downloading_font n block s ≡ done st
      → reads pre (font_block_command block ++ rest) (target n c) (all_done k s) ≡ reads (pre ++ font_block_command block) rest (target n c) (all_done (k + 1) (encode st))
  unfolding making
  on_font_lem block st l a =
      let b = pre ++ (font_block_command block ++ rest) in
      let f = length pre + length (font_block_head (length block)) in
      let e = length pre + length (font_block_command block) in
      let z : making (font_block n (part b f e)) s ≡ done st = rw (font_block_part pre block rest) a in
      read_font b (length pre) (target n c) (all_done k s) f e (font_block_read pre block rest l)
      ∙ ap (read_from b e (target n c)) (obey_done (font_block n (part b f e)) k s st z)
      ∙ on_word pre (font_block_command block) rest (target n c) (all_done (k + 1) (encode st))

  pub on_character_lem : (block : List ℕ) (st : Store) → length block ≤ 32767 → downloading_character n c block s ≡ done st
      → reads pre (character_block_command block ++ rest) (target n c) (all_done k s) ≡ reads (pre ++ character_block_command block) rest (target n c) (all_done (k + 1) (encode st))
  unfolding making
  on_character_lem block st l a =
      let b = pre ++ (character_block_command block ++ rest) in
      let f = length pre + length (character_block_head (length block)) in
      let e = length pre + length (character_block_command block) in
      let z : making (character_block n c (part b f e)) s ≡ done st = rw (character_block_part pre block rest) a in
      read_character b (length pre) (target n c) (all_done k s) f e (character_block_read pre block rest l)
      ∙ ap (read_from b e (target n c)) (obey_done (character_block n c (part b f e)) k s st z)
      ∙ on_word pre (character_block_command block) rest (target n c) (all_done (k + 1) (encode st))

pub on_end : (pre : List ℕ) (t : Target) (x : Progress) → reads pre [] t x ≡ record { ending = None; progress = x }
on_end pre t x = read_end (pre ++ []) (length pre) t x (command_past (pre ++ []) (length pre) (rw (append-nil pre) (omega arith)))
