-- Laws of the commands as they are written: each is read back. Assumes nothing.
use Prim.Native.Nat.{ℕ, ◌+◌, ◌-◌, ◌≤◌, ◌<◌}
use mathlib.Core.Path.{◌≡◌, refl, ◌∙◌}
use mathlib.Core.List.{List, [], ◌∷◌, ◌++◌, append_assoc}
use mathlib.Core.Bool.{true, false}
use native.Mathlib.Omega.{arith}
use borrow.Author.Tests.{le-leb, ne_eqb}
use lib.Dec.{leb, eqb}
use lib.ListN.{length, take, drop, set, length-append}
use lib.Seq.{append_snoc, get_or-append_seam, get_or-append-add, drop-append_seam, drop-append-add, take-append_seam}
use Rattle.stream.specs.Command.{stream_byte, is_digit, number_of, starts_with, number_command, is_block, block_of, command, moved_by, command_at}
use Rattle.change.specs.Put.{with_bytes}
use Rattle.stream.specs.Digits.{decimal_of}
use Rattle.stream.specs.Writing.{spelling, set_font, set_code, font_block_head, font_block_command, character_block_head, character_block_command}
use Rattle.stream.specs.declared.command.Command.{Command}
use Rattle.stream.specs.declared.command.Command.TheVariants.{SetFont, SetCode, FontBlock, CharacterBlock}
use Rattle.stream.proofs.Commands.{command_seam}
use Rattle.stream.proofs.Decimals.{decimal_some, decimal_spells, decimal_read}
use Rattle.stream.proofs.Putting.{length_put, put_byte, put_joined}

pub length_spelling : (a b n l : ℕ) → length (spelling a b n l) ≡ 4 + length (decimal_of n)
unfolding spelling
length_spelling a b n l = let e = length-append (decimal_of n) (l ∷ []) in omega arith

-- ---- as it is written
put_last : (s a : List ℕ) (at x : ℕ) → at + length a < length s → set (with_bytes s at a) (at + length a) x ≡ with_bytes s at (a ++ (x ∷ []))
put_last s a at x h =
    let l : at + length a < length (with_bytes s at a) = rw (length_put s a at (omega arith)) h in
    put_byte (with_bytes s at a) (at + length a) x l ∙ put_joined s a (x ∷ []) at (omega arith)

pub spelling_put : (s : List ℕ) (at a b n l : ℕ) (out : List ℕ) (end : ℕ) → at + length (spelling a b n l) ≤ length s
    → out ≡ with_bytes (set (set (set s at 27) (at + 1) a) (at + 2) b) (at + 3) (decimal_of n) → end ≡ at + 3 + length (decimal_of n)
    → set out end l ≡ with_bytes s at (spelling a b n l)
unfolding spelling
spelling_put s at a b n l out end h e q =
    let k = length-append (decimal_of n) (l ∷ []) in
    let three : set (set (set s at 27) (at + 1) a) (at + 2) b ≡ with_bytes s at (27 ∷ a ∷ b ∷ []) =
    rw (put_byte s at 27 (omega arith), put_last s (27 ∷ []) at a (omega arith)) (put_last s (27 ∷ a ∷ []) at b (omega arith)) in
    let all : out ≡ with_bytes s at (27 ∷ a ∷ b ∷ decimal_of n) = e ∙ rw three (put_joined s (27 ∷ a ∷ b ∷ []) (decimal_of n) at (omega arith)) in
    let r : end ≡ at + length (27 ∷ a ∷ b ∷ decimal_of n) = omega arith in
    rw (all, r) (put_last s (27 ∷ a ∷ b ∷ decimal_of n) at l (omega arith))

-- a head, and the block behind it
pub block_put : (s head b out last : List ℕ) (at from end : ℕ) → at + length (head ++ b) ≤ length s → from ≡ at + length head → out ≡ with_bytes s at head
    → end ≡ from + length b → last ≡ with_bytes out from b → (end ≡ at + length (head ++ b)) × (last ≡ with_bytes s at (head ++ b))
block_put s head b out last at from end h p q r e =
    let l = length-append head b in
    (omega arith, e ∙ rw (q, p) (put_joined s head b at (omega arith)))

-- ---- as it is read
module _ (a b n l : ℕ) (rest : List ℕ) where
  spelling_front : spelling a b n l ++ rest ≡ 27 ∷ a ∷ b ∷ (decimal_of n ++ (l ∷ rest))
  unfolding spelling
  spelling_front = rw (append_snoc (decimal_of n) l rest)

  spelling_number : n < 100000 → is_digit l ≡ false
      → number_of (spelling a b n l ++ rest) ≡ record { value = n; next = 3 + length (decimal_of n) }
  unfolding number_of
  spelling_number h e = rw (spelling_front, decimal_read n l rest h e, decimal_spells n)

  spelling_letter : stream_byte (spelling a b n l ++ rest) (3 + length (decimal_of n)) ≡ l
  spelling_letter = rw spelling_front (get_or-append-add (27 ∷ a ∷ b ∷ []) (decimal_of n ++ (l ∷ rest)) (length (decimal_of n)) 0 ∙ get_or-append_seam (decimal_of n) l rest 0)

  spelling_begins : (c d : ℕ) → starts_with (spelling a b n l ++ rest) c d ≡ starts_with (27 ∷ a ∷ b ∷ []) c d
  unfolding starts_with
  spelling_begins c d = rw spelling_front

  spelling_there : eqb (length (spelling a b n l ++ rest)) 0 ≡ false
  spelling_there = ne_eqb (length (spelling a b n l ++ rest)) 0 (λ e. omega (arith, e, length-append (spelling a b n l) rest, length_spelling a b n l))

numbered_read : (n l : ℕ) (rest : List ℕ) → n < 100000 → is_digit l ≡ false
    → command (spelling 42 99 n l ++ rest) ≡ number_command (spelling 42 99 n l ++ rest) (record { value = n; next = 3 + length (decimal_of n) })
unfolding command starts_with
numbered_read n l rest h e = rw (spelling_there 42 99 n l rest, spelling_begins 42 99 n l rest 42 99, spelling_number 42 99 n l rest h e)

-- a number has a digit
has_digit_lem : (n : ℕ) → leb 4 (3 + length (decimal_of n)) ≡ true
has_digit_lem n = le-leb 4 (3 + length (decimal_of n)) (omega (arith, decimal_some n))

pub set_font_read : (pre rest : List ℕ) (n : ℕ) → n < 100000
    → command_at (pre ++ (set_font n ++ rest)) (length pre) ≡ SetFont n (length pre + length (set_font n))
unfolding set_font number_command moved_by
set_font_read pre rest n h =
    let k : length (spelling 42 99 n 68) ≡ 3 + length (decimal_of n) + 1 = omega (arith, length_spelling 42 99 n 68) in
    command_seam pre (set_font n ++ rest) ∙ rw (numbered_read n 68 rest h refl, has_digit_lem n, spelling_letter 42 99 n 68 rest, k)

pub set_code_read : (pre rest : List ℕ) (n : ℕ) → n < 100000
    → command_at (pre ++ (set_code n ++ rest)) (length pre) ≡ SetCode n (length pre + length (set_code n))
unfolding set_code number_command moved_by
set_code_read pre rest n h =
    let k : length (spelling 42 99 n 69) ≡ 3 + length (decimal_of n) + 1 = omega (arith, length_spelling 42 99 n 69) in
    command_seam pre (set_code n ++ rest) ∙ rw (numbered_read n 69 rest h refl, has_digit_lem n, spelling_letter 42 99 n 69 rest, k)

-- a W and its block, of a font or of a character
block_read : (block : ℕ → ℕ → Command) (a : ℕ) (b rest : List ℕ) → length b ≤ 32767
    → block_of block ((spelling a 115 (length b) 87 ++ b) ++ rest) (number_of ((spelling a 115 (length b) 87 ++ b) ++ rest))
    ≡ block (length (spelling a 115 (length b) 87)) (length (spelling a 115 (length b) 87 ++ b))
unfolding block_of is_block
block_read block a b rest h =
    let n = length b in
    let w = spelling a 115 n 87 in
    let k : 3 + length (decimal_of n) + 1 ≡ length w = omega (arith, length_spelling a 115 n 87) in
    let whole : leb (length w + n) (length (w ++ (b ++ rest))) ≡ true =
    le-leb (length w + n) (length (w ++ (b ++ rest))) (simp length-append (omega arith)) in
    rw (append_assoc w b rest, spelling_number a 115 n 87 (b ++ rest) (omega arith) refl, has_digit_lem n, spelling_letter a 115 n 87 (b ++ rest), k, le-leb n 32767 h, whole, length-append w b)

block_front : (a : ℕ) (b rest : List ℕ) (c d : ℕ)
    → (eqb (length ((spelling a 115 (length b) 87 ++ b) ++ rest)) 0 ≡ false)
    × (starts_with ((spelling a 115 (length b) 87 ++ b) ++ rest) c d ≡ starts_with (27 ∷ a ∷ 115 ∷ []) c d)
block_front a b rest c d =
    rw (append_assoc (spelling a 115 (length b) 87) b rest)
    (spelling_there a 115 (length b) 87 (b ++ rest), spelling_begins a 115 (length b) 87 (b ++ rest) c d)

pub font_block_read : (pre b rest : List ℕ) → length b ≤ 32767
    → command_at (pre ++ (font_block_command b ++ rest)) (length pre)
    ≡ FontBlock (length pre + length (font_block_head (length b))) (length pre + length (font_block_command b))
unfolding font_block_command font_block_head command starts_with moved_by
font_block_read pre b rest h =
    command_seam pre (font_block_command b ++ rest)
    ∙ rw ((block_front 41 b rest 42 99).0, (block_front 41 b rest 42 99).1, (block_front 41 b rest 41 115).1, block_read FontBlock 41 b rest h)

pub character_block_read : (pre b rest : List ℕ) → length b ≤ 32767
    → command_at (pre ++ (character_block_command b ++ rest)) (length pre)
    ≡ CharacterBlock (length pre + length (character_block_head (length b))) (length pre + length (character_block_command b))
unfolding character_block_command character_block_head command starts_with moved_by
character_block_read pre b rest h =
    command_seam pre (character_block_command b ++ rest)
    ∙ rw ((block_front 40 b rest 42 99).0, (block_front 40 b rest 42 99).1, (block_front 40 b rest 41 115).1, (block_front 40 b rest 40 115).1, block_read CharacterBlock 40 b rest h)

-- the part of the stream that such a command names is the block
part_read : (pre head b rest : List ℕ)
    → take (length pre + length (head ++ b) - (length pre + length head)) (drop (length pre + length head) (pre ++ ((head ++ b) ++ rest))) ≡ b
part_read pre head b rest =
    let k : length pre + length (head ++ b) - (length pre + length head) ≡ length b = omega (arith, length-append head b) in
    rw (k, drop-append-add pre ((head ++ b) ++ rest) (length head), append_assoc head b rest, drop-append_seam head (b ++ rest)) (take-append_seam b rest)

pub font_block_part : (pre b rest : List ℕ)
    → take (length pre + length (font_block_command b) - (length pre + length (font_block_head (length b))))
    (drop (length pre + length (font_block_head (length b))) (pre ++ (font_block_command b ++ rest)))
    ≡ b
unfolding font_block_command
font_block_part pre b rest = part_read pre (font_block_head (length b)) b rest

pub character_block_part : (pre b rest : List ℕ)
    → take (length pre + length (character_block_command b) - (length pre + length (character_block_head (length b))))
    (drop (length pre + length (character_block_head (length b))) (pre ++ (character_block_command b ++ rest)))
    ≡ b
unfolding character_block_command
character_block_part pre b rest = part_read pre (character_block_head (length b)) b rest
