-- Laws of what records are written as. Assumes nothing.
use mathlib.Core.Path.{◌≡◌, refl, sym, ap, ◌∙◌}
use mathlib.Core.List.{List, [], ◌∷◌, ◌++◌, append-nil}
use mathlib.Core.Bool.{Bool, true, false}
use Prim.Native.Nat.{ℕ, ◌+◌, ◌-◌, ◌*◌, ◌<◌, ◌≤◌}
use native.Mathlib.Omega.{arith}
use lib.ListN.{length, take, drop, set, length-take, length-drop, length-append, drop_of_length-le, take-append-drop}
use lib.Seq.{take_all, take-add, take-append-add, drop-append-add, drop-drop}
use lib.Dec.{leb}
use borrow.Author.Tests.{le-leb, lt-leb, leb-true, leb-false}
use Rattle.blocks.specs.Header.{block_limit, header_bytes, own_bytes, own_header}
use Rattle.blocks.specs.Character.{descriptor_bytes, character_format}
use Rattle.blocks.proofs.HeaderBytes.{own_length}
use Rattle.form.specs.Layout.{most_store}
use Rattle.form.specs.Model.{Rec, font, character, size_of, total}
use Rattle.form.specs.Records.{records_of, Between}
use Rattle.store.specs.Calls.{onto}
use Rattle.form.specs.declared.walk.Places.{Places}
use Rattle.form.proofs.Seeks.{KeptFont, font_call}
use Rattle.form.proofs.FontRecords.{font_records}
use Rattle.stream.specs.Digits.{decimal_of}
use Rattle.change.specs.Put.{with_bytes}
use Rattle.stream.specs.Writing.{spelling, set_font, set_code, font_block_head, font_block_command, character_block_head, character_block_command}
use Rattle.stream.specs.Written.{first_data, continues, continuation, written_record, written_run, written, WriteOut, unwritten, writing_bytes, writing_font}
use Rattle.stream.specs.Run.{blocks, written_character}
use Rattle.stream.proofs.Putting.{length_put, put_none, put_byte, put_joined}
use Rattle.stream.proofs.Spellings.{length_spelling, block_put}

-- ── lengths
length_set_font : (n : ℕ) → length (set_font n) ≡ 4 + length (decimal_of n)
unfolding set_font
length_set_font n = length_spelling 42 99 n 68

length_set_code : (n : ℕ) → length (set_code n) ≡ 4 + length (decimal_of n)
unfolding set_code
length_set_code n = length_spelling 42 99 n 69

length_font_block : (b : List ℕ) → length (font_block_command b) ≡ 4 + length (decimal_of (length b)) + length b
unfolding font_block_command font_block_head
length_font_block b = omega (arith, length-append (spelling 41 115 (length b) 87) b, length_spelling 41 115 (length b) 87)

length_block : (b : List ℕ) → length (character_block_command b) ≡ 4 + length (decimal_of (length b)) + length b
unfolding character_block_command character_block_head
length_block b = omega (arith, length-append (spelling 40 115 (length b) 87) b, length_spelling 40 115 (length b) 87)

same_digits : (a b : ℕ) → a ≡ b → length (decimal_of a) ≡ length (decimal_of b)
same_digits a b e = ap (λ (k : ℕ). length (decimal_of k)) e

-- ── two parts, one behind the other
joined_room : (w a b : List ℕ) (at n : ℕ) → w ≡ a ++ b → at + length w ≤ n → (at + length a ≤ n) × (at + length a + length b ≤ n)
joined_room w a b at n e h = let l = ap length e ∙ length-append a b in (omega arith, omega arith)

pub joined_put : (s w a b out last : List ℕ) (at from end : ℕ) → w ≡ a ++ b → at + length w ≤ length s → from ≡ at + length a → out ≡ with_bytes s at a
    → end ≡ from + length b → last ≡ with_bytes out from b → (end ≡ at + length w) × (last ≡ with_bytes s at w)
joined_put s w a b out last at from end e h p q r t =
    let h' : at + length (a ++ b) ≤ length s = rw e at h in
    rw e (block_put s a b out last at from end h' p q r t)

-- ── the blocks of a character
pub blocks_one : (b : List ℕ) → length b ≤ block_limit → blocks b ≡ character_block_command b
unfolding blocks
blocks_one b h = rw (le-leb (length b) block_limit h)

pub blocks_two : (b : List ℕ) → block_limit < length b → blocks b ≡ character_block_command (take block_limit b) ++ character_block_command (character_format ∷ continues ∷ take (length b - block_limit) (drop block_limit b))
unfolding blocks
blocks_two b h = rw (lt-leb (length b) block_limit h, take_all (length b - block_limit) (drop block_limit b) (omega (arith, length-drop block_limit b)))

pub blocks_room : (b : List ℕ) (to n : ℕ) → block_limit < length b → to + length (blocks b) ≤ n
    → (to + length (character_block_command (take block_limit b)) ≤ n)
    × (to + length (character_block_command (take block_limit b)) + length (character_block_command (character_format ∷ continues ∷ take (length b - block_limit) (drop block_limit b))) ≤ n)
blocks_room b to n l h =
    joined_room (blocks b) (character_block_command (take block_limit b)) (character_block_command (character_format ∷ continues ∷ take (length b - block_limit) (drop block_limit b))) to n (blocks_two b l) h

pub one_length : (b : List ℕ) (n x : ℕ) → length b ≡ n → n ≤ block_limit → x ≡ 4 + length (decimal_of n) → x + n ≡ length (blocks b)
one_length b n x e h p = omega (arith, ap length (blocks_one b (omega arith)), length_block b, same_digits (length b) n e)

pub two_length : (b : List ℕ) (n x y : ℕ) → length b ≡ n → block_limit < n → x ≡ 4 + length (decimal_of block_limit) → y ≡ 4 + length (decimal_of (n - block_limit + 2))
    → x + block_limit + (y + (n - block_limit + 2)) ≡ length (blocks b)
two_length b n x y e h p q =
    let f = take block_limit b in
    let c = take (length b - block_limit) (drop block_limit b) in
    let lf : length (take block_limit b) ≡ block_limit = simp length-take (omega arith) in
    let lc : length (character_format ∷ continues ∷ take (length b - block_limit) (drop block_limit b)) ≡ n - block_limit + 2 = simp (length-take, length-drop) (omega arith) in
    omega (arith, ap length (blocks_two b (omega arith)), length-append (character_block_command f) (character_block_command (character_format ∷ continues ∷ c)), length_block f, length_block (character_format ∷ continues ∷ c), lf, lc, same_digits (length f) block_limit lf, same_digits (length (character_format ∷ continues ∷ c)) (n - block_limit + 2) lc)

pub continued : (d : List ℕ) → 0 < length d → continuation d ≡ character_block_command (character_format ∷ continues ∷ d)
unfolding continuation
continued [] l = absurd (omega arith)
continued (b ∷ d) l = refl

-- the definition's blocks are those of the kept bytes and the data in a row
as_blocks : (h d : List ℕ) → length h ≡ descriptor_bytes → character_block_command (h ++ take first_data d) ++ continuation (drop first_data d) ≡ blocks (h ++ d)
as_blocks h d e = go (leb (length d) first_data) refl
  where
    l : length (h ++ d) ≡ descriptor_bytes + length d
    l = omega (arith, length-append h d)

    go : (t : Bool) → leb (length d) first_data ≡ t → character_block_command (h ++ take first_data d) ++ continuation (drop first_data d) ≡ blocks (h ++ d)
    go true q =
        let m = leb-true (length d) first_data q in
        rw (blocks_one (h ++ d) (omega (arith, l)), take_all first_data d m, drop_of_length-le d {i = first_data} m) (unfold continuation in append-nil (character_block_command (h ++ d)))
    go false q =
        let m = leb-false (length d) first_data q in
        let k : length h + first_data ≡ block_limit = omega arith in
        let a : take block_limit (h ++ d) ≡ h ++ take first_data d = ap (λ (i : ℕ). take i (h ++ d)) (sym k) ∙ take-append-add h d first_data in
        let b : drop block_limit (h ++ d) ≡ drop first_data d = ap (λ (i : ℕ). drop i (h ++ d)) (sym k) ∙ drop-append-add h d first_data in
        let c : take (length (h ++ d) - block_limit) (drop first_data d) ≡ drop first_data d = take_all (length (h ++ d) - block_limit) (drop first_data d) (omega (arith, l, length-drop first_data d)) in
        rw (blocks_two (h ++ d) (omega (arith, l)), a, b, c, continued (drop first_data d) (omega (arith, length-drop first_data d)))

-- ── a continuation
continuation_is : (b : List ℕ) → character_block_command (character_format ∷ continues ∷ b) ≡ character_block_head (length b + 2) ++ (character_format ∷ continues ∷ b)
unfolding character_block_command
continuation_is b = let e : length (character_format ∷ continues ∷ b) ≡ length b + 2 = omega arith in ap (λ (k : ℕ). character_block_head k ++ (character_format ∷ continues ∷ b)) e

pub continuation_length : (b : List ℕ) → length (character_block_command (character_format ∷ continues ∷ b)) ≡ length (character_block_head (length b + 2)) + 2 + length b
continuation_length b = omega (arith, ap length (continuation_is b), length-append (character_block_head (length b + 2)) (character_format ∷ continues ∷ b))

two_bytes : (s b : List ℕ) (at : ℕ) → at + 2 + length b ≤ length s → with_bytes (set (set s at 4) (at + 1) 1) (at + 2) b ≡ with_bytes s at (character_format ∷ continues ∷ b)
two_bytes s b at h =
    let x : at + 1 < length (with_bytes s at (4 ∷ [])) = rw (length_put s (4 ∷ []) at (omega arith)) (omega arith) in
    rw (put_byte s at 4 (omega arith), put_byte (with_bytes s at (4 ∷ [])) (at + 1) 1 x, put_joined s (4 ∷ []) (1 ∷ []) at (omega arith))
    (put_joined s (character_format ∷ continues ∷ []) b at (omega arith))

pub continuation_put : (s b out last : List ℕ) (at from end : ℕ) → at + length (character_block_command (character_format ∷ continues ∷ b)) ≤ length s → from ≡ at + length (character_block_head (length b + 2))
    → out ≡ with_bytes s at (character_block_head (length b + 2)) → end ≡ from + 2 + length b → last ≡ with_bytes (set (set out from 4) (from + 1) 1) (from + 2) b
    → (end ≡ at + length (character_block_command (character_format ∷ continues ∷ b))) × (last ≡ with_bytes s at (character_block_command (character_format ∷ continues ∷ b)))
continuation_put s b out last at from end h p q r t =
    let l = continuation_length b in
    let k : length out ≡ length s = ap length q ∙ length_put s (character_block_head (length b + 2)) at (omega arith) in
    joined_put s (character_block_command (character_format ∷ continues ∷ b)) (character_block_head (length b + 2)) (character_format ∷ continues ∷ b) out last at from end (continuation_is b) h p q (omega arith) (t ∙ two_bytes out b from (omega arith))

-- ── a record
-- the part of a kept header that the code lends
pub own_part : (h : List ℕ) (n : ℕ) → n ≡ own_bytes h → take n h ≡ own_header h
unfolding own_header
own_part h n e = rw e

pub font_parts : (n : ℕ) (h : List ℕ) → written_record (font n h) ≡ set_font n ++ font_block_command (own_header h)
unfolding written_record
font_parts n h = refl

pub character_parts : (c : ℕ) (b : List ℕ) → written_character c b ≡ set_code c ++ blocks b
unfolding written_character
character_parts c b = refl

pub font_parts_room : (n to k : ℕ) (h : List ℕ) → to + length (written_record (font n h)) ≤ k → (to + length (set_font n) ≤ k) × (to + length (set_font n) + length (font_block_command (own_header h)) ≤ k)
font_parts_room n to k h = joined_room (written_record (font n h)) (set_font n) (font_block_command (own_header h)) to k (font_parts n h)

pub character_parts_room : (c to k : ℕ) (b : List ℕ) → to + length (written_character c b) ≤ k → (to + length (set_code c) ≤ k) × (to + length (set_code c) + length (blocks b) ≤ k)
character_parts_room c to k b = joined_room (written_character c b) (set_code c) (blocks b) to k (character_parts c b)

pub font_length : (n x y k : ℕ) (h : List ℕ) → length h ≡ header_bytes → k ≡ own_bytes h → x ≡ 4 + length (decimal_of n) → y ≡ 4 + length (decimal_of k) → x + (y + k) ≡ length (written_record (font n h))
font_length n x y k h e o p q =
    let l : length (own_header h) ≡ k = own_length h (omega arith) ∙ sym o in
    omega (arith, ap length (font_parts n h), length-append (set_font n) (font_block_command (own_header h)), length_set_font n, length_font_block (own_header h), same_digits (length (own_header h)) k l)

pub font_fits : (n x : ℕ) (h : List ℕ) → x ≤ header_bytes + 18 → x ≤ 2 * size_of (font n h)
unfolding size_of
font_fits n x h l = omega arith

pub character_length_lem : (c x y : ℕ) (b : List ℕ) → x ≡ 4 + length (decimal_of c) → y ≡ length (blocks b) → x + y ≡ length (written_character c b)
character_length_lem c x y b p q = omega (arith, ap length (character_parts c b), length-append (set_code c) (blocks b), length_set_code c)

-- ── a record that the store gives
-- its kept bytes and its data stand in a row
pub as_character : (n c : ℕ) (b : List ℕ) → descriptor_bytes ≤ length b → written_record (character n c (take descriptor_bytes b) (drop descriptor_bytes b)) ≡ written_character c b
unfolding written_record written_character
as_character n c b l =
    let e : length (take descriptor_bytes b) ≡ descriptor_bytes = simp length-take (omega arith) in
    ap (λ (x : List ℕ). set_code c ++ x) (as_blocks (take descriptor_bytes b) (drop descriptor_bytes b) e ∙ ap blocks (take-append-drop descriptor_bytes b))

pub character_size : (n c : ℕ) (b : List ℕ) → descriptor_bytes ≤ length b → size_of (character n c (take descriptor_bytes b) (drop descriptor_bytes b)) ≡ 10 + length b
unfolding size_of
character_size n c b l = omega (arith, length-drop descriptor_bytes b)

-- ── a run of records: what is left of it from a place on
run_next : (rs ts : List Rec) (r : Rec) → rs ≡ r ∷ ts → written_run rs ≡ written_record r ++ written_run ts
unfolding written_run
run_next rs ts r e = rw e

run_ended : (rs : List Rec) → rs ≡ [] → written_run rs ≡ []
unfolding written_run
run_ended rs e = rw e

-- n is the length of the records before those that are left
abbrev pub Counted : List ℕ → ℕ → ℕ → List Rec → ℕ → Type 0
Counted s lo hi left n = (rs : List Rec) → Between s lo hi rs → (n + length (written_run left) ≡ length (written_run rs)) × (n + 2 * total left ≤ 2 * most_store)

pub count_all : (s : List ℕ) (lo hi : ℕ) (left : List Rec) → ((rs : List Rec) → Between s lo hi rs → left ≡ rs) → Counted s lo hi left 0
count_all s lo hi left f rs b = let e = f rs b in (omega (arith, ap (λ (l : List Rec). length (written_run l)) e), omega (arith, ap total e, b.sum, b.within, b.small))

total_next : (left more : List Rec) (r : Rec) → left ≡ r ∷ more → total left ≡ size_of r + total more
unfolding total
total_next left more r e = rw e

-- the next record is small
pub next_small : (s : List ℕ) (lo hi n : ℕ) (left more : List Rec) (r : Rec) (rs : List Rec) → Between s lo hi rs → Counted s lo hi left n → left ≡ r ∷ more → (size_of r ≤ most_store) × (n + 2 * size_of r ≤ 2 * most_store)
next_small s lo hi n left more r rs b f e = let w = (f rs b).1 in let t = total_next left more r e in (omega arith, omega arith)

pub count_next : (s : List ℕ) (lo hi n m : ℕ) (left more : List Rec) (r : Rec) → Counted s lo hi left n → left ≡ r ∷ more → m ≡ length (written_record r) → m ≤ 2 * size_of r → Counted s lo hi more (n + m)
count_next s lo hi n m left more r f e g h rs b =
    let t = f rs b in
    let j = ap length (run_next left more r e) ∙ length-append (written_record r) (written_run more) in
    (omega (arith, t.0), omega (arith, t.1, total_next left more r e))

pub counted : (s : List ℕ) (lo hi n : ℕ) (left : List Rec) → Counted s lo hi left n → left ≡ [] → (rs : List Rec) → Between s lo hi rs → n ≡ length (written_run rs)
counted s lo hi n left f e rs b = let t = f rs b in let z = ap length (run_ended left e) in omega (arith, t.0)

-- out is o with the records before those that are left written to its first bytes, up to place to
abbrev pub Filled : List ℕ → ℕ → ℕ → List ℕ → List Rec → List ℕ → ℕ → Type 0
Filled s lo hi o left out to = (rs : List Rec) → Between s lo hi rs → (to + length (written_run left) ≤ length out) × (with_bytes out to (written_run left) ≡ with_bytes o 0 (written_run rs))

pub fill_room : (s : List ℕ) (lo hi to : ℕ) (o out : List ℕ) (left more : List Rec) (r : Rec) (rs : List Rec) → Between s lo hi rs → Filled s lo hi o left out to → left ≡ r ∷ more → to + length (written_record r) ≤ length out
fill_room s lo hi to o out left more r rs b f e = (joined_room (written_run left) (written_record r) (written_run more) to (length out) (run_next left more r e) (f rs b).0).0

pub fill_next : (s : List ℕ) (lo hi to end : ℕ) (o out last : List ℕ) (left more : List Rec) (r : Rec) → Filled s lo hi o left out to → left ≡ r ∷ more
    → end ≡ to + length (written_record r) → last ≡ with_bytes out to (written_record r) → Filled s lo hi o more last end
fill_next s lo hi to end o out last left more r f g e p rs b =
    let t = f rs b in
    let x = written_record r in
    let y = written_run more in
    let i = run_next left more r g in
    let k = joined_room (written_run left) x y to (length out) i t.0 in
    let m : length last ≡ length out = ap length p ∙ length_put out x to k.0 in
    (omega (arith, k.1), rw (p, e) (put_joined out x y to k.1 ∙ ap (with_bytes out to) (sym i) ∙ t.1))

pub filled : (s : List ℕ) (lo hi to : ℕ) (o out : List ℕ) (left : List Rec) → Filled s lo hi o left out to → left ≡ [] → (rs : List Rec) → Between s lo hi rs → out ≡ with_bytes o 0 (written_run rs)
filled s lo hi to o out left f e rs b = let t = f rs b in sym (ap (with_bytes out to) (run_ended left e) ∙ put_none out to) ∙ t.1

pub put_front : (b out : List ℕ) → with_bytes out 0 b ≡ onto b out
unfolding with_bytes
put_front b out = let e : 0 + length b ≡ length b = omega arith in rw e

-- ── the call, for records that are found
same_answer : {k m : ℕ} {a b : List ℕ} → k ≡ m → a ≡ b → ◌≡◌ {A = WriteOut} (record { refusal = 0; count = k; out = a }) (record { refusal = 0; count = m; out = b })
same_answer p q = rw (p, q)

module _ (s out : List ℕ) (lo hi k : ℕ) (m : (rs : List Rec) → Between s lo hi rs → k ≡ length (written_run rs)) (rs : List Rec) (b : Between s lo hi rs) where
  pub too_short : length out < k → unwritten out 12 ≡ writing_bytes (written_run rs) out
  too_short l = rw (lt-leb (length (written_run rs)) (length out) (omega (arith, m rs b)))

  pub wrote_all : k ≤ length out → (last : List ℕ) → ((rs : List Rec) → Between s lo hi rs → last ≡ with_bytes out 0 (written_run rs))
      → record { refusal = 0; count = k; out = last } ≡ writing_bytes (written_run rs) out
  wrote_all l last f =
      rw (le-leb (length (written_run rs)) (length out) (omega (arith, m rs b))) (same_answer (m rs b) (f rs b ∙ put_front (written_run rs) out))

-- those of a font that is there
pub font_written : (n : ℕ) (s out : List ℕ) (w : Places) (x : KeptFont n 0 s w) (a : WriteOut) → ((rs : List Rec) → Between s w.lo w.hi rs → a ≡ writing_bytes (written_run rs) out) → a ≡ writing_font n s out
unfolding writing_font written
font_written n s out w x a f = f (records_of n x.ready.store.recs) (font_records n s w x) ∙ sym (font_call n s w (unwritten out) _ x)
