-- The characters of a font, as they are written, read into a store that holds the font: they stand there again. Assumes nothing.
use Prim.Native.Nat.{ℕ, ◌+◌, ◌-◌, ◌≤◌, ◌<◌}
use mathlib.Core.Path.{◌≡◌, refl, sym, ap, ◌∙◌, subst}
use mathlib.Core.List.{List, [], ◌∷◌, ◌++◌, append-nil, append_assoc}
use mathlib.Core.Bool.{Bool, true, false}
use native.Mathlib.Omega.{arith}
use native.Mathlib.Nat.{add-zero}
use borrow.Author.Tests.{le-leb, lt-leb, leb-true, leb-false}
use lib.ListN.{length, take, drop, length-append, length-drop, drop_of_length-le, take-append-drop}
use lib.Dec.{leb}
use lib.Seq.{take_all, length-take-le, append_snoc}
use Rattle.blocks.specs.Header.{orientation}
use Rattle.blocks.specs.Character.{character_format, class, width, height, is_kept_first}
use Rattle.pictures.specs.declared.picture.Held.TheVariants.{Unfinished}
use Rattle.blocks.proofs.KeptFirst.{is_kept_length}
use Rattle.form.specs.Layout.{character_record, key_of, mark_record}
use Rattle.form.specs.Model.{Rec, font, character, Store, held_of, held_under, is_kept, is_unfinished, encode, total, size_of, Valid}
use Rattle.store.specs.Download.{mark_for}
use Rattle.store.proofs.Changed.{changed}
use Rattle.form.proofs.Totals.{total_append}
use Rattle.form.proofs.RecordBytes.{held_kept, kept_small}
use Rattle.store.proofs.Appends.{low_more, Laid, last_store, first_laid, more_laid, part_waits}
use Rattle.stream.specs.RoundTrip.{commands_of, commands_in, mark_after}
use Rattle.stream.specs.Written.{continues, continuation, written_record, written_run}
use Rattle.stream.specs.Writing.{set_code, character_block_command}
use Rattle.stream.specs.Reading.{Ended}
use Rattle.std.specs.Prelude.{None}
use Rattle.stream.proofs.Writes.{continued}
use Rattle.stream.proofs.Words.{reads, target, all_done, on_code, on_character_lem, on_end}

-- ── a character's words: its code, a first block, perhaps a continuation
words : (a b c rest : List ℕ) → (a ++ (b ++ c)) ++ rest ≡ a ++ (b ++ (c ++ rest))
words a b c rest = append_assoc a (b ++ c) rest ∙ ap (λ (l : List ℕ). a ++ l) (append_assoc b c rest)

module _ (n c : ℕ) (g h d : List ℕ) (low : n ≤ 32767) (code : c ≤ 255) (ok : is_kept (held_under (orientation g) h d) ≡ true) (st : Store) (w : Laid n (key_of n (c + 1)) g st)
    (room : mark_record + total st.recs + character_record + length d ≤ st.size) (pre rest : List ℕ) (m k : ℕ) where
  held_first : is_kept_first h (orientation g) ≡ true
  held_first = (held_kept (orientation g) h d ok).0

  block_length : (a : List ℕ) → length (h ++ a) ≡ 16 + length a
  block_length a = length-append h a ∙ ap (λ (x : ℕ). x + length a) (is_kept_length h (orientation g) held_first)

  under_kept : (a : List ℕ) → held_of h a ≡ Unfinished → is_kept (held_under (orientation g) h a) ≡ true
  unfolding held_under
  under_kept a e = rw (held_first, e)

  -- what is left to read when it was read
  abbrev Onward : Type 0
  Onward =
      (p : List ℕ)
      × (reads pre (written_record (character n c h d) ++ rest) (target n m) (all_done k (encode st)) ≡ reads p rest (target n c) (all_done (k + commands_of (character n c h d)) (encode (last_store n c h d st.recs st))))
      × Laid n (key_of n (c + 1) + 1) g (last_store n c h d st.recs st)

  in_one : length d ≤ 32751 → Onward
  unfolding written_record commands_of continuation
  in_one l =
      let z = first_laid n c g h low code st w d ok room (omega arith) in
      let t : take 32751 d ≡ d = take_all 32751 d l in
      let r : drop 32751 d ≡ [] = drop_of_length-le d l in
      let q : k + 1 + 1 ≡ k + 2 = omega arith in (
        (pre ++ set_code c) ++ character_block_command (h ++ d),
        rw (le-leb (length d) 32751 l, t, r, ← q) (ap (λ (l : List ℕ). reads pre l (target n m) (all_done k (encode st))) (words (set_code c) (character_block_command (h ++ d)) [] rest)
            ∙ on_code pre (character_block_command (h ++ d) ++ rest) n m k (encode st) c code
            ∙ on_character_lem (pre ++ set_code c) rest n c (k + 1) (encode st) (h ++ d) (last_store n c h d st.recs st) (omega (arith, block_length d)) z.0),
        z.1,
      )

  in_two : 32751 < length d → Onward
  unfolding written_record commands_of
  in_two l =
      let a = take 32751 d in
      let b = drop 32751 d in
      let e : a ++ b ≡ d = take-append-drop 32751 d in
      let small : length d ≤ 32768 = kept_small (class h) (width h) (height h) d (rw (← (held_kept (orientation g) h d ok).1) ok) in
      let la : length a ≡ 32751 = length-take-le 32751 d (omega arith) in
      let lb : length b ≡ length d - 32751 = length-drop 32751 d in
      let whole : is_kept (held_under (orientation g) h (a ++ b)) ≡ true = rw e ok in
      let waits : held_of h a ≡ Unfinished = part_waits h a b (rw (← (held_kept (orientation g) h (a ++ b) whole).1) whole) (omega arith) in
      let part : is_kept (held_under (orientation g) h a) ≡ true = under_kept a waits in
      let z = first_laid n c g h low code st w a part (omega arith) (omega arith) in
      let y = more_laid n c g h low code st w a b z.1 (ap is_unfinished waits) whole (rw e room) (omega arith) in
      let q : k + 1 + 1 + 1 ≡ k + 3 = omega arith in
      let s1 = last_store n c h a st.recs st in
      let s2 = last_store n c h (a ++ b) st.recs st in
      let x : reads pre ((set_code c ++ (character_block_command (h ++ a) ++ character_block_command (character_format ∷ continues ∷ b))) ++ rest) (target n m) (all_done k (encode st)) ≡ reads (((pre ++ set_code c) ++ character_block_command (h ++ a)) ++ character_block_command (character_format ∷ continues ∷ b)) rest (target n c) (all_done (k + 1 + 1 + 1) (encode s2)) =
      ap (λ (l : List ℕ). reads pre l (target n m) (all_done k (encode st))) (words (set_code c) (character_block_command (h ++ a)) (character_block_command (character_format ∷ continues ∷ b)) rest)
      ∙ on_code pre (character_block_command (h ++ a) ++ (character_block_command (character_format ∷ continues ∷ b) ++ rest)) n m k (encode st) c code
      ∙ on_character_lem (pre ++ set_code c) (character_block_command (character_format ∷ continues ∷ b) ++ rest) n c (k + 1) (encode st) (h ++ a) s1 (omega (arith, block_length a)) z.0
      ∙ on_character_lem ((pre ++ set_code c) ++ character_block_command (h ++ a)) rest n c (k + 1 + 1) (encode s1) (character_format ∷ continues ∷ b) s2 (omega arith) y.0 in (
        ((pre ++ set_code c) ++ character_block_command (h ++ a)) ++ character_block_command (character_format ∷ continues ∷ b),
        rw (lt-leb (length d) 32751 l, continued b (omega arith), ← q) (subst (λ (f : List ℕ). reads pre ((set_code c ++ (character_block_command (h ++ a) ++ character_block_command (character_format ∷ continues ∷ b))) ++ rest) (target n m) (all_done k (encode st)) ≡ reads (((pre ++ set_code c) ++ character_block_command (h ++ a)) ++ character_block_command (character_format ∷ continues ∷ b)) rest (target n c) (all_done (k + 1 + 1 + 1) (encode (last_store n c h f st.recs st)))) e x),
        subst (λ (f : List ℕ). Laid n (key_of n (c + 1) + 1) g (last_store n c h f st.recs st)) e y.1,
      )

  character_read : Onward
  character_read = go (leb (length d) 32751) refl
    where
      go : (t : Bool) → leb (length d) 32751 ≡ t → Onward
      go true q = in_one (leb-true _ _ q)
      go false q = in_two (leb-false _ _ q)

-- ── the characters of a font, by rising code
-- those behind font n, with header g, with keys from k on
abbrev pub Chars : ℕ → List ℕ → ℕ → List Rec → Type 0
Chars n g k [] = Unit {0}
Chars n g k (font m h ∷ rs) = ⊥
Chars n g k (character m c h d ∷ rs) = (m ≡ n) × (c ≤ 255) × (k ≤ key_of n (c + 1)) × (is_kept (held_under (orientation g) h d) ≡ true) × Chars n g (key_of n (c + 1) + 1) rs

-- what reading ends with, all done
abbrev pub finished : ℕ → Store → Ended
finished k st = record { ending = None; progress = all_done k (encode st) }

-- what reading records into a store leaves: a store where they stand behind the others
abbrev pub filled : List Rec → Store → Store
filled rs st = changed (mark_after st.mark rs) (st.recs ++ rs) st

abbrev pub Fills : ℕ → List Rec → Store → Type 0
Fills n rs st = (pre : List ℕ) (m j : ℕ) → (reads pre (written_run rs) (target n m) (all_done j (encode st)) ≡ finished (j + commands_in rs) (filled rs st)) × Valid (filled rs st)

module _ (n : ℕ) (g : List ℕ) (low : n ≤ 32767) where
  -- a character read, and what follows it
  one_read : (c : ℕ) (h d : List ℕ) (rs : List Rec) (k : ℕ) (st : Store) → Laid n k g st → c ≤ 255 → k ≤ key_of n (c + 1) → is_kept (held_under (orientation g) h d) ≡ true
      → mark_record + total st.recs + total (character n c h d ∷ rs) ≤ st.size
      → ((st' : Store) → Laid n (key_of n (c + 1) + 1) g st' → mark_record + total st'.recs + total rs ≤ st'.size → Fills n rs st')
      → Fills n (character n c h d ∷ rs) st
  unfolding total size_of written_run commands_in mark_after
  one_read c h d rs k st w code least ok room more pre m j =
      let laid : Laid n (key_of n (c + 1)) g st = record { valid = w.valid; there = w.there; low = low_more k (key_of n (c + 1)) st.recs w.low least } in
      let x = character_read n c g h d low code ok st laid (omega arith) pre (written_run rs) m j in
      let t : total (st.recs ++ (character n c h d ∷ [])) ≡ total st.recs + total (character n c h d ∷ []) = total_append st.recs (character n c h d ∷ []) in
      let y = more (last_store n c h d st.recs st) x.2 (omega arith) x.0 c (j + commands_of (character n c h d)) in
      let q : j + commands_of (character n c h d) + commands_in rs ≡ j + (commands_of (character n c h d) + commands_in rs) = omega arith in
      let i = append_snoc st.recs (character n c h d) rs in
      (x.1 ∙ y.0 ∙ rw (i, q), subst (λ (l : List Rec). Valid (changed (mark_after (mark_for n c h d) rs) l st)) i y.1)

  pub run_read : (rs : List Rec) (k : ℕ) → Chars n g k rs → (st : Store) → Laid n k g st → mark_record + total st.recs + total rs ≤ st.size → Fills n rs st
  run_read [] k a st w room = λ pre m j. unfold written_run commands_in mark_after in
      (on_end pre (target n m) (all_done j (encode st)) ∙ rw (append-nil st.recs, add-zero j), subst (λ (l : List Rec). Valid (changed st.mark l st)) (sym (append-nil st.recs)) w.valid)
  run_read (font i h ∷ rs) k a st w room = absurd a
  run_read (character i c h d ∷ rs) k a st w room =
      let is : i ≡ n = a.0 in
      rw is (one_read c h d rs k st w a.1 a.2 a.3 (rw (← is) room) (λ st' w' room'. run_read rs (key_of n (c + 1) + 1) a.4 st' w' room'))
