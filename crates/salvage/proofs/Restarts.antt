-- Laws of the search for a restart. Assumes nothing.
use Prim.Native.Nat.{ℕ, zero, suc, ◌+◌, ◌-◌, ◌≤◌, ◌<◌}
use mathlib.Core.Path.{◌≡◌, refl, sym, ap, ◌∙◌}
use mathlib.Core.List.{List, [], ◌∷◌}
use mathlib.Core.Bool.{Bool, true, false, cond, not, ◌&&◌, false≢true}
use native.Mathlib.Omega.{arith}
use native.Mathlib.Nat.{add-zero, add_assoc}
use borrow.Author.Tests.{leb-true, leb-false}
use lib.Dec.{leb, eqb}
use lib.ListN.{length, get_or, take, drop, length-take, length-drop}
use lib.Seq.{get_or-take, get_or-drop}
use Rattle.stream.specs.Command.{is_digit, leading_digits, number_of, starts_with, number_command, is_block, block_of, command, moved_by, command_at}
use Rattle.stream.specs.declared.command.Command.{Command}
use Rattle.stream.specs.declared.command.Command.TheVariants.{SetFont, SetCode, FontBlock, CharacterBlock, Broken, End}
use Rattle.stream.specs.declared.command.NumberRead.{NumberRead}
use Rattle.salvage.specs.Salvage.{restarts, restart_in, restart_from}
use Rattle.salvage.specs.Places.{may_start, may_start_at, none_start}

restart_turn : (b : List ℕ) (i : ℕ) → i < length b → restart_from b i ≡ cond (restarts (command_at b i)) i (restart_from b (i + 1))
unfolding restart_from restart_in
restart_turn b i l = let e : length b - i ≡ suc (length b - (i + 1)) = omega arith in rw e

-- the search stops at a restart, and goes on at any other place
pub restart_here : (b : List ℕ) (i : ℕ) → i < length b → restarts (command_at b i) ≡ true → restart_from b i ≡ i
restart_here b i l e = restart_turn b i l ∙ rw e

pub restart_later : (b : List ℕ) (i : ℕ) → i < length b → restarts (command_at b i) ≡ false → restart_from b i ≡ restart_from b (i + 1)
restart_later b i l e = restart_turn b i l ∙ rw e

pub restart_end : (b : List ℕ) (i : ℕ) → length b ≤ i → restart_from b i ≡ length b
unfolding restart_from restart_in
restart_end b i l = let e : length b - i ≡ 0 = omega arith in rw e

within : (k : ℕ) (b : List ℕ) (at : ℕ) → at + k ≡ length b → (at ≤ restart_in k b at) × (restart_in k b at ≤ length b)
unfolding restart_in
within zero b at e = (omega arith, omega arith)
within (suc k) b at e = go (restarts (command_at b at)) (within k b (at + 1) (omega arith))
  where
    go : (t : Bool) → (at + 1 ≤ restart_in k b (at + 1)) × (restart_in k b (at + 1) ≤ length b)
        → (at ≤ cond t at (restart_in k b (at + 1))) × (cond t at (restart_in k b (at + 1)) ≤ length b)
    go true h = (omega arith, omega arith)
    go false h = (omega (arith, h.0), h.1)

-- what is found lies at the place of the search or behind it, and within the stream
pub restart_within : (b : List ℕ) (at : ℕ) → at ≤ length b → (at ≤ restart_from b at) × (restart_from b at ≤ length b)
unfolding restart_from
restart_within b at l = within (length b - at) b at (omega arith)

-- the first of the places up to the end is what the search finds
pub restart_found : (b : List ℕ) (r : ℕ) → r ≤ length b → (r < length b → restarts (command_at b r) ≡ true) → r ≡ restart_from b r
restart_found b r l f = go (leb (length b) r) refl
  where
    go : (t : Bool) → leb (length b) r ≡ t → r ≡ restart_from b r
    go true q = let e : r ≡ length b = omega (arith, leb-true (length b) r q) in e ∙ sym (restart_end b r (leb-true (length b) r q))
    go false q = sym (restart_here b r (leb-false (length b) r q) (f (leb-false (length b) r q)))

-- ── without ESC, *, c and a digit no reading starts
-- a test of commands, none of which is a font number
never : (t : Bool) (x y : Command) → (t ≡ true → restarts x ≡ false) → restarts y ≡ false → restarts (cond t x y) ≡ false
never true x y p q = p refl
never false x y p q = q

last_fails : (a b c d : Bool) → (a && (b && c)) ≡ true → ((a && b) && (c && d)) ≡ false → d ≡ false
last_fails true true true d p q = q
last_fails true true false d p q = absurd (false≢true p)
last_fails true false c d p q = absurd (false≢true p)
last_fails false b c d p q = absurd (false≢true p)

no_digits : (k : ℕ) (l : List ℕ) → is_digit (get_or l 0 0) ≡ false → leading_digits (suc k) l ≡ []
unfolding leading_digits
no_digits k [] e = refl
no_digits k (d ∷ l) e = rw e

block_never : (block : ℕ → ℕ → Command) (b : List ℕ) (d : NumberRead) → ((f e : ℕ) → restarts (block f e) ≡ false) → restarts (block_of block b d) ≡ false
unfolding block_of
block_never block b d f = never (is_block b d) (block (d.next + 1) (d.next + 1 + d.value)) Broken (λ _. f (d.next + 1) (d.next + 1 + d.value)) refl

no_number : (b : List ℕ) → may_start_at b 0 ≡ false → restarts (command b) ≡ false
unfolding command starts_with number_command number_of
no_number b e =
    let d = number_of b in
    let characters : Command = cond (starts_with b 40 115) (block_of CharacterBlock b d) Broken in
    let fonts : Command = cond (starts_with b 41 115) (block_of FontBlock b d) characters in
    never (eqb (length b) 0) End (cond (starts_with b 42 99) (number_command b d) fonts) (λ _. refl)
    (never (starts_with b 42 99) (number_command b d) fonts
    (λ q. rw (no_digits 4 (drop 3 b) (ap is_digit (get_or-drop 3 b 0 0) ∙ last_fails (eqb (get_or b 0 0) 27) (eqb (get_or b 1 0) 42) (eqb (get_or b 2 0) 99) (is_digit (get_or b 3 0)) q e)))
    (never (starts_with b 41 115) (block_of FontBlock b d) characters (λ _. block_never FontBlock b d (λ f g. refl))
    (never (starts_with b 40 115) (block_of CharacterBlock b d) Broken (λ _. block_never CharacterBlock b d (λ f g. refl)) refl)))

moved_restarts : (at : ℕ) (c : Command) → restarts (moved_by at c) ≡ restarts c
unfolding moved_by
moved_restarts at (SetFont n e) = refl
moved_restarts at (SetCode n e) = refl
moved_restarts at (FontBlock f e) = refl
moved_restarts at (CharacterBlock f e) = refl
moved_restarts at Broken = refl
moved_restarts at End = refl

pub not_here : (b : List ℕ) (i : ℕ) → may_start_at b i ≡ false → restarts (command_at b i) ≡ false
unfolding command_at
not_here b i e =
    moved_restarts i (command (drop i b))
    ∙ no_number (drop i b) (rw (get_or-drop i b 0 0, get_or-drop i b 1 0, get_or-drop i b 2 0, get_or-drop i b 3 0, add-zero i) e)

both_hold : (a b : Bool) → (a && b) ≡ true → (a ≡ true) × (b ≡ true)
both_hold true b e = (refl, e)
both_hold false b e = absurd (false≢true e)

not_true : (a : Bool) → not a ≡ true → a ≡ false
not_true true e = absurd (false≢true e)
not_true false e = refl

-- places that are passed over, by a part s of the stream from the place i on
pub passed_over : (k : ℕ) (b s : List ℕ) (i : ℕ) → ((j : ℕ) → j < k → may_start_at s j ≡ may_start_at b (i + j)) → none_start k s ≡ true → i + k ≤ length b → restart_from b i ≡ restart_from b (i + k)
unfolding none_start
passed_over zero b s i f e l = ap (restart_from b) (sym (add-zero i))
passed_over (suc k) b s i f e l =
    let h = both_hold (none_start k s) (not (may_start_at s k)) e in
    let n : i + k + 1 ≡ i + suc k = omega arith in
    passed_over k b s i (λ j m. f j (omega arith)) h.0 (omega arith)
    ∙ restart_later b (i + k) (omega arith) (not_here b (i + k) (sym (f k (omega arith)) ∙ not_true (may_start_at s k) h.1))
    ∙ ap (restart_from b) n

part_starts : (b : List ℕ) (n i j : ℕ) → j + 3 < n → may_start_at (take n (drop i b)) j ≡ may_start_at b (i + j)
part_starts b n i j l =
    let at : (k : ℕ) → k < n → get_or (take n (drop i b)) k 0 ≡ get_or b (i + k) 0 = λ k h. get_or-take n (drop i b) k 0 h ∙ get_or-drop i b k 0 in
    rw (at j (omega arith), at (j + 1) (omega arith), at (j + 2) (omega arith), at (j + 3) (omega arith), sym (add_assoc i j 1), sym (add_assoc i j 2), sym (add_assoc i j 3))

-- the same by what is answered of a part of k places and three bytes
pub part_passed : (k : ℕ) (b : List ℕ) (i m : ℕ) (r : Bool) → i + k + 3 ≤ length b → m ≡ k + 3 → r ≡ none_start (length (take m (drop i b)) - 3) (take m (drop i b)) → r ≡ true
    → restart_from b (i + k) ≡ restart_from b i
part_passed k b i m r l z e q =
    let n : length (take m (drop i b)) - 3 ≡ k = omega (arith, length-take m (drop i b), length-drop i b) in
    sym (passed_over k b (take m (drop i b)) i (λ j h. part_starts b m i j (omega arith)) (ap (λ (a : ℕ). none_start a (take m (drop i b))) (sym n) ∙ sym e ∙ q) (omega arith))

pub none_turn : (s : List ℕ) (i : ℕ) → 3 ≤ i → none_start (i + 1 - 3) s ≡ none_start (i - 3) s && not (may_start (get_or s (i - 3) 0) (get_or s (i - 2) 0) (get_or s (i - 1) 0) (get_or s i 0))
unfolding none_start
none_turn s i l =
    let a : i + 1 - 3 ≡ suc (i - 3) = omega arith in
    let b : i - 3 + 1 ≡ i - 2 = omega arith in
    let c : i - 3 + 2 ≡ i - 1 = omega arith in
    let d : i - 3 + 3 ≡ i = omega arith in
    rw (a, ← b, ← c) (ap (λ (k : ℕ). none_start (i - 3) s && not (may_start (get_or s (i - 3) 0) (get_or s (i - 3 + 1) 0) (get_or s (i - 3 + 2) 0) (get_or s k 0))) d)
