-- Laws of the command at a place. Assumes nothing.
use Prim.Native.Nat.{ℕ, zero, suc, ◌+◌, ◌*◌, ◌-◌, ◌≤◌, ◌<◌}
use mathlib.Core.Path.{◌≡◌, refl, ◌∙◌}
use mathlib.Core.List.{List, [], ◌∷◌, ◌++◌}
use mathlib.Core.Bool.{Bool, true, false, cond}
use native.Mathlib.Numerals.{add-one}
use native.Mathlib.Nat.{add-zero}
use native.Mathlib.Omega.{arith}
use borrow.Author.Tests.{leb-true, leb-false, eqb-true, eq-eqb, ne_eqb}
use lib.Dec.{leb, eqb}
use lib.ListN.{length, take, drop, drop_of_length-le, get_or-eq_default, length-drop}
use lib.Seq.{drop-cons, drop-append_seam, take_all}
use Rattle.stream.proofs.Tests.{both, either}
use Rattle.stream.specs.Command.{stream_byte, is_digit, leading_digits, spelled, number_of, starts_with, number_command, is_block, block_of, command, moved_by, command_at}
use Rattle.stream.specs.CommandEnds.{CommandEnds}
use Rattle.stream.specs.declared.command.NumberRead.{NumberRead}
use Rattle.stream.specs.declared.command.Command.{Command}
use Rattle.stream.specs.declared.command.Command.TheVariants.{SetFont, SetCode, FontBlock, CharacterBlock, Broken, End}

-- ---- digits
pub digit_within : (b : ℕ) → is_digit b ≡ true → (48 ≤ b) × (b ≤ 57)
digit_within b e =
    let h = both (leb 48 b) (leb b 57) e in
    (leb-true 48 b h.0, leb-true b 57 h.1)

-- the digits from place n on: the byte there, if it is one, and those behind it
digits_turn : (k n : ℕ) (s : List ℕ) → leading_digits (suc k) (drop n s) ≡ cond (is_digit (stream_byte s n)) (stream_byte s n ∷ leading_digits k (drop (n + 1) s)) []
unfolding leading_digits
digits_turn k n s = go (leb (length s) n) refl
  where
    go : (t : Bool) → leb (length s) n ≡ t → leading_digits (suc k) (drop n s) ≡ cond (is_digit (stream_byte s n)) (stream_byte s n ∷ leading_digits k (drop (n + 1) s)) []
    go true e = let h : length s ≤ n = leb-true (length s) n e in rw (drop_of_length-le s, get_or-eq_default s 0)
    go false e = let h : n < length s = leb-false (length s) n e in rw (drop-cons s n 0, add-one n)

digits_none : (k n : ℕ) (s : List ℕ) → is_digit (stream_byte s n) ≡ false → leading_digits k (drop n s) ≡ []
unfolding leading_digits
digits_none zero n s e = refl
digits_none (suc k) n s e = digits_turn k n s ∙ rw e

spelled_grows : (ds : List ℕ) (n : ℕ) → n ≤ spelled n ds
unfolding spelled
spelled_grows [] n = omega arith
spelled_grows (d ∷ ds) n = omega (arith, spelled_grows ds (n * 10 + (d - 48)))

-- the greatest number that k digits spell behind those that spell n
abbrev most : ℕ → ℕ → ℕ
most zero n = n
most (suc k) n = most k (n * 10 + 9)

most_grows : (k n : ℕ) → n ≤ most k n
most_grows zero n = omega arith
most_grows (suc k) n = omega (arith, most_grows k (n * 10 + 9))

digits_most : (k n m : ℕ) (b : List ℕ) → n ≤ m → spelled n (leading_digits k b) ≤ most k m
unfolding leading_digits spelled
digits_most zero n m b h = h
digits_most (suc k) n m [] h = omega (arith, most_grows k (m * 10 + 9))
digits_most (suc k) n m (d ∷ b) h = go (is_digit d) refl (digits_most k (n * 10 + (d - 48)) (m * 10 + 9) b)
  where
    go : (t : Bool) → is_digit d ≡ t → (n * 10 + (d - 48) ≤ m * 10 + 9 → spelled (n * 10 + (d - 48)) (leading_digits k b) ≤ most k (m * 10 + 9))
        → spelled n (cond t (d ∷ leading_digits k b) []) ≤ most k (m * 10 + 9)
    go true e f = f (omega (arith, digit_within d e))
    go false e f = omega (arith, most_grows k (m * 10 + 9))

digits_few : (k : ℕ) (b : List ℕ) → length (leading_digits k b) ≤ k
unfolding leading_digits
digits_few zero b = omega arith
digits_few (suc k) [] = omega arith
digits_few (suc k) (d ∷ b) = go (is_digit d) (digits_few k b)
  where
    go : (t : Bool) → length (leading_digits k b) ≤ k → length (cond t (d ∷ leading_digits k b) []) ≤ suc k
    go true h = omega arith
    go false h = omega arith

-- ---- the number of a command
pub number_small : (b : List ℕ) → ((number_of b).value < 100000) × ((number_of b).next ≤ 8)
unfolding number_of
number_small b = (omega (arith, digits_most 5 0 0 (drop 3 b) (omega arith)), omega (arith, digits_few 5 (drop 3 b)))

-- the number whose digits are read up to place at and spell n
unfoldable pub number_from : List ℕ → ℕ → ℕ → NumberRead
number_from s n at = record { value = spelled n (leading_digits (8 - at) (drop at s)); next = at + length (leading_digits (8 - at) (drop at s)) }

pub number_start : (s : List ℕ) → number_from s 0 3 ≡ number_of s
unfolding number_from number_of
number_start s = refl

pub number_bound : (s : List ℕ) (n at : ℕ) → number_from s n at ≡ number_of s → n < 100000
unfolding number_from
number_bound s n at e =
    let q : n ≤ (number_of s).value = rw (← e) (spelled_grows (leading_digits (8 - at) (drop at s)) n) in
    omega (arith, number_small s)

pub number_next : (s : List ℕ) (n at b d : ℕ) → at < 8 → d ≡ b - 48 → b ≡ stream_byte s at → is_digit b ≡ true → number_from s n at ≡ number_from s (n * 10 + d) (at + 1)
unfolding number_from spelled
number_next s n at b d h z q e =
    let ds = leading_digits (8 - (at + 1)) (drop (at + 1) s) in
    let k : 8 - at ≡ suc (8 - (at + 1)) = omega arith in
    let l : at + suc (length ds) ≡ at + 1 + length ds = omega arith in
    rw (k, digits_turn (8 - (at + 1)) at s, ← q, e, l, z)

-- the digits end at a byte that is none, or with the fifth
pub number_stop : (s : List ℕ) (n at b : ℕ) → b ≡ stream_byte s at → is_digit b ≡ false → number_from s n at ≡ record { value = n; next = at }
unfolding number_from spelled
number_stop s n at b q e = rw (digits_none (8 - at) at s (rw (← q) e), add-zero at)

pub number_full : (s : List ℕ) (n at : ℕ) → at ≡ 8 → number_from s n at ≡ record { value = n; next = 8 }
unfolding number_from spelled leading_digits
number_full s n at e = rw e

-- ---- where a command ends
pub ends_fits : (at m n : ℕ) (c : Command) → m ≤ n → CommandEnds at m c → CommandEnds at n c
unfolding CommandEnds
ends_fits at m n (SetFont v e) h (p, q) = (p, omega arith)
ends_fits at m n (SetCode v e) h (p, q) = (p, omega arith)
ends_fits at m n (FontBlock f e) h (p, q, r) = (p, q, omega arith)
ends_fits at m n (CharacterBlock f e) h (p, q, r) = (p, q, omega arith)
ends_fits at m n Broken h p = tt
ends_fits at m n End h p = tt

ends_moved : (at n : ℕ) (c : Command) → CommandEnds 0 (n - at) c → CommandEnds at n (moved_by at c)
unfolding CommandEnds moved_by
ends_moved at n (SetFont v e) (p, q) = (omega arith, omega arith)
ends_moved at n (SetCode v e) (p, q) = (omega arith, omega arith)
ends_moved at n (FontBlock f e) (p, q, r) = (omega arith, omega arith, omega arith)
ends_moved at n (CharacterBlock f e) (p, q, r) = (omega arith, omega arith, omega arith)
ends_moved at n Broken p = tt
ends_moved at n End p = tt

-- a place where a byte other than 0 stands is in the list
byte_there : (b : List ℕ) (n x : ℕ) → 0 < x → eqb (stream_byte b n) x ≡ true → n < length b
byte_there b n x h e = go (leb (length b) n) refl
  where
    go : (t : Bool) → leb (length b) n ≡ t → n < length b
    go true q = absurd (omega (arith, get_or-eq_default b 0 (leb-true (length b) n q), eqb-true (stream_byte b n) x e))
    go false q = leb-false (length b) n q

numbered_ends : (b : List ℕ) (d : NumberRead) → CommandEnds 0 (length b) (number_command b d)
unfolding number_command CommandEnds
numbered_ends b d =
    either (CommandEnds 0 (length b)) (leb 4 d.next) _ Broken
    (λ _. either (CommandEnds 0 (length b)) (eqb (stream_byte b d.next) 68) (SetFont d.value (d.next + 1)) _
    (λ e. (omega arith, omega (arith, byte_there b d.next 68 (omega arith) e)))
    (either (CommandEnds 0 (length b)) (eqb (stream_byte b d.next) 69) (SetCode d.value (d.next + 1)) Broken
    (λ e. (omega arith, omega (arith, byte_there b d.next 69 (omega arith) e)))
    tt))
    tt

-- the bytes of a block are there
block_whole : (b : List ℕ) (d : NumberRead) → is_block b d ≡ true → d.next + 1 + d.value ≤ length b
unfolding is_block
block_whole b d e =
    let p = (both (leb 4 d.next) _ e).1 in
    let q = (both (eqb (stream_byte b d.next) 87) _ p).1 in
    leb-true (d.next + 1 + d.value) (length b) (both (leb d.value 32767) _ q).1

blocks_end : (block : ℕ → ℕ → Command) (b : List ℕ) (d : NumberRead) → ((f e : ℕ) → 0 < f → f ≤ e → e ≤ length b → CommandEnds 0 (length b) (block f e))
    → CommandEnds 0 (length b) (block_of block b d)
unfolding block_of CommandEnds
blocks_end block b d f =
    either (CommandEnds 0 (length b)) (is_block b d) _ Broken
    (λ e. f (d.next + 1) (d.next + 1 + d.value) (omega arith) (omega arith) (block_whole b d e))
    tt

command_ends : (b : List ℕ) → CommandEnds 0 (length b) (command b)
unfolding command CommandEnds
command_ends b =
    either (CommandEnds 0 (length b)) (eqb (length b) 0) End _ (λ _. tt)
    (either (CommandEnds 0 (length b)) (starts_with b 42 99) (number_command b (number_of b)) _ (λ _. numbered_ends b (number_of b))
    (either (CommandEnds 0 (length b)) (starts_with b 41 115) (block_of FontBlock b (number_of b)) _
    (λ _. blocks_end FontBlock b (number_of b) (λ f e p q r. (p, q, r)))
    (either (CommandEnds 0 (length b)) (starts_with b 40 115) (block_of CharacterBlock b (number_of b)) Broken
    (λ _. blocks_end CharacterBlock b (number_of b) (λ f e p q r. (p, q, r)))
    tt)))

-- a command ends behind its place and within the stream
pub command_at_ends : (s : List ℕ) (at : ℕ) → CommandEnds at (length s) (command_at s at)
unfolding command_at
command_at_ends s at = ends_moved at (length s) (command (drop at s)) (rw (← (length-drop at s)) (command_ends (drop at s)))

-- ---- a command depends only on what stands from its place on
pub command_seam : (a b : List ℕ) → command_at (a ++ b) (length a) ≡ moved_by (length a) (command b)
unfolding command_at
command_seam a b = rw (drop-append_seam a b)

pub command_past : (s : List ℕ) (at : ℕ) → length s ≤ at → command_at s at ≡ End
unfolding command_at command moved_by
command_past s at h = rw (drop_of_length-le s)

-- the command that the rest of a stream begins with, its places counted from the stream's start
pub command_rest : (s : List ℕ) (at : ℕ) (c : Command) → c ≡ command (take (length s - at) (drop at s)) → moved_by at c ≡ command_at s at
unfolding command_at
command_rest s at c e =
    let q : take (length s - at) (drop at s) ≡ drop at s = take_all (length s - at) (drop at s) (simp length-drop (omega arith)) in
    rw (e, q)

-- ---- the command that a list begins with, by its length and its first three bytes
pub front_end : (b : List ℕ) → length b < 1 → End ≡ command b
unfolding command
front_end b h = let e : length b ≡ 0 = omega arith in rw (eq-eqb (length b) 0 e)

begins_not : (b : List ℕ) (x y : ℕ) → (stream_byte b 0 ≡ 27 → stream_byte b 1 ≡ x → stream_byte b 2 ≡ y → ⊥) → starts_with b x y ≡ false
unfolding starts_with
begins_not b x y n = go (starts_with b x y) refl
  where
    go : (t : Bool) → starts_with b x y ≡ t → starts_with b x y ≡ false
    go true e =
        let h = both (eqb (stream_byte b 0) 27) _ e in
        let k = both (eqb (stream_byte b 1) x) _ h.1 in
        absurd (n (eqb-true _ _ h.0) (eqb-true _ _ k.0) (eqb-true _ _ k.1))
    go false e = e

pub front_none : (b : List ℕ) → 0 < length b → (stream_byte b 0 ≡ 27 → stream_byte b 1 ≡ 42 → stream_byte b 2 ≡ 99 → ⊥)
    → (stream_byte b 0 ≡ 27 → stream_byte b 1 ≡ 41 → stream_byte b 2 ≡ 115 → ⊥) → (stream_byte b 0 ≡ 27 → stream_byte b 1 ≡ 40 → stream_byte b 2 ≡ 115 → ⊥)
    → Broken ≡ command b
unfolding command
front_none b l p q r = rw (ne_eqb (length b) 0 (λ e. omega arith), begins_not b 42 99 p, begins_not b 41 115 q, begins_not b 40 115 r)

pub front_short : (b : List ℕ) → 0 < length b → length b < 3 → Broken ≡ command b
front_short b l h =
    let z : stream_byte b 2 ≡ 0 = get_or-eq_default b 0 (omega arith) in
    front_none b l (λ p q r. omega arith) (λ p q r. omega arith) (λ p q r. omega arith)

module _ (b : List ℕ) (l : 0 < length b) (e : stream_byte b 0 ≡ 27) where
  pub front_number : stream_byte b 1 ≡ 42 → stream_byte b 2 ≡ 99 → number_command b (number_of b) ≡ command b
  unfolding command starts_with
  front_number p q = rw (ne_eqb (length b) 0 (λ e. omega arith), e, p, q)

  pub front_font : stream_byte b 1 ≡ 41 → stream_byte b 2 ≡ 115 → block_of FontBlock b (number_of b) ≡ command b
  unfolding command starts_with
  front_font p q = rw (ne_eqb (length b) 0 (λ e. omega arith), e, p, q)

  pub front_character : stream_byte b 1 ≡ 40 → stream_byte b 2 ≡ 115 → block_of CharacterBlock b (number_of b) ≡ command b
  unfolding command starts_with
  front_character p q = rw (ne_eqb (length b) 0 (λ e. omega arith), e, p, q)
