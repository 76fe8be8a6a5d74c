-- A whole stream is read before any bytes as it is alone. Assumes nothing.
use Prim.Native.Nat.{ℕ, zero, suc, ◌+◌, ◌-◌, ◌≤◌, ◌<◌}
use mathlib.Core.Path.{◌≡◌, refl, sym, ap, ap₂, ◌∙◌, subst}
use mathlib.Core.List.{List, [], ◌∷◌, ◌++◌}
use mathlib.Core.Bool.{Bool, true, false, cond, ◌&&◌}
use mathlib.Core.Logic.{◌⊎◌, inl, inr}
use native.Mathlib.Omega.{arith}
use borrow.Author.Tests.{leb-true, leb-false, eqb-true, le-leb, ne_eqb}
use lib.Dec.{leb, eqb}
use lib.ListN.{length, take, drop, length-append, length-drop, get_or-append, get_or-eq_default}
use lib.Seq.{drop-append-le, take-append-le}
use Rattle.form.proofs.Numbers.{less_or}
use Rattle.stream.specs.Command.{stream_byte, is_digit, leading_digits, number_of, starts_with, number_command, is_block, block_of, command, moved_by, command_at}
use Rattle.stream.specs.CommandEnds.{CommandEnds}
use Rattle.stream.specs.Reading.{font_block, character_block, number_set, download, Spelled, spell, part, onward, spelled_in, spelled_from, with_number, with_code, range_answer}
use Rattle.stream.specs.declared.command.Command.{Command}
use Rattle.stream.specs.declared.command.Command.TheVariants.{SetFont, SetCode, FontBlock, CharacterBlock, Broken, End}
use Rattle.stream.specs.declared.command.NumberRead.{NumberRead}
use Rattle.stream.specs.Reading.{Ending}
use Rattle.std.specs.Prelude.{None, Some}
use Rattle.stream.specs.declared.reading.Target.{Target}
use Rattle.stream.proofs.Commands.{command_at_ends, command_past}

-- a whole command; any but the end
abbrev Whole : Command → Type 0
Whole (SetFont n e) = Unit {0}
Whole (SetCode n e) = Unit {0}
Whole (FontBlock f e) = Unit {0}
Whole (CharacterBlock f e) = Unit {0}
Whole Broken = ⊥
Whole End = ⊥

abbrev NotEnd : Command → Type 0
NotEnd (SetFont n e) = Unit {0}
NotEnd (SetCode n e) = Unit {0}
NotEnd (FontBlock f e) = Unit {0}
NotEnd (CharacterBlock f e) = Unit {0}
NotEnd Broken = Unit {0}
NotEnd End = ⊥

two : (s t : Bool) → (s && t) ≡ true → (s ≡ true) × (t ≡ true)
two true t e = (refl, e)
two false t e = let z : true ≡ false = sym e in (sym z, cc)

byte_there : (b : List ℕ) (n x : ℕ) → 0 < x → eqb (stream_byte b n) x ≡ true → n < length b
byte_there b n x h e = go (leb (length b) n) refl
  where
    go : (t : Bool) → leb (length b) n ≡ t → n < length b
    go true q = absurd (omega (arith, get_or-eq_default b 0 (leb-true (length b) n q), eqb-true (stream_byte b n) x e))
    go false q = leb-false (length b) n q

front_byte : (b r : List ℕ) (n : ℕ) → n < length b → stream_byte (b ++ r) n ≡ stream_byte b n
front_byte b r n h = get_or-append b r 0 n h

-- ── the number
digits_front : (k : ℕ) (a r : List ℕ) → length (leading_digits k a) < length a → leading_digits k (a ++ r) ≡ leading_digits k a
unfolding leading_digits
digits_front zero a r h = refl
digits_front (suc k) [] r h = absurd (omega arith)
digits_front (suc k) (d ∷ a) r h = go (is_digit d) h (digits_front k a r)
  where
    go : (t : Bool) → length (cond t (d ∷ leading_digits k a) []) < length (d ∷ a) → (length (leading_digits k a) < length a → leading_digits k (a ++ r) ≡ leading_digits k a)
        → cond t (d ∷ leading_digits k (a ++ r)) [] ≡ cond t (d ∷ leading_digits k a) []
    go true h f = let l : length (leading_digits k a) < length a = omega (arith, h) in ap (λ (m : List ℕ). d ∷ m) (f l)
    go false h f = refl

number_front : (b r : List ℕ) → (number_of b).next < length b → number_of (b ++ r) ≡ number_of b
unfolding number_of
number_front b r h =
    let l : length (leading_digits 5 (drop 3 b)) < length (drop 3 b) = omega (arith, length-drop 3 b, h) in
    let e : leading_digits 5 (drop 3 (b ++ r)) ≡ leading_digits 5 (drop 3 b) = ap (leading_digits 5) (drop-append-le 3 b r (omega (arith, h))) ∙ digits_front 5 (drop 3 b) r l in
    rw e

-- ── a number command
numbered_there : (b : List ℕ) (d : NumberRead) → Whole (number_command b d) → d.next < length b
unfolding number_command
numbered_there b d w = go (leb 4 d.next) (eqb (stream_byte b d.next) 68) (eqb (stream_byte b d.next) 69) refl refl w
  where
    go : (t u v : Bool) → eqb (stream_byte b d.next) 68 ≡ u → eqb (stream_byte b d.next) 69 ≡ v
        → Whole (cond t (cond u (SetFont d.value (d.next + 1)) (cond v (SetCode d.value (d.next + 1)) Broken)) Broken) → d.next < length b
    go true true v p q w = byte_there b d.next 68 (omega arith) p
    go true false true p q w = byte_there b d.next 69 (omega arith) q
    go true false false p q w = absurd w
    go false u v p q w = absurd w

numbered_same : (b r : List ℕ) (d : NumberRead) → d.next < length b → number_command (b ++ r) d ≡ number_command b d
unfolding number_command
numbered_same b r d h = rw (front_byte b r d.next h)

numbered_front : (b r : List ℕ) → Whole (number_command b (number_of b)) → number_command (b ++ r) (number_of (b ++ r)) ≡ number_command b (number_of b)
numbered_front b r w = let h = numbered_there b (number_of b) w in ap (number_command (b ++ r)) (number_front b r h) ∙ numbered_same b r (number_of b) h

-- ── a block
block_is : (b : List ℕ) (d : NumberRead) → is_block b d ≡ true → (leb 4 d.next ≡ true) × (eqb (stream_byte b d.next) 87 ≡ true) × (leb d.value 32767 ≡ true) × (d.next + 1 + d.value ≤ length b)
unfolding is_block
block_is b d e =
    let p = two (leb 4 d.next) _ e in
    let q = two (eqb (stream_byte b d.next) 87) _ p.1 in
    let r = two (leb d.value 32767) (leb (d.next + 1 + d.value) (length b)) q.1 in
    (p.0, q.0, r.0, leb-true (d.next + 1 + d.value) (length b) r.1)

block_same : (b r : List ℕ) (d : NumberRead) → is_block b d ≡ true → is_block (b ++ r) d ≡ true
unfolding is_block
block_same b r d e =
    let w = block_is b d e in
    let n : d.next < length b = omega (arith, w.3) in
    let l : d.next + 1 + d.value ≤ length (b ++ r) = omega (arith, w.3, length-append b r) in
    rw (front_byte b r d.next n, w.0, w.1, w.2, le-leb (d.next + 1 + d.value) (length (b ++ r)) l)

block_front : (block : ℕ → ℕ → Command) (b r : List ℕ) → Whole (block_of block b (number_of b)) → block_of block (b ++ r) (number_of (b ++ r)) ≡ block_of block b (number_of b)
unfolding block_of
block_front block b r w = go (is_block b (number_of b)) refl w
  where
    go : (t : Bool) → is_block b (number_of b) ≡ t → Whole (cond t (block ((number_of b).next + 1) ((number_of b).next + 1 + (number_of b).value)) Broken)
        → cond (is_block (b ++ r) (number_of (b ++ r))) (block ((number_of (b ++ r)).next + 1) ((number_of (b ++ r)).next + 1 + (number_of (b ++ r)).value)) Broken
        ≡ cond (is_block b (number_of b)) (block ((number_of b).next + 1) ((number_of b).next + 1 + (number_of b).value)) Broken
    go false q w = absurd w
    go true q w =
        let n : (number_of b).next < length b = omega (arith, (block_is b (number_of b) q).3) in
        rw (number_front b r n, block_same b r (number_of b) q, q)

-- ── the command
starts_front : (b r : List ℕ) (x y : ℕ) → 3 ≤ length b → starts_with (b ++ r) x y ≡ starts_with b x y
unfolding starts_with
starts_front b r x y h = rw (front_byte b r 0 (omega arith), front_byte b r 1 (omega arith), front_byte b r 2 (omega arith))

starts_long : (b : List ℕ) (x y : ℕ) → 0 < y → starts_with b x y ≡ true → 3 ≤ length b
unfolding starts_with
starts_long b x y h e =
    let p = two (eqb (stream_byte b 0) 27) _ e in
    let q = two (eqb (stream_byte b 1) x) (eqb (stream_byte b 2) y) p.1 in
    omega (arith, byte_there b 2 y h q.1)

pick : (s t u : Bool) (n m f g c d : Command) → Whole (cond s n (cond t f (cond u c Broken))) → (Whole n → m ≡ n) → (Whole f → g ≡ f) → (Whole c → d ≡ c)
    → cond s m (cond t g (cond u d Broken)) ≡ cond s n (cond t f (cond u c Broken))
pick true t u n m f g c d w i j k = i w
pick false true u n m f g c d w i j k = j w
pick false false true n m f g c d w i j k = k w
pick false false false n m f g c d w i j k = refl

abbrev chosen : List ℕ → Command
chosen b =
    cond (starts_with b 42 99) (number_command b (number_of b))
    (cond (starts_with b 41 115) (block_of FontBlock b (number_of b)) (cond (starts_with b 40 115) (block_of CharacterBlock b (number_of b)) Broken))

command_is : (b : List ℕ) → 0 < length b → command b ≡ chosen b
unfolding command
command_is b h = rw (ne_eqb (length b) 0 (λ e. absurd (omega arith)))

whole_long : (b : List ℕ) → Whole (command b) → 3 ≤ length b
unfolding command
whole_long b w = go (eqb (length b) 0) (starts_with b 42 99) (starts_with b 41 115) (starts_with b 40 115) refl refl refl w
  where
    go : (z s t u : Bool) → starts_with b 42 99 ≡ s → starts_with b 41 115 ≡ t → starts_with b 40 115 ≡ u
        → Whole (cond z End (cond s (number_command b (number_of b)) (cond t (block_of FontBlock b (number_of b)) (cond u (block_of CharacterBlock b (number_of b)) Broken)))) → 3 ≤ length b
    go true s t u p q r w = absurd w
    go false true t u p q r w = starts_long b 42 99 (omega arith) p
    go false false true u p q r w = starts_long b 41 115 (omega arith) q
    go false false false true p q r w = starts_long b 40 115 (omega arith) r
    go false false false false p q r w = absurd w

command_front : (b r : List ℕ) → Whole (command b) → command (b ++ r) ≡ command b
command_front b r w =
    let l = whole_long b w in
    let h : 0 < length b = omega (arith, l) in
    let k : 0 < length (b ++ r) = omega (arith, length-append b r) in
    command_is (b ++ r) k
    ∙ rw (starts_front b r 42 99 l, starts_front b r 41 115 l, starts_front b r 40 115 l)
    (pick (starts_with b 42 99) (starts_with b 41 115) (starts_with b 40 115) (number_command b (number_of b)) _ (block_of FontBlock b (number_of b)) _ (block_of CharacterBlock b (number_of b)) _
    (subst Whole (command_is b h) w) (numbered_front b r) (block_front FontBlock b r) (block_front CharacterBlock b r))
    ∙ sym (command_is b h)

unmoved : (a : ℕ) (x : Command) → Whole (moved_by a x) → Whole x
unfolding moved_by
unmoved a (SetFont n e) w = tt
unmoved a (SetCode n e) w = tt
unmoved a (FontBlock f e) w = tt
unmoved a (CharacterBlock f e) w = tt
unmoved a Broken w = w
unmoved a End w = w

at_front : (b r : List ℕ) (at : ℕ) → at ≤ length b → Whole (command_at b at) → command_at (b ++ r) at ≡ command_at b at
unfolding command_at
at_front b r at l w = ap (λ (m : List ℕ). moved_by at (command m)) (drop-append-le at b r l) ∙ ap (moved_by at) (command_front (drop at b) r (unmoved at (command (drop at b)) w))

-- ── the end stands only behind all bytes
any : (t : Bool) (x y : Command) → NotEnd x → NotEnd y → NotEnd (cond t x y)
any true x y p q = p
any false x y p q = q

not_end : (b : List ℕ) → NotEnd (chosen b)
unfolding number_command block_of
not_end b =
    any (starts_with b 42 99) _ _ (any (leb 4 (number_of b).next) _ _ (any (eqb (stream_byte b (number_of b).next) 68) _ _ tt (any (eqb (stream_byte b (number_of b).next) 69) _ _ tt tt)) tt)
    (any (starts_with b 41 115) _ _ (any (is_block b (number_of b)) _ _ tt tt) (any (starts_with b 40 115) _ _ (any (is_block b (number_of b)) _ _ tt tt) tt))

moved_not : (a : ℕ) (x : Command) → NotEnd x → NotEnd (moved_by a x)
unfolding moved_by
moved_not a (SetFont n e) w = tt
moved_not a (SetCode n e) w = tt
moved_not a (FontBlock f e) w = tt
moved_not a (CharacterBlock f e) w = tt
moved_not a Broken w = tt
moved_not a End w = w

at_not_end : (b : List ℕ) (at : ℕ) → at < length b → NotEnd (command_at b at)
unfolding command_at
at_not_end b at l =
    let h : 0 < length (drop at b) = omega (arith, length-drop at b) in
    moved_not at (command (drop at b)) (subst NotEnd (sym (command_is (drop at b) h)) (not_end (drop at b)))

-- ── a stream that is whole, and bytes behind it that break it at once
abbrev IsEnd : Ending → Type 0
IsEnd None = Unit {0}
IsEnd (Some p) = ⊥

abbrev torn : ℕ → Spelled → Spelled
torn n s = record { actions = s.actions; ending = Some n }

whole_by : (b : List ℕ) (f : ℕ → Target → Spelled) (at : ℕ) (t : Target) (x : Command) → NotEnd x → (onward b f at t x).ending ≡ None → Whole x
unfolding onward
whole_by b f at t (SetFont n e) w q = tt
whole_by b f at t (SetCode n e) w q = tt
whole_by b f at t (FontBlock a e) w q = tt
whole_by b f at t (CharacterBlock a e) w q = tt
whole_by b f at t Broken w q = absurd (subst IsEnd (sym q) tt)
whole_by b f at t End w q = w

part_front : (b r : List ℕ) (a e : ℕ) → a ≤ e → e ≤ length b → part (b ++ r) a e ≡ part b a e
part_front b r a e l h =
    let n : e - a ≤ length (drop a b) = omega (arith, length-drop a b) in
    ap (take (e - a)) (drop-append-le a b r (omega arith)) ∙ take-append-le (e - a) (drop a b) r n

front_step : (b r : List ℕ) (f g : ℕ → Target → Spelled) (at : ℕ) (t : Target) (x : Command) → CommandEnds at (length b) x → Whole x → (onward b f at t x).ending ≡ None
    → ((e : ℕ) (u : Target) → at < e → e ≤ length b → (f e u).ending ≡ None → g e u ≡ torn (length b) (f e u)) → onward (b ++ r) g at t x ≡ torn (length b) (onward b f at t x)
unfolding onward CommandEnds
front_step b r f g at t (SetFont n e) h w q i = ap (spell (number_set (range_answer 32767 n))) (i e (with_number n t) h.0 h.1 q)
front_step b r f g at t (SetCode n e) h w q i = ap (spell (number_set (range_answer 255 n))) (i e (with_code n t) h.0 h.1 q)
front_step b r f g at t (FontBlock a e) h w q i =
    ap₂ (λ (l : List ℕ) (s : Spelled). spell (download (font_block t.font l)) s) (part_front b r a e h.1 h.2) (i e t (omega (arith, h.0, h.1)) h.2 q)
front_step b r f g at t (CharacterBlock a e) h w q i =
    ap₂ (λ (l : List ℕ) (s : Spelled). spell (download (character_block t.font t.code l)) s) (part_front b r a e h.1 h.2) (i e t (omega (arith, h.0, h.1)) h.2 q)
front_step b r f g at t Broken h w q i = absurd w
front_step b r f g at t End h w q i = absurd w

front_end : (b r : List ℕ) (f g : ℕ → Target → Spelled) (at : ℕ) (t : Target) → at ≡ length b → command_at (b ++ r) (length b) ≡ Broken
    → onward (b ++ r) g at t (command_at (b ++ r) at) ≡ torn (length b) (onward b f at t (command_at b at))
unfolding onward
front_end b r f g at t e q =
    ap (λ (a : ℕ). onward (b ++ r) g a t (command_at (b ++ r) a)) e ∙ ap (λ (x : Command). onward (b ++ r) g (length b) t x) q
    ∙ sym (ap (λ (x : Command). torn (length b) (onward b f at t x)) (command_past b at (omega (arith, e))))

front_in : (k m : ℕ) (b r : List ℕ) (at : ℕ) (t : Target) → length b - at < k → length b - at < m → at ≤ length b → command_at (b ++ r) (length b) ≡ Broken
    → (spelled_in k b at t).ending ≡ None → spelled_in m (b ++ r) at t ≡ torn (length b) (spelled_in k b at t)
unfolding spelled_in
front_in zero m b r at t p q l c e = absurd (omega arith)
front_in (suc k) zero b r at t p q l c e = absurd (omega arith)
front_in (suc k) (suc m) b r at t p q l c e = go (less_or at (length b)) (λ a u i j n. front_in k m b r a u (omega arith) (omega arith) j c n)
  where
    go : (at < length b) ⊎ (length b ≤ at)
        → ((a : ℕ) (u : Target) → at < a → a ≤ length b → (spelled_in k b a u).ending ≡ None → spelled_in m (b ++ r) a u ≡ torn (length b) (spelled_in k b a u))
        → onward (b ++ r) (spelled_in m (b ++ r)) at t (command_at (b ++ r) at) ≡ torn (length b) (onward b (spelled_in k b) at t (command_at b at))
    go (inr h) i = let z : at ≡ length b = omega (arith, h, l) in front_end b r (spelled_in k b) (spelled_in m (b ++ r)) at t z c
    go (inl h) i =
        let w = whole_by b (spelled_in k b) at t (command_at b at) (at_not_end b at h) e in
        ap (λ (x : Command). onward (b ++ r) (spelled_in m (b ++ r)) at t x) (at_front b r at l w)
        ∙ front_step b r (spelled_in k b) (spelled_in m (b ++ r)) at t (command_at b at) (command_at_ends b at) w e i

pub read_before : (b r : List ℕ) (t : Target) → command_at (b ++ r) (length b) ≡ Broken → (spelled_from b 0 t).ending ≡ None
    → spelled_from (b ++ r) 0 t ≡ record { actions = (spelled_from b 0 t).actions; ending = Some (length b) }
unfolding spelled_from
read_before b r t c e =
    let n : length b - 0 < suc (length b - 0) = omega arith in
    let m : length b - 0 < suc (length (b ++ r) - 0) = omega (arith, length-append b r) in
    front_in (suc (length b - 0)) (suc (length (b ++ r) - 0)) b r 0 t n m (omega arith) c e
