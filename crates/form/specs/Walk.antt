-- For the code alone: what the walk over the records answers, record by record, as the functions that check a buffer and find places in it
-- state it.
use Rattle.std.specs.Prelude.{ℕ, ◌+◌, ◌-◌, ◌≤◌, ◌<◌, ◌≡◌, List, [], ◌∷◌, ◌++◌, Bool, true, false, not, cond, ◌&&◌, ◌||◌, length, get_or, take, drop, eqb, leb, ltb}
use Rattle.std.specs.Prelude.{Option as Optional, Result, Some, None, Ok, Err}
use Rattle.std.specs.declared.ops.ControlFlow.{ControlFlow}
use Rattle.std.specs.declared.ops.ControlFlow.TheVariants.{Continue, Break}
use Rattle.std.proofs.Math.Option.{Option, none, some}
use Rattle.blocks.specs.Header.{orientation}
use Rattle.blocks.specs.Character.{class, width, height, descriptor_bytes, continuation_bytes}
use Rattle.pictures.specs.Picture.{judge}
use Rattle.form.specs.Layout.{last_font, last_code, key_of, character_kept_at, character_record, font_orientation_at, font_record, mark_record}
use Rattle.form.specs.Num.{◌and◌, field}
use Rattle.form.specs.Model.{Rec, font, character, is_kept, held_under, Mark, Store, Owner, owner_after, no_owner, allowed, sorted, unfinished, opened, number, place, no_characters, one_more, tally_of, tally_in, same_tally, counted, head_rec, size_of, total, split, decode}
use Rattle.form.specs.Order.{below, font_at, character_at}
use Rattle.form.specs.Checks.{on_font, on_character}
use Rattle.form.specs.declared.tally.Tally.{Tally}
use Rattle.form.specs.declared.walk.Item.{Item}
use Rattle.form.specs.declared.walk.Head.{Head}
use Rattle.form.specs.declared.walk.Head.TheVariants.{End, Rec as HeadRec, Bad}
use Rattle.form.specs.declared.walk.Pos.{Pos}
use Rattle.form.specs.declared.walk.Places.{Places}
use Rattle.form.specs.declared.walk.RunEnd.{RunEnd}
use Rattle.form.specs.declared.walk.MarkSeen.{MarkSeen}
use Rattle.form.specs.declared.walk.MarkSeen.TheVariants.{Shut, Open, Wrong}

-- ── one record

-- the numbers that a record at the front of s holds, if it is a font's
unfoldable pub tally_held : List ℕ → Rec → Tally
tally_held s (font n h) = tally_in s
tally_held s (character n c h d) = no_characters

-- the numbers of a record behind the font u
abbrev pub item_of : Owner → List ℕ → Rec → Item
item_of u s r = record { font = number r; place = place r; len = size_of r; orientation = (owner_after u r).orientation; unfinished = unfinished r; held = tally_held s r }

-- the record at the front, if it may stand behind the font u
unfoldable pub seen : Owner → List ℕ → Option Rec → Head
seen u s none = Bad
seen u s (some r) = cond (allowed u r) (HeadRec (item_of u s r)) Bad

unfoldable pub head_of : Owner → List ℕ → Head
head_of u s = cond (ltb (length s) character_record) End (cond (eqb (field 4 0 s) 0) End (seen u s (head_rec s)))

-- a record's length and more stand at a place of s
pub record Heading (s : List ℕ) (at len : ℕ) : Type 0 where
  pub is : field 4 at s ≡ len
  pub some : 0 < len
  pub room : at + character_record ≤ length s
  pub fits : at + len ≤ length s

-- ── the walk

-- what a walk answers of a store: how its records end, and whether the open character was met
abbrev pub Walked : Type 0
Walked = Optional (RunEnd × Bool)

-- a walk goes on from a place, or breaks with its answer
abbrev pub Step : Type 0
Step = ControlFlow Walked Pos

-- where a walk begins: behind the first record
abbrev pub walk_start : Pos
walk_start = record { at = mark_record; near = mark_record; last = 0; marked = false; key = 0; owner = 0; orientation = 0; held = no_characters; met = no_characters }

abbrev pub standing : Pos → Owner
standing p = record { owner = p.owner; orientation = p.orientation }

-- the numbers that a font holds, and those of its characters met so far, behind a record
unfoldable pub tally_behind : Pos → Item → Tally
tally_behind p i = cond (eqb i.place 0) i.held p.held

unfoldable pub met_behind : Pos → Item → Tally
met_behind p i = cond (eqb i.place 0) no_characters (one_more true (i.len - character_record) p.met)

-- what is held is true, if this record is the next font's
unfoldable pub settled : Pos → Item → Bool
settled p i = not (eqb i.place 0) || same_tally p.held p.met

-- the place of the last font with a number up to n, from one that is known on: the record at `at` may be it
unfoldable pub nearer : ℕ → ℕ → ℕ → ℕ → ℕ → ℕ
nearer n number place at near = cond (eqb place 0) (cond (leb number n) at near) near

-- a walk behind a record, where font n is asked for and m is the key of the open character
abbrev pub behind : ℕ → ℕ → Pos → Item → Pos
behind n m p i =
    record {
      at = p.at + i.len;
      near = nearer n i.font i.place p.at p.near;
      last = p.at;
      marked = p.marked || (eqb (key_of i.font i.place) m && i.unfinished);
      key = key_of i.font i.place + 1;
      owner = i.font + 1;
      orientation = i.orientation;
      held = tally_behind p i;
      met = met_behind p i;
    }

-- a record's key rises, and the font before it held what is true
unfoldable pub passed : ℕ → ℕ → Pos → Item → Step
passed n m p i = cond (leb p.key (key_of i.font i.place) and settled p i) (Continue (behind n m p i)) (Break None)

-- the numbers that fonts hold are true, where the font before these records, which stand in s, holds t and its characters so far have m
unfoldable pub tallied : Tally → Tally → List ℕ → List Rec → Bool
tallied t m s [] = same_tally t m
tallied t m s (font n h ∷ rs) = same_tally t m and tallied (tally_in s) no_characters (drop font_record s) rs
tallied t m s (character n c h d ∷ rs) = tallied t (one_more true (length d) m) (drop (character_record + length d) s) rs

-- the least key that may stand behind these records, where k may stand before them
unfoldable pub key_after : ℕ → List Rec → ℕ
key_after k [] = k
key_after k (r ∷ rs) = key_after (key_of (number r) (place r) + 1) rs

-- the place of the last font with a number up to n, and of the last record, from those known before these records, which stand from `at` on
unfoldable pub near_after : ℕ → ℕ → ℕ → List Rec → ℕ
near_after n near at [] = near
near_after n near at (r ∷ rs) = near_after n (nearer n (number r) (place r) at near) (at + size_of r) rs

unfoldable pub last_after : ℕ → ℕ → List Rec → ℕ
last_after last at [] = last
last_after last at (r ∷ rs) = last_after at (at + size_of r) rs

abbrev pub end_of : ℕ → Pos → List Rec → RunEnd
end_of n p rs = record { used = p.at + total rs; least = key_after p.key rs; near = near_after n p.near p.at rs; last = last_after p.last p.at rs }

-- the answer of a walk from p on over these records, which stand in s: how they end, and whether the open character is among them
unfoldable pub walked_over : ℕ → ℕ → Pos → List ℕ → Option (List Rec) → Walked
walked_over n m p s none = None
walked_over n m p s (some rs) = cond (sorted p.key (standing p) rs and tallied p.held p.met s rs) (Some (end_of n p rs, p.marked || opened m rs)) None

abbrev pub walked : ℕ → ℕ → Pos → List ℕ → Walked
walked n m p s = walked_over n m p s (split s)

-- the answer after a step
unfoldable pub walk_after : ℕ → ℕ → List ℕ → Step → Walked
walk_after n m s (Continue p) = walked n m p (drop p.at s)
walk_after n m s (Break w) = w

-- the sums of a walk stay within what it passed
pub record Within (n : ℕ) (p : Pos) : Type 0 where
  pub at : p.at ≤ n
  pub characters : p.met.characters ≤ p.at
  pub bytes : p.met.bytes ≤ p.at

-- a step goes ahead, within n bytes
unfoldable pub Ahead : ℕ → Pos → Step → Type 0
Ahead n p (Continue q) = (p.at < q.at) × Within n q
Ahead n p (Break w) = Unit {0}

-- ── a whole buffer: the places of font n, and of the record at place p of it (0 the font, code + 1 a character)
abbrev pub places_of : ℕ → ℕ → List Rec → Places
places_of n p rs =
    record {
      used = mark_record + total rs;
      lo = mark_record + total (below (key_of n 0) rs);
      from = mark_record + total (below (key_of n p) rs);
      to = mark_record + total (below (key_of n p + 1) rs);
      hi = mark_record + total (below (key_of (n + 1) 0) rs);
    }

-- the open mark by its numbers: closed, naming the character with a key, or neither
unfoldable pub mark_seen : Mark → MarkSeen
mark_seen m =
    cond (eqb m.on 0)
    (cond (eqb m.font_of 0 and eqb m.code_of 0) Shut Wrong)
    (cond (eqb m.on 1 and leb m.font_of last_font and leb m.code_of last_code) (Open (key_of m.font_of (m.code_of + 1))) Wrong)

-- the records of a buffer whose first record is right; with `must`, the character with the key m must be there and incomplete
unfoldable pub surveyed_over : ℕ → ℕ → Bool → List ℕ → Option (List Rec) → Optional RunEnd
surveyed_over n m must s none = None
surveyed_over n m must s (some rs) = cond ((sorted 0 no_owner rs and counted (tally_of rs) s rs) and (not must || opened m rs)) (Some (end_of n walk_start rs)) None

abbrev pub surveyed : ℕ → ℕ → Bool → List ℕ → Optional RunEnd
surveyed n m must s = surveyed_over n m must s (split s)

-- a store, and how its records end
unfoldable pub checked_store : ℕ → Option Store → Optional RunEnd
checked_store n none = None
checked_store n (some st) = Some (end_of n walk_start st.recs)

unfoldable pub inspected : ℕ → ℕ → Option Store → Optional Places
inspected n p none = None
inspected n p (some st) = Some (places_of n p st.recs)

-- s is a store, and w are the places of font n and its place p in it
pub record Stands (n p : ℕ) (s : List ℕ) (w : Places) : Type 0 where
  pub store : Store
  pub is : decode s ≡ some store
  pub at : places_of n p store.recs ≡ w

-- a font with its characters, or one record, stands from one place to another, if these differ
abbrev pub font_lookup : Places → Optional Places
font_lookup w = cond (ltb w.lo w.hi) (Some w) None

abbrev pub character_lookup : Places → Optional Places
character_lookup w = cond (ltb w.from w.to) (Some w) None

-- the number of each case, 0 where it stands: "font present, else 6"
abbrev pub font_number : Optional Places → ℕ
font_number (Some w) = 0
font_number None = 6

-- "no such character" is 7
abbrev pub character_number : Optional Places → ℕ
character_number (Some w) = 0
character_number None = 7

-- what seeking a font, or a character, answers: its places, or the refusal
unfoldable pub sought_font : ℕ → List ℕ → Result Places ℕ
sought_font n s = on_font Err n s (λ st r. Ok (places_of n 0 st.recs))

unfoldable pub sought_character : ℕ → ℕ → List ℕ → Result Places ℕ
sought_character n c s = on_character Err n c s (λ st r. Ok (places_of n (c + 1) st.recs))

-- ── a character block for font n and code c, whose places w are known
-- the numbers are in range, and the font is there, with this header
pub record Arriving (n c : ℕ) (s : List ℕ) (w : Places) : Type 0 where
  pub stands : Stands n (c + 1) s w
  pub low : n ≤ last_font
  pub code : c ≤ last_code
  pub header : List ℕ
  pub font_there : font_at n stands.store.recs ≡ some (font n header)

-- and a character with the descriptor h and the data d may stand behind that font
pub record Fitting (n c : ℕ) (h d s : List ℕ) (w : Places) : Type 0 where
  pub arrives : Arriving n c s w
  pub ok : is_kept (held_under (orientation arrives.header) h d) ≡ true

-- the descriptor and the data of the character at its places
abbrev pub kept_at : List ℕ → Places → List ℕ
kept_at s w = take descriptor_bytes (drop (w.from + character_kept_at) s)

abbrev pub data_at : List ℕ → Places → List ℕ
data_at s w = take (w.to - (w.from + character_record)) (drop (w.from + character_record) s)

-- the character is there already, and may stand there with t behind its data
pub record Growing (n c : ℕ) (t s : List ℕ) (w : Places) : Type 0 where
  pub fits : Fitting n c (kept_at s w) (data_at s w ++ t) s w
  pub there : character_at n c fits.arrives.stands.store.recs ≡ some (character n c (kept_at s w) (data_at s w))

-- the orientation of the font at its place
abbrev pub font_orientation : List ℕ → Places → ℕ
font_orientation s w = get_or s (w.lo + font_orientation_at) 0

-- the character's data and then the continuation b: n bytes of b are kept, all of them where the picture stays incomplete, which `marked` says,
-- else those that complete it
abbrev pub Continued : List ℕ → Places → List ℕ → ℕ → Bool → Type 0
Continued s w b n true = (judge (class (kept_at s w)) (width (kept_at s w)) (height (kept_at s w)) (data_at s w ++ drop continuation_bytes b) ≡ Ok None) × (n ≡ length b - continuation_bytes)
Continued s w b n false =
    judge (class (kept_at s w)) (width (kept_at s w)) (height (kept_at s w)) (data_at s w ++ drop continuation_bytes b) ≡ Ok (Some (length (data_at s w) + n))
