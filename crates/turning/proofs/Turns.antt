-- W-203's claims, and turns of turns. Assumes nothing.
use Prim.Native.Nat.{ℕ, ◌+◌, ◌*◌, ◌-◌, ◌%◌, ◌/◌, ◌<◌, ◌≤◌}
use mathlib.Core.Path.{◌≡◌, refl, sym, ap, ◌∙◌}
use mathlib.Core.List.{List, [], ◌++◌}
use mathlib.Core.Bool.{Bool, true, false}
use native.Mathlib.Omega.{arith}
use borrow.Author.Tests.{ltb-true, ltb-false}
use lib.Dec.{ltb}
use lib.ListN.{length, get_or, drop, take}
use lib.Seq.{get_or-drop, get_or-take, take_at, take_all}
use Rattle.pictures.specs.Size.{row_size, picture_size}
use Rattle.pictures.specs.Dots.{unpack}
use Rattle.pictures.specs.Rows.{bitmap_row}
use Rattle.pictures.proofs.Bitmaps.{bitmap_take}
use Rattle.turning.specs.Turn.{each, picture_rows, pack_rows, turned_width, turned_height, turned, turned_size, turn_rows, is_picture, turning_picture, WhitePadding, TurnsInto, FourQuarters, TwoQuarters, QuarterAndThree}
use Rattle.turning.specs.Quarters.{quarters}
use Rattle.turning.specs.declared.turn.Turn.{Turn}
use Rattle.turning.proofs.Answers.{Good, was_done, turns, turn_short, turn_done}
use Rattle.turning.proofs.DotLaws.{dot_in, dot_bits, byte_is, unpack_at}
use Rattle.turning.proofs.PictureLaws.{dot, each_at, each_past, each_same, length_drawn, drawn_at, dot_at_lem, filled}
use Rattle.turning.proofs.Places.{dot_from, turned_places}

-- ---- what is drawn is read back
drawn_dot : (w h : ℕ) (f : ℕ → ℕ → Bool) (r c : ℕ) → r < h → c < w
    → dot (picture_rows w h (pack_rows (row_size w) (each h (λ (r : ℕ). each w (f r))))) r c ≡ f r c
drawn_dot w h f r c l m =
    let s : List ℕ = pack_rows (row_size w) (each h (λ (r : ℕ). each w (f r))) in
    let z : c / 8 * 8 + c % 8 ≡ c = omega arith in
    let i : c % 8 < 8 = omega arith in
    let y : c / 8 * 8 + c % 8 < w = omega arith in
    let q : c / 8 < row_size w = omega arith in
    rw z at
    (dot_at_lem w h s r (c / 8) (c % 8) l y i
    ∙ ap (dot_in (7 - c % 8)) (drawn_at (row_size w) w h f r (c / 8) l q)
    ∙ dot_bits 8 (drop (c / 8 * 8) (each w (f r))) (c % 8) i
    ∙ get_or-drop (c / 8 * 8) (each w (f r)) (c % 8) false
    ∙ each_at false w (f r) (c / 8 * 8 + c % 8) y)

-- where the dot of row r, column c of the result comes from
turned_dot : (t w h : ℕ) (s : List ℕ) → picture_size w h ≤ length s → (r c : ℕ) → r < turned_height t w h → c < turned_width t w h
    → dot (picture_rows (turned_width t w h) (turned_height t w h) (turned t w h s)) r c ≡ dot_from t w h (picture_rows w h s) r c
turned_dot t w h s enough r c l m =
    ap (λ (p : List ℕ). dot (picture_rows (turned_width t w h) (turned_height t w h) p) r c) (turned_places w h s enough t)
    ∙ drawn_dot (turned_width t w h) (turned_height t w h) (λ (r c : ℕ). dot_from t w h (picture_rows w h s) r c) r c l m

length_turned : (t w h : ℕ) (s : List ℕ) → picture_size w h ≤ length s → length (turned t w h s) ≡ turned_size t w h
length_turned t w h s enough =
    ap length (turned_places w h s enough t) ∙ length_drawn (row_size (turned_width t w h)) (turned_width t w h) (turned_height t w h) (λ (r c : ℕ). dot_from t w h (picture_rows w h s) r c)

-- a picture is its dots
drawn_same : (n w h : ℕ) (f g : ℕ → ℕ → Bool) → ((r c : ℕ) → r < h → c < w → f r c ≡ g r c)
    → pack_rows n (each h (λ (r : ℕ). each w (f r))) ≡ pack_rows n (each h (λ (r : ℕ). each w (g r)))
drawn_same n w h f g e =
    ap (pack_rows n) (each_same h (λ (r : ℕ). each w (f r)) (λ (r : ℕ). each w (g r)) (λ r l. each_same w (f r) (g r) (λ c m. e r c l m)))

-- ---- turns of turns
module _ (w h : ℕ) (s : List ℕ) (enough : picture_size w h ≤ length s) where
  again : (t : ℕ) → turned_size t w h ≤ length (turned t w h s)
  again t = omega (arith, length_turned t w h s enough)

  two_quarters : turned 1 h w (turned 1 w h s) ≡ turned 2 w h s
  two_quarters =
      turned_places h w (turned 1 w h s) (again 1) 1
      ∙ drawn_same (row_size w) w h (λ (r c : ℕ). dot (picture_rows h w (turned 1 w h s)) (w - 1 - c) r) (λ (r c : ℕ). dot (picture_rows w h s) (h - 1 - r) (w - 1 - c))
      (λ r c l m. turned_dot 1 w h s enough (w - 1 - c) r (omega arith) l)
      ∙ sym (turned_places w h s enough 2)

  -- the bytes of a picture's own rows
  whole : List ℕ
  whole = pack_rows (row_size w) (each h (λ (r : ℕ). each w (λ (c : ℕ). dot (picture_rows w h s) r c)))

  two_halves : turned 2 w h (turned 2 w h s) ≡ whole
  unfolding whole
  two_halves =
      turned_places w h (turned 2 w h s) (again 2) 2
      ∙ drawn_same (row_size w) w h (λ (r c : ℕ). dot (picture_rows w h (turned 2 w h s)) (h - 1 - r) (w - 1 - c)) (λ (r c : ℕ). dot (picture_rows w h s) r c)
      (λ r c l m. let e : h - 1 - (h - 1 - r) ≡ r = omega arith in let f : w - 1 - (w - 1 - c) ≡ c = omega arith in
      turned_dot 2 w h s enough (h - 1 - r) (w - 1 - c) (omega arith) (omega arith) ∙ rw (e, f))

  quarter_and_three : turned 3 h w (turned 1 w h s) ≡ whole
  unfolding whole
  quarter_and_three =
      turned_places h w (turned 1 w h s) (again 1) 3
      ∙ drawn_same (row_size w) w h (λ (r c : ℕ). dot (picture_rows h w (turned 1 w h s)) c (h - 1 - r)) (λ (r c : ℕ). dot (picture_rows w h s) r c)
      (λ r c l m. let e : h - 1 - (h - 1 - r) ≡ r = omega arith in turned_dot 1 w h s enough c (h - 1 - r) m (omega arith) ∙ rw e)

  three_and_quarter : turned 1 h w (turned 3 w h s) ≡ whole
  unfolding whole
  three_and_quarter =
      turned_places h w (turned 3 w h s) (again 3) 1
      ∙ drawn_same (row_size w) w h (λ (r c : ℕ). dot (picture_rows h w (turned 3 w h s)) (w - 1 - c) r) (λ (r c : ℕ). dot (picture_rows w h s) r c)
      (λ r c l m. let e : w - 1 - (w - 1 - c) ≡ c = omega arith in turned_dot 3 w h s enough (w - 1 - c) r (omega arith) l ∙ rw e)

  -- ---- white padding
  module _ (p : 0 < w) (white : WhitePadding w h s) where
    byte_dots : (r q i : ℕ) → r < h → q < row_size w → i < 8
        → dot_in (7 - i) (get_or s (r * row_size w + q) 0) ≡ get_or (each w (λ (c : ℕ). dot (picture_rows w h s) r c)) (q * 8 + i) false
    byte_dots r q i l m k = go (ltb (q * 8 + i) w) refl
      where
        go : (t : Bool) → ltb (q * 8 + i) w ≡ t → dot_in (7 - i) (get_or s (r * row_size w + q) 0) ≡ get_or (each w (λ (c : ℕ). dot (picture_rows w h s) r c)) (q * 8 + i) false
        go true e =
            let y : q * 8 + i < w = ltb-true (q * 8 + i) w e in
            sym (each_at false w (λ (c : ℕ). dot (picture_rows w h s) r c) (q * 8 + i) y ∙ dot_at_lem w h s r q i l y k)
        go false e =
            let y : w ≤ q * 8 + i = ltb-false (q * 8 + i) w e in
            let x : q * 8 + i < row_size w * 8 = omega arith in
            sym (unpack_at (drop (r * row_size w) s) q i k ∙ ap (dot_in (7 - i)) (get_or-drop (r * row_size w) s q 0))
            ∙ white.padding r (q * 8 + i) l y x ∙ sym (each_past false w (λ (c : ℕ). dot (picture_rows w h s) r c) (q * 8 + i) y)

    row_byte : (r q : ℕ) → r < h → q < row_size w → get_or s (r * row_size w + q) 0 ≡ get_or whole (r * row_size w + q) 0
    unfolding whole
    row_byte r q l m =
        byte_is (get_or s (r * row_size w + q) 0) (each w (λ (c : ℕ). dot (picture_rows w h s) r c)) q (white.bytes (r * row_size w + q)) (λ i k. byte_dots r q i l m k)
        ∙ sym (drawn_at (row_size w) w h (λ (r c : ℕ). dot (picture_rows w h s) r c) r q l m)

    length_whole : length whole ≡ h * row_size w
    unfolding whole
    length_whole = length_drawn (row_size w) w h (λ (r c : ℕ). dot (picture_rows w h s) r c)

    whole_same : s ≡ whole
    whole_same =
        filled (row_size w) h whole s (omega arith) length_whole white.size row_byte

-- ---- the calls
-- bytes behind the picture are not looked at
pub turned_take : (t w h : ℕ) (s : List ℕ) → turned t w h (take (picture_size w h) s) ≡ turned t w h s
unfolding turned picture_rows
turned_take t w h s =
    ap (λ (rows : List (List Bool)). pack_rows (row_size (turned_width t w h)) (turn_rows t w rows))
    (each_same h (bitmap_row w (take (picture_size w h) s)) (bitmap_row w s) (λ r l. bitmap_take w h s r l))

-- what a call makes of the picture at the front of its bytes
made_of : (t w h : ℕ) (s q p : List ℕ) → TurnsInto t w h q p → take (picture_size w h) q ≡ take (picture_size w h) s
    → (take (turned_size t w h) p ≡ turned t w h s) × Good t w h (length q)
made_of t w h s q p c e =
    let d = was_done t w h q c.out c.done in
    let g : Good t w h (length q) = d.0 in
    let z : turned t w h q ≡ turned t w h s = sym (turned_take t w h q) ∙ ap (turned t w h) e ∙ turned_take t w h s in
    (ap (take (turned_size t w h)) (c.made ∙ d.1) ∙ take_at (turned t w h q) (drop (turned_size t w h) c.out) (turned_size t w h) (length_turned t w h q g.enough) ∙ z, g)

-- a picture's dots by its bytes
pub row_dots_lem : (w h : ℕ) (q : List ℕ) (r c : ℕ) → r < h → c < w → dot (picture_rows w h q) r c ≡ get_or (unpack (drop (r * row_size w) q)) c false
unfolding dot picture_rows bitmap_row
row_dots_lem w h q r c l m = ap (λ (row : List Bool). get_or row c false) (each_at [] h (bitmap_row w q) r l) ∙ get_or-take w (unpack (drop (r * row_size w) q)) c false m

-- where each dot of what a call made comes from
pub turned_dots : (t w h : ℕ) (s p : List ℕ) → TurnsInto t w h s p → (r c : ℕ) → r < turned_height t w h → c < turned_width t w h
    → get_or (unpack (drop (r * row_size (turned_width t w h)) p)) c false ≡ dot_from t w h (picture_rows w h s) r c
turned_dots t w h s p x r c l m =
    let W : ℕ = turned_width t w h in
    let H : ℕ = turned_height t w h in
    let d = made_of t w h s s p x refl in
    let row : bitmap_row W p r ≡ bitmap_row W (turned t w h s) r = sym (bitmap_take W H p r l) ∙ ap (λ (q : List ℕ). bitmap_row W q r) d.0 in
    sym (row_dots_lem W H p r c l m)
    ∙ by_row W H p (turned t w h s) r c l row
    ∙ turned_dot t w h s d.1.enough r c l m
  where
    by_row : (W H : ℕ) (p q : List ℕ) (r c : ℕ) → r < H → bitmap_row W p r ≡ bitmap_row W q r → dot (picture_rows W H p) r c ≡ dot (picture_rows W H q) r c
    by_row W H p q r c l e =
        unfold dot picture_rows in
        ap (λ (row : List Bool). get_or row c false) (each_at [] H (bitmap_row W p) r l ∙ e ∙ sym (each_at [] H (bitmap_row W q) r l))

front_of : (n : ℕ) (x p : List ℕ) → take n p ≡ x → length x ≡ n → take n p ≡ take n x
front_of n x p e l = e ∙ sym (take_all n x (omega arith))

-- what two calls make
made_twice : (t u w h : ℕ) (s p₁ p₂ : List ℕ) → TurnsInto t w h s p₁ → TurnsInto u (turned_width t w h) (turned_height t w h) p₁ p₂
    → take (turned_size u (turned_width t w h) (turned_height t w h)) p₂ ≡ turned u (turned_width t w h) (turned_height t w h) (turned t w h s)
made_twice t u w h s p₁ p₂ a b =
    let m = made_of t w h s s p₁ a refl in
    (made_of u (turned_width t w h) (turned_height t w h) (turned t w h s) p₁ p₂ b (front_of (turned_size t w h) (turned t w h s) p₁ m.0 (length_turned t w h s m.1.enough))).0

-- a picture that is just its bytes
own : (w h : ℕ) (s : List ℕ) → WhitePadding w h s → picture_size w h ≤ length s
own w h s white = omega (arith, white.size)

pub two_quarters_are_half : TwoQuarters
two_quarters_are_half w h s p₁ p₂ p a b c =
    let m = made_of 1 w h s s p₁ a refl in
    made_twice 1 1 w h s p₁ p₂ a b ∙ two_quarters w h s m.1.enough ∙ sym (made_of 2 w h s s p c refl).0

pub quarter_and_three_are_none : QuarterAndThree
quarter_and_three_are_none w h s p₁ p₂ white =
    (λ a b. made_twice 1 3 w h s p₁ p₂ a b ∙ quarter_and_three w h s (own w h s white) ∙ back 1 a, λ a b. made_twice 3 1 w h s p₁ p₂ a b ∙ three_and_quarter w h s (own w h s white) ∙ back 3 a)
  where
    back : (t : ℕ) → TurnsInto t w h s p₁ → whole w h s (own w h s white) ≡ s
    back t a = sym (whole_same w h s (own w h s white) (made_of t w h s s p₁ a refl).1.wide white)

pub four_quarters_are_none : FourQuarters
four_quarters_are_none w h s p₁ p₂ p₃ p₄ white a b c d =
    let enough : picture_size w h ≤ length s = own w h s white in
    let half : List ℕ = turned 2 w h s in
    let long : length half ≡ picture_size w h = length_turned 2 w h s enough in
    let two : take (picture_size w h) p₂ ≡ half = made_twice 1 1 w h s p₁ p₂ a b ∙ two_quarters w h s enough in
    let three = made_of 1 w h half p₂ p₃ c (front_of (picture_size w h) half p₂ two long) in
    let room : picture_size w h ≤ length half = omega arith in
    let four : take (picture_size w h) p₄ ≡ turned 1 h w (turned 1 w h half) =
    (made_of 1 h w (turned 1 w h half) p₃ p₄ d (front_of (picture_size h w) (turned 1 w h half) p₃ three.0 (length_turned 1 w h half room))).0 in
    four ∙ two_quarters w h half room ∙ two_halves w h s enough ∙ sym (whole_same w h s enough three.1.wide white)

-- ---- a call by its turn and its picture
module _ (t w h : ℕ) (s out : List ℕ) (turn : Turn) (is : quarters turn ≡ t) (good : is_picture w h (length s) ≡ true) (size : ℕ) (long : size ≡ turned_size (quarters turn) w h) where
  pub taken_short : length out < size → (12 ≡ (turning_picture t w h s out).answer) × (out ≡ (turning_picture t w h s out).bytes)
  taken_short l = turn_short t w h s out (turns turn t w h (length s) is good) (rw (← is) (omega (arith, long)))

  pub taken_done : size ≤ length out → (made : List ℕ) → made ≡ turned (quarters turn) w h (take (picture_size w h) s)
      → (0 ≡ (turning_picture t w h s out).answer) × (made ++ drop size out ≡ (turning_picture t w h s out).bytes)
  taken_done l made e =
      turn_done t w h s out (turns turn t w h (length s) is good) (rw (← is) (omega (arith, long))) (made ++ drop size out)
      (rw (e, turned_take (quarters turn) w h s, long, is))
