-- Laws of the quarter turns: bytes gathered into a block, and the bytes of a block in the turned picture. Assumes nothing.
use Prim.Native.Nat.{ℕ, zero, suc, ◌+◌, ◌*◌, ◌-◌, ◌^◌, ◌/◌, ◌<◌, ◌≤◌, min}
use mathlib.Core.Path.{◌≡◌, refl, sym, ap, ◌∙◌}
use mathlib.Core.List.{List}
use mathlib.Core.Bool.{Bool, true, false, not, cond}
use native.Mathlib.Nat.{mod-lt, add_left_cancel, div-one}
use native.Mathlib.Omega.{arith}
use borrow.Author.Tests.{ltb-true, ltb-false, lt-ltb, le-ltb, eqb-true, eqb-false}
use lib.Dec.{ltb, eqb}
use lib.ListN.{length, drop, get_or, set}
use Rattle.std.proofs.Common.{w64}
use Rattle.std.specs.Int.{from_be_bytes, to_be_bytes}
use lib.Seq.{get_or-set_same, get_or-set_other}
use lib.Pow.{high as upper}
use Rattle.pictures.specs.Dots.{bits}
use Rattle.pictures.specs.Size.{row_size, picture_size}
use Rattle.turning.specs.Turn.{each, picture_rows, turn_rows, pack_rows, turned}
use Rattle.turning.specs.Block.{flipped, block_dot, block_byte, join_bytes, column_byte, Put, TurnedUpTo}
use Rattle.turning.proofs.DotLaws.{dot_in, dot_above, dot_none, dot_shr, dot_low, byte_is}
use Rattle.turning.proofs.PictureLaws.{dot, each_at, each_past, drawn_at, length_drawn, dot_at_lem, inside, same_row, filled, set_next}
use Rattle.turning.proofs.Places.{high, quarter_places, three_quarters_places}

-- ---- places counted from the other end
pub flipped_lt : (back : Bool) (n i : ℕ) → i < n → flipped back n i < n
flipped_lt true n i l = omega arith
flipped_lt false n i l = l

pub flipped_twice : (back : Bool) (n i : ℕ) → i < n → flipped back n (flipped back n i) ≡ i
flipped_twice true n i l = omega arith
flipped_twice false n i l = refl

-- so many of them one after the other begin somewhere, and are counted so themselves
pub flipped_part : (back : Bool) (n first count i : ℕ) → first + count ≤ n → i < count → cond back (n - first - count) first + flipped back count i ≡ flipped back n (first + i)
flipped_part true n first count i l k = omega arith
flipped_part false n first count i l k = refl

-- a place of a row that is counted so
pub flipped_in : (back : Bool) (n m i q : ℕ) → i < n → q < m → flipped back n i * m + q < n * m
flipped_in back n m i q l k = inside m n (flipped back n i) q (flipped_lt back n i l) k

-- ---- bytes gathered
pub joined : (f : ℕ → ℕ) (bs : List ℕ) (x : ℕ) → x ≡ from_be_bytes w64 bs → ((j : ℕ) → j < 8 → get_or bs j 0 ≡ f j) → x ≡ join_bytes 8 f
unfolding join_bytes
joined f bs x e h =
    omega (arith, e, h 0 (omega arith), h 1 (omega arith), h 2 (omega arith), h 3 (omega arith), h 4 (omega arith), h 5 (omega arith), h 6 (omega arith), h 7 (omega arith))

-- one more byte of a block, of k
pub gathered_more : (f : ℕ → ℕ) (bs : List ℕ) (i v : ℕ) → i < length bs → v ≡ f i → ((j : ℕ) → j < i → get_or bs j 0 ≡ f j) × ((j : ℕ) → i ≤ j → get_or bs j 0 ≡ 0)
    → ((j : ℕ) → j < i + 1 → get_or (set bs i v) j 0 ≡ f j) × ((j : ℕ) → i + 1 ≤ j → get_or (set bs i v) j 0 ≡ 0)
gathered_more f bs i v l e h = (set_next f bs i v l e h.0, λ j m. get_or-set_other bs i j v 0 (λ z. omega (arith, z)) ∙ h.1 j (omega arith))

module _ (f : ℕ → ℕ) (bytes : (i : ℕ) → f i < 256) where
  join_dot : (k i j : ℕ) → i < k → j < 8 → dot_in ((k - 1 - i) * 8 + (7 - j)) (join_bytes k f) ≡ dot_in (7 - j) (f i)
  unfolding join_bytes
  join_dot zero i j l m = absurd (omega arith)
  join_dot (suc k) i j l m = go (eqb i k) refl (λ (z : i < k). join_dot k i j z m)
    where
      go : (b : Bool) → eqb i k ≡ b → (i < k → dot_in ((k - 1 - i) * 8 + (7 - j)) (join_bytes k f) ≡ dot_in (7 - j) (f i))
          → dot_in ((suc k - 1 - i) * 8 + (7 - j)) (join_bytes k f * 256 + f k) ≡ dot_in (7 - j) (f i)
      go true e h =
          let z : i ≡ k = eqb-true i k e in
          let a : (suc k - 1 - k) * 8 + (7 - j) ≡ 7 - j = omega arith in
          let b : j + (1 + (7 - j)) ≡ 8 = omega arith in
          rw (z, a) (rw b at (dot_above (join_bytes k f) j (7 - j) (f k)))
      go false e h =
          let z : i < k = omega (arith, eqb-false i k e) in
          let a : (suc k - 1 - i) * 8 + (7 - j) ≡ 8 + ((k - 1 - i) * 8 + (7 - j)) = omega arith in
          rw a (sym (dot_shr ((k - 1 - i) * 8 + (7 - j)) 8 (join_bytes k f * 256 + f k)) ∙ ap (dot_in ((k - 1 - i) * 8 + (7 - j))) (upper (join_bytes k f) 8 (bytes k)) ∙ h z)

  gathered_dot : (i j : ℕ) → i < 8 → j < 8 → block_dot (join_bytes 8 f) i j ≡ dot_in (7 - j) (f i)
  gathered_dot i j l m = let e : (8 - 1 - i) * 8 + (7 - j) ≡ 63 - (i * 8 + j) = omega arith in rw e at (join_dot 8 i j l m)

-- ---- a byte of a block
pub byte_in : (x i v : ℕ) → i < 8 → v ≡ get_or (to_be_bytes w64 x) i 0 → v ≡ block_byte x i
byte_in x i v l e = e ∙ at i l
  where
    at : (i : ℕ) → i < 8 → get_or (to_be_bytes w64 x) i 0 ≡ block_byte x i
    at zero l = refl
    at (suc zero) l = refl
    at (suc (suc zero)) l = refl
    at (suc (suc (suc zero))) l = refl
    at (suc (suc (suc (suc zero)))) l = refl
    at (suc (suc (suc (suc (suc zero))))) l = refl
    at (suc (suc (suc (suc (suc (suc zero)))))) l = refl
    at (suc (suc (suc (suc (suc (suc (suc zero))))))) l = rw div-one
    at (suc (suc (suc (suc (suc (suc (suc (suc i)))))))) l = absurd (omega arith)

byte_dot : (x k i : ℕ) → k < 8 → i < 8 → dot_in (7 - i) (block_byte x k) ≡ block_dot x k i
byte_dot x k i l m =
    let e : i + (1 + (7 - i)) ≡ 8 = omega arith in
    let f : 56 - k * 8 + (7 - i) ≡ 63 - (k * 8 + i) = omega arith in
    (rw e at (dot_low (7 - i) i (x / 2 ^ (56 - k * 8)))) ∙ (rw f at (dot_shr (7 - i) (56 - k * 8) x))

-- ---- the turned picture
abbrev quarter_dot : Bool → ℕ → ℕ → List ℕ → ℕ → ℕ → Bool
quarter_dot up w h s r c = dot (picture_rows w h s) (flipped up h c) (flipped (not up) w r)

drawn_quarters : (up : Bool) (w h : ℕ) (s : List ℕ) → turned (cond up 1 3) w h s ≡ pack_rows (row_size h) (each w (λ (r : ℕ). each h (quarter_dot up w h s r)))
unfolding turned turn_rows
drawn_quarters true w h s = ap (pack_rows (row_size h)) (quarter_places w h (picture_rows w h s) (high w h s))
drawn_quarters false w h s = ap (pack_rows (row_size h)) (three_quarters_places w h (picture_rows w h s) (high w h s))

turned_at : (up : Bool) (w h : ℕ) (s : List ℕ) (r q : ℕ) → r < w → q < row_size h
    → get_or (turned (cond up 1 3) w h s) (r * row_size h + q) 0 ≡ bits 8 (drop (q * 8) (each h (quarter_dot up w h s r)))
turned_at up w h s r q l m = ap (λ (p : List ℕ). get_or p (r * row_size h + q) 0) (drawn_quarters up w h s) ∙ drawn_at (row_size h) h w (quarter_dot up w h s) r q l m

pub length_turned : (up : Bool) (w h : ℕ) (s : List ℕ) → length (turned (cond up 1 3) w h s) ≡ picture_size h w
length_turned up w h s = ap length (drawn_quarters up w h s) ∙ length_drawn (row_size h) h w (quarter_dot up w h s)

module _ (up : Bool) (w h : ℕ) (s : List ℕ) (bytes : (i : ℕ) → get_or s i 0 < 256) where
  column_lt : (b row : ℕ) → column_byte s (row_size w) h up b row < 256
  unfolding column_byte
  column_lt b row = go (ltb row h)
    where
      go : (t : Bool) → cond t (get_or s (flipped up h row * row_size w + b) 0) 0 < 256
      go true = bytes (flipped up h row * row_size w + b)
      go false = omega arith

  -- dot k of a byte of column b
  column_dot : (b k row : ℕ) → k < 8 → b * 8 + k < w
      → dot_in (7 - k) (column_byte s (row_size w) h up b row) ≡ get_or (each h (λ (c : ℕ). dot (picture_rows w h s) (flipped up h c) (b * 8 + k))) row false
  unfolding column_byte
  column_dot b k row l m = go (ltb row h) refl
    where
      go : (t : Bool) → ltb row h ≡ t
          → dot_in (7 - k) (cond t (get_or s (flipped up h row * row_size w + b) 0) 0) ≡ get_or (each h (λ (c : ℕ). dot (picture_rows w h s) (flipped up h c) (b * 8 + k))) row false
      go true e =
          let z : row < h = ltb-true row h e in
          sym (each_at false h (λ (c : ℕ). dot (picture_rows w h s) (flipped up h c) (b * 8 + k)) row z ∙ dot_at_lem w h s (flipped up h row) b k (flipped_lt up h row z) m l)
      go false e = dot_none (7 - k) ∙ sym (each_past false h (λ (c : ℕ). dot (picture_rows w h s) (flipped up h c) (b * 8 + k)) row (ltb-false row h e))

  -- byte k of a block that is gathered from column b and transposed
  pub block_byte_lem : (b q k x : ℕ) → q < row_size h → k < 8 → b * 8 + k < w
      → ((i j : ℕ) → i < 8 → j < 8 → block_dot x i j ≡ block_dot (join_bytes 8 (λ (i : ℕ). column_byte s (row_size w) h up b (q * 8 + i))) j i)
      → block_byte x k ≡ get_or (turned (cond up 1 3) w h s) (flipped (not up) w (b * 8 + k) * row_size h + q) 0
  block_byte_lem b q k x l m n t =
      byte_is (block_byte x k) (each h (quarter_dot up w h s (flipped (not up) w (b * 8 + k)))) q (mod-lt (x / 2 ^ (56 - k * 8)) (omega arith)) at
      ∙ sym (turned_at up w h s (flipped (not up) w (b * 8 + k)) q (flipped_lt (not up) w (b * 8 + k) n) l)
    where
      at : (i : ℕ) → i < 8 → dot_in (7 - i) (block_byte x k) ≡ get_or (each h (quarter_dot up w h s (flipped (not up) w (b * 8 + k)))) (q * 8 + i) false
      at i o =
          byte_dot x k i m o ∙ t k i m o
          ∙ gathered_dot (λ (i : ℕ). column_byte s (row_size w) h up b (q * 8 + i)) (λ i. column_lt b (q * 8 + i)) i k o m
          ∙ column_dot b k (q * 8 + i) m n
          ∙ ap (λ (col : ℕ). get_or (each h (λ (c : ℕ). dot (picture_rows w h s) (flipped up h c) col)) (q * 8 + i) false) (sym (flipped_twice (not up) w (b * 8 + k) n))

-- ---- bytes of a block written
-- place and column are both the same, or the byte is another
other : (back : Bool) (n m c c' q q' : ℕ) → c < n → c' < n → q < m → q' < m → flipped back n c * m + q ≡ flipped back n c' * m + q' → (c ≡ c') × (q ≡ q')
other back n m c c' q q' a b k l e =
    let r : flipped back n c ≡ flipped back n c' = same_row m (flipped back n c) (flipped back n c') q q' k l e in
    let z : c ≡ c' = sym (flipped_twice back n c a) ∙ ap (flipped back n) r ∙ flipped_twice back n c' b in
    (z, add_left_cancel (flipped back n c' * m) (rw r at e))

module _ (x m w : ℕ) (up : Bool) (at first : ℕ) (place : at < m) (before : List ℕ) where
  pub put_none : Put x m w up at first 0 before before
  put_none = record { written = λ c a b l. absurd (omega arith); above = λ c q a l k. refl; beside = λ c q a l k. refl }

  pub put_next : (i : ℕ) (out : List ℕ) → first + i < w → w * m ≤ length out → Put x m w up at first i before out
      → Put x m w up at first (i + 1) before (set out (flipped (not up) w (first + i) * m + at) (block_byte x i))
  put_next i out l room h = record {
    written = λ c a b k. written c a b k (eqb c (first + i)) refl;
    above = λ c q a k o. aside c q k o (λ e. let z : c ≡ first + i = e.0 in omega arith) ∙ h.above c q a k o;
    beside = λ c q a k o. aside c q k o (λ e. a e.1) ∙ h.beside c q a k o;
  }
    where
      here : ℕ
      here = flipped (not up) w (first + i) * m + at

      aside : (c q : ℕ) → c < w → q < m → ((c ≡ first + i) × (q ≡ at) → ⊥) → get_or (set out here (block_byte x i)) (flipped (not up) w c * m + q) 0 ≡ get_or out (flipped (not up) w c * m + q) 0
      aside c q k o apart = get_or-set_other out here (flipped (not up) w c * m + q) (block_byte x i) 0 (λ e. apart (other (not up) w m c (first + i) q at k l o place e))

      written : (c : ℕ) → first ≤ c → c < first + (i + 1) → c < w → (b : Bool) → eqb c (first + i) ≡ b → get_or (set out here (block_byte x i)) (flipped (not up) w c * m + at) 0 ≡ block_byte x (c - first)
      written c a b k true e =
          let z : c ≡ first + i = eqb-true c (first + i) e in
          let y : first + i - first ≡ i = omega arith in
          let o : here < w * m = flipped_in (not up) w m (first + i) at l place in
          rw (z, y) (get_or-set_same out here (block_byte x i) 0 (omega arith))
      written c a b k false e =
          let z : c < first + i = omega (arith, eqb-false c (first + i) e) in
          aside c at k place (λ e. let y : c ≡ first + i = e.0 in omega arith) ∙ h.written c a z k

pub column_in : (s : List ℕ) (n h : ℕ) (up : Bool) (at row : ℕ) → row < h → column_byte s n h up at row ≡ get_or s (flipped up h row * n + at) 0
unfolding column_byte
column_in s n h up at row l = rw (lt-ltb row h l)

pub column_out : (s : List ℕ) (n h : ℕ) (up : Bool) (at row : ℕ) → h ≤ row → column_byte s n h up at row ≡ 0
unfolding column_byte
column_out s n h up at row l = rw (le-ltb row h l)

-- the bytes of the rows that there are, and white for the others
pub gathered_all : (s : List ℕ) (n h : ℕ) (up : Bool) (at first k : ℕ) (bs : List ℕ) → min 8 (h - first) ≤ k
    → ((j : ℕ) → j < k → get_or bs j 0 ≡ column_byte s n h up at (first + j)) → ((j : ℕ) → k ≤ j → get_or bs j 0 ≡ 0)
    → (j : ℕ) → j < 8 → get_or bs j 0 ≡ column_byte s n h up at (first + j)
gathered_all s n h up at first k bs e there white j l = go (ltb j k) refl
  where
    go : (b : Bool) → ltb j k ≡ b → get_or bs j 0 ≡ column_byte s n h up at (first + j)
    go true t = there j (ltb-true j k t)
    go false t = let m : k ≤ j = ltb-false j k t in white j m ∙ sym (column_out s n h up at (first + j) (omega arith))

-- ---- a column of bytes
-- the columns before are turned, and of this one the first q blocks
pub record Columns (up : Bool) (w h : ℕ) (s : List ℕ) (b q : ℕ) (out : List ℕ) : Type 0 where
  pub above : TurnedUpTo up w h (row_size h) s (b * 8) out
  pub here : (c p : ℕ) → b * 8 ≤ c → c < b * 8 + 8 → c < w → p < q → p < row_size h
      → get_or out (flipped (not up) w c * row_size h + p) 0 ≡ get_or (turned (cond up 1 3) w h s) (flipped (not up) w c * row_size h + p) 0

module _ (up : Bool) (w h : ℕ) (s : List ℕ) (b : ℕ) where
  pub columns_next : ((i : ℕ) → get_or s i 0 < 256) → (q g x : ℕ) (out out' : List ℕ) → q < row_size h
      → g ≡ join_bytes 8 (λ (i : ℕ). column_byte s (row_size w) h up b (q * 8 + i)) → ((i j : ℕ) → i < 8 → j < 8 → block_dot x i j ≡ block_dot g j i)
      → Put x (row_size h) w up q (b * 8) 8 out out' → Columns up w h s b q out → Columns up w h s b (q + 1) out'
  columns_next bytes q g x out out' r f t put done = record {
    above = λ c p l m k. put.above c p k l m ∙ done.above c p l m k;
    here = λ c p a k l m n. here c p a k l m n (eqb p q) refl;
  }
    where
      here : (c p : ℕ) → b * 8 ≤ c → c < b * 8 + 8 → c < w → p < q + 1 → p < row_size h → (e : Bool) → eqb p q ≡ e
          → get_or out' (flipped (not up) w c * row_size h + p) 0 ≡ get_or (turned (cond up 1 3) w h s) (flipped (not up) w c * row_size h + p) 0
      here c p a k l m n true e =
          let z : p ≡ q = eqb-true p q e in
          let y : b * 8 + (c - b * 8) ≡ c = omega arith in
          rw z (put.written c a k l ∙ (rw y at (block_byte_lem up w h s bytes b q (c - b * 8) x r (omega arith) (rw y l) (λ i j u v. t i j u v ∙ ap (λ (x : ℕ). block_dot x j i) f))))
      here c p a k l m n false e = put.beside c p (eqb-false p q e) l n ∙ done.here c p a k l (omega (arith, eqb-false p q e)) n

-- ---- the picture
pub turned_all : (up : Bool) (w h : ℕ) (s out : List ℕ) (b : ℕ) → 0 < h → row_size w ≤ b → length out ≡ picture_size h w
    → TurnedUpTo up w h (row_size h) s (b * 8) out → out ≡ turned (cond up 1 3) w h s
turned_all up w h s out b p e l t = filled (row_size h) w (turned (cond up 1 3) w h s) out (omega arith) (length_turned up w h s) l at
  where
    at : (r q : ℕ) → r < w → q < row_size h → get_or out (r * row_size h + q) 0 ≡ get_or (turned (cond up 1 3) w h s) (r * row_size h + q) 0
    at r q k m =
        let c : ℕ = flipped (not up) w r in
        let d : c < w = flipped_lt (not up) w r k in
        rw (flipped_twice (not up) w r k) at (t c q d m (omega arith))
