-- What calls leave of a longer output, the rows of a drawn picture, when drawing refuses, and the bits of a drawn row. Assumes nothing.
use Prim.Native.Nat.{ℕ, zero, suc, ◌+◌, ◌*◌, ◌-◌, ◌/◌, ◌%◌, ◌<◌, ◌≤◌}
use mathlib.Core.Path.{◌≡◌, refl, sym, ap, ◌∙◌}
use mathlib.Core.List.{List, [], ◌∷◌, ◌++◌, append_assoc}
use mathlib.Core.Bool.{Bool, true, false, cond}
use mathlib.Core.Option.{Option, none, some}
use native.Mathlib.Omega.{arith}
use borrow.Author.Tests.{leb-true, le-leb, ltb-true, ltb-false}
use lib.Dec.{leb, ltb}
use lib.ListN.{length, take, drop, get_or, length-append, length-drop, length-take, get_or-append, get_or-eq_default}
use lib.Seq.{get_or-take, get_or-drop, drop-append-le, take-append-le, take_at, drop_at, take_all}
use Rattle.blocks.specs.Header.{header_bytes}
use Rattle.blocks.specs.Character.{descriptor_bytes, class, width, height}
use Rattle.pictures.specs.Size.{row_size, picture_size}
use Rattle.pictures.specs.Dots.{pack, unpack}
use Rattle.pictures.specs.Rows.{bitmap_row, row_dots, row_bytes, picture}
use Rattle.pictures.proofs.Packing.{length_pack}
use Rattle.pictures.proofs.Pictures.{length_row, length_picture}
use Rattle.form.specs.Layout.{last_font, last_code}
use Rattle.form.specs.Model.{Rec, Store, decode}
use Rattle.form.specs.Order.{font_at, character_at}
use Rattle.form.specs.Checks.{on_store, checked, finding, numbered, on_font, on_character}
use Rattle.store.specs.Answer.{After, no_run, refuse, untold}
use Rattle.store.specs.Calls.{characters_of, kept_of, data_of, onto, telling_font, telling_character}
use Rattle.store.specs.Drawing.{row_of, picture_of, drawing_row, drawing_picture}
use Rattle.store.proofs.Receives.{in_range_lem}
use Rattle.store.proofs.Drawings.{row_high, row_short, row_drawn, picture_short, picture_drawn}
use Rattle.stream.specs.Written.{unwritten, written, writing_bytes, writing_font}
use Rattle.profile.specs.Profile.{broken_in, meets, writing_profiled}
use Rattle.turning.specs.Turn.{turnable, turned_size, turned, unturned, turning_picture}
use Rattle.turning.proofs.DotLaws.{dot_in, dot_bits, pack_at, unpack_at}
use Rattle.turning.proofs.PictureLaws.{row_fits}
use Rattle.turning.proofs.Answers.{was_done, turn_done}
use Rattle.marlinfold.specs.Calls.{tell_font, tell_character, draw_row, draw_picture, write_font, write_profiled, turn_picture, Outcome, answered, of_telling, of_drawing, of_writing}
use Rattle.marlinfold.specs.Demands.{LeavesLater, LaterBytesStay, RowsOfPicture, DrawnByBits, DrawingRefused}
use Rattle.marlinfold.proofs.Told.{font_shaped, character_shaped}

-- ── a longer output
module _ (later s : List ℕ) where
  -- what is claimed of the outcomes with an output and with a longer one
  abbrev Longer : Outcome → Outcome → Type 0
  Longer o p = o.refusal ≡ 0 → p ≡ answered 0 o.numbers s (o.out ++ later)

  onto_longer : (b out : List ℕ) → length b ≤ length out → onto b (out ++ later) ≡ onto b out ++ later
  onto_longer b out l = rw (drop-append-le (length b) out later l) (sym (append_assoc b (drop (length b) out) later))

  -- answers of A as outcomes: a refusal of an output, and what is done into one
  module _ {A : Type 0} (of : A → Outcome) (refusing : List ℕ → ℕ → A) (refuses : (out : List ℕ) (k : ℕ) → (of (refusing out k)).refusal ≡ k) (out : List ℕ) where
    abbrev Both : A → A → Type 0
    Both a b = Longer (of a) (of b)

    both_refuse : (k : ℕ) {b : A} → 0 < k → Both (refusing out k) b
    both_refuse k l e = absurd (omega (arith, l, e, refuses out k))

    by_check : (t : Bool) (k : ℕ) (a b : A) → 0 < k → (t ≡ true → Both a b) → Both (checked (refusing out) t k a) (checked (refusing (out ++ later)) t k b)
    by_check true k a b l f = f refl
    by_check false k a b l f = both_refuse k l

    by_find : (o : Option Rec) (k : ℕ) (f g : Rec → A) → 0 < k → ((r : Rec) → o ≡ some r → Both (f r) (g r)) → Both (finding (refusing out) o k f) (finding (refusing (out ++ later)) o k g)
    unfolding finding
    by_find none k f g l h = both_refuse k l
    by_find (some r) k f g l h = h r refl

    by_store_lem : (o : Option Store) (f g : Store → A) → ((st : Store) → o ≡ some st → Both (f st) (g st)) → Both (on_store (refusing out) o f) (on_store (refusing (out ++ later)) o g)
    unfolding on_store
    by_store_lem none f g h = both_refuse 1 (omega arith)
    by_store_lem (some st) f g h = h st refl

    by_font : (n : ℕ) (f g : Store → Rec → A) → ((st : Store) (r : Rec) → decode s ≡ some st → font_at n st.recs ≡ some r → Both (f st r) (g st r))
        → Both (on_font (refusing out) n s f) (on_font (refusing (out ++ later)) n s g)
    unfolding on_font
    by_font n f g h =
        by_store_lem (decode s) _ _ (λ st e. by_check (leb n last_font) 2 _ _ (omega arith) (λ _. by_find (font_at n st.recs) 6 (f st) (g st) (omega arith) (λ r q. h st r e q)))

    by_character : (n c : ℕ) (f g : Store → Rec → A) → ((st : Store) (r : Rec) → decode s ≡ some st → c ≤ last_code → character_at n c st.recs ≡ some r → Both (f st r) (g st r))
        → Both (on_character (refusing out) n c s f) (on_character (refusing (out ++ later)) n c s g)
    unfolding on_character
    by_character n c f g h =
        by_store_lem (decode s) _ _ (λ st e. by_check (numbered n c) 2 _ _ (omega arith) (λ l. by_find (font_at n st.recs) 6 _ _ (omega arith)
        (λ _ _. by_find (character_at n c st.recs) 7 (f st) (g st) (omega arith) (λ r q. h st r e (in_range_lem n c l).1 q))))

    -- bytes put to an output that must hold k
    puts : (made : List ℕ → A) (ns : List ℕ) → ((o : List ℕ) → of (made o) ≡ answered 0 ns s o) → (k : ℕ) (b : List ℕ) → length b ≡ k
        → Both (checked (refusing out) (leb k (length out)) 12 (made (onto b out))) (checked (refusing (out ++ later)) (leb k (length (out ++ later))) 12 (made (onto b (out ++ later))))
    puts made ns is k b e = go (leb k (length out)) refl
      where
        go : (t : Bool) → leb k (length out) ≡ t → Both (checked (refusing out) t 12 (made (onto b out))) (checked (refusing (out ++ later)) (leb k (length (out ++ later))) 12 (made (onto b (out ++ later))))
        go true q =
            let l : k ≤ length out = leb-true k (length out) q in
            let m : k ≤ length (out ++ later) = omega (arith, l, length-append out later) in
            λ _. rw (le-leb k (length (out ++ later)) m, is (onto b out), onto_longer b out (omega (arith, e, l))) (is (onto b out ++ later))
        go false q = both_refuse 12 (omega arith)

-- ── the calls
font_told_longer : (n : ℕ) → LeavesLater (tell_font n)
unfolding telling_font
font_told_longer n out later s =
    by_font later s (of_telling s) untold (λ _ k. refl) out n _ _ (λ st r e q. puts later s (of_telling s) untold (λ _ k. refl) out
    (λ o. record { refusal = 0; count = length (characters_of n st.recs); out = o }) (length (characters_of n st.recs) ∷ []) (λ o. refl) header_bytes (kept_of r) (font_shaped n s st e r q).0)

character_told_longer : (n c : ℕ) → LeavesLater (tell_character n c)
unfolding telling_character
character_told_longer n c out later s =
    by_character later s (of_telling s) untold (λ _ k. refl) out n c _ _ (λ st r e l q. puts later s (of_telling s) untold (λ _ k. refl) out
    (λ o. record { refusal = 0; count = length (data_of r); out = o }) (length (data_of r) ∷ []) (λ o. refl) descriptor_bytes (kept_of r) (character_shaped n s st e c r l q))

row_drawn_longer : (n c row : ℕ) → LeavesLater (draw_row n c row)
unfolding drawing_row row_of
row_drawn_longer n c row out later s =
    by_character later s (of_drawing s) refuse (λ _ k. refl) out n c _ _ (λ st r e l q.
    let h : List ℕ = kept_of r in
    by_check later s (of_drawing s) refuse (λ _ k. refl) out (ltb row (height h)) 2 _ _ (omega arith) (λ _. puts later s (of_drawing s) refuse (λ _ k. refl) out
    (λ o. record { answer = 0; bad = no_run; bytes = o }) [] (λ o. refl) (row_size (width h)) (row_bytes (class h) (width h) (data_of r) row) (length_row (class h) (width h) (data_of r) row)))

picture_drawn_longer : (n c : ℕ) → LeavesLater (draw_picture n c)
unfolding drawing_picture picture_of
picture_drawn_longer n c out later s =
    by_character later s (of_drawing s) refuse (λ _ k. refl) out n c _ _ (λ st r e l q.
    let h : List ℕ = kept_of r in
    puts later s (of_drawing s) refuse (λ _ k. refl) out (λ o. record { answer = 0; bad = no_run; bytes = o }) [] (λ o. refl) (picture_size (width h) (height h))
    (picture (class h) (width h) (data_of r) (height h)) (length_picture (class h) (width h) (data_of r) (height h)))

-- the stream of a font
stream_longer : (n : ℕ) (st : Store) (out later s : List ℕ) → Both later s (of_writing s) unwritten (λ _ k. refl) out (writing_bytes (written n st.recs) out) (writing_bytes (written n st.recs) (out ++ later))
stream_longer n st out later s =
    let b : List ℕ = written n st.recs in
    puts later s (of_writing s) unwritten (λ _ k. refl) out (λ o. record { refusal = 0; count = length b; out = o }) (length b ∷ []) (λ o. refl) (length b) b refl

font_written_longer : (n : ℕ) → LeavesLater (write_font n)
unfolding writing_font
font_written_longer n out later s = by_font later s (of_writing s) unwritten (λ _ k. refl) out n _ _ (λ st r e q. stream_longer n st out later s)

profiled_longer : (n : ℕ) → LeavesLater (write_profiled n)
unfolding writing_profiled
profiled_longer n out later s =
    by_font later s (of_writing s) unwritten (λ _ k. refl) out n _ _ (λ st r e q.
    by_check later s (of_writing s) unwritten (λ _ k. refl) out (meets (broken_in n (kept_of r) st.recs)) 14 _ _ (omega arith) (λ _. stream_longer n st out later s))

turned_by : (t w h : ℕ) (pic out : List ℕ) → (turning_picture t w h pic out).answer ≡ 0 → (turnable t w h (length pic) ≡ true) × (turned_size t w h ≤ length out)
unfolding turning_picture
turned_by t w h pic out z = go (turnable t w h (length pic)) refl (leb (turned_size t w h) (length out)) refl z
  where
    go : (a : Bool) → turnable t w h (length pic) ≡ a → (b : Bool) → leb (turned_size t w h) (length out) ≡ b
        → (cond a (cond b (record { answer = 0; bytes = turned t w h pic ++ drop (turned_size t w h) out }) (unturned out 12)) (unturned out 2)).answer ≡ 0
        → (turnable t w h (length pic) ≡ true) × (turned_size t w h ≤ length out)
    go true p true q e = (p, leb-true (turned_size t w h) (length out) q)
    go true p false q e = absurd (omega (arith, e))
    go false p b q e = absurd (omega (arith, e))

turned_longer : (t w h : ℕ) (pic : List ℕ) → LeavesLater (turn_picture t w h pic)
turned_longer t w h pic out later s z =
    let d = was_done t w h pic out z in
    let b : List ℕ = turned t w h pic in
    let size : ℕ = turned_size t w h in
    let l : size ≤ length out = (turned_by t w h pic out z).1 in
    let m : size ≤ length (out ++ later) = omega (arith, l, length-append out later) in
    let e : (b ++ drop size out) ++ later ≡ b ++ drop size (out ++ later) = rw (drop-append-le size out later l) (append_assoc b (drop size out) later) in
    let x = turn_done t w h pic (out ++ later) (turned_by t w h pic out z).0 m ((b ++ drop size out) ++ later) e in
    rw (← x.0, ← x.1, d.1)

pub later_bytes_stay : LaterBytesStay
later_bytes_stay n c row t w h pic =
    (font_told_longer n, character_told_longer n c, row_drawn_longer n c row, picture_drawn_longer n c, font_written_longer n, profiled_longer n, turned_longer t w h pic)

-- ── the rows of a picture
part_left : (m n : ℕ) (p x : List ℕ) → m + n ≤ length p → take n (drop m (p ++ x)) ≡ take n (drop m p)
part_left m n p x l = rw (drop-append-le m p x (omega (arith, l))) (take-append-le n (drop m p) x (omega (arith, l, length-drop m p)))

module _ (k w : ℕ) (d : List ℕ) where
  picture_row : (h row : ℕ) → row < h → take (row_size w) (drop (row * row_size w) (picture k w d h)) ≡ row_bytes k w d row
  unfolding picture
  picture_row zero row l = absurd (omega (arith, l))
  picture_row (suc h) row l = go (ltb row h) refl (λ m. picture_row h row m)
    where
      n : ℕ
      n = row_size w

      go : (t : Bool) → ltb row h ≡ t → (row < h → take n (drop (row * n) (picture k w d h)) ≡ row_bytes k w d row)
          → take n (drop (row * n) (picture k w d h ++ row_bytes k w d h)) ≡ row_bytes k w d row
      go true q ih =
          let m : row < h = ltb-true row h q in
          part_left (row * n) n (picture k w d h) (row_bytes k w d h) (omega (arith, row_fits n h row m, length_picture k w d h)) ∙ ih m
      go false q ih =
          let e : row ≡ h = omega (arith, ltb-false row h q, l) in
          rw (e, drop_at (picture k w d h) (row_bytes k w d h) (h * n) (length_picture k w d h)) (take_all n (row_bytes k w d h) (omega (arith, length_row k w d h)))

-- a row and a picture, each put to an output
rows_stand : (h d out all : List ℕ) (row : ℕ) → (row_of h d row out).answer ≡ 0 → (picture_of h d all).answer ≡ 0
    → take (row_size (width h)) (row_of h d row out).bytes ≡ take (row_size (width h)) (drop (row * row_size (width h)) (picture_of h d all).bytes)
unfolding row_of picture_of
rows_stand h d out all row = go (ltb row (height h)) refl (leb n (length out)) (leb (picture_size (width h) (height h)) (length all))
  where
    n : ℕ
    n = row_size (width h)

    one : List ℕ
    one = row_bytes (class h) (width h) d row

    rows : List ℕ
    rows = picture (class h) (width h) d (height h)

    go : (a : Bool) → ltb row (height h) ≡ a → (b e : Bool)
        → (checked (refuse out) a 2 (checked (refuse out) b 12 (record { answer = 0; bad = no_run; bytes = onto one out }))).answer ≡ 0
        → (checked (refuse all) e 12 (record { answer = 0; bad = no_run; bytes = onto rows all })).answer ≡ 0
        → take n (checked (refuse out) a 2 (checked (refuse out) b 12 (record { answer = 0; bad = no_run; bytes = onto one out }))).bytes
        ≡ take n (drop (row * n) (checked (refuse all) e 12 (record { answer = 0; bad = no_run; bytes = onto rows all })).bytes)
    go true q true true y z =
        let l : row < height h = ltb-true row (height h) q in
        take_at one (drop (length one) out) n (length_row (class h) (width h) d row)
        ∙ sym (picture_row (class h) (width h) d (height h) row l)
        ∙ sym (part_left (row * n) n rows (drop (length rows) all) (omega (arith, row_fits n (height h) row l, length_picture (class h) (width h) d (height h))))
    go true q true false y z = absurd (omega (arith, z))
    go true q false e y z = absurd (omega (arith, y))
    go false q b e y z = absurd (omega (arith, y))

pub rows_of_picture : RowsOfPicture
unfolding drawing_row drawing_picture on_character on_store finding
rows_of_picture n c row out all s st r e q = rw (e, q) (go (numbered n c) (font_at n st.recs))
  where
    go : (t : Bool) (o : Option Rec)
        → (checked (refuse out) t 2 (finding (refuse out) o 6 (λ _. row_of (kept_of r) (data_of r) row out))).answer ≡ 0
        → (checked (refuse all) t 2 (finding (refuse all) o 6 (λ _. picture_of (kept_of r) (data_of r) all))).answer ≡ 0
        → take (row_size (width (kept_of r))) (checked (refuse out) t 2 (finding (refuse out) o 6 (λ _. row_of (kept_of r) (data_of r) row out))).bytes
        ≡ take (row_size (width (kept_of r))) (drop (row * row_size (width (kept_of r))) (checked (refuse all) t 2 (finding (refuse all) o 6 (λ _. picture_of (kept_of r) (data_of r) all))).bytes)
    go true (some f) y z = rows_stand (kept_of r) (data_of r) out all row y z
    go true none y z = absurd (omega (arith, z))
    go false o y z = absurd (omega (arith, z))

-- ── when drawing refuses
row_by : (n c row : ℕ) (out s : List ℕ) (st : Store) (f r : Rec) → decode s ≡ some st → font_at n st.recs ≡ some f → n ≤ last_font → c ≤ last_code → character_at n c st.recs ≡ some r
    → drawing_row n c row s out ≡ row_of (kept_of r) (data_of r) row out
unfolding drawing_row on_character on_store finding
row_by n c row out s st f r e q l m p = rw (e, le-leb n last_font l, le-leb c last_code m, q, p)

picture_by : (n c : ℕ) (out s : List ℕ) (st : Store) (f r : Rec) → decode s ≡ some st → font_at n st.recs ≡ some f → n ≤ last_font → c ≤ last_code → character_at n c st.recs ≡ some r
    → drawing_picture n c s out ≡ picture_of (kept_of r) (data_of r) out
unfolding drawing_picture on_character on_store finding
picture_by n c out s st f r e q l m p = rw (e, le-leb n last_font l, le-leb c last_code m, q, p)

pub drawing_refused : DrawingRefused
drawing_refused n c row out s st f r e q m p =
    let l = (font_shaped n s st e f q).1 in
    let x = row_by n c row out s st f r e q l m p in
    let y = picture_by n c out s st f r e q l m p in
    let number : After → ℕ = λ (a : After). a.answer in (
      λ i. ap number (x ∙ row_high (kept_of r) (data_of r) out row i),
      λ i j. ap number (x ∙ row_short (kept_of r) (data_of r) out row i j),
      λ i j. ap number (x ∙ row_drawn (kept_of r) (data_of r) out row i j),
      λ j. ap number (y ∙ picture_short (kept_of r) (data_of r) out j),
      λ j. ap number (y ∙ picture_drawn (kept_of r) (data_of r) out j),
    )

-- ── the bits of a drawn row
row_bit : (k w row i : ℕ) (d x : List ℕ) → i < row_size w * 8 → get_or (unpack (row_bytes k w d row ++ x)) i false ≡ get_or (row_dots k w d row) i false
unfolding row_bytes
row_bit k w row i d x l =
    let ds : List Bool = row_dots k w d row in
    let n : ℕ = row_size w in
    let z : i / 8 * 8 + i % 8 ≡ i = omega arith in
    let m : i % 8 < 8 = omega arith in
    let q : i / 8 < n = omega (arith, l) in
    rw z at
    (unpack_at (pack n ds ++ x) (i / 8) (i % 8) m
    ∙ ap (dot_in (7 - i % 8)) (get_or-append (pack n ds) x 0 (i / 8) (rw (length_pack n ds) q) ∙ pack_at n ds (i / 8) q)
    ∙ dot_bits 8 (drop (i / 8 * 8) ds) (i % 8) m
    ∙ get_or-drop (i / 8 * 8) ds (i % 8) false)

bitmap_bit : (k w row i : ℕ) (d : List ℕ) → k ≡ 1
    → (i < w → get_or (row_dots k w d row) i false ≡ get_or (unpack (drop (row * row_size w) d)) i false) × (w ≤ i → get_or (row_dots k w d row) i false ≡ false)
unfolding row_dots bitmap_row
bitmap_bit k w row i d e =
    let all : List Bool = unpack (drop (row * row_size w) d) in
    (λ l. rw e (get_or-take w all i false l), λ l. rw e (get_or-eq_default (take w all) false {n = i} (omega (arith, l, length-take w all))))

bits_by : (h d out : List ℕ) (row : ℕ) → class h ≡ 1 → (row_of h d row out).answer ≡ 0 → (i : ℕ)
    → (i < width h → get_or (unpack (row_of h d row out).bytes) i false ≡ get_or (unpack (drop (row * row_size (width h)) d)) i false)
    × (width h ≤ i → i < row_size (width h) * 8 → get_or (unpack (row_of h d row out).bytes) i false ≡ false)
unfolding row_of
bits_by h d out row e z i = go (ltb row (height h)) (leb (row_size (width h)) (length out)) z
  where
    one : List ℕ
    one = row_bytes (class h) (width h) d row

    ends : Bool → Bool → After
    ends a b = checked (refuse out) a 2 (checked (refuse out) b 12 (record { answer = 0; bad = no_run; bytes = onto one out }))

    go : (a b : Bool) → (ends a b).answer ≡ 0
        → (i < width h → get_or (unpack (ends a b).bytes) i false ≡ get_or (unpack (drop (row * row_size (width h)) d)) i false)
        × (width h ≤ i → i < row_size (width h) * 8 → get_or (unpack (ends a b).bytes) i false ≡ false)
    go true true y =
        let x = bitmap_bit (class h) (width h) row i d e in (
          λ l. row_bit (class h) (width h) row i d (drop (length one) out) (omega (arith, l)) ∙ x.0 l,
          λ l m. row_bit (class h) (width h) row i d (drop (length one) out) m ∙ x.1 l,
        )
    go true false y = absurd (omega (arith, y))
    go false b y = absurd (omega (arith, y))

pub drawn_by_bits : DrawnByBits
unfolding drawing_row on_character on_store finding
drawn_by_bits n c row out s st r e q k = rw (e, q) (go (numbered n c) (font_at n st.recs))
  where
    ends : Bool → Option Rec → After
    ends t o = checked (refuse out) t 2 (finding (refuse out) o 6 (λ _. row_of (kept_of r) (data_of r) row out))

    go : (t : Bool) (o : Option Rec) → (ends t o).answer ≡ 0 → (i : ℕ)
        → (i < width (kept_of r) → get_or (unpack (ends t o).bytes) i false ≡ get_or (unpack (drop (row * row_size (width (kept_of r))) (data_of r))) i false)
        × (width (kept_of r) ≤ i → i < row_size (width (kept_of r)) * 8 → get_or (unpack (ends t o).bytes) i false ≡ false)
    go true (some f) z = bits_by (kept_of r) (data_of r) out row k z
    go true none z = absurd (omega (arith, z))
    go false o z = absurd (omega (arith, z))
