-- For the code alone: what is left of a download, by what the code has found out so far. The laws `download_taken` and `download_block` tie it
-- to the calls.
use Rattle.std.specs.Prelude.{ℕ, List, ◌++◌, leb, length, drop}
use Rattle.blocks.specs.Header.{orientation, kept_header}
use Rattle.blocks.specs.Character.{descriptor_bytes, continuation_bytes, character_length, kind_of, read_first, kept_first}
use Rattle.pictures.specs.Size.{data_limit}
use Rattle.form.specs.Model.{Store, decode}
use Rattle.form.specs.Order.{font_at, character_at}
use Rattle.form.specs.Checks.{on_store, checked, taking, finding}
use Rattle.store.specs.Answer.{After, refuse, done}
use Rattle.store.specs.Calls.{used, put_font, kept_of, data_of}
use Rattle.store.specs.Download.{put_character, without_font, by_kind, names, within_width, judged_of, kept_of_data}

-- a font block that is accepted
unfoldable pub putting_font : ℕ → List ℕ → List ℕ → After
putting_font n b s =
    on_store (refuse s) (decode s)
    (λ st.
    checked (refuse s) (leb (used (put_font n (kept_header b) st)) st.size) 10
    (done (put_font n (kept_header b) st)))

-- a character whose data is kept: 10
unfoldable pub placing : ℕ → ℕ → List ℕ → List ℕ → Store → After
placing n c h d st = checked (without_font n st) (leb (used (put_character n c h d st)) st.size) 10 (done (put_character n c h d st))

unfoldable pub placed : ℕ → ℕ → List ℕ → List ℕ → List ℕ → After
placed n c h d s = on_store (refuse s) (decode s) (placing n c h d)

-- a character with the data d, judged before it is kept: 8, 9, 10
unfoldable pub receiving : ℕ → ℕ → List ℕ → List ℕ → List ℕ → Store → After
receiving n c h d s st =
    within_width s (judged_of h d)
    (checked (refuse s) (leb (length (kept_of_data h d)) data_limit) 9 (placing n c h (kept_of_data h d) st))

-- a first block, for a font with the header g
unfoldable pub receiving_first : ℕ → ℕ → List ℕ → List ℕ → List ℕ → Store → After
receiving_first n c g b s st = taking (refuse s) (read_first b (orientation g)) (receiving n c (kept_first b) (drop descriptor_bytes b) s st)

unfoldable pub putting_first : ℕ → ℕ → List ℕ → List ℕ → After
putting_first n c b s =
    on_store (refuse s) (decode s) (λ st. finding (refuse s) (font_at n st.recs) 6 (λ r. receiving_first n c (kept_of r) b s st))

-- a continuation
unfoldable pub receiving_more : ℕ → ℕ → List ℕ → List ℕ → Store → After
receiving_more n c b s st =
    checked (refuse s) (names n c st.mark) 7
    (finding (refuse s) (character_at n c st.recs) 7 (λ r. receiving n c (kept_of r) (data_of r ++ drop continuation_bytes b) s st))

unfoldable pub putting_more : ℕ → ℕ → List ℕ → List ℕ → After
putting_more n c b s = on_store (refuse s) (decode s) (receiving_more n c b s)

-- a block of either kind, for a font with the header g
unfoldable pub receiving_block : ℕ → ℕ → List ℕ → List ℕ → List ℕ → Store → After
receiving_block n c g b s st =
    by_kind (refuse s) (kind_of b)
    (λ both. taking (refuse s) (read_first b (orientation g)) (both (kept_first b) (drop descriptor_bytes b)))
    (λ both.
    checked (refuse s) (names n c st.mark) 7
    (finding (refuse s) (character_at n c st.recs) 7 (λ r. both (kept_of r) (data_of r ++ drop continuation_bytes b))))
    (λ h d. receiving n c h d s st)

-- a block for a store that is one, with numbers in range: 3, 6 and on
unfoldable pub putting_block : ℕ → ℕ → List ℕ → List ℕ → After
putting_block n c b s =
    on_store (refuse s) (decode s)
    (λ st.
    checked (refuse s) (character_length b) 3
    (finding (refuse s) (font_at n st.recs) 6 (λ r. receiving_block n c (kept_of r) b s st)))
