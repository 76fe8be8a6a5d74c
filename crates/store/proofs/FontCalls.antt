-- What the calls on fonts answer, and the bytes that they leave, by what the inspection found. Assumes nothing.
use mathlib.Core.Path.{◌≡◌, refl, sym, ap, ◌∙◌}
use Rattle.std.specs.Prelude.{Result, IsErr, IsErrAnd}
use Rattle.refusals.specs.Refusals.{refusal_number, answer_by, number_or_0}
use Rattle.refusals.specs.declared.Refused.{Refused}
use Rattle.refusals.proofs.Numbers.{handed_on}
use Rattle.std.specs.Prelude.{Ok, Err}
use mathlib.Core.List.{List, [], ◌∷◌, ◌++◌, append-nil}
use mathlib.Core.Bool.{true, false}
use mathlib.Core.Option.{none}
use Prim.Native.Nat.{ℕ, ◌+◌, ◌-◌, ◌<◌, ◌≤◌}
use native.Mathlib.Omega.{arith}
use lib.ListN.{length, replicate, length-append, length-replicate, replicate-append-replicate, drop_of_length-le}
use lib.Seq.{paste, take_all}
use lib.Dec.{leb}
use borrow.Author.Tests.{le-leb, lt-leb}
use Rattle.blocks.specs.Header.{read_header, kept_header, header_bytes}
use Rattle.blocks.proofs.KeptHeader.{kept_header_lem, kept_length, header_long}
use Rattle.form.specs.Layout.{key_of, font_record, last_font, least_store, mark_kind, mark_record, most_store}
use Rattle.form.specs.Num.{◌and◌, low_first}
use Rattle.form.specs.Model.{font, no_characters, font_head, bytes_of, run, mark_bytes, encode, decode, sorted, size_of, total, shut}
use Rattle.form.specs.Order.{below, replaced}
use Rattle.change.specs.Put.{with_bytes}
use Rattle.change.specs.Change.{spliced_at, unmarked_for}
use Rattle.form.specs.Checks.{on_store}
use Rattle.store.specs.Answer.{no_run, After, refuse, done, downloaded_of}
use Rattle.store.specs.Calls.{fresh, making_fresh, used, store_without_font, put_font, downloading_font}
use Rattle.store.specs.Putting.{putting_font}
use Rattle.form.specs.declared.walk.Places.{Places}
use Rattle.store.specs.declared.download.Downloaded.{Downloaded}
use Rattle.change.proofs.Puts.{put_nil}
use Rattle.store.proofs.Replaced.{no_font, new_font}
use Rattle.store.proofs.Changed.{spare_is, total_replaced, new_bytes, bytes_font}
use Rattle.form.proofs.Codec.{size_bytes, encode_parts}
use Rattle.form.proofs.Ready.{Ready}

-- an answer, and the bytes
pub answered : {a b : After} → a ≡ b → (b.answer ≡ a.answer) × (b.bytes ≡ a.bytes)
answered e = (ap (λ (x : After). x.answer) (sym e), ap (λ (x : After). x.bytes) (sym e))

-- the answer to a character block, and the bytes
-- a refusal that `?` hands on
pub answered_err : {A : Type 0} (r : Result A Refused) (q : Refused) {s : List ℕ} {a : After} → IsErr r × IsErrAnd r (λ e. e ≡ q) → a ≡ refuse s (refusal_number q) → (number_or_0 r ≡ a.answer) × (s ≡ a.bytes)
answered_err r q h e = (ap answer_by (handed_on r q h) ∙ ap (λ (x : After). x.answer) (sym e), ap (λ (x : After). x.bytes) (sym e))

pub answered_block : {a b : After} → a ≡ b → (downloaded_of b ≡ downloaded_of a) × (b.bytes ≡ a.bytes)
answered_block e = (ap downloaded_of (sym e), ap (λ (x : After). x.bytes) (sym e))

-- what the code answers at once, with the buffer as it was
pub answered_by : {a b : After} {r : Downloaded} → r ≡ downloaded_of b → a ≡ b → (r ≡ downloaded_of a) × (b.bytes ≡ a.bytes)
answered_by f e = (f ∙ ap downloaded_of (sym e), ap (λ (x : After). x.bytes) (sym e))

-- a number alone
pub plainly : {a b : After} (r : Downloaded) (k : ℕ) → a ≡ b → a.bad ≡ no_run → r ≡ record { refusal = k; bad = no_run } → k ≡ b.answer → r ≡ downloaded_of a
plainly r k e n f g = rw (n, f, g, e)

-- ── removing
pub cut_done : (n p : ℕ) (s : List ℕ) (w : Places) (r : Ready n p s w) → unmarked_for n (spliced_at w.lo (w.hi - w.lo) w.used 0 s) ≡ encode (store_without_font n r.store)
unfolding run total
cut_done n p s w r =
    let st = r.store in
    let rs = st.recs in
    let lo : w.lo ≡ mark_record + total (below (key_of n 0) rs) = ap (λ (x : Places). x.lo) r.at in
    let hi : w.hi ≡ mark_record + total (below (key_of (n + 1) 0) rs) = ap (λ (x : Places). x.hi) r.at in
    let us : w.used ≡ mark_record + total rs = ap (λ (x : Places). x.used) r.at in
    let fits : used (store_without_font n st) ≤ st.size = omega (arith, total_replaced (key_of n 0) (key_of (n + 1) 0) [] rs r.valid.order (omega arith), r.room, r.size) in
    rw (lo, hi, us, r.bytes) (ap (unmarked_for n) (sym (put_nil _ (mark_record + total (below (key_of n 0) rs)))) ∙ bytes_font n [] st r.valid no_font fits refl)

-- ── making fresh
zeros_all : (s : List ℕ) → paste s 0 (replicate (length s) 0) (length s) ≡ replicate (length s) 0
zeros_all s =
    let z : List ℕ = replicate (length s) 0 in
    rw (drop_of_length-le s {i = 0 + length s} (omega arith), take_all (length s) z (omega (arith, length-replicate {A = ℕ} (length s) 0))) (append-nil z)

fresh_first : (z : List ℕ) → with_bytes (with_bytes (replicate mark_record 0 ++ z) 0 (low_first 2 mark_record)) 4 (low_first 2 mark_kind) ≡ mark_bytes shut ++ z
unfolding with_bytes low_first mark_bytes
fresh_first z = refl

pub fresh_bytes : (s : List ℕ) → least_store ≤ length s → with_bytes (with_bytes (paste s 0 (replicate (length s) 0) (length s)) 0 (low_first 2 mark_record)) 4 (low_first 2 mark_kind) ≡ encode (fresh (length s))
unfolding run total
fresh_bytes s h =
    let n = length s in
    let e : mark_record + (n - mark_record) ≡ n = omega arith in
    let r : replicate {A = ℕ} n 0 ≡ replicate mark_record 0 ++ replicate (n - mark_record) 0 = sym (replicate-append-replicate {A = ℕ} mark_record (n - mark_record) 0 ∙ ap (λ (k : ℕ). replicate k 0) e) in
    rw (zeros_all s, r) (fresh_first (replicate (n - mark_record) 0) ∙ sym (encode_parts (fresh n) ∙ ap (λ (k : ℕ). mark_bytes shut ++ replicate k 0) (spare_is (fresh n) (unfold sorted in refl))))

module _ (s : List ℕ) where
  pub fresh_short : length s < least_store → making_fresh s ≡ refuse s 1
  unfolding making_fresh ◌and◌
  fresh_short l = rw (lt-leb least_store (length s) l)

  pub fresh_long : least_store ≤ length s → most_store < length s → making_fresh s ≡ refuse s 1
  unfolding making_fresh ◌and◌
  fresh_long a l = rw (le-leb least_store (length s) a, lt-leb (length s) most_store l)

  pub fresh_done : least_store ≤ length s → length s ≤ most_store → making_fresh s ≡ done (fresh (length s))
  unfolding making_fresh ◌and◌
  fresh_done a b = rw (le-leb least_store (length s) a, le-leb (length s) most_store b)

-- ── downloading
font_run : (n : ℕ) (h : List ℕ) → length h ≡ header_bytes → n ≤ last_font → length (new_bytes (font n h ∷ [])) ≡ total (font n h ∷ [])
unfolding run total
font_run n h l m = omega (arith, length-append (bytes_of (λ k. no_characters) (font n h)) [], size_bytes (λ k. no_characters) (font n h) (l, m))

module _ (n : ℕ) (b s : List ℕ) where
  pub download_not : decode s ≡ none → downloading_font n b s ≡ refuse s 1
  unfolding downloading_font on_store
  download_not e = rw e

  module _ (w : Places) (r : Ready n 0 s w) where
    pub download_range : last_font < n → downloading_font n b s ≡ refuse s 2
    unfolding downloading_font on_store
    download_range l = rw (r.is, lt-leb n last_font l)

    pub download_refused : n ≤ last_font → (k : ℕ) → read_header b ≡ Err k → downloading_font n b s ≡ refuse s k
    unfolding downloading_font on_store
    download_refused l k e = rw (r.is, le-leb n last_font l, e)

    -- a block that is taken goes into a store that has room
    pub download_taken : n ≤ last_font → read_header b ≡ Ok tt → downloading_font n b s ≡ putting_font n b s
    unfolding downloading_font putting_font on_store
    download_taken l e = rw (r.is, le-leb n last_font l, e)

  -- the same for a store that is known to be one
  module _ (w : Places) (r : Ready n 0 s w) (l : n ≤ last_font) (e : read_header b ≡ Ok tt) where
    lo : w.lo ≡ mark_record + total (below (key_of n 0) r.store.recs)
    lo = ap (λ (x : Places). x.lo) r.at

    hi : w.hi ≡ mark_record + total (below (key_of (n + 1) 0) r.store.recs)
    hi = ap (λ (x : Places). x.hi) r.at

    us : w.used ≡ mark_record + total r.store.recs
    us = ap (λ (x : Places). x.used) r.at

    -- the records with the font put in
    grows : total (replaced (key_of n 0) (key_of (n + 1) 0) (font n (kept_header b) ∷ []) r.store.recs) + (w.hi - w.lo) ≡ total r.store.recs + font_record
    unfolding total size_of
    grows = rw (lo, hi) (total_replaced (key_of n 0) (key_of (n + 1) 0) (font n (kept_header b) ∷ []) r.store.recs r.valid.order (omega arith))

    pub put_full : length s < w.used - (w.hi - w.lo) + font_record → putting_font n b s ≡ refuse s 10
    unfolding putting_font on_store
    put_full q =
        let y : r.store.size < used (put_font n (kept_header b) r.store) = omega (arith, grows, us, r.span, r.end, r.size) in
        let x : leb (used (put_font n (kept_header b) r.store)) r.store.size ≡ false = lt-leb _ _ y in
        rw (r.is, x)

    pub put_done : w.used - (w.hi - w.lo) + font_record ≤ length s
        → putting_font n b s ≡ record { answer = 0; bad = no_run; bytes = unmarked_for n (with_bytes (spliced_at w.lo (w.hi - w.lo) w.used font_record s) w.lo (font_head n no_characters ++ kept_header b)) }
    unfolding putting_font on_store run bytes_of total size_of
    put_done q =
        let st = r.store in
        let h = kept_header b in
        let k : length h ≡ header_bytes = kept_length b (header_long b e) in
        let fits : used (put_font n h st) ≤ st.size = omega (arith, grows, us, r.span, r.end, r.size) in
        let x : leb (used (put_font n h st)) st.size ≡ true = le-leb _ _ fits in
        let y : unmarked_for n (with_bytes (spliced_at w.lo (w.hi - w.lo) w.used font_record s) w.lo (font_head n no_characters ++ h)) ≡ encode (put_font n h st) =
        rw (lo, hi, us, r.bytes) (ap (λ (z : List ℕ). unmarked_for n (with_bytes (spliced_at (mark_record + total (below (key_of n 0) st.recs)) (mark_record + total (below (key_of (n + 1) 0) st.recs) - (mark_record + total (below (key_of n 0) st.recs))) (mark_record + total st.recs) font_record (encode st)) (mark_record + total (below (key_of n 0) st.recs)) z)) (sym (append-nil (font_head n no_characters ++ h)))
        ∙ bytes_font n (font n h ∷ []) st r.valid (new_font h l (kept_header_lem b e)) fits (font_run n h k l)) in
        rw (r.is, x, y)
