-- Demand 3. Assumes nothing.
use Prim.Native.Nat.{ℕ, ◌<◌, ◌≤◌}
use mathlib.Core.Path.{◌≡◌, refl, sym, ap, ap₂, ◌∙◌}
use mathlib.Core.Logic.{◌⊎◌, ◌↔◌, inl, inr, ⊎_elim}
use mathlib.Core.List.{List, [], ◌∷◌, ◌++◌}
use mathlib.Core.Bool.{Bool, true, false, cond}
use native.Mathlib.Omega.{arith}
use lib.ListN.{length}
use lib.Dec.{eqb, leb, ltb}
use borrow.Author.Tests.{ltb-true, ltb-false, lt-ltb, eqb-true, eqb-false, eq-eqb}
use Rattle.blocks.specs.Header.{kept_header}
use Rattle.form.specs.Checks.{checked}
use Rattle.store.specs.Answer.{refuse, done}
use Rattle.form.specs.Num.{◌and◌}
use mathlib.Core.Option.{Option, none, some}
use Rattle.form.specs.Model.{Store, decode}
use Rattle.form.specs.Records.{is_store, some_store, CountsTrue}
use Rattle.form.proofs.Counts.{counts_true}
use Rattle.form.specs.Fonts.{Font, fonts_of, fonts_below, fonts_above, fonts_with, fonts_after}
use Rattle.store.specs.Calls.{fresh, making_fresh, downloading_font, removing_font}
use Rattle.store.specs.Download.{downloading_character}
use Rattle.form.proofs.KeptFonts.{fonts_rise}
use Rattle.store.proofs.Again.{fresh_leaves, font_leaves, character_leaves, removed_leaves, cut_leaves}
use Rattle.choice.specs.Lists.{In, having}
use Rattle.choice.specs.Request.{in_range}
use Rattle.choice.specs.Steps.{choice}
use Rattle.choice.specs.Candidates.{Candidate, candidate, as_font, candidates}
use Rattle.choice.specs.Choosing.{choosing_among, choosing}
use Rattle.choice.specs.Right.{Keyed, Unused, Without, With, Lawful}
use Rattle.choice.specs.declared.Request.{Request}
use Rattle.choice.proofs.Least.{in_having, having_out}
use Rattle.choice.proofs.Members.{in_left, in_right, in_either, of_store, font_in_lem, candidate_in}
use Rattle.choice.proofs.Choice.{rising_keyed}
use Rattle.choice.proofs.Right.{claim}
use Rattle.stream.specs.Reading.{Download, font_block, character_block, making}
use Rattle.stream.specs.Downloads.{spelled_downloads, made_all}
use Rattle.stream.proofs.Readings.{downloads_made}
use Rattle.salvage.specs.Salvage.{salvaged_downloads}
use Rattle.salvage.proofs.Made.{salvaged_made}
use Rattle.marlinfold.specs.Calls.{Call, make_fresh, download_font, download_character, remove_font, remove_character, choose_font, tell_font, tell_character, draw_row, draw_picture, write_font, read_stream, choose_sheet, turn_picture, check_profile, write_profiled, choose_from_two, add_figures, salvage_stream, of_choice, outcome, leaves, ran}
use Rattle.marlinfold.specs.Book.{noted, book_of, call_of, calls_of, spelled_calls, salvaged_calls, SalvageSingly, single, singly, answers_to, book_after, StreamSingly}
use Rattle.marlinfold.specs.Demands.{Removes, by_removal, by_no_room, Answers, Chooses, Demand3, HeldCounts, CountsStay, FreshCounts}

-- ── a list of calls
ran_append : (a b : List Call) (s : List ℕ) → ran (a ++ b) s ≡ ran b (ran a s)
unfolding ran
ran_append [] b s = refl
ran_append (c ∷ a) b s = ran_append a b (leaves c s)

book_append : (a b : List Call) (s : List ℕ) (book : List Font) → book_of (a ++ b) (answers_to (a ++ b) s) book ≡ book_of b (answers_to b (ran a s)) (book_of a (answers_to a s) book)
unfolding ran answers_to book_of
book_append [] b s book = refl
book_append (c ∷ a) b s book = book_append a b (leaves c s) (noted c (outcome c s).refusal book)

made_calls : (ds : List Download) (s : List ℕ) → ran (calls_of ds) s ≡ made_all ds s
unfolding ran calls_of call_of made_all making
made_calls [] s = refl
made_calls (font_block n b ∷ ds) s = made_calls ds (downloading_font n b s).bytes
made_calls (character_block n c b ∷ ds) s = made_calls ds (downloading_character n c b s).bytes

-- reading a stream leaves what making its calls one by one leaves
pub stream_singly : StreamSingly
unfolding spelled_calls
stream_singly b s = downloads_made b s ∙ sym (made_calls (spelled_downloads b) s)

pub salvage_singly : SalvageSingly
unfolding salvaged_calls
salvage_singly b list s = salvaged_made b list s ∙ sym (made_calls (salvaged_downloads b (length list)) s)

single_ran : (c : Call) (s : List ℕ) → ran (single c) s ≡ leaves c s
unfolding ran single
single_ran make_fresh s = refl
single_ran (download_font n b) s = refl
single_ran (download_character n c b) s = refl
single_ran (remove_font n) s = refl
single_ran (remove_character n c) s = refl
single_ran (choose_font r) s = refl
single_ran (tell_font n out) s = refl
single_ran (tell_character n c out) s = refl
single_ran (draw_row n c row out) s = refl
single_ran (draw_picture n c out) s = refl
single_ran (write_font n out) s = refl
single_ran (read_stream b) s = sym (stream_singly b s)
single_ran (choose_sheet rs out) s = refl
single_ran (turn_picture t w h pic out) s = refl
single_ran (check_profile n) s = refl
single_ran (write_profiled n out) s = refl
single_ran (choose_from_two true t r) s = refl
single_ran (choose_from_two false t r) s = refl
single_ran (add_figures b) s = refl
single_ran (salvage_stream b list) s = sym (salvage_singly b list s)

pub singly_ran : (cs : List Call) (s : List ℕ) → ran (singly cs) s ≡ ran cs s
unfolding ran singly
singly_ran [] s = refl
singly_ran (c ∷ cs) s = ran_append (single c) (singly cs) s ∙ singly_ran cs (ran (single c) s) ∙ ap (ran cs) (single_ran c s)

-- ── a call keeps the book
-- a store whose fonts are the book
abbrev pub Kept : List ℕ → List Font → Type 0
Kept s book = (is_store s ≡ true) × (fonts_of s ≡ book)

fresh_stays : (s : List ℕ) → eqb (making_fresh s).answer 0 ≡ false → (making_fresh s).bytes ≡ s
unfolding making_fresh
fresh_stays s e = by (leb 12 (length s) and leb (length s) 65536) e
  where
    by : (t : Bool) → eqb (checked (refuse s) t 1 (done (fresh (length s)))).answer 0 ≡ false → (checked (refuse s) t 1 (done (fresh (length s)))).bytes ≡ s
    by true q = let z : ◌≡◌ {A = ℕ} 0 1 = cc in absurd (omega arith)
    by false q = refl

fresh_kept : (s : List ℕ) → is_store s ≡ true → Kept (making_fresh s).bytes (cond (eqb (making_fresh s).answer 0) [] (fonts_of s))
fresh_kept s is = go (eqb (making_fresh s).answer 0) refl
  where
    go : (t : Bool) → eqb (making_fresh s).answer 0 ≡ t → Kept (making_fresh s).bytes (cond t [] (fonts_of s))
    go true q = fresh_leaves s (eqb-true _ _ q)
    go false q = rw (fresh_stays s q) (is, refl)

-- the downloads of a stream
downloads_kept : (ds : List Download) (s : List ℕ) (book : List Font) → Kept s book → Kept (ran (calls_of ds) s) (book_of (calls_of ds) (answers_to (calls_of ds) s) book)
unfolding ran calls_of call_of answers_to book_of noted
downloads_kept [] s book k = k
downloads_kept (font_block n b ∷ ds) s book k =
    let h = font_leaves n b s k.0 in
    downloads_kept ds (downloading_font n b s).bytes _ (h.0, h.1 ∙ ap (noted (download_font n b) (downloading_font n b s).answer) k.1)
downloads_kept (character_block n c b ∷ ds) s book k =
    let h = character_leaves n c b s k.0 in
    downloads_kept ds (downloading_character n c b s).bytes _ (h.0, h.1 ∙ ap (noted (download_character n c b) (downloading_character n c b s).answer) k.1)

call_kept : (c : Call) (s : List ℕ) (book : List Font) → Kept s book → Kept (ran (single c) s) (book_of (single c) (answers_to (single c) s) book)
unfolding ran single answers_to book_of noted spelled_calls salvaged_calls
call_kept make_fresh s book k = let h = fresh_kept s k.0 in (h.0, h.1 ∙ ap (noted make_fresh (making_fresh s).answer) k.1)
call_kept (download_font n b) s book k = let h = font_leaves n b s k.0 in (h.0, h.1 ∙ ap (noted (download_font n b) (downloading_font n b s).answer) k.1)
call_kept (download_character n c b) s book k =
    let h = character_leaves n c b s k.0 in
    (h.0, h.1 ∙ ap (noted (download_character n c b) (downloading_character n c b s).answer) k.1)
call_kept (remove_font n) s book k = let h = removed_leaves n s k.0 in (h.0, h.1 ∙ ap (noted (remove_font n) (removing_font n s).answer) k.1)
call_kept (remove_character n c) s book k = let h = cut_leaves n c s k.0 in (h.0, h.1 ∙ k.1)
call_kept (choose_font r) s book k = k
call_kept (tell_font n out) s book k = k
call_kept (tell_character n c out) s book k = k
call_kept (draw_row n c row out) s book k = k
call_kept (draw_picture n c out) s book k = k
call_kept (write_font n out) s book k = k
call_kept (read_stream b) s book k = downloads_kept (spelled_downloads b) s book k
call_kept (choose_sheet rs out) s book k = k
call_kept (turn_picture t w h pic out) s book k = k
call_kept (check_profile n) s book k = k
call_kept (write_profiled n out) s book k = k
call_kept (choose_from_two true t r) s book k = k
call_kept (choose_from_two false t r) s book k = k
call_kept (add_figures b) s book k = k
call_kept (salvage_stream b list) s book k = downloads_kept (salvaged_downloads b (length list)) s book k

pub calls_kept : (cs : List Call) (s : List ℕ) (book : List Font) → Kept s book → Kept (ran (singly cs) s) (book_of (singly cs) (answers_to (singly cs) s) book)
unfolding ran singly answers_to book_of
calls_kept [] s book k = k
calls_kept (c ∷ cs) s book k =
    let h = calls_kept cs (ran (single c) s) (book_of (single c) (answers_to (single c) s) book) (call_kept c s book k) in
    rw (ran_append (single c) (singly cs) s, book_append (single c) (singly cs) s book) h

-- ── fonts that come or go
below_having : (n : ℕ) (l : List Font) → fonts_below n l ≡ having (λ f. ltb f.number n) l
unfolding fonts_below having
below_having n [] = refl
below_having n (f ∷ l) = ap (λ (a : List Font). cond (ltb f.number n) (f ∷ a) a) (below_having n l)

above_having : (n : ℕ) (l : List Font) → fonts_above n l ≡ having (λ f. ltb n f.number) l
unfolding fonts_above having
above_having n [] = refl
above_having n (f ∷ l) = ap (λ (a : List Font). cond (ltb n f.number) (f ∷ a) a) (above_having n l)

module _ (n : ℕ) (l : List Font) (x : Font) where
  below_out : In x (fonts_below n l) → In x l × (x.number < n)
  below_out m = let h = having_out (λ (f : Font). ltb f.number n) l x (rw (below_having n l) at m) in (h.0, ltb-true _ _ h.1)

  above_out : In x (fonts_above n l) → In x l × (n < x.number)
  above_out m = let h = having_out (λ (f : Font). ltb n f.number) l x (rw (above_having n l) at m) in (h.0, ltb-true _ _ h.1)

  side_in : (new : List Font) → In x l → (x.number ≡ n → ⊥) → In x (fonts_with n new l)
  unfolding fonts_with
  side_in new m o =
      ⊎_elim (λ (q : x.number < n). in_left x (fonts_below n l) (new ++ fonts_above n l) (rw (below_having n l) (in_having (λ (f : Font). ltb f.number n) l x m (lt-ltb _ _ q))))
      (λ (q : n < x.number). in_right x (fonts_below n l) (new ++ fonts_above n l) (in_right x new (fonts_above n l) (rw (above_having n l) (in_having (λ (f : Font). ltb n f.number) l x m (lt-ltb _ _ q)))))
      (apart x.number n o)
    where
      apart : (a b : ℕ) → (a ≡ b → ⊥) → (a < b) ⊎ (b < a)
      apart a b o = go (ltb a b) refl
        where
          go : (t : Bool) → ltb a b ≡ t → (a < b) ⊎ (b < a)
          go true q = inl (ltb-true a b q)
          go false q = inr (⊎_elim (λ (e : a ≡ b). absurd (o e)) (λ (e : b < a). e) (eq_or a b (ltb-false a b q)))
            where
              eq_or : (a b : ℕ) → b ≤ a → (a ≡ b) ⊎ (b < a)
              eq_or a b l = split (eqb a b) refl
                where
                  split : (t : Bool) → eqb a b ≡ t → (a ≡ b) ⊎ (b < a)
                  split true q = inl (eqb-true a b q)
                  split false q = let d = eqb-false a b q in inr (omega (arith, d))

  side_out : (new : List Font) → In x (fonts_with n new l) → (In x l × (x.number ≡ n → ⊥)) ⊎ In x new
  unfolding fonts_with
  side_out new m =
      ⊎_elim (λ p. let h = below_out p in inl (h.0, λ e. omega (arith, h.1)))
      (λ p. ⊎_elim (λ q. inr q) (λ q. let h = above_out q in inl (h.0, λ e. omega (arith, h.1))) (in_either x new (fonts_above n l) p))
      (in_either x (fonts_below n l) (new ++ fonts_above n l) m)

without : (n : ℕ) (l : List Font) (x : Font) → In x (fonts_with n [] l) ↔ (In x l × (x.number ≡ n → ⊥))
without n l x = (λ m. ⊎_elim (λ h. h) (λ h. absurd h) (side_out n l x [] m), λ h. side_in n l x [] h.0 h.1)

entered : (f : Font) (l : List Font) → ((x : Font) → In x l → x.number ≡ f.number → ⊥) → (x : Font) → In x (fonts_with f.number (f ∷ []) l) ↔ ((x ≡ f) ⊎ In x l)
entered f l o x = (
  λ m. ⊎_elim (λ h. inr h.0) (λ h. ⊎_elim (λ e. inl e) (λ z. absurd z) h) (side_out f.number l x (f ∷ []) m),
  λ h. ⊎_elim (λ e. new_in e) (λ m. side_in f.number l x (f ∷ []) m (o x m)) h,
)
  where
    new_in : x ≡ f → In x (fonts_with f.number (f ∷ []) l)
    new_in e = unfold fonts_with in in_right x (fonts_below f.number l) (f ∷ fonts_above f.number l) (inl e)

-- ── as the fonts of a store
module _ (p : Bool) where
  pub candidates_without : (n : ℕ) (l : List Font) → Without p n (candidates p l) (candidates p (fonts_with n [] l))
  candidates_without n l x = (
    λ m. let h = (without n l (as_font x)).0 (font_in_lem p (fonts_with n [] l) x m) in (candidate_in p l x (of_store p (fonts_with n [] l) x m) h.0, λ q e. h.1 e),
    λ h. candidate_in p (fonts_with n [] l) x (of_store p l x h.0) ((without n l (as_font x)).1 (font_in_lem p l x h.0, h.1 (of_store p l x h.0))),
  )

  pub candidates_with : (f : Font) (l : List Font) → Unused p f.number (candidates p l) → With (candidate p f) (candidates p l) (candidates p (fonts_with f.number (f ∷ []) l))
  candidates_with f l o x =
      let new = fonts_with f.number (f ∷ []) l in
      let w = entered f l (λ y m e. o (candidate p y) (candidate_in p l (candidate p y) refl m) refl e) (as_font x) in (
        λ m. ⊎_elim (λ e. inl (ap₂ candidate (of_store p new x m) e)) (λ k. inr (candidate_in p l x (of_store p new x m) k)) (w.0 (font_in_lem p new x m)),
        λ h. ⊎_elim (λ e. candidate_in p new x (ap (λ (y : Candidate). y.soft) e) (w.1 (inl (ap as_font e)))) (λ m. candidate_in p new x (of_store p l x m) (w.1 (inr (font_in_lem p l x m)))) h,
      )

-- ── what one more call leaves of a store and its book
-- the font that a block brings
abbrev pub font_by : ℕ → List ℕ → Font
font_by n b = record { number = n; kept = kept_header b }

module _ (s : List ℕ) (book : List Font) (k : Kept s book) where
  after_is : (k n : ℕ) (new : List Font) (a : ℕ) (book : List Font) → a ≡ k → fonts_after k n new a book ≡ fonts_with n new book
  after_is k n new a book e = rw (eq-eqb a k e)

  pub keyed : (p : Bool) → Keyed (candidates p book)
  keyed p = rising_keyed p 0 book (rw k.1 at (fonts_rise s))

  pub gone : (n : ℕ) (d : Call) → Removes s n d → Kept (leaves d s) (fonts_with n [] book)
  gone n d (by_removal e) =
      let h = removed_leaves n s k.0 in
      (h.0, h.1 ∙ after_is 0 n [] (removing_font n s).answer (fonts_of s) e ∙ ap (fonts_with n []) k.1)
  gone n d (by_no_room m b e) =
      let h = character_leaves n m b s k.0 in
      (h.0, h.1 ∙ after_is 10 n [] (downloading_character n m b s).answer (fonts_of s) e ∙ ap (fonts_with n []) k.1)

  pub came : (n : ℕ) (b : List ℕ) → (downloading_font n b s).answer ≡ 0 → Kept (downloading_font n b s).bytes (fonts_with n (font_by n b ∷ []) book)
  came n b e =
      let h = font_leaves n b s k.0 in
      (h.0, h.1 ∙ after_is 0 n (font_by n b ∷ []) (downloading_font n b s).answer (fonts_of s) e ∙ ap (fonts_with n (font_by n b ∷ [])) k.1)

-- ── the claim
module _ (r : Request) (i : in_range r ≡ true) where
  chooses_by : (s : List ℕ) (book : List Font) → Kept s book → Answers r s (choice r (candidates true book))
  unfolding choosing choosing_among
  chooses_by s book k = rw (k.0, i, k.1)

  chooses : (s : List ℕ) (book : List Font) → Kept s book → Chooses r s book
  chooses s book k =
      record {
        meant = λ x. (λ m. (of_store true book x m, font_in_lem true book x m), λ h. candidate_in true book x h.0 h.1);
        numbers = keyed s book k true;
        choice = choice r (candidates true book);
        chosen = chooses_by s book k;
        right = c.right;
        removed = λ n d w o. chooses_by (leaves d s) (fonts_with n [] book) (gone s book k n d w) ∙ ap (of_choice (leaves d s)) (c.removed true n (candidates true (fonts_with n [] book)) (candidates_without true n book) o);
        accepted = λ n b e o.
            let f = font_by n b in
            let t = (downloading_font n b s).bytes in
            let q = chooses_by t (fonts_with n (f ∷ []) book) (came s book k n b e) in
            ⊎_elim (λ p. inl (q ∙ ap (of_choice t) p)) (λ p. inr (q ∙ ap (of_choice t) p)) (c.added (candidate true f) (candidates true (fonts_with n (f ∷ []) book)) (candidates_with true f book o) o);
      }
    where
      c : Lawful r (candidates true book)
      c = claim r (candidates true book) (keyed s book k true)

pub demand3 : Demand3
demand3 s e calls r i =
    let t = (making_fresh s).bytes in
    let k = calls_kept calls t [] (fresh_leaves s e) in
    chooses r i (ran calls t) (book_after calls t) (rw (singly_ran calls t) at k)

-- ── W-205: a buffer that is a store holds true counts, and every call leaves one
held : (s : List ℕ) → is_store s ≡ true → CountsTrue s
held s i = go (decode s) refl (unfold is_store in i)
  where
    go : (o : Option Store) → decode s ≡ o → some_store o ≡ true → CountsTrue s
    go none q z = let y : ◌≡◌ {A = ℕ} 0 1 = cc in absurd (omega arith)
    go (some st) q z = counts_true s st q

pub held_counts : HeldCounts
held_counts c s = (λ i. rw (single_ran c s) at (call_kept c s (fonts_of s) (i, refl)).0, held (leaves c s))

pub counts_stay : CountsStay
counts_stay c s i = let k = (held_counts c s).0 i in (k, (held_counts c s).1 k)

pub fresh_counts : FreshCounts
fresh_counts s e = let k = (fresh_leaves s e).0 in (k, held (leaves make_fresh s) k)
