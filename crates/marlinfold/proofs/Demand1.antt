-- Demand 1. Assumes nothing.
use Prim.Native.Nat.{ℕ}
use Rattle.std.specs.Prelude.{Err}
use mathlib.Core.Path.{◌≡◌, refl, sym, ap, ◌∙◌, subst}
use mathlib.Core.Logic.{◌⊎◌, inl, inr}
use mathlib.Core.List.{List, [], ◌∷◌, ◌++◌}
use mathlib.Core.Bool.{Bool, true, false, cond}
use mathlib.Core.Option.{Option, none, some}
use lib.Dec.{leb, ltb}
use lib.ListN.{length, drop}
use Rattle.blocks.specs.Check.{Check, verdict}
use Rattle.blocks.specs.Header.{header_bytes, header_checks, read_header, kept_header}
use Rattle.blocks.specs.Character.{descriptor_bytes, width, height}
use Rattle.pictures.specs.Size.{row_size, picture_size}
use Rattle.form.specs.Layout.{least_store, most_store, last_font}
use Rattle.form.specs.Num.{◌and◌}
use Rattle.form.specs.Model.{Rec, Store, decode}
use Rattle.form.specs.Order.{font_at, character_at}
use Rattle.form.specs.Checks.{on_store, checked, taking, finding, numbered, on_font, on_character}
use Rattle.store.specs.Answer.{After, no_run, refuse, Telling, untold}
use Rattle.form.specs.Records.{is_store}
use Rattle.store.specs.Calls.{used, making_fresh, put_font, removing_font, downloading_font, removing_character, kept_of, onto, telling_font, telling_character}
use Rattle.store.specs.Download.{downloading_character}
use Rattle.store.proofs.Again.{character_answers}
use Rattle.form.proofs.Locates.{store_is}
use Rattle.store.specs.Drawing.{drawing_row, row_of, drawing_picture, picture_of}
use Rattle.choice.specs.Choosing.{choosing_from_two}
use Rattle.cartridge.specs.Cartridge.{record_answer, answering_from_two}
use Rattle.choice.specs.declared.Request.{Request}
use Rattle.choice.specs.Steps.{Choice}
use Rattle.choice.proofs.Refusing.{of_one, of_two}
use Rattle.sheet.specs.Sheet.{Sheet, most_requests, unanswered, choosing_sheet}
use Rattle.sheet.specs.declared.SheetAnswer.{SheetAnswer}
use Rattle.stream.specs.Reading.{none_counted, obey_all, Progress, Reading, end_answer, reading_of, reading}
use Rattle.stream.specs.Reading.{Ending}
use Rattle.std.specs.Prelude.{None, Some}
use Rattle.turning.specs.Turn.{turnable, turned_size, turned, unturned, turning_picture}
use Rattle.stream.specs.Written.{WriteOut, unwritten, written, writing_font}
use Rattle.collection.specs.Figures.{Adding, not_added, figures_taken, adding_figures}
use Rattle.profile.specs.Profile.{broken_in, unchecked, meets, checking_profile, writing_profiled}
use Rattle.profile.specs.declared.check.ProfileChecked.{ProfileChecked}
use Rattle.marlinfold.specs.Calls.{Call, make_fresh, download_font, download_character, remove_font, remove_character, choose_font, tell_font, tell_character, draw_row, draw_picture, write_font, read_stream, choose_sheet, turn_picture, check_profile, write_profiled, choose_from_two, add_figures, salvage_stream, output_of, Outcome, answered, of_change, of_download, of_choice, of_telling, of_drawing, of_writing, of_reading, of_turning, of_sheet, of_check, of_record, of_adding, of_salvage, outcome, ran}
use Rattle.marlinfold.specs.Demands.{listed, is_in, others, unchanged, carried_out, Refusal, as_listed, no_room, past_width, broken, no_place, Demand1}
use Rattle.salvage.specs.Salvage.{salvage_of, room_of, list_of, Salvaging, salvaging}
use Rattle.salvage.proofs.Onward.{salvage_not}
use Rattle.salvage.proofs.Made.{salvage_is}
use Rattle.marlinfold.specs.Book.{salvaged_calls}
use Rattle.marlinfold.proofs.BadRuns.{carried_first}
use Rattle.marlinfold.proofs.Demand3.{salvage_singly}

-- the claim of an outcome
abbrev Told : Call → List ℕ → Outcome → Type 0
Told c s o = (o.refusal ≡ 0) ⊎ Refusal s c o

-- how answers of A are outcomes of a call, where a refusal leaves all unchanged
record Way (c : Call) (s : List ℕ) (A : Type 0) : Type 0 where
  of : A → Outcome
  refuse : ℕ → A
  same : (k : ℕ) → of (refuse k) ≡ unchanged c k s

-- ── one law for each check
module _ {c : Call} {s : List ℕ} {A : Type 0} (w : Way c s A) where
  abbrev Is : A → Type 0
  Is a = Told c s (w.of a)

  abbrev May : ℕ → Type 0
  May k = is_in k (listed c) ≡ true

  refused : (k : ℕ) → May k → Is (w.refuse k)
  refused k m = inr (subst (Refusal s c) (sym (w.same k)) (as_listed c k m))

  by_store_lem : (o : Option Store) (f : Store → A) → May 1 → ((st : Store) → o ≡ some st → Is (f st)) → Is (on_store w.refuse o f)
  unfolding on_store
  by_store_lem none f m g = refused 1 m
  by_store_lem (some st) f m g = g st refl

  by_check : (t : Bool) (k : ℕ) (a : A) → May k → Is a → Is (checked w.refuse t k a)
  by_check true k a m p = p
  by_check false k a m p = refused k m

  by_find : (o : Option Rec) (k : ℕ) (f : Rec → A) → May k → ((r : Rec) → o ≡ some r → Is (f r)) → Is (finding w.refuse o k f)
  unfolding finding
  by_find none k f m g = refused k m
  by_find (some r) k f m g = g r refl

  -- each check of a list refuses with a listed number
  abbrev Listed : List Check → Type 0
  Listed [] = Unit {0}
  Listed (x ∷ xs) = May x.number × Listed xs

  by_verdict : (xs : List Check) (a : A) → Listed xs → Is a → Is (taking w.refuse (verdict xs) a)
  by_verdict [] a l p = p
  by_verdict (x ∷ xs) a l p = go x.holds (by_verdict xs a l.1 p)
    where
      go : (t : Bool) → Is (taking w.refuse (verdict xs) a) → Is (taking w.refuse (cond t (verdict xs) (Err x.number)) a)
      go true q = q
      go false q = refused x.number l.0

  -- a call on a kept font, or on a kept character
  by_font : (n : ℕ) (f : Store → Rec → A) → May 1 × May 2 × May 6 → ((st : Store) (r : Rec) → Is (f st r)) → Is (on_font w.refuse n s f)
  unfolding on_font
  by_font n f m g = by_store_lem (decode s) _ m.0 (λ st e. by_check (leb n last_font) 2 _ m.1 (by_find (font_at n st.recs) 6 (f st) m.2 (λ r q. g st r)))

  by_character : (n k : ℕ) (f : Store → Rec → A) → May 1 × May 2 × May 6 × May 7 → ((st : Store) (r : Rec) → Is (f st r)) → Is (on_character w.refuse n k s f)
  unfolding on_character
  by_character n k f m g = by_store_lem (decode s) _ m.0 (λ st e. by_check (numbered n k) 2 _ m.1
      (by_find (font_at n st.recs) 6 _ m.2 (λ r q. by_find (character_at n k st.recs) 7 (f st) m.3 (λ x p. g st x))))

-- ── the calls
abbrev Claim : Call → List ℕ → Type 0
Claim c s = Told c s (outcome c s)

makes_fresh : (s : List ℕ) → Claim make_fresh s
unfolding listed output_of others making_fresh
makes_fresh s =
    let w : Way make_fresh s After = record { of = of_change; refuse = refuse s; same = λ k. refl } in
    by_check w (leb least_store (length s) and leb (length s) most_store) 1 _ refl (inl refl)

downloads_font : (n : ℕ) (b s : List ℕ) → Claim (download_font n b) s
unfolding listed output_of others downloading_font read_header
downloads_font n b s =
    let w : Way (download_font n b) s After = record { of = of_change; refuse = refuse s; same = λ k. refl } in
    by_store_lem w (decode s) _ refl (λ st e. by_check w (leb n last_font) 2 _ refl (by_verdict w (header_checks b) _ (refl, (refl, (refl, tt)))
    (by_check w (leb (used (put_font n (kept_header b) st)) st.size) 10 _ refl (inl refl))))

removes_font : (n : ℕ) (s : List ℕ) → Claim (remove_font n) s
unfolding listed output_of others removing_font
removes_font n s =
    let w : Way (remove_font n) s After = record { of = of_change; refuse = refuse s; same = λ k. refl } in
    by_font w n _ (refl, refl, refl) (λ st r. inl refl)

removes_character : (n c : ℕ) (s : List ℕ) → Claim (remove_character n c) s
unfolding listed output_of others removing_character
removes_character n c s =
    let w : Way (remove_character n c) s After = record { of = of_change; refuse = refuse s; same = λ k. refl } in
    by_character w n c _ (refl, refl, refl, refl) (λ st r. inl refl)

-- choosing has its refusals as the cases of its answer
chooses : (r : Request) (s : List ℕ) → Claim (choose_font r) s
unfolding listed output_of others
chooses r s =
    of_one (λ (a : Choice). Told (choose_font r) s (of_choice s a)) (λ c. inl refl) (inr (as_listed (choose_font r) 1 refl)) (inr (as_listed (choose_font r) 2 refl))
    (inr (as_listed (choose_font r) 11 refl)) s r

tells_font : (n : ℕ) (out s : List ℕ) → Claim (tell_font n out) s
unfolding listed output_of others telling_font
tells_font n out s =
    let w : Way (tell_font n out) s Telling = record { of = of_telling s; refuse = untold out; same = λ k. refl } in
    by_font w n _ (refl, refl, refl) (λ st r. by_check w (leb header_bytes (length out)) 12 _ refl (inl refl))

tells_character : (n c : ℕ) (out s : List ℕ) → Claim (tell_character n c out) s
unfolding listed output_of others telling_character
tells_character n c out s =
    let w : Way (tell_character n c out) s Telling = record { of = of_telling s; refuse = untold out; same = λ k. refl } in
    by_character w n c _ (refl, refl, refl, refl) (λ st r. by_check w (leb descriptor_bytes (length out)) 12 _ refl (inl refl))

draws_row : (n c row : ℕ) (out s : List ℕ) → Claim (draw_row n c row out) s
unfolding listed output_of others drawing_row row_of
draws_row n c row out s =
    let w : Way (draw_row n c row out) s After = record { of = of_drawing s; refuse = refuse out; same = λ k. refl } in
    by_character w n c _ (refl, refl, refl, refl) (λ st r.
    by_check w (ltb row (height (kept_of r))) 2 _ refl (by_check w (leb (row_size (width (kept_of r))) (length out)) 12 _ refl (inl refl)))

draws_picture : (n c : ℕ) (out s : List ℕ) → Claim (draw_picture n c out) s
unfolding listed output_of others drawing_picture picture_of
draws_picture n c out s =
    let w : Way (draw_picture n c out) s After = record { of = of_drawing s; refuse = refuse out; same = λ k. refl } in
    by_character w n c _ (refl, refl, refl, refl) (λ st r. by_check w (leb (picture_size (width (kept_of r)) (height (kept_of r))) (length out)) 12 _ refl (inl refl))

writes_font : (n : ℕ) (out s : List ℕ) → Claim (write_font n out) s
unfolding listed output_of others writing_font
writes_font n out s =
    let w : Way (write_font n out) s WriteOut = record { of = of_writing s; refuse = unwritten out; same = λ k. refl } in
    by_font w n _ (refl, refl, refl) (λ st r. by_check w (leb (length (written n st.recs)) (length out)) 12 _ refl (inl refl))

checks_profile : (n : ℕ) (s : List ℕ) → Claim (check_profile n) s
unfolding listed output_of others checking_profile
checks_profile n s =
    let w : Way (check_profile n) s ProfileChecked = record { of = of_check s; refuse = unchecked; same = λ k. refl } in
    by_font w n _ (refl, refl, refl) (λ st r. inl refl)

writes_profiled : (n : ℕ) (out s : List ℕ) → Claim (write_profiled n out) s
unfolding listed output_of others writing_profiled
writes_profiled n out s =
    let w : Way (write_profiled n out) s WriteOut = record { of = of_writing s; refuse = unwritten out; same = λ k. refl } in
    by_font w n _ (refl, refl, refl) (λ st r.
    by_check w (meets (broken_in n (kept_of r) st.recs)) 14 _ refl (by_check w (leb (length (written n st.recs)) (length out)) 12 _ refl (inl refl)))

adds_figures : (b s : List ℕ) → Claim (add_figures b) s
unfolding listed output_of others adding_figures
adds_figures b s =
    let w : Way (add_figures b) s Adding = record { of = of_adding s; refuse = not_added b; same = λ k. refl } in
    by_store_lem w (decode s) _ refl (λ st e. by_check w (figures_taken b) 2 _ refl (inl refl))

chooses_sheet : (rs : List Request) (out : List SheetAnswer) (s : List ℕ) → Claim (choose_sheet rs out) s
unfolding listed output_of others choosing_sheet
chooses_sheet rs out s =
    let w : Way (choose_sheet rs out) s Sheet = record { of = of_sheet s; refuse = unanswered out; same = λ k. refl } in
    by_check w (is_store s) 1 _ refl (by_check w (leb (length rs) most_requests) 2 _ refl (by_check w (leb (length rs) (length out)) 12 _ refl (inl refl)))

turns_picture : (t w h : ℕ) (pic out s : List ℕ) → Claim (turn_picture t w h pic out) s
unfolding listed output_of others turning_picture
turns_picture t w h pic out s = go (turnable t w h (length pic)) (leb (turned_size t w h) (length out))
  where
    go : (a b : Bool) → Told (turn_picture t w h pic out) s
        (of_turning s (cond a (cond b (record { answer = 0; bytes = turned t w h pic ++ drop (turned_size t w h) out }) (unturned out 12)) (unturned out 2)))
    go true true = inl refl
    go true false = inr (as_listed (turn_picture t w h pic out) 12 refl)
    go false b = inr (as_listed (turn_picture t w h pic out) 2 refl)

-- ── a character block
module _ (n c : ℕ) (b s : List ℕ) where
  sent : Way (download_character n c b) s After
  unfolding output_of others
  sent = record { of = of_download; refuse = refuse s; same = λ k. refl }

  downloads_character : Claim (download_character n c b) s
  unfolding listed sent
  downloads_character = go (decode s) refl
    where
      go : (o : Option Store) → decode s ≡ o → Claim (download_character n c b) s
      go none e = let z : downloading_character n c b s ≡ refuse s 1 = unfold downloading_character on_store in rw e in rw z (refused sent 1 refl)
      go (some st) e =
          character_answers n c b s (store_is s st e) (Is sent)
          (refused sent 2 refl, refused sent 3 refl, refused sent 4 refl, refused sent 5 refl, refused sent 6 refl, refused sent 7 refl, refused sent 9 refl)
          (λ row filled run x r. inr (past_width n c b row filled run x r)) (λ st h d x v. inl refl) (λ st h d x v. inr (no_room n c b st _ x.guest.is x.guest.there))

-- ── two stores
chooses_from_two_lem : (p : Bool) (t : List ℕ) (r : Request) (s soft cartridge : List ℕ)
    → Told (choose_from_two p t r) s (of_record s (record_answer soft cartridge (choosing_from_two soft cartridge r)))
unfolding listed output_of others record_answer
chooses_from_two_lem p t r s soft cartridge =
    let c : Call = choose_from_two p t r in
    of_two (λ (a : Choice). Told c s (of_record s (record_answer soft cartridge a))) (λ a. inl refl) (inr (as_listed c 1 refl)) (inr (as_listed c 2 refl))
    (inr (as_listed c 11 refl)) soft cartridge r

-- ── a stream
reads : (b s : List ℕ) → Claim (read_stream b) s
unfolding listed output_of others reading is_store end_answer
reads b s =
    let w : Way (read_stream b) s Reading = record { of = of_reading; refuse = λ k. record { answer = record { refusal = k; done = 0; refused = 0; place = 0; bad = no_run }; bytes = s }; same = λ k. refl } in
    by_store_lem w (decode s) _ refl (λ st e. ends (carried_out b s).ending refl (is st e))
  where
    is : (st : Store) → decode s ≡ some st → is_store s ≡ true
    is st e = rw e

    ends : (o : Ending) → (carried_out b s).ending ≡ o → is_store s ≡ true → Told (read_stream b) s (of_reading (reading_of (carried_out b s)))
    ends None q i = rw q (inl refl)
    ends (Some at) q i =
        let x : Progress = (carried_out b s).progress in
        rw q (inr (subst (λ (ns : List ℕ). Refusal s (read_stream b) (answered 13 (x.counts.done ∷ x.counts.refused ∷ at ∷ ns) x.bytes [])) (sym (carried_first b s)) (broken b at i q)))

-- ── a salvage reading
salvages : (b list s : List ℕ) → Claim (salvage_stream b list) s
unfolding listed output_of others is_store
salvages b list s = go (decode s) refl
  where
    by_full : (t : Bool) → (salvage_of b (room_of (length list))).full ≡ t → is_store s ≡ true → (k n m : ℕ) (u : List ℕ) → ran (salvaged_calls b list) s ≡ u
        → Told (salvage_stream b list) s
        (of_salvage (record { refusal = cond t 12 0; stretches = cond t 0 k; done = cond t 0 n; refused = cond t 0 m; store = u; out = onto (list_of (salvage_of b (room_of (length list))).stretches) list }))
    by_full true q i k n m u e =
        inr (subst (λ (v : List ℕ). Refusal s (salvage_stream b list) (answered 12 (0 ∷ 0 ∷ 0 ∷ []) v (onto (list_of (salvage_of b (room_of (length list))).stretches) list))) e (no_place b list i q))
    by_full false q i k n m u e = inl refl

    go : (o : Option Store) → decode s ≡ o → Told (salvage_stream b list) s (of_salvage (salvaging b list s))
    go none d = rw (salvage_not b list s d) (inr (as_listed (salvage_stream b list) 1 refl))
    go (some st) d =
        let x = salvage_of b (room_of (length list)) in
        let p = obey_all x.actions (record { counts = none_counted; bad = no_run; bytes = s }) in
        rw (salvage_is b list s st d)
        (by_full x.full refl (rw d) (length x.stretches) p.counts.done p.counts.refused p.bytes (sym (salvage_singly b list s) ∙ ap (λ (r : Salvaging). r.store) (salvage_is b list s st d)))

-- ── the claim
pub demand1 : Demand1
unfolding answering_from_two
demand1 make_fresh s = makes_fresh s
demand1 (download_font n b) s = downloads_font n b s
demand1 (download_character n c b) s = downloads_character n c b s
demand1 (remove_font n) s = removes_font n s
demand1 (remove_character n c) s = removes_character n c s
demand1 (choose_font r) s = chooses r s
demand1 (tell_font n out) s = tells_font n out s
demand1 (tell_character n c out) s = tells_character n c out s
demand1 (draw_row n c row out) s = draws_row n c row out s
demand1 (draw_picture n c out) s = draws_picture n c out s
demand1 (write_font n out) s = writes_font n out s
demand1 (read_stream b) s = reads b s
demand1 (choose_sheet rs out) s = chooses_sheet rs out s
demand1 (turn_picture t w h pic out) s = turns_picture t w h pic out s
demand1 (check_profile n) s = checks_profile n s
demand1 (write_profiled n out) s = writes_profiled n out s
demand1 (choose_from_two true t r) s = chooses_from_two_lem true t r s s t
demand1 (choose_from_two false t r) s = chooses_from_two_lem false t r s t s
demand1 (add_figures b) s = adds_figures b s
demand1 (salvage_stream b list) s = salvages b list s
