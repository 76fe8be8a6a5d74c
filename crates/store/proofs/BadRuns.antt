-- W-209: what the answer to a download tells of a run past the width. Assumes nothing.
use mathlib.Core.Path.{◌≡◌, refl, sym, ap, ◌∙◌}
use mathlib.Core.Logic.{◌⊎◌, inl, inr}
use mathlib.Core.List.{List, [], ◌∷◌, ◌++◌}
use mathlib.Core.Bool.{Bool, true, false, cond}
use mathlib.Core.Option.{Option, none, some}
use Prim.Native.Nat.{ℕ, ◌<◌, ◌≤◌}
use native.Mathlib.Omega.{arith}
use lib.Dec.{eqb}
use lib.ListN.{length, take, drop}
use borrow.Author.Tests.{le-leb, eq-eqb, eqb-false}
use Rattle.blocks.specs.Header.{orientation, block_limit}
use Rattle.blocks.specs.Character.{descriptor_bytes, continuation_bytes, character_format, format, continued, class, width, height, character_length, kind_of, kept_first, is_kept_first}
use Rattle.blocks.specs.declared.character.Kind.TheVariants.{First, Continuation, Unknown}
use Rattle.blocks.proofs.KeptFirst.{first_long, first_begins, bare_kind, bare_kept, kept_read}
use Rattle.std.specs.Prelude.{Err}
use Rattle.pictures.specs.Runs.{past_width}
use Rattle.pictures.proofs.PastRuns.{past_dots}
use Rattle.pictures.proofs.KeptData.{past_judged}
use Rattle.form.specs.Model.{Rec, Store, encode, decode}
use Rattle.form.specs.Layout.{last_code, last_font}
use Rattle.form.specs.Num.{◌and◌}
use Rattle.form.specs.Checks.{on_store, finding}
use Rattle.form.proofs.RecordBytes.{held_kept}
use Rattle.form.specs.Records.{is_store}
use Rattle.form.proofs.Locates.{store_is}
use Rattle.form.proofs.Ready.{same_store}
use Rattle.store.specs.Answer.{After, no_run}
use Rattle.store.specs.Calls.{store_without_font, kept_of, data_of, downloading_font}
use Rattle.store.specs.Download.{put_character, refuse_run, judged_of, kept_of_data, downloading_character}
use Rattle.store.specs.BadRuns.{Sent, by_first, by_more, BadRunIn, ChecksPassed, without_data}
use Rattle.store.specs.declared.download.BadRun.{BadRun}
use Rattle.store.proofs.Again.{Brought, font_answers, character_answers}

-- a font block is not refused with 8 and tells no run
pub font_run : (n : ℕ) (b s : List ℕ) → ((downloading_font n b s).answer ≡ 8 → ⊥) × ((downloading_font n b s).bad ≡ no_run)
unfolding downloading_font on_store
font_run n b s = go (decode s) refl
  where
    go : (o : Option Store) → decode s ≡ o → ((downloading_font n b s).answer ≡ 8 → ⊥) × ((downloading_font n b s).bad ≡ no_run)
    go none e = rw e (eqb-false 1 8 refl, refl)
    go (some st) e =
        font_answers n b s (store_is s st e) (λ (a : After). (a.answer ≡ 8 → ⊥) × (a.bad ≡ no_run)) (λ m z q. (eqb-false m 8 q, refl)) (λ st e v w. (eqb-false 0 8 refl, refl))

-- the run of an 8 has a dot, and any other answer to a character block tells none
abbrev pub TellsRun : After → Type 0
TellsRun a = (a.answer ≡ 8 → 0 < a.bad.run) × ((a.answer ≡ 8 → ⊥) → a.bad ≡ no_run)

pub character_run : (n c : ℕ) (b s : List ℕ) → TellsRun (downloading_character n c b s)
unfolding downloading_character on_store
character_run n c b s = go (decode s) refl
  where
    plain : (k : ℕ) (t : List ℕ) → eqb k 8 ≡ false → TellsRun (record { answer = k; bad = no_run; bytes = t })
    plain k t f = ((λ e. absurd (eqb-false k 8 f e)), λ g. refl)

    go : (o : Option Store) → decode s ≡ o → TellsRun (downloading_character n c b s)
    go none e = rw e (plain 1 s refl)
    go (some st) e =
        character_answers n c b s (store_is s st e) TellsRun
        (plain 2 s refl, plain 3 s refl, plain 4 s refl, plain 5 s refl, plain 6 s refl, plain 7 s refl, plain 9 s refl)
        (λ row filled run x r. ((λ e. past_dots (width x.descriptor) 0 row filled run x.sent x.past), λ f. absurd (f refl)))
        (λ st h d y v. plain 0 (encode (put_character n c h (kept_of_data h d) st)) refl) (λ st h d y v. plain 10 (encode (store_without_font n st)) refl)

-- the numbers of an 8 are those of the row rules
abbrev pub Eight : ℕ → ℕ → List ℕ → List ℕ → BadRun → Type 0
Eight n c b s r = (x : BadRunIn n c b s r.row r.filled r.run) × ChecksPassed n c b x.store

pub bad_run_told : (n c : ℕ) (b s : List ℕ) → is_store s ≡ true
    → let a : After = downloading_character n c b s in
    a.answer ≡ 8 → Eight n c b s a.bad
bad_run_told n c b s is =
    let other : (k : ℕ) → eqb k 8 ≡ false → k ≡ 8 → Eight n c b s no_run = λ k f e. absurd (eqb-false k 8 f e) in
    character_answers n c b s is (λ (a : After). a.answer ≡ 8 → Eight n c b s a.bad)
    (other 2 refl, other 3 refl, other 4 refl, other 5 refl, other 6 refl, other 7 refl, other 9 refl)
    (λ row filled run x r e. (x, r)) (λ st h d y v. other 0 refl) (λ st h d y v. other 10 refl)

-- a block stands for one descriptor and one data
sent_one : (n c : ℕ) (b : List ℕ) (st : Store) (h d h' d' : List ℕ) → Sent n c b st h d → Sent n c b st h' d' → (h ≡ h') × (d ≡ d')
sent_one n c b st h d h' d' (by_first k) (by_first k') = (refl, refl)
sent_one n c b st h d h' d' (by_first k) (by_more r k' m e) = let z : ◌≡◌ {A = ℕ} 0 1 = cc in absurd (omega arith)
sent_one n c b st h d h' d' (by_more r k m e) (by_first k') = let z : ◌≡◌ {A = ℕ} 0 1 = cc in absurd (omega arith)
sent_one n c b st h d h' d' (by_more r k m e) (by_more r' k' m' e') = let q : r ≡ r' = cc in (ap kept_of q, ap (λ (x : Rec). data_of x ++ drop continuation_bytes b) q)

bad_judged : (n c : ℕ) (b s : List ℕ) (row filled run : ℕ) (x : BadRunIn n c b s row filled run) → judged_of x.descriptor x.sent ≡ Err (past_width row filled run)
bad_judged n c b s row filled run x =
    past_judged (class x.descriptor) (width x.descriptor) (height x.descriptor) x.sent row filled run (λ z. omega (arith, z, x.by_runs)) x.past x.below

-- what is brought has no run past the width
brought_fits : (n c : ℕ) (b s h d : List ℕ) (st : Store) (row filled run : ℕ) → BadRunIn n c b s row filled run → Brought n c b s h d st → ⊥
brought_fits n c b s h d st row filled run x y =
    let q : x.store ≡ st = same_store s x.is y.guest.is in
    let e = sent_one n c b st x.descriptor x.sent h d (rw q at x.stands) y.sent in
    y.fits row filled run (rw (← e.0, ← e.1) (bad_judged n c b s row filled run x))

-- such a block is neither taken nor answered 10
pub bad_run_refused : (n c : ℕ) (b s : List ℕ) (row filled run : ℕ) → BadRunIn n c b s row filled run
    → let k : ℕ = (downloading_character n c b s).answer in
    (k ≡ 0 → ⊥) × (k ≡ 10 → ⊥)
bad_run_refused n c b s row filled run x =
    let other : (k : ℕ) → eqb k 0 ≡ false → eqb k 10 ≡ false → (k ≡ 0 → ⊥) × (k ≡ 10 → ⊥) = λ k f g. (eqb-false k 0 f, eqb-false k 10 g) in
    character_answers n c b s (store_is s x.store x.is) (λ (a : After). (a.answer ≡ 0 → ⊥) × (a.answer ≡ 10 → ⊥))
    (other 2 refl refl, other 3 refl refl, other 4 refl refl, other 5 refl refl, other 6 refl refl, other 7 refl refl, other 9 refl refl) (λ row' filled' run' y z. other 8 refl refl)
    (λ st h d y v. absurd (brought_fits n c b s h d st row filled run x y)) (λ st h d y v. absurd (brought_fits n c b s h d st row filled run x y))

-- ── and it is answered 8, where the block without its data is taken or answered 10
-- what such an answer tells
accepted_brings : (n c : ℕ) (b s : List ℕ) → is_store s ≡ true → (R : Type 0) → ((st : Store) (h d : List ℕ) → Brought n c b s h d st → R)
    → let k : ℕ = (downloading_character n c b s).answer in
    (k ≡ 0) ⊎ (k ≡ 10) → R
accepted_brings n c b s is R f =
    let other : (k : ℕ) → eqb k 0 ≡ false → eqb k 10 ≡ false → (k ≡ 0) ⊎ (k ≡ 10) → R = λ k p q. either (eqb-false k 0 p) (eqb-false k 10 q) in
    character_answers n c b s is (λ (a : After). (a.answer ≡ 0) ⊎ (a.answer ≡ 10) → R)
    (other 2 refl refl, other 3 refl refl, other 4 refl refl, other 5 refl refl, other 6 refl refl, other 7 refl refl, other 9 refl refl) (λ row filled run y z. other 8 refl refl)
    (λ st h d y v z. f st h d y) (λ st h d y v z. f st h d y)
  where
    either : {A B : Type 0} → (A → ⊥) → (B → ⊥) → A ⊎ B → R
    either p q (inl x) = absurd (p x)
    either p q (inr x) = absurd (q x)

-- a second byte that is not 0 is there
second_there : (b : List ℕ) → (continued b ≡ 0 → ⊥) → continuation_bytes ≤ length b
second_there [] f = absurd (f refl)
second_there (x ∷ []) f = absurd (f refl)
second_there (x ∷ (y ∷ b)) f = omega arith

continued_not : (b : List ℕ) → kind_of b ≡ Continuation → continued b ≡ 0 → ⊥
unfolding kind_of
continued_not b k z = go (eqb (format b) character_format) (rw (eq-eqb (continued b) 0 z) at k)
  where
    go : (t : Bool) → cond t First Unknown ≡ Continuation → ⊥
    go true e = let v : ◌≡◌ {A = ℕ} 0 1 = cc in absurd (omega arith)
    go false e = let v : ◌≡◌ {A = ℕ} 0 1 = cc in absurd (omega arith)

module _ (n c : ℕ) (b s : List ℕ) (st : Store) where
  -- a first block's descriptor alone keeps what the block keeps
  bare_sent : (h d : List ℕ) → Sent n c (take descriptor_bytes b) st h d → kind_of b ≡ First → h ≡ kept_first b
  bare_sent h d (by_first k') k = bare_kept b
  bare_sent h d (by_more r k' m e) k = let z : First ≡ Continuation = sym (bare_kind b ∙ k) ∙ k' in let v : ◌≡◌ {A = ℕ} 0 1 = cc in absurd (omega arith)

  module _ (h d : List ℕ) (y : Brought n c (without_data b) s h d st) (short : length b ≤ block_limit) where
    first_kept : kind_of b ≡ First → is_kept_first (kept_first b) (orientation y.guest.header) ≡ true
    first_kept k =
        let w : without_data b ≡ take descriptor_bytes b = rw (eq-eqb (continued b) 0 (first_begins b k).1) in
        let e : h ≡ kept_first b = bare_sent h d (rw w at y.sent) k in
        rw (← e) (held_kept (orientation y.guest.header) h (kept_of_data h d) y.guest.ok).0

    told_8 : (h' d' : List ℕ) (row filled run : ℕ) → Sent n c b st h' d' → judged_of h' d' ≡ Err (past_width row filled run) → downloading_character n c b s ≡ refuse_run s row filled run
    unfolding downloading_character on_store finding character_length ◌and◌
    told_8 h' d' row filled run (by_first k) j =
        let g = y.guest in
        let r = kept_read b (orientation g.header) (first_kept k) in
        let l : continuation_bytes ≤ length b = omega (arith, first_long b (orientation g.header) r) in
        rw (g.is, le-leb n last_font g.low, le-leb c last_code g.code, le-leb continuation_bytes (length b) l, le-leb (length b) block_limit short, g.there, k, r, j)
    told_8 h' d' row filled run (by_more r k m e) j =
        let g = y.guest in
        let l = second_there b (continued_not b k) in
        rw (g.is, le-leb n last_font g.low, le-leb c last_code g.code, le-leb continuation_bytes (length b) l, le-leb (length b) block_limit short, g.there, k, m, eq-eqb n n refl, eq-eqb c c refl, e, j)

pub bad_run_exactly : (n c : ℕ) (b s : List ℕ) (row filled run : ℕ) → BadRunIn n c b s row filled run → length b ≤ block_limit
    → let k : ℕ = (downloading_character n c (without_data b) s).answer in
    (k ≡ 0) ⊎ (k ≡ 10) → downloading_character n c b s ≡ refuse_run s row filled run
bad_run_exactly n c b s row filled run x short =
    accepted_brings n c (without_data b) s (store_is s x.store x.is) (downloading_character n c b s ≡ refuse_run s row filled run) (λ st h d y.
    let q : x.store ≡ st = same_store s x.is y.guest.is in
    told_8 n c b s st h d y short x.descriptor x.sent row filled run (rw q at x.stands) (bad_judged n c b s row filled run x))
