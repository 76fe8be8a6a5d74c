-- W-211: two calls on different fonts, in either order. Assumes nothing.
use Prim.Native.Nat.{ℕ, ◌+◌, ◌-◌, ◌<◌, ◌≤◌}
use mathlib.Core.Path.{◌≡◌, refl, sym, ap, ap₂, ◌∙◌, subst}
use mathlib.Core.Logic.{◌⊎◌, inl, inr, ⊎_elim}
use mathlib.Core.List.{List, [], ◌∷◌, ◌++◌}
use mathlib.Core.Bool.{Bool, true, false, cond}
use mathlib.Core.Option.{Option, none, some}
use native.Mathlib.Omega.{arith}
use lib.ListN.{take, drop, replicate}
use lib.Seq.{take_at, drop_at}
use lib.Dec.{eqb}
use borrow.Author.Tests.{eqb-true, eqb-false}
use Rattle.blocks.specs.Header.{kept_header}
use Rattle.blocks.specs.Character.{continuation_bytes}
use Rattle.blocks.specs.declared.character.Kind.TheVariants.{First, Continuation}
use Rattle.blocks.proofs.KeptFirst.{first_begins}
use Rattle.form.specs.Layout.{key_of, last_code, mark_record}
use Rattle.form.specs.Num.{◌and◌}
use Rattle.form.specs.Model.{Rec, font, character, number, place, key, Mark, shut, Store, tally_of, run, mark_bytes, encode, decode, total, is_unfinished, held_of, Valid}
use Rattle.form.specs.Order.{find_record, character_at}
use Rattle.form.specs.Records.{is_store, some_store}
use Rattle.form.specs.Checks.{on_store, on_font, on_character}
use Rattle.form.proofs.Codec.{mark_length, encode_parts, decode_encode}
use Rattle.form.proofs.Lookup.{find_other}
use Rattle.form.proofs.Numbers.{both_l, both_r}
use Rattle.store.specs.Answer.{After, refuse}
use Rattle.store.specs.Calls.{closed_for, closed_at, downloading_font, removing_font, removing_character, kept_of, data_of}
use Rattle.store.specs.Download.{names, mark_for, kept_of_data, downloading_character}
use Rattle.store.specs.BadRuns.{Sent, by_first, by_more}
use Rattle.store.proofs.Changed.{encode_changed}
use Rattle.store.proofs.Replaced.{Outside}
use Rattle.store.proofs.Again.{font_answers, character_answers, removed_answers, cut_answers}
use Rattle.marlinfold.specs.Calls.{Call, download_font, download_character, remove_font, remove_character, outcome, answer, leaves, ran}
use Rattle.marlinfold.proofs.BadRuns.{zeros_otherwise}
use Rattle.eitherorder.specs.EitherOrder.{Prepares, by_font_block, by_character_block, by_font_removal, by_character_removal, IsCharacterBlock, first_record_bytes, EitherOrder, ContinuationAlone}
use Rattle.eitherorder.proofs.Changes.{Change, changed, Inside, others_found, either_way, Closes, Sets, both_close, set_or_close}

-- ── what a call that is done changes
abbrev font_change : ℕ → List Rec → Change
font_change n new = record { lo = key_of n 0; hi = key_of (n + 1) 0; new = new; mark = closed_for n }

abbrev character_change : ℕ → ℕ → List Rec → (Mark → Mark) → Change
character_change n c new mark = record { lo = key_of n (c + 1); hi = key_of n (c + 1) + 1; new = new; mark = mark }

-- by the call and, for a continuation, by the character that it finds in the store
data Does (n : ℕ) (st : Store) : Call → Change → Type 0 where
  puts_font : (b : List ℕ) → Does n st (download_font n b) (font_change n (font n (kept_header b) ∷ []))
  puts_character :
      (c : ℕ) (b h d : List ℕ) → c ≤ last_code → Sent n c b st h d
      → Does n st (download_character n c b) (character_change n c (character n c h (kept_of_data h d) ∷ []) (λ m. mark_for n c h (kept_of_data h d)))
  cuts_font : Does n st (remove_font n) (font_change n [])
  cuts_character : (c : ℕ) → c ≤ last_code → Does n st (remove_character n c) (character_change n c [] (closed_at n c))

-- the buffer s was a store, and t is left
record Acts (n : ℕ) (x : Call) (s t : List ℕ) : Type 0 where
  store : Store
  is : decode s ≡ some store
  change : Change
  does : Does n store x change
  left : t ≡ encode (changed change store)
  valid : Valid (changed change store)

stored : (s : List ℕ) (f : Store → After) → (on_store (refuse s) (decode s) f).answer ≡ 0 → is_store s ≡ true
unfolding is_store on_store
stored s f e = go (decode s) e
  where
    go : (o : Option Store) → (on_store (refuse s) o f).answer ≡ 0 → some_store o ≡ true
    go none e = absurd (omega (arith, e))
    go (some st) e = refl

-- a refusal is not done
not_zero : {A : Type 0} (m : ℕ) → eqb m 0 ≡ false → m ≡ 0 → A
not_zero m q z = absurd (eqb-false m 0 q z)

acts : {n : ℕ} {x : Call} (s : List ℕ) → Prepares n x → (outcome x s).refusal ≡ 0 → Acts n x s (leaves x s)
unfolding downloading_font downloading_character removing_font removing_character on_font on_character
acts {n} s (by_font_block b) e =
    font_answers n b s (stored s _ e) (λ (a : After). a.answer ≡ 0 → Acts n (download_font n b) s a.bytes) (λ m q _. not_zero m q)
    (λ st q v w z. record { store = st; is = q; change = _; does = puts_font b; left = refl; valid = w }) e
acts {n} s (by_character_block c b) e =
    character_answers n c b s (stored s _ e) (λ (a : After). a.answer ≡ 0 → Acts n (download_character n c b) s a.bytes) (not_zero 2 refl, not_zero 3 refl, not_zero 4 refl, not_zero 5 refl, not_zero 6 refl, not_zero 7 refl, not_zero 9 refl)
    (λ row filled run x y. not_zero 8 refl)
    (λ st h d y v z. record { store = st; is = y.guest.is; change = _; does = puts_character c b h d y.guest.code y.sent; left = refl; valid = v })
    (λ st h d y w. not_zero 10 refl) e
acts {n} s by_font_removal e =
    removed_answers n s (stored s _ e) (λ (a : After). a.answer ≡ 0 → Acts n (remove_font n) s a.bytes) not_zero
    (λ st q v z. record { store = st; is = q; change = _; does = cuts_font; left = refl; valid = v }) e
acts {n} s (by_character_removal c) e =
    cut_answers n c s (stored s _ e) (λ (a : After). a.answer ≡ 0 → Acts n (remove_character n c) s a.bytes) not_zero
    (λ st q v l w z. record { store = st; is = q; change = _; does = cuts_character c l; left = refl; valid = w }) e

-- ── it keeps to its font
one_nowhere_else : (lo hi : ℕ) (r : Rec) → lo ≤ key r → key r < hi → (k : ℕ) → Outside lo hi k → find_record k (r ∷ []) ≡ none
unfolding find_record
one_nowhere_else lo hi r l h k o = find_other k r [] (λ e. ⊎_elim (λ (z : k < lo). omega arith) (λ (z : hi ≤ k). omega arith) o)

inside : {n : ℕ} {st : Store} {x : Call} {k : Change} → Does n st x k → Inside n k
unfolding number place find_record
inside {n} (puts_font b) =
    record { low = omega arith; order = omega arith; high = omega arith; nowhere_else = one_nowhere_else (key_of n 0) (key_of (n + 1) 0) (font n (kept_header b)) (omega arith) (omega arith) }
inside {n} (puts_character c b h d l y) =
    record {
      low = omega arith;
      order = omega arith;
      high = omega arith;
      nowhere_else = one_nowhere_else (key_of n (c + 1)) (key_of n (c + 1) + 1) (character n c h (kept_of_data h d)) (omega arith) (omega arith);
    }
inside {n} cuts_font = record { low = omega arith; order = omega arith; high = omega arith; nowhere_else = λ k o. refl }
inside {n} (cuts_character c l) = record { low = omega arith; order = omega arith; high = omega arith; nowhere_else = λ k o. refl }

-- ── and is the same in another store in which the font's own characters are found as before
abbrev SameFont : ℕ → Store → Store → Type 0
SameFont n st st' = (c : ℕ) → c ≤ last_code → character_at n c st.recs ≡ character_at n c st'.recs

sent_same : {n c : ℕ} {b h d h' d' : List ℕ} {st st' : Store} → character_at n c st.recs ≡ character_at n c st'.recs → Sent n c b st h d → Sent n c b st' h' d' → (h ≡ h') × (d ≡ d')
sent_same e (by_first p) (by_first q) = (refl, refl)
sent_same e (by_first p) (by_more r q m f) = let z : First ≡ Continuation = sym p ∙ q in let y : ◌≡◌ {A = ℕ} 0 1 = cc in absurd (omega arith)
sent_same e (by_more r p m f) (by_first q) = let z : First ≡ Continuation = sym q ∙ p in let y : ◌≡◌ {A = ℕ} 0 1 = cc in absurd (omega arith)
sent_same {n} {c} {b} e (by_more r p m f) (by_more q _ _ g) =
    let z : some r ≡ some q = sym f ∙ e ∙ g in
    let i : r ≡ q = cc in
    (ap kept_of i, ap (λ (x : Rec). data_of x ++ drop continuation_bytes b) i)

does_same : {n m : ℕ} {st st' : Store} {x : Call} {k k' : Change} → SameFont n st st' → Does n st x k → Does m st' x k' → k ≡ k'
does_same o (puts_font b) (puts_font _) = refl
does_same {n} o (puts_character c b h d l y) (puts_character _ _ h' d' _ y') =
    let e = sent_same (o c l) y y' in
    ap₂ (λ (u v : List ℕ). character_change n c (character n c u (kept_of_data u v) ∷ []) (λ m. mark_for n c u (kept_of_data u v))) e.0 e.1
does_same o cuts_font cuts_font = refl
does_same o (cuts_character c l) (cuts_character _ _) = refl

some_same : {st st' : Store} {o : Option Store} → o ≡ some st → o ≡ some st' → st ≡ st'
some_same e f = let z = sym e ∙ f in cc

-- the second call does after the first what it does alone on the store st
second : {n m : ℕ} {x y : Call} {s t t' u : List ℕ} {st : Store} → (n ≡ m → ⊥) → decode s ≡ some st → (a : Acts n x s t) (b : Acts m y s t') → Acts m y t u
    → (u ≡ encode (changed b.change (changed a.change st))) × Valid (changed b.change (changed a.change st))
second {n} {m} {st = st} o e a b c =
    let i : c.store ≡ changed a.change st = some_same c.is (ap decode a.left ∙ decode_encode _ a.valid) ∙ ap (changed a.change) (some_same a.is e) in
    let f : SameFont m c.store b.store =
    λ k l.
    ap (λ (z : Store). character_at m k z.recs) i ∙ others_found o (inside a.does) st.recs (key_of m (k + 1)) (omega arith) (omega arith)
    ∙ ap (λ (z : Store). character_at m k z.recs) (some_same e b.is) in
    let z : changed c.change c.store ≡ changed b.change (changed a.change st) = ap₂ changed (does_same f c.does b.does) i in
    (c.left ∙ ap encode z, subst Valid z c.valid)

-- ── the bytes
after_mark : (st : Store) → Valid st → drop first_record_bytes (encode st) ≡ run (tally_of st.recs) st.recs ++ replicate (st.size - (mark_record + total st.recs)) 0
after_mark st v = ap (drop first_record_bytes) (encode_changed st.mark st.recs st v.order) ∙ drop_at (mark_bytes st.mark) _ first_record_bytes (mark_length st.mark)

the_mark : (st : Store) → take first_record_bytes (encode st) ≡ mark_bytes st.mark
the_mark st = ap (take first_record_bytes) (encode_parts st) ∙ take_at (mark_bytes st.mark) _ first_record_bytes (mark_length st.mark)

-- ── the open mark: a character block sets it, the other calls leave it or close it
closed_by : (n : ℕ) (q : Mark) (t : Bool) → (t ≡ true → q.font_of ≡ n) → (cond t shut q ≡ q) ⊎ ((cond t shut q ≡ shut) × (q.font_of ≡ n))
closed_by n q true f = inr (refl, f refl)
closed_by n q false f = inl refl

font_closed : (n : ℕ) → Closes n (closed_for n)
unfolding closed_for
font_closed n q = closed_by n q (eqb q.on 1 and eqb q.font_of n) (λ e. eqb-true _ _ (both_r (eqb q.on 1) (eqb q.font_of n) e))

character_closed : (n c : ℕ) → Closes n (closed_at n c)
unfolding closed_at
character_closed n c q = closed_by n q (names n c q) (λ e. eqb-true _ _ (both_l (eqb q.font_of n) (eqb q.code_of c) (both_r (eqb q.on 1) (eqb q.font_of n and eqb q.code_of c) e)))

own_mark : (n c : ℕ) (h d : List ℕ) → (mark_for n c h d ≡ shut) ⊎ ((mark_for n c h d).font_of ≡ n)
unfolding mark_for
own_mark n c h d = go (is_unfinished (held_of h d))
  where
    go : (t : Bool) → (cond t (record { on = 1; font_of = n; code_of = c }) shut ≡ shut) ⊎ ((cond t (record { on = 1; font_of = n; code_of = c }) shut).font_of ≡ n)
    go true = inr refl
    go false = inl refl

marks : {n : ℕ} {st : Store} {x : Call} {k : Change} → Does n st x k → (IsCharacterBlock x × Sets n k.mark) ⊎ Closes n k.mark
marks {n} (puts_font b) = inr (font_closed n)
marks {n} (puts_character c b h d l y) = inl ((n, c, b, refl), (mark_for n c h (kept_of_data h d), own_mark n c h (kept_of_data h d), λ q. refl))
marks {n} cuts_font = inr (font_closed n)
marks {n} (cuts_character c l) = inr (character_closed n c)

mark_either : {n m : ℕ} {x y : Call} {f g : Mark → Mark} → (n ≡ m → ⊥) → (IsCharacterBlock x → IsCharacterBlock y → ⊥)
    → (IsCharacterBlock x × Sets n f) ⊎ Closes n f → (IsCharacterBlock y × Sets m g) ⊎ Closes m g → (q : Mark) → g (f q) ≡ f (g q)
mark_either o z (inl a) (inl b) q = absurd (z a.0 b.0)
mark_either o z (inl a) (inr b) q = set_or_close o a.1 b q
mark_either o z (inr a) (inl b) q = sym (set_or_close (λ e. o (sym e)) b.1 a q)
mark_either o z (inr a) (inr b) q = both_close a b q

-- ── the claim
same_answer : {n : ℕ} {x : Call} (s t : List ℕ) → Prepares n x → (outcome x s).refusal ≡ 0 → (outcome x t).refusal ≡ 0 → answer x s ≡ answer x t
same_answer s t (by_font_block b) e f = rw (e, f)
same_answer {n} s t (by_character_block c b) e f = rw (e, f, zeros_otherwise n c b s (λ q. absurd (omega (arith, e, q))), zeros_otherwise n c b t (λ q. absurd (omega (arith, f, q))))
same_answer s t by_font_removal e f = rw (e, f)
same_answer s t (by_character_removal c) e f = rw (e, f)

pub either_order : EitherOrder
unfolding ran
either_order n m x y P Q o s d e =
    let a = acts s P d.0 in
    let b = acts s Q e.0 in
    let f = second o a.is a b (acts (leaves x s) Q d.1) in
    let g = second (λ z. o (sym z)) a.is b a (acts (leaves y s) P e.1) in
    let st = changed b.change (changed a.change a.store) in
    let st' = changed a.change (changed b.change a.store) in
    let recs : st.recs ≡ st'.recs = either_way o (inside a.does) (inside b.does) a.store.recs f.1.order g.1.order in
    record {
      first_answer = same_answer s (leaves y s) P d.0 e.1;
      second_answer = same_answer (leaves x s) s Q d.1 e.0;
      records =
          ap (drop first_record_bytes) f.0 ∙ after_mark st f.1
          ∙ ap (λ (l : List Rec). run (tally_of l) l ++ replicate (st.size - (mark_record + total l)) 0) recs
          ∙ sym (ap (drop first_record_bytes) g.0 ∙ after_mark st' g.1);
      mark = λ p.
          ap (take first_record_bytes) f.0 ∙ the_mark st ∙ ap mark_bytes (mark_either o p (marks a.does) (marks b.does) a.store.mark)
          ∙ sym (ap (take first_record_bytes) g.0 ∙ the_mark st');
    }

-- ── a continuation
-- a character block leaves no character of another font open
no_other_mark : {m j k : ℕ} {b : List ℕ} {st : Store} {x : Change} → Does m st (download_character j k b) x → (n c : ℕ) → (n ≡ m → ⊥) → x.mark st.mark ≡ record { on = 1; font_of = n; code_of = c } → ⊥
no_other_mark {m} {k = k} (puts_character _ _ h d l y) n c o e =
    ⊎_elim
    (λ z. absurd (omega (arith, ap (λ (q : Mark). q.on) (sym z ∙ e))))
    (λ z. o (sym (ap (λ (q : Mark). q.font_of) e) ∙ z))
    (own_mark m k h (kept_of_data h d))

pub continuation_alone : ContinuationAlone
continuation_alone n m c k b d s o z e = go f.does
  where
    a : Acts m (download_character m k d) s (leaves (download_character m k d) s)
    a = acts s (by_character_block k d) e.0

    f : Acts n (download_character n c b) (leaves (download_character m k d) s) (leaves (download_character n c b) (leaves (download_character m k d) s))
    f = acts (leaves (download_character m k d) s) (by_character_block c b) e.1

    same : f.store ≡ changed a.change a.store
    same = some_same f.is (ap decode a.left ∙ decode_encode _ a.valid)

    sent : {h t : List ℕ} → Sent n c b f.store h t → ⊥
    sent (by_first p) = z (first_begins b p).1
    sent (by_more r p q g) = no_other_mark a.does n c o (sym (ap (λ (w : Store). w.mark) same) ∙ q)

    go : {j : ℕ} {x : Change} → Does j f.store (download_character n c b) x → ⊥
    go (puts_character _ _ h t l y) = sent y
