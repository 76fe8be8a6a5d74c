-- One pass over the records of a font finds what the search over rules and codes finds. Assumes nothing.
use Prim.Native.Nat.{ℕ, zero, suc, ◌+◌, ◌≤◌, ◌<◌}
use mathlib.Core.Path.{◌≡◌, refl, sym, ap, ◌∙◌, subst}
use mathlib.Core.Logic.{◌⊎◌, inl, inr}
use mathlib.Core.List.{List, [], ◌∷◌}
use mathlib.Core.Bool.{Bool, true, false, cond, not, ◌||◌, ◌&&◌}
use mathlib.Core.Option.{Option, none, some}
use native.Mathlib.Omega.{arith}
use borrow.Author.Tests.{eqb-true, eqb-false, ltb-true, ltb-false, leb-true, leb-false, le-leb, lt-leb}
use lib.Dec.{eqb, ltb, leb}
use Rattle.blocks.specs.Header.{font_type, spacing}
use Rattle.form.specs.Layout.{last_code, key_of}
use Rattle.form.specs.Model.{Rec, font, character, Owner, no_owner, owner_after, sorted, number, place, key, held_of}
use Rattle.form.specs.Order.{keep, find_record}
use Rattle.form.specs.Records.{records_of}
use Rattle.store.specs.Calls.{kept_of}
use Rattle.form.proofs.RecordBytes.{allowed_char}
use Rattle.form.proofs.Codec.{Sorted, sorted_inv}
use Rattle.form.proofs.Lookup.{find_here, find_other, find_behind}
use Rattle.form.proofs.FontRecords.{of_in, of_out}
use Rattle.stream.proofs.RoundTrip.{kept_of_lem}
use Rattle.profile.specs.Profile.{rule_at, first_required, last_required, is_whole, complete, left_inside, right_inside, height_inside, advances_by_pitch, of_each, character_rules, rules, has_character, none_broken, first_broken, broken_in}
use Rattle.profile.specs.Pass.{FoundSoFar, broken_by, next_wanted, behind_character, behind_record, passed_over, nothing_found, found_broken, broken_with, broken_among}
use Rattle.profile.proofs.Search.{rule_holds, rule_breaks, rules_hold, rules_break}

-- ── the rules of one character
abbrev Test : ℕ → List ℕ → ℕ → Option Rec → Bool
Test j h c o = rule_at character_rules j h c o

none_holds : (j : ℕ) (h : List ℕ) (c : ℕ) → Test j h c none ≡ true
none_holds zero h c = refl
none_holds (suc zero) h c = refl
none_holds (suc (suc zero)) h c = refl
none_holds (suc (suc (suc zero))) h c = refl
none_holds (suc (suc (suc (suc j)))) h c = refl

-- the rule that `broken_by` names is broken, and those before it are not
record By (h : List ℕ) (r : Rec) : Type 0 where
  j : ℕ
  is : broken_by h (kept_of r) ≡ 4 + j
  breaks : j < 4 → (c : ℕ) → Test j h c (some r) ≡ false
  before : (i : ℕ) → i < j → (c : ℕ) → Test i h c (some r) ≡ true

module _ (h : List ℕ) (r : Rec) where
  fails : (t : List ℕ → List ℕ → Bool) → t h (kept_of r) ≡ false → (c : ℕ) → of_each t h c (some r) ≡ false
  fails t e c = e

  tests : (j : ℕ) → (0 < j → left_inside h (kept_of r) ≡ true) → (1 < j → right_inside h (kept_of r) ≡ true) → (2 < j → height_inside h (kept_of r) ≡ true) → (3 < j → advances_by_pitch h (kept_of r) ≡ true)
      → (i : ℕ) → i < j → (c : ℕ) → Test i h c (some r) ≡ true
  tests j a b d e zero l c = a l
  tests j a b d e (suc zero) l c = b l
  tests j a b d e (suc (suc zero)) l c = d l
  tests j a b d e (suc (suc (suc zero))) l c = e l
  tests j a b d e (suc (suc (suc (suc i)))) l c = refl

  by : By h r
  unfolding broken_by
  by = go (left_inside h (kept_of r)) refl (right_inside h (kept_of r)) refl (height_inside h (kept_of r)) refl (advances_by_pitch h (kept_of r)) refl
    where
      go : (a : Bool) → left_inside h (kept_of r) ≡ a → (b : Bool) → right_inside h (kept_of r) ≡ b → (d : Bool) → height_inside h (kept_of r) ≡ d → (e : Bool) → advances_by_pitch h (kept_of r) ≡ e → By h r
      go false p b q d s e t = unfold broken_by in record { j = 0; is = rw p; breaks = λ l. fails left_inside p; before = λ i l c. absurd (omega arith) }
      go true p false q d s e t = unfold broken_by in record { j = 1; is = rw (p, q); breaks = λ l. fails right_inside q; before = tests 1 (λ l. p) (λ l. absurd (omega arith)) (λ l. absurd (omega arith)) (λ l. absurd (omega arith)) }
      go true p true q false s e t = unfold broken_by in record { j = 2; is = rw (p, q, s); breaks = λ l. fails height_inside s; before = tests 2 (λ l. p) (λ l. q) (λ l. absurd (omega arith)) (λ l. absurd (omega arith)) }
      go true p true q true s false t = unfold broken_by in record { j = 3; is = rw (p, q, s, t); breaks = λ l. fails advances_by_pitch t; before = tests 3 (λ l. p) (λ l. q) (λ l. s) (λ l. absurd (omega arith)) }
      go true p true q true s true t = unfold broken_by in record { j = 4; is = rw (p, q, s, t); breaks = λ l c. absurd (omega arith); before = tests 4 (λ l. p) (λ l. q) (λ l. s) (λ l. t) }

module _ (n : ℕ) (h : List ℕ) where
  -- the character of code c
  abbrev at : List Rec → ℕ → Option Rec
  at rs c = find_record (key_of n (c + 1)) rs

  -- ── what a pass over records finds, from findings p on
  record First (rs : List Rec) (m i e : ℕ) : Type 0 where
    j : ℕ
    is : i ≡ 4 + j
    less : i < m
    last : e ≤ last_code
    breaks : Test j h e (at rs e) ≡ false
    before : (c : ℕ) → c < e → Test j h c (at rs c) ≡ true

  record Finds (rs : List Rec) (p q : FoundSoFar) : Type 0 where
    low : q.rule ≤ p.rule
    holds : (j : ℕ) → 4 + j < q.rule → (c : ℕ) → c ≤ last_code → Test j h c (at rs c) ≡ true
    first : ((q.rule ≡ p.rule) × (q.code ≡ p.code)) ⊎ First rs p.rule q.rule q.code
    least : p.wanted ≤ q.wanted
    held : (c : ℕ) → p.wanted ≤ c → c < q.wanted → c ≤ last_code → complete (at rs c) ≡ true
    lacks : q.wanted ≤ last_required → complete (at rs q.wanted) ≡ false

  finds_none : (p : FoundSoFar) → Finds [] p p
  unfolding find_record
  finds_none p =
      record {
        low = omega arith;
        holds = λ j l c m. none_holds j h c;
        first = inl (refl, refl);
        least = omega arith;
        held = λ c a b m. absurd (omega arith);
        lacks = λ m. refl;
      }

  -- a record that is no character of the font changes nothing
  same_first : (rs ts : List Rec) → ((c : ℕ) → c ≤ last_code → at ts c ≡ at rs c) → (m i e : ℕ) → First rs m i e → First ts m i e
  same_first rs ts s m i e f =
      record {
        j = f.j;
        is = f.is;
        less = f.less;
        last = f.last;
        breaks = rw (s e f.last) f.breaks;
        before = λ c l. rw (s c (omega (arith, l, f.last))) (f.before c l);
      }

  same_finds : (rs ts : List Rec) → ((c : ℕ) → c ≤ last_code → at ts c ≡ at rs c) → (p q : FoundSoFar) → Finds rs p q → Finds ts p q
  same_finds rs ts s p q f =
      record {
        low = f.low;
        holds = λ j l c m. rw (s c m) (f.holds j l c m);
        first = by_first f.first;
        least = f.least;
        held = λ c a b m. rw (s c m) (f.held c a b m);
        lacks = λ m. rw (s q.wanted (omega arith)) (f.lacks m);
      }
    where
      by_first : ((q.rule ≡ p.rule) × (q.code ≡ p.code)) ⊎ First rs p.rule q.rule q.code → ((q.rule ≡ p.rule) × (q.code ≡ p.code)) ⊎ First ts p.rule q.rule q.code
      by_first (inl x) = inl x
      by_first (inr x) = inr (same_first rs ts s _ _ _ x)

  -- ── a character of the font
  module _ (b : ℕ) (k d : List ℕ) (rs : List Rec) (low : b ≤ last_code) (behind : (c : ℕ) → c ≤ b → at rs c ≡ none) where
    abbrev met : Rec
    met = character n b k d

    here : (c : ℕ) → b ≡ c → at (met ∷ rs) c ≡ some met
    unfolding number place
    here c e = find_here (key_of n (c + 1)) met rs (omega (arith, e))

    other : (c : ℕ) → (b ≡ c → ⊥) → at (met ∷ rs) c ≡ at rs c
    unfolding number place
    other c e = find_other (key_of n (c + 1)) met rs (λ x. e (omega (arith, x)))

    module _ (p p' q : FoundSoFar) (f : Finds rs p' q) where
      -- rules that the character keeps
      more_holds : p'.rule ≤ broken_by h k → (j : ℕ) → 4 + j < q.rule → (c : ℕ) → c ≤ last_code → Test j h c (at (met ∷ rs) c) ≡ true
      more_holds l j m c z = go (eqb b c) refl
        where
          go : (t : Bool) → eqb b c ≡ t → Test j h c (at (met ∷ rs) c) ≡ true
          go true e = let y = by h met in rw (here c (eqb-true b c e)) (y.before j (omega (arith, y.is, f.low)) c)
          go false e = rw (other c (eqb-false b c e)) (f.holds j m c z)

      more_first : p'.rule ≤ broken_by h k → p'.rule ≤ p.rule → First rs p'.rule q.rule q.code → First (met ∷ rs) p.rule q.rule q.code
      more_first l m x = record { j = x.j; is = x.is; less = omega (arith, x.less); last = x.last; breaks = fails (eqb b q.code) refl; before = λ c y. holds c y (eqb b c) refl }
        where
          fails : (t : Bool) → eqb b q.code ≡ t → Test x.j h q.code (at (met ∷ rs) q.code) ≡ false
          fails true e =
              let i = eqb-true b q.code e in
              let y : Test x.j h q.code (at rs q.code) ≡ true = rw (behind q.code (omega (arith, i))) (none_holds x.j h q.code) in
              let z : true ≡ false = sym y ∙ x.breaks in
              let w : ◌≡◌ {A = ℕ} 0 1 = cc in absurd (omega arith)
          fails false e = rw (other q.code (eqb-false b q.code e)) x.breaks

          holds : (c : ℕ) → c < q.code → (t : Bool) → eqb b c ≡ t → Test x.j h c (at (met ∷ rs) c) ≡ true
          holds c y true e = let z = by h met in rw (here c (eqb-true b c e)) (z.before x.j (omega (arith, z.is, x.is, x.less)) c)
          holds c y false e = rw (other c (eqb-false b c e)) (x.before c y)

    -- it is the first to break its rule
    new_first : (m : ℕ) → m ≤ 8 → broken_by h k < m → First (met ∷ rs) m (broken_by h k) b
    new_first m l x =
        let y = by h met in
        record {
          j = y.j;
          is = y.is;
          less = x;
          last = low;
          breaks = rw (here b refl) (y.breaks (omega (arith, y.is)) b);
          before = λ c z. rw (other c (λ e. omega arith), behind c (omega arith)) (none_holds y.j h c);
        }

    -- ── the wanted code
    abbrev Wants : ℕ → ℕ → Type 0
    Wants w v = (w ≤ v) × ((c : ℕ) → w ≤ c → c < v → c ≤ last_code → complete (at (met ∷ rs) c) ≡ true) × (v ≤ last_required → complete (at (met ∷ rs) v) ≡ false)

    not_held : (c : ℕ) → c ≤ b → complete (at rs c) ≡ true → ⊥
    not_held c l e = let x : complete (at rs c) ≡ false = rw (behind c l) in let y : true ≡ false = sym e ∙ x in let z : ◌≡◌ {A = ℕ} 0 1 = cc in omega arith

    more_wants : (w w' v : ℕ) → next_wanted w b (is_whole (held_of k d)) ≡ w' → w' ≤ v → ((c : ℕ) → w' ≤ c → c < v → c ≤ last_code → complete (at rs c) ≡ true) → (v ≤ last_required → complete (at rs v) ≡ false) → Wants w v
    unfolding next_wanted
    more_wants w w' v i l f g = go (eqb b w) refl (ltb last_required b) refl (is_whole (held_of k d)) refl i
      where
        found : (c : ℕ) → w' ≤ c → c < v → c ≤ last_code → (t : Bool) → eqb b c ≡ t → complete (at (met ∷ rs) c) ≡ true
        found c x y m true e = absurd (not_held c (omega (arith, eqb-true b c e)) (f c x y m))
        found c x y m false e = rw (other c (eqb-false b c e)) (f c x y m)

        -- the wanted code is this one, and complete
        counts : b ≡ w → is_whole (held_of k d) ≡ true → b + 1 ≡ w' → (c : ℕ) → w ≤ c → c < v → c ≤ last_code → (t : Bool) → eqb b c ≡ t → complete (at (met ∷ rs) c) ≡ true
        counts e q i c x y m true s = rw (here c (eqb-true b c s)) q
        counts e q i c x y m false s = let z = eqb-false b c s in found c (omega arith) y m false s

        -- it is this one and not complete: then it stays wanted
        stays : b ≡ w → w ≡ w' → v ≡ w
        stays e i = let z : w < v → ⊥ = λ x. not_held w (omega arith) (f w (omega arith) x (omega arith)) in go' (ltb w v) refl z
          where
            go' : (t : Bool) → ltb w v ≡ t → (w < v → ⊥) → v ≡ w
            go' true x z = absurd (z (ltb-true w v x))
            go' false x z = let y = ltb-false w v x in omega arith

        -- it is another: this code is not where the pass ends
        apart : (b ≡ w → ⊥) → w ≡ w' → v ≤ last_code → b ≡ v → ⊥
        apart e i m x = not_held w (omega arith) (f w (omega arith) (omega arith) (omega arith))

        go : (t : Bool) → eqb b w ≡ t → (u : Bool) → ltb last_required b ≡ u → (x : Bool) → is_whole (held_of k d) ≡ x → cond (not t || u) w (cond x (b + 1) w) ≡ w' → Wants w v
        go true e true r x q i =
            let y = eqb-true b w e in
            let z = ltb-true last_required b r in
            (omega arith, (λ c x z m. found c (omega arith) z m (eqb b c) refl), λ m. absurd (omega arith))
        go true e false r true q i =
            let y = eqb-true b w e in
            (omega arith, (λ c x z m. counts y q i c x z m (eqb b c) refl), λ m. rw (other v (λ x. omega arith)) (g m))
        go true e false r false q i =
            let y = eqb-true b w e in
            let z = stays y i in
            (omega arith, (λ c x z' m. absurd (omega arith)), λ m. rw (here v (omega arith)) q)
        go false e u r x q i =
            let y = eqb-false b w e in
            (omega arith, (λ c x z m. found c (omega arith) z m (eqb b c) refl), λ m. rw (other v (λ x. apart y i (omega arith) x)) (g m))

    -- ── behind it
    -- the rule and the code are the character's, or stay
    abbrev Noted : FoundSoFar → FoundSoFar → Type 0
    Noted p p' = ((broken_by h k < p.rule) × (p'.rule ≡ broken_by h k) × (p'.code ≡ b)) ⊎ ((p.rule ≤ broken_by h k) × (p'.rule ≡ p.rule) × (p'.code ≡ p.code))

    noted : (p : FoundSoFar) → Noted p (behind_character h p b k d)
    unfolding behind_character
    noted p = go (ltb (broken_by h k) p.rule) refl
      where
        go : (t : Bool) → ltb (broken_by h k) p.rule ≡ t → Noted p (behind_character h p b k d)
        go true e = unfold behind_character in inl (ltb-true _ _ e, rw e, rw e)
        go false e = unfold behind_character in inr (ltb-false _ _ e, rw e, rw e)

    wanted_is : (p : FoundSoFar) → next_wanted p.wanted b (is_whole (held_of k d)) ≡ (behind_character h p b k d).wanted
    unfolding behind_character
    wanted_is p = refl

    first_met : (p p' q : FoundSoFar) → p.rule ≤ 8 → Noted p p' → Finds rs p' q → ((q.rule ≡ p.rule) × (q.code ≡ p.code)) ⊎ First (met ∷ rs) p.rule q.rule q.code
    first_met p p' q l x f = go x f.first
      where
        go : Noted p p' → ((q.rule ≡ p'.rule) × (q.code ≡ p'.code)) ⊎ First rs p'.rule q.rule q.code → ((q.rule ≡ p.rule) × (q.code ≡ p.code)) ⊎ First (met ∷ rs) p.rule q.rule q.code
        go (inl x) (inl y) = inr (rw (y.0 ∙ x.1, y.1 ∙ x.2) (new_first p.rule l x.0))
        go (inl x) (inr y) = inr (more_first p p' q f (omega (arith, x.1)) (omega (arith, x.0, x.1)) y)
        go (inr x) (inl y) = inl (y.0 ∙ x.1, y.1 ∙ x.2)
        go (inr x) (inr y) = inr (more_first p p' q f (omega (arith, x.0, x.1)) (omega (arith, x.1)) y)

    noted_low : (p p' : FoundSoFar) → Noted p p' → (p'.rule ≤ broken_by h k) × (p'.rule ≤ p.rule)
    noted_low p p' (inl x) = (omega (arith, x.1), omega (arith, x.0, x.1))
    noted_low p p' (inr x) = (omega (arith, x.0, x.1), omega (arith, x.1))

    behind_met : (p p' q : FoundSoFar) → p.rule ≤ 8 → Noted p p' → next_wanted p.wanted b (is_whole (held_of k d)) ≡ p'.wanted → Finds rs p' q → Finds (met ∷ rs) p q
    behind_met p p' q l x e f =
        let y = noted_low p p' x in
        let w = more_wants p.wanted p'.wanted q.wanted e f.least f.held f.lacks in
        record {
          low = omega (arith, y.1, f.low);
          holds = more_holds p p' q f y.0;
          first = first_met p p' q l x f;
          least = w.0;
          held = w.1;
          lacks = w.2;
        }

  -- ── a whole run
  abbrev after : List Rec → FoundSoFar → FoundSoFar
  after rs p = passed_over (records_of n rs) h p

  skipped : (r : Rec) (rs : List Rec) (p : FoundSoFar) → ((c : ℕ) → c ≤ last_code → at (r ∷ rs) c ≡ at rs c) → after (r ∷ rs) p ≡ after rs p → Finds rs p (after rs p) → Finds (r ∷ rs) p (after (r ∷ rs) p)
  skipped r rs p s e f = rw e (same_finds rs (r ∷ rs) s p (after rs p) f)

  passed_font : (t : Bool) (m : ℕ) (g : List ℕ) (rs : List Rec) (p : FoundSoFar) → passed_over (cond t (font m g ∷ rs) rs) h p ≡ passed_over rs h p
  unfolding passed_over behind_record
  passed_font true m g rs p = refl
  passed_font false m g rs p = refl

  font_step : (m : ℕ) (g : List ℕ) (rs : List Rec) (p : FoundSoFar) → Finds rs p (after rs p) → Finds (font m g ∷ rs) p (after (font m g ∷ rs) p)
  unfolding records_of keep number place
  font_step m g rs p f =
      skipped (font m g) rs p (λ c l. find_other (key_of n (c + 1)) (font m g) rs (λ e. omega (arith, e, l))) (passed_font (eqb m n) m g (records_of n rs) p) f

  passed_character : (b : ℕ) (k d : List ℕ) (rs : List Rec) (p : FoundSoFar) → after (character n b k d ∷ rs) p ≡ after rs (behind_character h p b k d)
  unfolding passed_over behind_record number
  passed_character b k d rs p = ap (λ (l : List Rec). passed_over l h p) (of_in n (character n b k d) rs refl)

  -- a character of this font, or of another
  own_step : (b : ℕ) (k d : List ℕ) (rs : List Rec) (j : ℕ) (u : Owner) → Sorted j u (character n b k d) rs → ((p : FoundSoFar) → p.rule ≤ 8 → Finds rs p (after rs p)) → (p : FoundSoFar) → p.rule ≤ 8 → Finds (character n b k d ∷ rs) p (after (character n b k d ∷ rs) p)
  unfolding number place
  own_step b k d rs j u w ih p l =
      let low : b ≤ last_code = (allowed_char u n b k d w.ok).code in
      let none-behind : (c : ℕ) → c ≤ b → at rs c ≡ none = λ c x. find_behind (key_of n (c + 1)) (key_of n (b + 1) + 1) (owner_after u (character n b k d)) rs w.rest (omega arith) in
      let x = noted b k d rs low none-behind p in
      let p' = behind_character h p b k d in
      rw (passed_character b k d rs p) (behind_met b k d rs low none-behind p p' (after rs p') l x (wanted_is b k d rs low none-behind p) (ih p' (omega (arith, (noted_low b k d rs low none-behind p p' x).1))))

  other_step : (m b : ℕ) (k d : List ℕ) (rs : List Rec) → b ≤ last_code → (m ≡ n → ⊥) → (p : FoundSoFar) → Finds rs p (after rs p) → Finds (character m b k d ∷ rs) p (after (character m b k d ∷ rs) p)
  unfolding number place
  other_step m b k d rs l e p f =
      skipped (character m b k d) rs p (λ c x. find_other (key_of n (c + 1)) (character m b k d) rs (λ y. e (omega (arith, y, l, x)))) (ap (λ (l : List Rec). passed_over l h p) (of_out n (character m b k d) rs e)) f

  finds : (rs : List Rec) (k : ℕ) (u : Owner) → sorted k u rs ≡ true → (p : FoundSoFar) → p.rule ≤ 8 → Finds rs p (after rs p)
  finds [] k u o p l = unfold records_of keep passed_over in finds_none p
  finds (font m g ∷ rs) k u o p l = font_step m g rs p (finds rs (key (font m g) + 1) (owner_after u (font m g)) (sorted_inv k u (font m g) rs o).rest p l)
  finds (character m b g d ∷ rs) k u o p l =
      let w = sorted_inv k u (character m b g d) rs o in
      go (eqb m n) refl w (finds rs (key (character m b g d) + 1) (owner_after u (character m b g d)) w.rest)
    where
      go : (t : Bool) → eqb m n ≡ t → Sorted k u (character m b g d) rs → ((p : FoundSoFar) → p.rule ≤ 8 → Finds rs p (after rs p)) → Finds (character m b g d ∷ rs) p (after (character m b g d ∷ rs) p)
      go true e w ih =
          let i = eqb-true m n e in
          let w' : Sorted k u (character n b g d) rs = subst (λ (x : ℕ). Sorted k u (character x b g d) rs) i w in
          subst (λ (x : ℕ). Finds (character x b g d ∷ rs) p (after (character x b g d ∷ rs) p)) (sym i) (own_step b g d rs k u w' ih p l)
      go false e w ih = other_step m b g d rs (allowed_char u m b g d w.ok).code (eqb-false m n e) p (ih p l)

  -- ── the whole answer
  module _ (rs : List Rec) (q : FoundSoFar) (f : Finds rs nothing_found q) where
    -- rule 3 where a code is still wanted, and where none is
    required_below : (c : ℕ) → c < q.wanted → c ≤ last_code → has_character h c (at rs c) ≡ true
    required_below c l m = go (leb first_required c) refl
      where
        go : (t : Bool) → leb first_required c ≡ t → has_character h c (at rs c) ≡ true
        go true e = rw (f.held c (leb-true first_required c e) l m) (or_true (not (leb first_required c && leb c last_required)))
          where
            or_true : (t : Bool) → (t || true) ≡ true
            or_true true = refl
            or_true false = refl
        go false e = rw e

    required_above : (c : ℕ) → last_required < c → has_character h c (at rs c) ≡ true
    required_above c l = rw (lt-leb c last_required l) (go (leb first_required c))
      where
        go : (t : Bool) → (not (t && false) || complete (at rs c)) ≡ true
        go true = refl
        go false = refl

    wanting : q.wanted ≤ last_required → first_broken (has_character ∷ character_rules) 3 h (at rs) ≡ record { rule = 3; code = q.wanted }
    wanting l =
        rule_breaks h (at rs) has_character character_rules 3 q.wanted (omega arith)
        (rw (le-leb first_required q.wanted f.least, le-leb q.wanted last_required l) (f.lacks l))
        (λ c x. required_below c x (omega arith))

    required_all : last_required < q.wanted → (c : ℕ) → c ≤ last_code → has_character h c (at rs c) ≡ true
    required_all l c m = go (leb c last_required) refl
      where
        go : (t : Bool) → leb c last_required ≡ t → has_character h c (at rs c) ≡ true
        go true e = required_below c (omega (arith, leb-true c last_required e)) m
        go false e = required_above c (leb-false c last_required e)

    -- rules 4 to 7
    all_kept : q.rule ≡ 8 → (j c : ℕ) → c ≤ last_code → Test j h c (at rs c) ≡ true
    all_kept e j c m = go (leb j 3) refl
      where
        beyond : (i : ℕ) → 3 < i → Test i h c (at rs c) ≡ true
        beyond zero l = absurd (omega arith)
        beyond (suc zero) l = absurd (omega arith)
        beyond (suc (suc zero)) l = absurd (omega arith)
        beyond (suc (suc (suc zero))) l = absurd (omega arith)
        beyond (suc (suc (suc (suc i)))) l = refl

        go : (t : Bool) → leb j 3 ≡ t → Test j h c (at rs c) ≡ true
        go true x = f.holds j (omega (arith, e, leb-true j 3 x)) c m
        go false x = beyond j (leb-false j 3 x)

    by_characters : first_broken character_rules 4 h (at rs) ≡ cond (leb q.rule 7) (record { rule = q.rule; code = q.code }) none_broken
    by_characters = go f.first
      where
        go : ((q.rule ≡ 8) × (q.code ≡ 0)) ⊎ First rs 8 q.rule q.code → first_broken character_rules 4 h (at rs) ≡ cond (leb q.rule 7) (record { rule = q.rule; code = q.code }) none_broken
        go (inl x) = rw (lt-leb q.rule 7 (omega (arith, x.0))) (rules_hold h (at rs) character_rules 4 (all_kept x.0))
        go (inr x) =
            rw (le-leb q.rule 7 (omega (arith, x.less)))
            (rules_break h (at rs) character_rules x.j 4 q.code x.last (λ j c l m. f.holds j (omega (arith, l, x.is)) c m) x.breaks x.before
            ∙ ap (λ (i : ℕ). record { rule = i; code = q.code }) (sym x.is))

    by_codes : first_broken (has_character ∷ character_rules) 3 h (at rs) ≡ found_broken q
    unfolding found_broken
    by_codes = go (leb q.wanted last_required) refl
      where
        go : (t : Bool) → leb q.wanted last_required ≡ t → first_broken (has_character ∷ character_rules) 3 h (at rs) ≡ cond t (record { rule = 3; code = q.wanted }) (cond (leb q.rule 7) (record { rule = q.rule; code = q.code }) none_broken)
        go true e = wanting (leb-true q.wanted last_required e)
        go false e = rule_holds h (at rs) has_character character_rules 3 (required_all (leb-false q.wanted last_required e)) ∙ by_characters

  broken_is : (rs : List Rec) (ts : List Rec) → Finds rs nothing_found (passed_over ts h nothing_found) → broken_in n h rs ≡ broken_with h ts
  unfolding broken_in broken_with
  broken_is rs ts f = go (eqb (font_type h) 0) refl (eqb (spacing h) 0) refl
    where
      go : (a : Bool) → eqb (font_type h) 0 ≡ a → (b : Bool) → eqb (spacing h) 0 ≡ b
          → first_broken rules 1 h (at rs) ≡ cond a (cond b (found_broken (passed_over ts h nothing_found)) (record { rule = 2; code = 0 })) (record { rule = 1; code = 0 })
      go false x b y = rule_breaks h (at rs) _ _ 1 0 (omega arith) x (λ c l. absurd (omega arith))
      go true x false y = rule_holds h (at rs) _ _ 1 (λ c l. x) ∙ rule_breaks h (at rs) _ _ 2 0 (omega arith) y (λ c l. absurd (omega arith))
      go true x true y = rule_holds h (at rs) _ _ 1 (λ c l. x) ∙ rule_holds h (at rs) _ _ 2 (λ c l. y) ∙ by_codes rs (passed_over ts h nothing_found) f

-- the records of a font that is there
pub among_is : (n : ℕ) (h : List ℕ) (rs : List Rec) → sorted 0 no_owner rs ≡ true → find_record (key_of n 0) rs ≡ some (font n h) → broken_among (records_of n rs) ≡ broken_in n h rs
unfolding broken_among passed_over behind_record
among_is n h rs o e =
    let x = kept_of_lem n h rs o e in
    let f : Finds n h rs nothing_found (passed_over (font n h ∷ x.rest) h nothing_found) = subst (λ (l : List Rec). Finds n h rs nothing_found (passed_over l h nothing_found)) x.are (finds n h rs 0 no_owner o nothing_found (omega arith)) in
    rw x.are (sym (broken_is n h rs x.rest f))
