-- What seeking a font or a character tells of a call on it. Assumes nothing.
use mathlib.Core.Path.{◌≡◌, refl, sym, ap, subst, ◌∙◌}
use Rattle.std.specs.Prelude.{Some, None, Ok, Err, ok_or}
use Rattle.refusals.specs.Refusals.{numbered_result}
use Rattle.refusals.specs.declared.Refused.TheVariants.{NoFont, NoCharacter}
use mathlib.Core.List.{List}
use mathlib.Core.Bool.{Bool, true, false, cond}
use mathlib.Core.Option.{Option, none, some}
use Prim.Native.Nat.{ℕ, ◌+◌, ◌<◌, ◌≤◌}
use native.Mathlib.Omega.{arith}
use lib.Dec.{leb, ltb}
use borrow.Author.Tests.{le-leb, lt-leb, leb-true, ltb-true, ltb-false}
use Rattle.pictures.proofs.Tests.{both}
use Rattle.form.specs.Layout.{key_of, last_code, last_font}
use Rattle.form.specs.Num.{Bytes}
use Rattle.form.specs.Model.{Rec, font, character, Store, no_owner, decode}
use Rattle.form.specs.Order.{find_record}
use Rattle.form.specs.Checks.{on_store, checked, finding, numbered, on_font, on_character}
use Rattle.form.specs.Walk.{places_of, font_lookup, character_lookup, sought_font, sought_character}
use Rattle.form.specs.declared.walk.Places.{Places}
use Rattle.form.proofs.Ready.{Ready, looked_at, looked_not, standing, font_there, font_missing, record_there, record_missing, same_store}
use Rattle.form.proofs.Lookup.{found, font_at_lem, char_at}

-- ── seeking, by what the inspection found
module _ (n : ℕ) (s : List ℕ) where
  pub font_not : decode s ≡ none → sought_font n s ≡ Err 1
  unfolding sought_font on_font on_store
  font_not e = rw e

  module _ (w : Places) (r : Ready n 0 s w) where
    pub font_range : last_font < n → sought_font n s ≡ Err 2
    unfolding sought_font on_font on_store
    font_range l = rw (r.is, lt-leb n last_font l)

    pub font_none : n ≤ last_font → w.hi ≤ w.lo → sought_font n s ≡ Err 6
    unfolding sought_font on_font on_store finding
    font_none l e =
        rw (r.is, le-leb n last_font l, font_missing n r.store.recs r.valid.order (omega (arith, ap (λ (x : Places). x.lo) r.at, ap (λ (x : Places). x.hi) r.at)))

    pub font_here_lem : n ≤ last_font → w.lo < w.hi → sought_font n s ≡ Ok w
    unfolding sought_font on_font on_store finding
    font_here_lem l e =
        let f = font_there n r.store.recs r.valid.order (omega (arith, ap (λ (x : Places). x.lo) r.at, ap (λ (x : Places). x.hi) r.at)) in
        rw (r.is, le-leb n last_font l, f.1, r.at)

    -- the font is looked up
    pub font_looked : n ≤ last_font → numbered_result (ok_or (font_lookup w) NoFont) ≡ sought_font n s
    font_looked l = go (ltb w.lo w.hi) refl
      where
        go : (t : Bool) → ltb w.lo w.hi ≡ t → numbered_result (ok_or (cond t (Some w) None) NoFont) ≡ sought_font n s
        go true q = sym (font_here_lem l (ltb-true _ _ q))
        go false q = sym (font_none l (ltb-false _ _ q))

module _ (n c : ℕ) (s : List ℕ) where
  pub char_not : decode s ≡ none → sought_character n c s ≡ Err 1
  unfolding sought_character on_character on_store
  char_not e = rw e

  module _ (w : Places) (r : Ready n (c + 1) s w) where
    pub char_range : numbered n c ≡ false → sought_character n c s ≡ Err 2
    unfolding sought_character on_character on_store
    char_range l = rw (r.is, l)

    pub char_no_font : numbered n c ≡ true → w.hi ≤ w.lo → sought_character n c s ≡ Err 6
    unfolding sought_character on_character on_store finding
    char_no_font l e =
        rw (r.is, l, font_missing n r.store.recs r.valid.order (omega (arith, ap (λ (x : Places). x.lo) r.at, ap (λ (x : Places). x.hi) r.at)))

    pub char_none : numbered n c ≡ true → w.lo < w.hi → w.to ≤ w.from → sought_character n c s ≡ Err 7
    unfolding sought_character on_character on_store finding
    char_none l e q =
        let f = font_there n r.store.recs r.valid.order (omega (arith, ap (λ (x : Places). x.lo) r.at, ap (λ (x : Places). x.hi) r.at)) in
        rw (r.is, l, f.1, record_missing (key_of n (c + 1)) r.store.recs r.valid.order (omega (arith, ap (λ (x : Places). x.from) r.at, ap (λ (x : Places). x.to) r.at)))

    pub char_here : numbered n c ≡ true → w.lo < w.hi → w.from < w.to → sought_character n c s ≡ Ok w
    unfolding sought_character on_character on_store finding
    char_here l e q =
        let f = font_there n r.store.recs r.valid.order (omega (arith, ap (λ (x : Places). x.lo) r.at, ap (λ (x : Places). x.hi) r.at)) in
        let g = record_there (key_of n (c + 1)) r.store.recs r.valid.order (omega (arith, ap (λ (x : Places). x.from) r.at, ap (λ (x : Places). x.to) r.at)) in
        rw (r.is, l, f.1, g.1, r.at)

    -- its font is looked up, and then the character
    pub char_no_place : numbered n c ≡ true → font_lookup w ≡ None → sought_character n c s ≡ Err 6
    char_no_place l e = char_no_font l (looked_not w.lo w.hi w e)

    pub char_looked : (x : Places) → numbered n c ≡ true → font_lookup w ≡ Some x → numbered_result (ok_or (character_lookup x) NoCharacter) ≡ sought_character n c s
    char_looked x l e =
        let a = looked_at w.lo w.hi w x e in
        subst (λ (y : Places). numbered_result (ok_or (character_lookup y) NoCharacter) ≡ sought_character n c s) a.1 (go a.0 (ltb w.from w.to) refl)
      where
        go : w.lo < w.hi → (t : Bool) → ltb w.from w.to ≡ t → numbered_result (ok_or (cond t (Some w) None) NoCharacter) ≡ sought_character n c s
        go h true q = sym (char_here l h (ltb-true _ _ q))
        go h false q = sym (char_none l h (ltb-false _ _ q))

-- ── a call on what was sought
-- the same checks give the same refusal
pub font_refused : {A : Type 0} (refuse : ℕ → A) (n k : ℕ) (s : List ℕ) (f : Store → Rec → A) → sought_font n s ≡ Err k → on_font refuse n s f ≡ refuse k
unfolding sought_font on_font on_store finding
font_refused refuse n k s f e = go (decode s) e
  where
    seek : (st : Store) (o : Option Rec) → finding Err o 6 (λ r. Ok (places_of n 0 st.recs)) ≡ Err k → finding refuse o 6 (f st) ≡ refuse k
    seek st none e' = let i : 6 ≡ k = cc in ap refuse i
    seek st (some r) e' = let z : ◌≡◌ {A = ℕ} 0 1 = cc in absurd (omega arith)

    range : (st : Store) (b : Bool) → checked Err b 2 (finding Err (find_record (key_of n 0) st.recs) 6 (λ r. Ok (places_of n 0 st.recs))) ≡ Err k
        → checked refuse b 2 (finding refuse (find_record (key_of n 0) st.recs) 6 (f st)) ≡ refuse k
    range st true e' = seek st (find_record (key_of n 0) st.recs) e'
    range st false e' = let i : 2 ≡ k = cc in ap refuse i

    go : (o : Option Store)
        → on_store Err o (λ st. checked Err (leb n last_font) 2 (finding Err (find_record (key_of n 0) st.recs) 6 (λ r. Ok (places_of n 0 st.recs)))) ≡ Err k
        → on_store refuse o (λ st. checked refuse (leb n last_font) 2 (finding refuse (find_record (key_of n 0) st.recs) 6 (f st))) ≡ refuse k
    go none e' = let i : 1 ≡ k = cc in ap refuse i
    go (some st) e' = range st (leb n last_font) e'

-- a font that is there
pub record KeptFont (n p : ℕ) (s : List ℕ) (w : Places) : Type 0 where
  pub ready : Ready n p s w
  pub low : n ≤ last_font
  pub header : List ℕ
  pub there : find_record (key_of n 0) ready.store.recs ≡ some (font n header)

module _ (n : ℕ) (s : List ℕ) (w : Places) where
  font_of_lem : (r : Ready n 0 s w) → n ≤ last_font → (q : Rec) → find_record (key_of n 0) r.store.recs ≡ some q → KeptFont n 0 s w
  font_of_lem r l q e =
      let f = found (key_of n 0) 0 no_owner q r.store.recs r.valid.order e in
      let x = font_at_lem n _ q f.ok f.is in
      record { ready = r; low = l; header = x.0; there = e ∙ ap some x.1 }

  pub font_sought : Bytes s → sought_font n s ≡ Ok w → KeptFont n 0 s w
  unfolding sought_font on_font on_store finding
  font_sought B e = go (decode s) refl e
    where
      seek : (st : Store) → decode s ≡ some st → n ≤ last_font → (o : Option Rec) → find_record (key_of n 0) st.recs ≡ o → finding Err o 6 (λ r. Ok (places_of n 0 st.recs)) ≡ Ok w → KeptFont n 0 s w
      seek st d l none q e' = let z : ◌≡◌ {A = ℕ} 0 1 = cc in absurd (omega arith)
      seek st d l (some x) q e' =
          let w' : places_of n 0 st.recs ≡ w = cc in
          let r = standing n 0 s B w (record { store = st; is = d; at = w' }) in
          let i : st ≡ r.store = same_store s d r.is in
          font_of_lem r l x (rw i at q)

      range : (st : Store) → decode s ≡ some st → (b : Bool) → leb n last_font ≡ b → checked Err b 2 (finding Err (find_record (key_of n 0) st.recs) 6 (λ r. Ok (places_of n 0 st.recs))) ≡ Ok w → KeptFont n 0 s w
      range st d true q e' = seek st d (leb-true _ _ q) (find_record (key_of n 0) st.recs) refl e'
      range st d false q e' = let z : ◌≡◌ {A = ℕ} 0 1 = cc in absurd (omega arith)

      go : (o : Option Store) → decode s ≡ o → on_store Err o (λ st. checked Err (leb n last_font) 2 (finding Err (find_record (key_of n 0) st.recs) 6 (λ r. Ok (places_of n 0 st.recs)))) ≡ Ok w → KeptFont n 0 s w
      go none d e' = let z : ◌≡◌ {A = ℕ} 0 1 = cc in absurd (omega arith)
      go (some st) d e' = range st d (leb n last_font) refl e'

  pub font_call : {A : Type 0} (refuse : ℕ → A) (f : Store → Rec → A) (x : KeptFont n 0 s w) → on_font refuse n s f ≡ f x.ready.store (font n x.header)
  unfolding on_font on_store finding
  font_call refuse f x = rw (x.ready.is, le-leb n last_font x.low, x.there)

-- ── the same for a character
pub char_refused : {A : Type 0} (refuse : ℕ → A) (n c k : ℕ) (s : List ℕ) (f : Store → Rec → A) → sought_character n c s ≡ Err k → on_character refuse n c s f ≡ refuse k
unfolding sought_character on_character on_store finding
char_refused refuse n c k s f e = go (decode s) e
  where
    one : (st : Store) (o : Option Rec) → finding Err o 7 (λ r. Ok (places_of n (c + 1) st.recs)) ≡ Err k → finding refuse o 7 (f st) ≡ refuse k
    one st none e' = let i : 7 ≡ k = cc in ap refuse i
    one st (some r) e' = let z : ◌≡◌ {A = ℕ} 0 1 = cc in absurd (omega arith)

    seek : (st : Store) (o : Option Rec) → finding Err o 6 (λ r. finding Err (find_record (key_of n (c + 1)) st.recs) 7 (λ q. Ok (places_of n (c + 1) st.recs))) ≡ Err k
        → finding refuse o 6 (λ r. finding refuse (find_record (key_of n (c + 1)) st.recs) 7 (f st)) ≡ refuse k
    seek st none e' = let i : 6 ≡ k = cc in ap refuse i
    seek st (some r) e' = one st (find_record (key_of n (c + 1)) st.recs) e'

    range : (st : Store) (b : Bool)
        → checked Err b 2 (finding Err (find_record (key_of n 0) st.recs) 6 (λ r. finding Err (find_record (key_of n (c + 1)) st.recs) 7 (λ q. Ok (places_of n (c + 1) st.recs)))) ≡ Err k
        → checked refuse b 2 (finding refuse (find_record (key_of n 0) st.recs) 6 (λ r. finding refuse (find_record (key_of n (c + 1)) st.recs) 7 (f st))) ≡ refuse k
    range st true e' = seek st (find_record (key_of n 0) st.recs) e'
    range st false e' = let i : 2 ≡ k = cc in ap refuse i

    go : (o : Option Store)
        → on_store Err o (λ st. checked Err (numbered n c) 2 (finding Err (find_record (key_of n 0) st.recs) 6 (λ r. finding Err (find_record (key_of n (c + 1)) st.recs) 7 (λ q. Ok (places_of n (c + 1) st.recs))))) ≡ Err k
        → on_store refuse o (λ st. checked refuse (numbered n c) 2 (finding refuse (find_record (key_of n 0) st.recs) 6 (λ r. finding refuse (find_record (key_of n (c + 1)) st.recs) 7 (f st)))) ≡ refuse k
    go none e' = let i : 1 ≡ k = cc in ap refuse i
    go (some st) e' = range st (numbered n c) e'

-- a character that is there
pub record KeptChar (n c : ℕ) (s : List ℕ) (w : Places) : Type 0 where
  pub ready : Ready n (c + 1) s w
  pub low : n ≤ last_font
  pub code : c ≤ last_code
  pub header : List ℕ
  pub font_there : find_record (key_of n 0) ready.store.recs ≡ some (font n header)
  pub kept : List ℕ
  pub bytes : List ℕ
  pub there : find_record (key_of n (c + 1)) ready.store.recs ≡ some (character n c kept bytes)

module _ (n c : ℕ) (s : List ℕ) (w : Places) where
  char_of : (r : Ready n (c + 1) s w) → n ≤ last_font → c ≤ last_code → (p q : Rec) → find_record (key_of n 0) r.store.recs ≡ some p → find_record (key_of n (c + 1)) r.store.recs ≡ some q → KeptChar n c s w
  char_of r l m p q d e =
      let g = found (key_of n 0) 0 no_owner p r.store.recs r.valid.order d in
      let y = font_at_lem n _ p g.ok g.is in
      let f = found (key_of n (c + 1)) 0 no_owner q r.store.recs r.valid.order e in
      let x = char_at n c _ q m f.ok f.is in
      record { ready = r; low = l; code = m; header = y.0; font_there = d ∙ ap some y.1; kept = x.0; bytes = x.1; there = e ∙ ap some x.2 }

  pub char_sought : Bytes s → sought_character n c s ≡ Ok w → KeptChar n c s w
  unfolding sought_character on_character on_store finding
  char_sought B e = go (decode s) refl e
    where
      one : (st : Store) → decode s ≡ some st → (leb n last_font ≡ true) × (leb c last_code ≡ true) → (p : Rec) → find_record (key_of n 0) st.recs ≡ some p → (o : Option Rec) → find_record (key_of n (c + 1)) st.recs ≡ o
          → finding Err o 7 (λ r. Ok (places_of n (c + 1) st.recs)) ≡ Ok w → KeptChar n c s w
      one st d l p a none q e' = let z : ◌≡◌ {A = ℕ} 0 1 = cc in absurd (omega arith)
      one st d l p a (some x) q e' =
          let w' : places_of n (c + 1) st.recs ≡ w = cc in
          let r = standing n (c + 1) s B w (record { store = st; is = d; at = w' }) in
          let i : st ≡ r.store = same_store s d r.is in
          char_of r (leb-true _ _ l.0) (leb-true _ _ l.1) p x (rw i at a) (rw i at q)

      seek : (st : Store) → decode s ≡ some st → (leb n last_font ≡ true) × (leb c last_code ≡ true) → (o : Option Rec) → find_record (key_of n 0) st.recs ≡ o
          → finding Err o 6 (λ r. finding Err (find_record (key_of n (c + 1)) st.recs) 7 (λ q. Ok (places_of n (c + 1) st.recs))) ≡ Ok w → KeptChar n c s w
      seek st d l none q e' = let z : ◌≡◌ {A = ℕ} 0 1 = cc in absurd (omega arith)
      seek st d l (some x) q e' = one st d l x q (find_record (key_of n (c + 1)) st.recs) refl e'

      range : (st : Store) → decode s ≡ some st → (b : Bool) → numbered n c ≡ b
          → checked Err b 2 (finding Err (find_record (key_of n 0) st.recs) 6 (λ r. finding Err (find_record (key_of n (c + 1)) st.recs) 7 (λ q. Ok (places_of n (c + 1) st.recs)))) ≡ Ok w → KeptChar n c s w
      range st d true q e' = seek st d (both (leb n last_font) (leb c last_code) q) (find_record (key_of n 0) st.recs) refl e'
      range st d false q e' = let z : ◌≡◌ {A = ℕ} 0 1 = cc in absurd (omega arith)

      go : (o : Option Store) → decode s ≡ o
          → on_store Err o (λ st. checked Err (numbered n c) 2 (finding Err (find_record (key_of n 0) st.recs) 6 (λ r. finding Err (find_record (key_of n (c + 1)) st.recs) 7 (λ q. Ok (places_of n (c + 1) st.recs))))) ≡ Ok w → KeptChar n c s w
      go none d e' = let z : ◌≡◌ {A = ℕ} 0 1 = cc in absurd (omega arith)
      go (some st) d e' = range st d (numbered n c) refl e'

  pub char_call : {A : Type 0} (refuse : ℕ → A) (f : Store → Rec → A) (x : KeptChar n c s w) → on_character refuse n c s f ≡ f x.ready.store (character n c x.kept x.bytes)
  unfolding on_character on_store finding
  char_call refuse f x = rw (x.ready.is, le-leb n last_font x.low, le-leb c last_code x.code, x.font_there, x.there)
