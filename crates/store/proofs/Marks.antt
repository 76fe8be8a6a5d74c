-- The open mark, by its numbers and in the bytes. Assumes nothing.
use mathlib.Core.Path.{◌≡◌, refl, ap, ◌∙◌}
use mathlib.Core.List.{List, [], ◌++◌}
use mathlib.Core.Bool.{Bool, true, false, cond}
use mathlib.Core.Logic.{◌⊎◌, inl, inr, ⊎_elim}
use Prim.Native.Nat.{ℕ, ◌+◌, ◌<◌, ◌≤◌}
use native.Mathlib.Omega.{arith}
use lib.Dec.{eqb, leb}
use borrow.Author.Tests.{eqb-true, eqb-false, leb-true, le-leb, eq-eqb, ne_eqb}
use Rattle.form.specs.Layout.{key_of, last_code, last_font, mark_code_at, mark_font_at, mark_on_at}
use Rattle.form.specs.Num.{◌and◌, low_first, field, word_end}
use Rattle.form.specs.Model.{Rec, Mark, mark_bytes, no_owner, sorted, opened, mark_ok, shut}
use Rattle.form.specs.Order.{replaced}
use Rattle.store.specs.Calls.{closed_for, closed_at}
use Rattle.change.specs.Put.{with_bytes}
use Rattle.change.specs.Change.{remarked, unmarked_for, unmarked_at}
use Rattle.form.proofs.Numbers.{both_l, both_r, both, less_or}
use Rattle.form.proofs.Codec.{mark_back}
use Rattle.store.proofs.Replaced.{Outside, opened_replaced}

pub record Shut (m : Mark) : Type 0 where
  pub on : m.on ≡ 0
  pub number : m.font_of ≡ 0
  pub code : m.code_of ≡ 0

pub record Open (m : Mark) : Type 0 where
  pub on : m.on ≡ 1
  pub number : m.font_of ≤ last_font
  pub code : m.code_of ≤ last_code

abbrev pub mark_key : Mark → ℕ
mark_key m = key_of m.font_of (m.code_of + 1)

pub mark_inv : (m : Mark) (rs : List Rec) → mark_ok m rs ≡ true → Shut m ⊎ (Open m × (opened (mark_key m) rs ≡ true))
unfolding mark_ok
mark_inv m rs e = go (eqb m.on 0) refl
  where
    go : (b : Bool) → eqb m.on 0 ≡ b → Shut m ⊎ (Open m × (opened (mark_key m) rs ≡ true))
    go true q =
        let e' : eqb m.font_of 0 and eqb m.code_of 0 ≡ true = rw q at e in
        inl (record { on = eqb-true _ _ q; number = eqb-true _ _ (both_l _ _ e'); code = eqb-true _ _ (both_r _ _ e') })
    go false q =
        let e1 : eqb m.on 1 and leb m.font_of last_font and leb m.code_of last_code and opened (mark_key m) rs ≡ true = rw q at e in
        let e2 = both_r _ _ e1 in
        let e3 = both_r _ _ e2 in
        inr (record { on = eqb-true _ _ (both_l _ _ e1); number = leb-true _ _ (both_l _ _ e2); code = leb-true _ _ (both_l _ _ e3) }, both_r _ _ e3)

pub mark_shut : (m : Mark) (rs : List Rec) → Shut m → mark_ok m rs ≡ true
unfolding mark_ok
mark_shut m rs h = rw (eq-eqb m.on 0 h.on) (both _ _ (eq-eqb _ _ h.number) (eq-eqb _ _ h.code))

pub shut_ok : (rs : List Rec) → mark_ok shut rs ≡ true
shut_ok rs = mark_shut shut rs (record { on = refl; number = refl; code = refl })

pub mark_open : (m : Mark) (rs : List Rec) → Open m → opened (mark_key m) rs ≡ true → mark_ok m rs ≡ true
unfolding mark_ok
mark_open m rs h k =
    rw (ne_eqb m.on 0 (λ e. omega (arith, h.on)))
    (both _ _ (eq-eqb _ _ h.on) (both _ _ (le-leb _ _ h.number) (both _ _ (le-leb _ _ h.code) k)))

-- ── a mark after records were replaced: closed if what it names may have gone
close : (lo hi : ℕ) (t : Bool) (m : Mark) (new rs : List Rec) → sorted 0 no_owner rs ≡ true → lo ≤ hi → mark_ok m rs ≡ true → opened (mark_key m) new ≡ false
    → (t ≡ false → Open m → Outside lo hi (mark_key m)) → mark_ok (cond t shut m) (replaced lo hi new rs) ≡ true
close lo hi true m new rs e l k q o = shut_ok (replaced lo hi new rs)
close lo hi false m new rs e l k q o =
    ⊎_elim (λ (h : Shut m). mark_shut m (replaced lo hi new rs) h)
    (λ (h : Open m × (opened (mark_key m) rs ≡ true)). mark_open m (replaced lo hi new rs) h.0 (opened_replaced lo hi (mark_key m) new rs e l (o refl h.0) q ∙ h.1))
    (mark_inv m rs k)

-- two numbers that are not the same, by a test that failed
and_not : (a b : Bool) → a and b ≡ false → a ≡ true → b ≡ false
unfolding ◌and◌
and_not true b e q = e
and_not false b e q = let z : ◌≡◌ {A = ℕ} 0 1 = cc in absurd (omega arith)

pub closed_for_lem : (n : ℕ) (m : Mark) (new rs : List Rec) → sorted 0 no_owner rs ≡ true → mark_ok m rs ≡ true → opened (mark_key m) new ≡ false
    → mark_ok (closed_for n m) (replaced (key_of n 0) (key_of (n + 1) 0) new rs) ≡ true
unfolding closed_for
closed_for_lem n m new rs e k q =
    close (key_of n 0) (key_of (n + 1) 0) (eqb m.on 1 and eqb m.font_of n) m new rs e (omega arith) k q
    (λ z h.
    let x = eqb-false m.font_of n (and_not (eqb m.on 1) (eqb m.font_of n) z (eq-eqb m.on 1 h.on)) in
    ⊎_elim (λ (l : m.font_of < n). inl (omega (arith, h.code))) (λ (l : n ≤ m.font_of). inr (omega (arith, x))) (less_or m.font_of n))

pub closed_at_lem : (n c : ℕ) (m : Mark) (rs : List Rec) → c ≤ last_code → sorted 0 no_owner rs ≡ true → mark_ok m rs ≡ true
    → mark_ok (closed_at n c m) (replaced (key_of n (c + 1)) (key_of n (c + 1) + 1) [] rs) ≡ true
unfolding closed_at opened
closed_at_lem n c m rs b e k =
    close (key_of n (c + 1)) (key_of n (c + 1) + 1) (eqb m.on 1 and eqb m.font_of n and eqb m.code_of c) m [] rs e (omega arith) k refl
    (λ z h.
    let y = and_not (eqb m.on 1) (eqb m.font_of n and eqb m.code_of c) z (eq-eqb m.on 1 h.on) in
    let x : mark_key m ≡ key_of n (c + 1) → ⊥ =
    λ i. eqb-false m.code_of c (and_not (eqb m.font_of n) (eqb m.code_of c) y (eq-eqb m.font_of n (omega (arith, h.code)))) (omega (arith, h.code)) in
    ⊎_elim (λ (l : mark_key m < key_of n (c + 1)). inl l) (λ (l : key_of n (c + 1) ≤ mark_key m). inr (omega (arith, x))) (less_or (mark_key m) (key_of n (c + 1))))

-- ── in the bytes
-- numbers of a mark that fit two bytes each
pub record Small (m : Mark) : Type 0 where
  pub on : m.on < word_end
  pub number : m.font_of < word_end
  pub code : m.code_of < word_end

pub remark_bytes : (m m' : Mark) (t : List ℕ) → remarked m' (mark_bytes m ++ t) ≡ mark_bytes m' ++ t
unfolding remarked with_bytes mark_bytes low_first
remark_bytes m m' t = refl

unmark_by : (x : Bool) (m : Mark) (t : List ℕ) → cond x (remarked shut (mark_bytes m ++ t)) (mark_bytes m ++ t) ≡ mark_bytes (cond x shut m) ++ t
unmark_by true m t = remark_bytes m shut t
unmark_by false m t = refl

pub unmark_for : (n : ℕ) (m : Mark) (t : List ℕ) → Small m → unmarked_for n (mark_bytes m ++ t) ≡ mark_bytes (closed_for n m) ++ t
unfolding unmarked_for closed_for
unmark_for n m t f =
    let k = mark_back m t f.on f.number f.code in
    let f6 : field 2 mark_on_at (mark_bytes m ++ t) ≡ m.on = ap (λ (x : Mark). x.on) k in
    let f8 : field 2 mark_font_at (mark_bytes m ++ t) ≡ m.font_of = ap (λ (x : Mark). x.font_of) k in
    rw (f6, f8) (unmark_by (eqb m.on 1 and eqb m.font_of n) m t)

pub unmark_at : (n c : ℕ) (m : Mark) (t : List ℕ) → Small m → unmarked_at n c (mark_bytes m ++ t) ≡ mark_bytes (closed_at n c m) ++ t
unfolding unmarked_at closed_at
unmark_at n c m t f =
    let k = mark_back m t f.on f.number f.code in
    let f6 : field 2 mark_on_at (mark_bytes m ++ t) ≡ m.on = ap (λ (x : Mark). x.on) k in
    let f8 : field 2 mark_font_at (mark_bytes m ++ t) ≡ m.font_of = ap (λ (x : Mark). x.font_of) k in
    let f10 : field 2 mark_code_at (mark_bytes m ++ t) ≡ m.code_of = ap (λ (x : Mark). x.code_of) k in
    rw (f6, f8, f10) (unmark_by (eqb m.on 1 and eqb m.font_of n and eqb m.code_of c) m t)
