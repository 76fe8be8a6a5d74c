-- The pass over the records of a store. Assumes nothing.
use Prim.Native.Nat.{ℕ, ◌+◌, ◌-◌, ◌<◌, ◌≤◌, ◌^◌}
use Rattle.std.specs.Prelude.{Option as Optional, Some, None}
use mathlib.Core.Path.{◌≡◌, refl, sym, ap, ◌∙◌, subst}
use mathlib.Core.List.{List, [], ◌∷◌}
use mathlib.Core.Bool.{true, false}
use mathlib.Core.Option.{Option, none, some}
use native.Mathlib.Omega.{arith}
use lib.ListN.{length, take, drop, length-take, length-drop}
use Rattle.pictures.specs.Size.{bitmap_class, picture_size, data_limit}
use Rattle.blocks.specs.Character.{descriptor_bytes, class, width, height, delta_x}
use Rattle.form.specs.Num.{low_first, Bytes}
use Rattle.form.specs.Model.{Rec, Store, decode}
use Rattle.form.specs.Records.{is_store, some_store, records_in, records_at, RecordPlace, Begun}
use Rattle.form.specs.RecordsLeft.{CharacterKept}
use Rattle.form.specs.Checks.{on_store}
use Rattle.form.proofs.Locates.{is_store_lem}
use Rattle.form.proofs.RecordBytes.{kept_small}
use Rattle.change.specs.Put.{with_bytes}
use Rattle.blackdots.specs.Black.{black_dots}
use Rattle.collection.specs.declared.figure.Figure.{Figure}
use Rattle.std.specs.Prelude.{Option as Place, Some, None}
use Rattle.collection.specs.Figures.{joined, code_place, figure_at, bytes_of_figure, stores_in, figures_bytes, figures_taken, figures_after, Adding, adding_figures}
use Rattle.collection.specs.ByRecord.{Drawable, RoomFor, Roomy, figures_with, with_record, with_records}
use Rattle.collection.proofs.Bounds.{kept_least, store_bounds}
use Rattle.collection.proofs.Records.{room_for, roomy_after, long_after, stores_after, figures_are}
use Rattle.collection.proofs.Checking.{roomy_start, taken}

-- ── a character
pub character_added : (b last k d : List ℕ) (c at w n x : ℕ) (f g : Figure) → at ≡ code_place c → w ≡ width k → n ≡ black_dots (class k) (width k) (height k) d → x ≡ delta_x k
    → f ≡ figure_at b c → g ≡ joined f (record { count = 1; dots = n; least = w; greatest = w; sum = x }) → last ≡ with_bytes b at (bytes_of_figure g) → last ≡ figures_with b c k d
unfolding figures_with
character_added b last k d c at w n x f g p q r t u v z = z ∙ rw (v, u, t, r, q, p)

pub dots_are : (k d : List ℕ) (a w y n : ℕ) → n ≡ black_dots a w y d → a ≡ class k → w ≡ width k → y ≡ height k → n ≡ black_dots (class k) (width k) (height k) d
dots_are k d a w y n e p q r = e ∙ rw (p, q, r)

pub draw_by : (k d : List ℕ) (a w y : ℕ) → Drawable k d → a ≡ class k → w ≡ width k → y ≡ height k → (0 < w) × (a ≡ bitmap_class → length d ≤ picture_size w y) × (length d ≤ data_limit)
draw_by k d a w y D p q r = (rw q D.wide, λ e. rw (q, r) (D.most (sym p ∙ e)), D.small)

pub room_by : (b k d : List ℕ) (c n x : ℕ) (f : Figure) → RoomFor b c k d → f ≡ figure_at b c → n ≡ black_dots (class k) (width k) (height k) d → x ≡ delta_x k
    → (f.count + 1 < 2 ^ 64) × (f.dots + n < 2 ^ 64) × (f.sum + x < 2 ^ 64)
room_by b k d c n x f R e p q =
    (rw e R.count, rw (e, p) R.dots, rw (e, q) R.sum)

-- what the store gives of a character
module _ (n c : ℕ) (b : List ℕ) (k : CharacterKept n c b) where
  pub drawable : Drawable (take descriptor_bytes b) (drop descriptor_bytes b)
  drawable =
      let h : List ℕ = take descriptor_bytes b in
      let d : List ℕ = drop descriptor_bytes b in
      record { wide = k.wide; most = kept_least (class h) (width h) (height h) d k.held; small = kept_small (class h) (width h) (height h) d k.held }

-- ── the loop: the records that are left give what all give
pub record Going (all left : List Rec) (b₀ b : List ℕ) : Type 0 where
  pub roomy : Roomy b left
  pub same : with_records left b ≡ with_records all b₀

pub going_starts : (all left : List Rec) (b : List ℕ) → left ≡ all → Roomy b all → Going all left b b
going_starts all left b e r = record { roomy = subst (Roomy b) (sym e) r; same = ap (λ (l : List Rec). with_records l b) e }

pub going_next : (all left more : List Rec) (r : Rec) (b₀ b after : List ℕ) → Going all left b₀ b → left ≡ r ∷ more → after ≡ with_record b r → Going all more b₀ after
unfolding with_records
going_next all left more r b₀ b after g i e =
    let y : Roomy b (r ∷ more) = subst (Roomy b) i g.roomy in
    let x : Roomy after more = subst (λ (z : List ℕ). Roomy z more) (sym e) (roomy_after b r more y) in
    record { roomy = x; same = ap (with_records more) e ∙ sym (ap (λ (l : List Rec). with_records l b) i) ∙ g.same }

pub going_ends : (all left : List Rec) (b₀ b : List ℕ) → Going all left b₀ b → left ≡ [] → b ≡ with_records all b₀
unfolding with_records
going_ends all left b₀ b g e = sym (ap (λ (l : List Rec). with_records l b) e) ∙ g.same

-- ── the call
none_store : (o : Option Store) → some_store o ≡ false → o ≡ none
none_store none e = refl
none_store (some st) e = let z : ◌≡◌ {A = ℕ} 0 1 = cc in absurd (omega arith)

pub not_store_lem : (s b : List ℕ) → is_store s ≡ false → adding_figures s b ≡ record { answer = 1; bytes = b }
unfolding adding_figures is_store on_store
not_store_lem s b e = rw (none_store (decode s) e)

pub not_taken : (s b : List ℕ) → is_store s ≡ true → figures_taken b ≡ false → adding_figures s b ≡ record { answer = 2; bytes = b }
unfolding adding_figures on_store
not_taken s b e t = let x = is_store_lem s e in rw (x.1, t)

pub was_taken : (s b : List ℕ) (st : Store) → decode s ≡ some st → figures_taken b ≡ true → adding_figures s b ≡ record { answer = 0; bytes = figures_after b st.recs }
unfolding adding_figures on_store
was_taken s b st e t = rw (e, t)

pub records_are : (s : List ℕ) (st : Store) → decode s ≡ some st → records_in s ≡ st.recs
unfolding records_in
records_are s st e = rw e

added_roomy : (s b : List ℕ) → Bytes s → Bytes b → is_store s ≡ true → figures_taken b ≡ true → Roomy b (records_in s)
added_roomy s b S B e t =
    let x = is_store_lem s e in
    subst (Roomy b) (sym (records_are s x.0 x.1)) (roomy_start s b x.0.recs (store_bounds s x.0 S x.1) B t)

pub added : (s b mid last : List ℕ) (rs : List Rec) (n : ℕ) → is_store s ≡ true → figures_taken b ≡ true → Roomy b (records_in s) → rs ≡ records_in s → mid ≡ with_records rs b → n ≡ stores_in mid → last ≡ with_bytes mid 0 (low_first 8 (n + 1))
    → adding_figures s b ≡ record { answer = 0; bytes = last }
added s b mid last rs n e t r i p q z =
    let x = is_store_lem s e in
    let m : mid ≡ with_records (records_in s) b = p ∙ ap (λ (l : List Rec). with_records l b) i in
    let w : last ≡ figures_after b (records_in s) = z ∙ ap (λ (k : ℕ). with_bytes mid 0 (low_first 8 (k + 1))) q ∙ ap (λ (l : List ℕ). with_bytes l 0 (low_first 8 (stores_in l + 1))) m ∙ figures_are (records_in s) b r in
    was_taken s b x.0 x.1 t ∙ ap (λ (l : List ℕ). record { answer = 0; bytes = l }) (sym (w ∙ ap (figures_after b) (records_are s x.0 x.1)))

pub answered : (a : Adding) (x : ℕ) (l : List ℕ) → a ≡ record { answer = x; bytes = l } → (x ≡ a.answer) × (l ≡ a.bytes)
answered a x l e = (sym (ap (λ (y : Adding). y.answer) e), sym (ap (λ (y : Adding). y.bytes) e))

pub begun_not : (s : List ℕ) (v : Optional ℕ) → Begun s v → v ≡ None → is_store s ≡ false
begun_not s v w e = subst (Begun s) e w

pub begun_at : (s : List ℕ) (v : Optional ℕ) → Begun s v → (p : ℕ) → v ≡ Some p → (is_store s ≡ true) × RecordPlace s p × (records_at s p ≡ records_in s)
begun_at s v w p e = subst (Begun s) e w

-- the first number stands, and may grow
pub after_room : (rs : List Rec) (b mid : List ℕ) → Roomy b rs → mid ≡ with_records rs b → 0 + 8 ≤ length mid
after_room rs b mid r e = omega (arith, ap length e, long_after rs b r)

pub after_stores : (rs : List Rec) (b mid : List ℕ) (n : ℕ) → Roomy b rs → figures_taken b ≡ true → mid ≡ with_records rs b → n ≡ stores_in mid → n + 1 < 2 ^ 64
after_stores rs b mid n r t e q = omega (arith, q ∙ ap stores_in e ∙ stores_after rs b r, (taken b t).stores)

-- a store, and figures that pass: the place of its records, and room for them
pub record Ready (s b : List ℕ) (p : ℕ) : Type 0 where
  pub store : is_store s ≡ true
  pub passes : figures_taken b ≡ true
  pub place : RecordPlace s p
  pub long : length b ≡ figures_bytes
  pub all : Roomy b (records_in s)
  pub room : Roomy b (records_at s p)
  pub same : records_at s p ≡ records_in s

pub ready : (s b : List ℕ) (v : Optional ℕ) (p : ℕ) → Begun s v → v ≡ Some p → figures_taken b ≡ true → Bytes s → Bytes b → Ready s b p
ready s b v p w e t S B =
    let x = begun_at s v w p e in
    let r = added_roomy s b S B x.0 t in
    record { store = x.0; passes = t; place = x.1; long = r.long; all = r; room = subst (Roomy b) (sym x.2) r; same = x.2 }
