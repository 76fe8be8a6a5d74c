-- How a call's checks stand in order, each with the number that it refuses with. `refuse` makes the whole answer of a refusal.
use Rattle.std.specs.Prelude.{ℕ, List, Bool, true, false, ◌&&◌, leb}
use Rattle.std.specs.Prelude.{Result, Ok, Err}
use Rattle.std.proofs.Math.Option.{Option, none, some}
use Rattle.form.specs.Layout.{last_font, last_code}
use Rattle.form.specs.Model.{Rec, Store, decode}
use Rattle.form.specs.Order.{font_at, character_at}

-- a store, else 1, "buffer not a store"
unfoldable pub on_store : {A : Type 0} → (ℕ → A) → Option Store → (Store → A) → A
on_store refuse none f = refuse 1
on_store refuse (some st) f = f st

-- t, else k
abbrev pub checked : {A : Type 0} → (ℕ → A) → Bool → ℕ → A → A
checked refuse true k a = a
checked refuse false k a = refuse k

-- the checks of a block
abbrev pub taking : {A : Type 0} → (ℕ → A) → Result Unit ℕ → A → A
taking refuse (Ok tt) a = a
taking refuse (Err k) a = refuse k

-- a record that must be there, else k
unfoldable pub finding : {A : Type 0} → (ℕ → A) → Option Rec → ℕ → (Rec → A) → A
finding refuse none k f = refuse k
finding refuse (some r) k f = f r

-- "Font numbers 0..32767, codes 0..255."
abbrev pub numbered : ℕ → ℕ → Bool
numbered n c = leb n last_font && leb c last_code

-- a call on a kept font checks 1, 2, 6
unfoldable pub on_font : {A : Type 0} → (ℕ → A) → ℕ → List ℕ → (Store → Rec → A) → A
on_font refuse n s f =
    on_store refuse (decode s)
    (λ st. checked refuse (leb n last_font) 2 (finding refuse (font_at n st.recs) 6 (f st)))

-- a call on a kept character checks 1, 2, 6, 7
unfoldable pub on_character : {A : Type 0} → (ℕ → A) → ℕ → ℕ → List ℕ → (Store → Rec → A) → A
on_character refuse n c s f =
    on_store refuse (decode s)
    (λ st.
    checked refuse (numbered n c) 2
    (finding refuse (font_at n st.recs) 6
    (λ r. finding refuse (character_at n c st.recs) 7 (f st))))
