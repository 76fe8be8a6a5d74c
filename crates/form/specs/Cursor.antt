-- For the code alone: places in the run of records of a buffer that is a store, by the keys of the records.
use Rattle.std.specs.Prelude.{ℕ, ◌+◌, ◌≤◌, ◌≡◌, List, cond, eqb}
use Rattle.std.proofs.Math.Option.{some}
use Rattle.form.specs.Layout.{last_font, key_of, kind_at, number_at, code_at, mark_record, font_kind}
use Rattle.form.specs.Num.{field}
use Rattle.form.specs.Model.{Store, total, decode}
use Rattle.form.specs.Order.{below}
use Rattle.form.specs.Walk.{key_after, end_of, walk_start}
use Rattle.form.specs.declared.walk.RunEnd.{RunEnd}
use Rattle.form.specs.declared.locate.Cursor.{Cursor}

-- the place of a record of this kind: 0 a font, its code and 1 a character
abbrev pub place_by : ℕ → ℕ → ℕ
place_by kind code = cond (eqb kind font_kind) 0 (code + 1)

-- the key of the record that begins at a place
abbrev pub key_at : List ℕ → ℕ → ℕ
key_at s at = key_of (field 2 (at + number_at) s) (place_by (field 2 (at + kind_at) s) (field 2 (at + code_at) s))

-- s is a store, whose records end at `end`
pub record StoreEnds (s : List ℕ) (end : ℕ) : Type 0 where
  pub store : Store
  pub is : decode s ≡ some store
  pub used : end ≡ mark_record + total store.recs

-- and the keys from `least` on may stand there
pub record Behind (s : List ℕ) (end least : ℕ) : Type 0 where
  pub ends : StoreEnds s end
  pub last : least ≡ key_after 0 ends.store.recs

-- s is a store, and e says how its records end, where font n was asked for
pub record EndKnown (n : ℕ) (s : List ℕ) (e : RunEnd) : Type 0 where
  pub store : Store
  pub is : decode s ≡ some store
  pub end : e ≡ end_of n walk_start store.recs

-- here is the place of the key k: behind all records with lower keys
pub record Reaches (s : List ℕ) (k here : ℕ) : Type 0 where
  pub store : Store
  pub is : decode s ≡ some store
  pub at : here ≡ mark_record + total (below k store.recs)

-- here is the place of some key up to k, and end is where the records end
pub record Seeking (s : List ℕ) (end k here : ℕ) : Type 0 where
  pub store : Store
  pub is : decode s ≡ some store
  pub used : end ≡ mark_record + total store.recs
  pub base : ℕ
  pub low : base ≤ k
  pub at : here ≡ mark_record + total (below base store.recs)

-- what a cursor says of a store holds
pub record Points (s : List ℕ) (c : Cursor) : Type 0 where
  pub store : Store
  pub is : decode s ≡ some store
  pub low : c.font ≤ last_font
  pub used : c.used ≡ mark_record + total store.recs
  pub lo : c.lo ≡ mark_record + total (below (key_of c.font 0) store.recs)
  pub at : c.at ≡ mark_record + total (below c.key store.recs)
