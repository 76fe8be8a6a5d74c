-- W-209, "say which row was bad": the three numbers of a character block that is refused with 8, by the row rules.
use Rattle.std.specs.Prelude.{ℕ, ◌<◌, ◌≤◌, ◌≡◌, List, ◌++◌, cond, eqb, length, take, drop}
use Rattle.std.specs.Prelude.{Ok}
use Rattle.std.proofs.Math.Option.{some}
use Rattle.pictures.specs.Size.{runs_class}
use Rattle.pictures.specs.Picture.{PastRun}
use Rattle.blocks.specs.Character.{descriptor_bytes, continuation_bytes, continued, class, width, height, kind_of, read_first, kept_first}
use Rattle.blocks.specs.Header.{orientation, block_limit}
use Rattle.blocks.specs.declared.character.Kind.TheVariants.{First, Continuation}
use Rattle.form.specs.Layout.{last_code, last_font}
use Rattle.form.specs.Model.{Rec, Store, decode}
use Rattle.form.specs.Order.{font_at, character_at}
use Rattle.store.specs.Calls.{kept_of, data_of}

-- the descriptor and the data that the block b stands for, for code c of font n: a first block's own; or those of the open character, "its data joins
-- what is kept", so that rows count from the picture's top
pub data Sent (n c : ℕ) (b : List ℕ) (st : Store) : List ℕ → List ℕ → Type 0 where
  by_first : kind_of b ≡ First → Sent n c b st (kept_first b) (drop descriptor_bytes b)
  by_more :
      (r : Rec) → kind_of b ≡ Continuation → st.mark ≡ record { on = 1; font_of = n; code_of = c } → character_at n c st.recs ≡ some r
      → Sent n c b st (kept_of r) (data_of r ++ drop continuation_bytes b)

-- the block b for the store s has class 2 data with a run past the width, and these are its three numbers
pub record BadRunIn (n c : ℕ) (b s : List ℕ) (row filled run : ℕ) : Type 0 where
  pub store : Store
  pub is : decode s ≡ some store
  pub descriptor : List ℕ
  pub sent : List ℕ
  pub stands : Sent n c b store descriptor sent
  pub by_runs : class descriptor ≡ runs_class
  pub past : PastRun (width descriptor) 0 sent row filled run
  pub below : row < height descriptor

-- the checks before 8 let the block b through: 2, 3, 6 and those of a first block
pub record ChecksPassed (n c : ℕ) (b : List ℕ) (st : Store) : Type 0 where
  pub low : n ≤ last_font
  pub code : c ≤ last_code
  pub long : continuation_bytes ≤ length b
  pub short : length b ≤ block_limit
  pub font : Rec
  pub there : font_at n st.recs ≡ some font
  pub first : kind_of b ≡ First → read_first b (orientation (kept_of font)) ≡ Ok tt

-- a character block without its data: the descriptor of a first block, or the two bytes of a continuation
abbrev pub without_data : List ℕ → List ℕ
without_data b = cond (eqb (continued b) 0) (take descriptor_bytes b) (take continuation_bytes b)
