-- For the code alone: how it brings the figures up to date, record by record.
use Rattle.std.specs.Prelude.{ℕ, ◌+◌, ◌≤◌, ◌<◌, ◌^◌, ◌≡◌, List, [], ◌∷◌, length, Option, Some, None}
use Rattle.pictures.specs.Size.{bitmap_class, picture_size, data_limit}
use Rattle.blocks.specs.Character.{class, width, height, delta_x}
use Rattle.form.specs.Layout.{last_code}
use Rattle.form.specs.Model.{Rec, font, character}
use Rattle.change.specs.Put.{with_bytes}
use Rattle.blackdots.specs.Black.{black_dots}
use Rattle.collection.specs.Figures.{joined, figure_of, figure_in, code_place, figure_at, bytes_of_figure, figures_bytes}

-- a character's data, as a store holds it
pub record Drawable (k d : List ℕ) : Type 0 where
  pub wide : 0 < width k
  pub most : class k ≡ bitmap_class → length d ≤ picture_size (width k) (height k)
  pub small : length d ≤ data_limit

-- a character's figures may be added to those of its code
pub record RoomFor (b : List ℕ) (c : ℕ) (k d : List ℕ) : Type 0 where
  pub count : (figure_at b c).count + 1 < 2 ^ 64
  pub dots : (figure_at b c).dots + black_dots (class k) (width k) (height k) d < 2 ^ 64
  pub sum : (figure_at b c).sum + delta_x k < 2 ^ 64

-- records with codes in range, and with widths above 0 that eight bytes spell
abbrev pub RecFits : Rec → Type 0
RecFits (font n h) = Unit {0}
RecFits (character n c h d) = (c ≤ last_code) × (0 < width h) × (width h < 2 ^ 64)

abbrev pub RecsFit : List Rec → Type 0
RecsFit [] = Unit {0}
RecsFit (r ∷ rs) = RecFits r × RecsFit rs

-- the figures of records may be added to these
pub record Roomy (b : List ℕ) (rs : List Rec) : Type 0 where
  pub long : length b ≡ figures_bytes
  pub fit : RecsFit rs
  pub least : (c : ℕ) → c ≤ last_code → (figure_at b c).least < 2 ^ 64
  pub greatest : (c : ℕ) → c ≤ last_code → (figure_at b c).greatest < 2 ^ 64
  pub count : (c : ℕ) → c ≤ last_code → (figure_at b c).count + (figure_in rs c).count < 2 ^ 64
  pub dots : (c : ℕ) → c ≤ last_code → (figure_at b c).dots + (figure_in rs c).dots < 2 ^ 64
  pub sum : (c : ℕ) → c ≤ last_code → (figure_at b c).sum + (figure_in rs c).sum < 2 ^ 64

-- figures with a character more, a record, and records
unfoldable pub figures_with : List ℕ → ℕ → List ℕ → List ℕ → List ℕ
figures_with b c h d = with_bytes b (code_place c) (bytes_of_figure (joined (figure_at b c) (figure_of h d)))

unfoldable pub with_record : List ℕ → Rec → List ℕ
with_record b (font n h) = b
with_record b (character n c h d) = figures_with b c h d

unfoldable pub with_records : List Rec → List ℕ → List ℕ
with_records [] b = b
with_records (r ∷ rs) b = with_records rs (with_record b r)
