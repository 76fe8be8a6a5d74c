-- Document 01, "Choosing": a request, and the numbers that it may hold.
use Rattle.std.specs.Prelude.{ℕ, Bool, ◌&&◌, ◌||◌, ℤ, ◌==◌, nat_le}
use Rattle.blocks.specs.Field.{signed, signed_within}
use Rattle.blocks.specs.Header.{last_symbol_set, last_spacing, last_style, weight_limit, last_orientation, coarse_resolution, fine_resolution}
use Rattle.choice.specs.declared.Request.{Request}

-- "A request: symbol set .., spacing .., pitch R .., height H .., style .., weight .., typeface .., page orientation": its numbers in this order.
-- W-206: "A request gains a mode"
abbrev pub request_of : ℕ → ℕ → ℕ → ℕ → ℕ → ℕ → ℕ → ℕ → ℕ → Request
request_of set spacing R H style weight typeface page mode =
    record {
      symbol_set = set;
      spacing = spacing;
      pitch = R;
      height = H;
      style = style;
      weight = weight;
      typeface = typeface;
      orientation = page;
      mode = mode;
    }

-- the weight asked for: 32 bits in two's complement
unfoldable pub asked_weight : Request → ℤ
asked_weight r = signed 32 r.weight

-- how far the numbers go for which a header has no limit of its own: R, "in hundredths of a character per inch", H, "in hundredths of a point", typeface
abbrev pub highest_r : ℕ
highest_r = 57600

abbrev pub highest_h : ℕ
highest_h = 99975

abbrev pub highest_typeface : ℕ
highest_typeface = 65535

-- W-206: "a mode, 300 or 600"
abbrev pub is_mode : ℕ → Bool
is_mode m = m == coarse_resolution || m == fine_resolution

-- "symbol set 0..2047, spacing 0 or 1, pitch R .. 0..57,600, height H .. 0..99,975, style 0..1023, weight -7..7, typeface 0..65535", page
-- orientation 0 to 3 (W-203), a mode (W-206: "2 for another mode"): set, spacing, style, weight and orientation go as far as a header's
unfoldable pub in_range : Request → Bool
in_range r =
    nat_le r.symbol_set last_symbol_set
    && nat_le r.spacing last_spacing
    && nat_le r.pitch highest_r
    && nat_le r.height highest_h
    && nat_le r.style last_style
    && signed_within 32 weight_limit r.weight
    && nat_le r.typeface highest_typeface
    && nat_le r.orientation last_orientation
    && is_mode r.mode
