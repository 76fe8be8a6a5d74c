-- For the code alone: bytes of a kept descriptor that are tested together. The law `in_order` of the proofs ties them to `is_kept_first`.
use Rattle.std.specs.Prelude.{ℕ, List, Bool, ◌&&◌, eqb}
use Rattle.blocks.specs.Field.{byte}
use Rattle.blocks.specs.Character.{character_format, size_taken, reserved_at, format, continued, descriptor_size, class, orientation, held_class}

-- the first four bytes
abbrev pub opens_kept : List ℕ → Bool
opens_kept k = eqb (format k) character_format && (eqb (continued k) 0 && (eqb (descriptor_size k) size_taken && held_class (class k)))

-- the next two
abbrev pub faces_as : List ℕ → ℕ → Bool
faces_as k o = eqb (orientation k) o && eqb (byte k reserved_at) 0
