use Rattle.std.proofs.Common.{refl, rules}
use Rattle.pictures.proofs.Bitmaps.{copied}
use Rattle.pictures.proofs.bitmap.copy_padded.Goals as goal

pub returns : goal.returns
returns c =
    copied _ _ c.args.bytes.now c.args.out.now _ _ c.copy_from_slice.ensures.after (search rules) (search rules) (λ l. search rules) (c.fill.ensures.after (λ y e. e)) refl
