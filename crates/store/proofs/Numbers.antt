-- The number of a kind and of data decides in every case. Assumes nothing.
use Rattle.std.proofs.Common.{refl}
use Rattle.blocks.specs.declared.character.Kind.TheVariants.{First, Continuation, Unknown}
use Rattle.std.specs.Prelude.{Ok, Err}
use Rattle.store.specs.Download.{KindsNumbered, JudgedNumbered}

pub kinds_numbered : KindsNumbered
kinds_numbered refused First first more both = refl
kinds_numbered refused Continuation first more both = refl
kinds_numbered refused Unknown first more both = refl

pub judged_numbered : JudgedNumbered
judged_numbered s (Ok n) a = refl
judged_numbered s (Err p) a = refl
