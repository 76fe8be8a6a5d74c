use mathlib.Core.Path.{◌≡◌}
use Prim.Native.Nat.{◌+◌, ◌-◌}
use lib.ListN.{length}
use Rattle.blocks.specs.Character.{kept_first, descriptor_bytes}
use Rattle.blocks.proofs.KeptFirst.{kept_length}
use Rattle.change.proofs.Written.{mid_put}
use native.Mathlib.Omega.{arith}
use Rattle.change.proofs.write_descriptor.Goals as goal

pub returns : goal.returns
returns c =
    let a = c.args in
    let h = kept_first a.block.now in
    let l : length h ≡ a.at + descriptor_bytes - a.at = omega (arith, kept_length a.block.now c.requires.1) in
    rw c.keep_first.ensures (mid_put a.s.now a.at (a.at + descriptor_bytes) h (omega arith) l)
