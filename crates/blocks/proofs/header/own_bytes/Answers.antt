use native.Mathlib.Omega.{arith}
use Rattle.blocks.specs.Header.{own_bytes}
use Rattle.blocks.proofs.header.own_bytes.Goals as goal

pub returns-then-says_resolution : goal.returns-then-says_resolution
unfolding own_bytes
returns-then-says_resolution c = (rw (← c.says_resolution.ensures, c.if-says_resolution.true), omega arith)

pub returns-else-says_resolution : goal.returns-else-says_resolution
unfolding own_bytes
returns-else-says_resolution c = (rw (← c.says_resolution.ensures, c.if-says_resolution.false), omega arith)
