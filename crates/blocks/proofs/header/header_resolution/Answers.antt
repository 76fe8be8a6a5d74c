use mathlib.Core.Path.{sym, ◌∙◌}
use native.Mathlib.Omega.{arith}
use Rattle.blocks.proofs.HeaderBytes.{own_within, own_fine}
use Rattle.blocks.proofs.header.header_resolution.Goals as goal

pub says_resolution-requires : goal.says_resolution-requires
says_resolution-requires c = omega (arith, c.requires, (own_within c.args.h.now).0)

pub both_are-requires : goal.both_are-requires
both_are-requires c = omega (arith, c.requires, own_fine c.args.h.now (sym c.says_resolution.ensures ∙ c.if-says_resolution.true))

pub both_are-requires-then-says_resolution : goal.both_are-requires-then-says_resolution
both_are-requires-then-says_resolution c = omega (arith, c.requires, own_fine c.args.h.now (sym c.says_resolution.ensures ∙ c.if-says_resolution.true))

pub returns-then-says_resolution : goal.returns-then-says_resolution
returns-then-says_resolution c = rw (← c.says_resolution.ensures, c.if-says_resolution.true, ← c.both_are-then-says_resolution.ensures, ← c.both_are.ensures)

pub returns-else-says_resolution : goal.returns-else-says_resolution
returns-else-says_resolution c = rw (← c.says_resolution.ensures, c.if-says_resolution.false)
