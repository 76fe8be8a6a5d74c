use mathlib.Core.Path.{◌≡◌, sym, ◌∙◌}
use native.Mathlib.Omega.{arith}
use lib.ListN.{length, take, drop, length-take, length-drop}
use lib.Seq.{length-take-le}
use Rattle.blocks.specs.Header.{plain_bytes, header_bytes, first_bytes}
use Rattle.blocks.proofs.HeaderBytes.{own_within, own_fine, put_coarse}
use Rattle.blocks.proofs.header.copy_first.Goals as goal

pub says_resolution-requires : goal.says_resolution-requires
says_resolution-requires c = omega (arith, c.requires.0, (own_within c.args.block.now).0)

pub slice_bounds-copy_from_slice-end : goal.slice_bounds-copy_from_slice-end
slice_bounds-copy_from_slice-end c = simp length-take (omega (arith, c.requires.0, own_fine c.args.block.now (sym c.says_resolution.ensures ∙ c.if-says_resolution.true)))

pub copy_from_slice-requires : goal.copy_from_slice-requires
copy_from_slice-requires c = simp length-take (omega (arith, c.requires.0, c.requires.1, own_fine c.args.block.now (sym c.says_resolution.ensures ∙ c.if-says_resolution.true)))

pub copy_from_slice-requires-else-says_resolution : goal.copy_from_slice-requires-else-says_resolution
copy_from_slice-requires-else-says_resolution c = simp length-take (omega (arith, c.requires.0, c.requires.1, (own_within c.args.block.now).0))

pub slice_bounds-copy_from_slice-end-else-says_resolution-2 : goal.slice_bounds-copy_from_slice-end-else-says_resolution-2
slice_bounds-copy_from_slice-end-else-says_resolution-2 c = simp length-take (omega (arith, c.requires.1))

pub slice_bounds-copy_from_slice-end-else-says_resolution-3 : goal.slice_bounds-copy_from_slice-end-else-says_resolution-3
slice_bounds-copy_from_slice-end-else-says_resolution-3 c = simp length-take (omega (arith, c.requires.0, (own_within c.args.block.now).0))

pub returns-then-says_resolution : goal.returns-then-says_resolution
unfolding first_bytes
returns-then-says_resolution c = rw (← c.says_resolution.ensures, c.if-says_resolution.true) c.copy_from_slice.ensures.after

pub returns-else-says_resolution : goal.returns-else-says_resolution
unfolding first_bytes
returns-else-says_resolution c =
    let o = c.args.out.now in
    let l : length (take plain_bytes c.args.block.now) ≡ plain_bytes = length-take-le plain_bytes c.args.block.now (omega (arith, c.requires.0, (own_within c.args.block.now).0)) in
    rw (← c.says_resolution.ensures, c.if-says_resolution.false, c.put_word-else-says_resolution.ensures, c.put_word.ensures, c.copy_from_slice-else-says_resolution.ensures.after)
    (put_coarse (take plain_bytes c.args.block.now) (drop plain_bytes o) l (omega (arith, length-drop plain_bytes o, c.requires.1)))
