use Rattle.blocks.specs.Header.{fix_header, kept_header}
use Rattle.blocks.proofs.header.keep_header.Goals as goal

pub returns : goal.returns
unfolding fix_header kept_header
returns c = cc
