use mathlib.Core.Path.{sym, ap, ◌∙◌}
use Rattle.stream.specs.Underway.{read_answer}
use Rattle.listing.proofs.Texts.{wrote_long, is_fresh, read_fresh, wrote_listing}
use Rattle.listing.proofs.listing.list.Goals as goal

pub returns-then-input-gt-MOST-clause-wrote : goal.returns-then-input-gt-MOST-clause-wrote
returns-then-input-gt-MOST-clause-wrote c = wrote_long _ _ _ _ c.if-input-gt-MOST.true c.requires c.write_bytes.ensures

pub unwrap-read-requires : goal.unwrap-read-requires
unwrap-read-requires c = read_fresh _ _ c.make_fresh.ensures.s_after c.read_stream.ensures.refused

pub returns-clause-wrote : goal.returns-clause-wrote
returns-clause-wrote c =
    wrote_listing _ _ _ _ _ _ _ _ _ _ _ c.if-input-gt-MOST.false (is_fresh _ c.make_fresh.ensures.s_after)
    (ap read_answer (sym c.unwrap-read.ensures) ∙ c.read_stream.ensures.value) c.read_stream.ensures.s_after c.requires
    c.write_bytes-heading.ensures c.write_lines-end.ensures.wrote c.write_summary.ensures
