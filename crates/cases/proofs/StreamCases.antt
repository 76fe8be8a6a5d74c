-- The cases of streams and of the write-out hold, by computing. Assumes nothing.
use mathlib.Core.Path.{refl}
use Rattle.marlinfold.specs.Occurrences.{tells}
use Rattle.marlinfold.proofs.Computing.{computing}
use Rattle.cases.specs.StoreCases.{told_as, not_told}
use Rattle.cases.specs.StreamCases.{block_of_a, block_of_letter, stream_cases, written_bytes, write_cases, StreamsRead, FontsWritten}

pub streams_read : StreamsRead
unfolding computing stream_cases block_of_a block_of_letter tells
streams_read = (refl, (refl, (refl, (refl, (refl, (refl, (refl, (refl, (refl, tt)))))))))

pub fonts_written : FontsWritten
unfolding computing write_cases written_bytes told_as not_told
fonts_written = (refl, (refl, (refl, tt)))
