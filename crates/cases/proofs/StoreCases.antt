-- The cases of blocks, rows and the store hold, by computing. Assumes nothing.
use mathlib.Core.Path.{refl}
use Rattle.marlinfold.specs.Trials.{drawn}
use Rattle.marlinfold.specs.Occurrences.{lettered_font, tells}
use Rattle.marlinfold.proofs.Computing.{computing}
use Rattle.cases.specs.StoreCases.{full_block, full_kept, two_of_three, three_kept, third_row, white_row, marked_store, told_as, not_told, block_taken, kept_cases, check_cases, changed_at, header_cases, empty_block, descriptor_cases, KeptAsSent, ChecksDecide, FieldsLimited}

pub kept_as_sent : KeptAsSent
unfolding computing kept_cases full_block full_kept two_of_three three_kept third_row white_row marked_store told_as not_told block_taken drawn
kept_as_sent = (refl, (refl, (refl, (refl, (refl, (refl, (refl, (refl, (refl, (refl, (refl, (refl, (refl, (refl, (refl, (refl, (refl, tt)))))))))))))))))

pub checks_decide : ChecksDecide
unfolding computing check_cases white_row lettered_font tells
checks_decide = (refl, (refl, (refl, (refl, (refl, (refl, (refl, (refl, (refl, (refl, (refl, (refl, (refl, (refl, tt))))))))))))))

pub fields_limited : FieldsLimited
unfolding computing header_cases descriptor_cases changed_at empty_block tells
fields_limited = ((refl, (refl, (refl, (refl, (refl, (refl, (refl, (refl, (refl, (refl, (refl, (refl, (refl, (refl, (refl, (refl, (refl, (refl, (refl, (refl, (refl, (refl, (refl, tt))))))))))))))))))))))), (refl, (refl, (refl, (refl, (refl, (refl, (refl, (refl, (refl, (refl, (refl, (refl, (refl, (refl, (refl, (refl, (refl, (refl, (refl, (refl, (refl, (refl, tt)))))))))))))))))))))))
