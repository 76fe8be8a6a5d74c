-- Each number that is listed for a call occurs, by computing. Assumes nothing.
use mathlib.Core.Path.{◌≡◌, refl}
use mathlib.Core.List.{[], ◌∷◌, ◌++◌}
use mathlib.Core.Bool.{true}
use native.Mathlib.Omega.{arith}
use lib.ListN.{replicate}
use Rattle.form.specs.Layout.{least_store}
use Rattle.form.specs.Records.{is_store}
use Rattle.collection.specs.Handed.{stores_among}
use Rattle.marlinfold.specs.Collection.{collected}
use Rattle.marlinfold.proofs.Collection.{figures_taken_lem}
use Rattle.marlinfold.specs.Calls.{Call, make_fresh, download_font, download_character, remove_font, remove_character, choose_font, tell_font, tell_character, draw_row, draw_picture, write_font, read_stream, choose_sheet, turn_picture, check_profile, write_profiled, choose_from_two, add_figures, salvage_stream, outcome}
use Rattle.marlinfold.specs.Demands.{listed}
use Rattle.marlinfold.specs.Occurrences.{kind, at, lettered_font, plain_characters, occurrences, before_if, numbers_of, AllOccur, ListedOccur, on, given, figures_rows, numbers_given, given_of, own_numbers, AllGiven, NumbersOccur, bad_row, bad_start, font_sent, character_sent, tells, own_cases, OwnCasesOccur}
use Rattle.marlinfold.specs.Trials.{A, sending, request_in, request_with, asks, store_after}
use Rattle.marlinfold.proofs.Computing.{computing}

each : AllOccur occurrences
unfolding computing occurrences at lettered_font plain_characters
each = (refl, (refl, (refl, (refl, (refl, (refl, (refl, (refl, (refl, (refl, (refl, (refl, (refl, (refl, (refl, (refl, (refl, (refl, (refl, (refl, (refl, (refl, (refl, (refl, (refl, (refl, (refl, (refl, (refl, (refl, (refl, (refl, (refl, (refl, (refl, (refl, (refl, (refl, (refl, (refl, (refl, (refl, (refl, (refl, (refl, (refl, (refl, (refl, (refl, (refl, (refl, (refl, (refl, (refl, (refl, (refl, (refl, (refl, (refl, (refl, (refl, (refl, (refl, (refl, (refl, (refl, (refl, (refl, tt))))))))))))))))))))))))))))))))))))))))))))))))))))))))))))))))))))

numbers : (c : Call) → numbers_of (kind c) occurrences ≡ listed c
unfolding occurrences before_if numbers_of kind at sending lettered_font plain_characters A request_in request_with asks listed
numbers make_fresh = refl
numbers (download_font n b) = refl
numbers (download_character n c b) = refl
numbers (remove_font n) = refl
numbers (remove_character n c) = refl
numbers (choose_font r) = refl
numbers (tell_font n out) = refl
numbers (tell_character n c out) = refl
numbers (draw_row n c row out) = refl
numbers (draw_picture n c out) = refl
numbers (write_font n out) = refl
numbers (read_stream b) = refl
numbers (choose_sheet rs out) = refl
numbers (turn_picture t w h pic out) = refl
numbers (check_profile n) = refl
numbers (write_profiled n out) = refl
numbers (choose_from_two p t r) = refl
numbers (add_figures b) = refl
numbers (salvage_stream b list) = refl

pub listed_occur : ListedOccur
listed_occur = (each, numbers)

-- ── each number that a call can answer
-- figures of zeros are many bytes, so that the first row is not computed
fresh_is_store : is_store (store_after least_store []) ≡ true
unfolding computing
fresh_is_store = refl

first_added : (outcome (add_figures (replicate 14344 0)) (store_after least_store [])).refusal ≡ 0
unfolding stores_among collected
first_added = figures_taken_lem [] (store_after least_store []) tt fresh_is_store (omega arith)

not_added_lem : (outcome (add_figures []) (store_after 0 [])).refusal ≡ 1
unfolding computing
not_added_lem = refl

too_short : (outcome (add_figures []) (store_after least_store [])).refusal ≡ 2
unfolding computing
too_short = refl

figures_rows_lem : AllGiven figures_rows
unfolding figures_rows given on
figures_rows_lem = (first_added, (not_added_lem, (too_short, tt)))

each_given : AllGiven numbers_given
unfolding computing numbers_given on given bad_row lettered_font
each_given = (refl, (refl, (refl, (refl, (refl, (refl, (refl, (refl, (refl, (refl, (refl, (refl, (refl, (refl, (refl, (refl, (refl, (refl, (refl, (refl, (refl, (refl, (refl, (refl, (refl, (refl, (refl, (refl, (refl, (refl, (refl, (refl, (refl, (refl, (refl, (refl, (refl, (refl, (refl, (refl, (refl, (refl, (refl, (refl, (refl, (refl, (refl, (refl, (refl, (refl, (refl, (refl, (refl, (refl, (refl, (refl, (refl, (refl, (refl, (refl, (refl, (refl, (refl, (refl, (refl, (refl, (refl, (refl, (refl, (refl, (refl, (refl, (refl, (refl, (refl, (refl, (refl, (refl, (refl, (refl, (refl, (refl, (refl, (refl, (refl, (refl, (refl, (refl, figures_rows_lem))))))))))))))))))))))))))))))))))))))))))))))))))))))))))))))))))))))))))))))))))))))))

given_numbers : (c : Call) → given_of (kind c) numbers_given ≡ 0 ∷ (listed c ++ own_numbers (kind c))
unfolding numbers_given figures_rows before_if given_of own_numbers kind on given sending lettered_font A request_in request_with asks listed
given_numbers make_fresh = refl
given_numbers (download_font n b) = refl
given_numbers (download_character n c b) = refl
given_numbers (remove_font n) = refl
given_numbers (remove_character n c) = refl
given_numbers (choose_font r) = refl
given_numbers (tell_font n out) = refl
given_numbers (tell_character n c out) = refl
given_numbers (draw_row n c row out) = refl
given_numbers (draw_picture n c out) = refl
given_numbers (write_font n out) = refl
given_numbers (read_stream b) = refl
given_numbers (choose_sheet rs out) = refl
given_numbers (turn_picture t w h pic out) = refl
given_numbers (check_profile n) = refl
given_numbers (write_profiled n out) = refl
given_numbers (choose_from_two p t r) = refl
given_numbers (add_figures b) = refl
given_numbers (salvage_stream b list) = refl

pub numbers_occur : NumbersOccur
numbers_occur = (each_given, given_numbers)

pub own_cases_occur : OwnCasesOccur
unfolding computing bad_row bad_start font_sent character_sent tells own_cases
own_cases_occur = (refl, (refl, (refl, (refl, (refl, (refl, (refl, (refl, (refl, (refl, (refl, tt)))))))))))
