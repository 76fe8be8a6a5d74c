-- The examples of W-211 hold, by computing. Assumes nothing.
use mathlib.Core.Path.{◌≡◌, refl}
use Rattle.marlinfold.specs.Trials.{A, B}
use Rattle.marlinfold.specs.Occurrences.{kind}
use Rattle.marlinfold.proofs.Computing.{computing}
use Rattle.eitherorder.specs.EitherOrder.{by_font_block, by_character_block, by_font_removal, by_character_removal}
use Rattle.eitherorder.specs.Pairs.{two_rows, open_a, more_a, letter_b, open_b, pair, pairs, continued_pairs, AllDone, kinds_of, ten_kinds, PairsOccur, LaterDecides, OneFontDiffers, OneOrderAlone}

ten : AllDone pairs
unfolding computing two_rows open_a letter_b open_b pair pairs
ten = (
  (by_font_block _, by_font_block _, (refl, refl), (refl, refl)),
  (
    (by_font_block _, by_character_block _ _, (refl, refl), (refl, refl)),
    (
      (by_font_block _, by_font_removal, (refl, refl), (refl, refl)),
      (
        (by_font_block _, by_character_removal _, (refl, refl), (refl, refl)),
        (
          (by_character_block _ _, by_character_block _ _, (refl, refl), (refl, refl)),
          (
            (by_character_block _ _, by_font_removal, (refl, refl), (refl, refl)),
            (
              (by_character_block _ _, by_character_removal _, (refl, refl), (refl, refl)),
              (
                (by_font_removal, by_font_removal, (refl, refl), (refl, refl)),
                (
                  (by_font_removal, by_character_removal _, (refl, refl), (refl, refl)),
                  ((by_character_removal _, by_character_removal _, (refl, refl), (refl, refl)), tt),
                ),
              ),
            ),
          ),
        ),
      ),
    ),
  ),
)

three : AllDone continued_pairs
unfolding computing two_rows open_a more_a letter_b pair continued_pairs
three = (
  (by_character_block _ _, by_font_block _, (refl, refl), (refl, refl)),
  ((by_character_block _ _, by_font_removal, (refl, refl), (refl, refl)), ((by_character_block _ _, by_character_removal _, (refl, refl), (refl, refl)), tt)),
)

kinds : kinds_of pairs ≡ ten_kinds
unfolding kind A B open_a letter_b open_b pair kinds_of ten_kinds pairs
kinds = refl

pub pairs_occur : PairsOccur
pairs_occur = (ten, kinds, three)

pub later_decides : LaterDecides
unfolding computing two_rows open_a open_b
later_decides = (refl, refl)

pub one_font_differs : OneFontDiffers
unfolding computing
one_font_differs = ((refl, refl), (refl, refl), refl, refl)

pub one_order_alone : OneOrderAlone
unfolding computing two_rows open_a more_a open_b
one_order_alone = ((refl, refl), refl, refl, (refl, refl), refl)
