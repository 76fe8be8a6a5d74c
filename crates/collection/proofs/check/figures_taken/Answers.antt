use Rattle.collection.proofs.Checking.{not_long, too_many, taken_by}
use Rattle.collection.proofs.check.figures_taken.Goals as goal

pub returns-then-b-ne-FIGURES_BYTES : goal.returns-then-b-ne-FIGURES_BYTES
returns-then-b-ne-FIGURES_BYTES c = not_long _ c.if-b-ne-FIGURES_BYTES.true

pub returns-then-stores-ge-MOST_STORES : goal.returns-then-stores-ge-MOST_STORES
returns-then-stores-ge-MOST_STORES c = too_many _ _ c.number_at-stores.ensures c.if-b-ne-FIGURES_BYTES.false c.if-stores-ge-MOST_STORES.true

pub returns : goal.returns
returns c = taken_by _ _ _ c.number_at-stores.ensures c.if-b-ne-FIGURES_BYTES.false c.if-stores-ge-MOST_STORES.false c.codes_within.ensures
