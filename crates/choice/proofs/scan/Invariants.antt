use Rattle.std.proofs.Common.{◌≡◌}
use Rattle.form.specs.Fonts.{fonts_at}
use Rattle.form.specs.FontsLeft.{fonts_to_come}
use Rattle.choice.specs.Candidates.{candidates}
use Rattle.choice.specs.Scores.{no_score, pass, StandsAt}
use Rattle.choice.proofs.scan.Given as goal

-- the pass over the fonts that are left gives what the whole pass gives
abbrev pub invariant-loop-f : goal.invariant-loop-f
invariant-loop-f l =
    (l.f-iterator.store.now ≡ l.s) × (pass l.r l.b.best (candidates l.soft (fonts_to_come l.f-iterator)) ≡ pass l.r (no_score l.soft) (candidates l.soft (fonts_at l.s l.from)))
    × StandsAt l.s l.soft l.b.best l.b.kept
