use Rattle.std.proofs.Common.{length, ◌≡◌, ◌≤◌}
use Rattle.sheet.proofs.Sheet.{answers_after}
use Rattle.marlinfold.proofs.mf_choose_sheet.Given as goal

-- the first i requests are answered
abbrev pub invariant-loop-i : goal.invariant-loop-i
invariant-loop-i l = (l.i ≤ length l.requests) × (l.answers ≡ answers_after l.store l.i l.requests l.initial.answers)
