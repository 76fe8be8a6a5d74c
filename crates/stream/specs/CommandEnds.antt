-- For the code alone: where the places of a command lie.
use Rattle.std.specs.Prelude.{ℕ, ◌≤◌, ◌<◌}
use Rattle.stream.specs.declared.command.Command.{Command}
use Rattle.stream.specs.declared.command.Command.TheVariants.{SetFont, SetCode, FontBlock, CharacterBlock, Broken, End}

-- the places of a command lie after at, in order, and within n bytes: so they do, where the command at at is read from n bytes
unfoldable pub CommandEnds : ℕ → ℕ → Command → Type 0
CommandEnds at n (SetFont v e) = (at < e) × (e ≤ n)
CommandEnds at n (SetCode v e) = (at < e) × (e ≤ n)
CommandEnds at n (FontBlock f e) = (at < f) × (f ≤ e) × (e ≤ n)
CommandEnds at n (CharacterBlock f e) = (at < f) × (f ≤ e) × (e ≤ n)
CommandEnds at n Broken = Unit
CommandEnds at n End = Unit
