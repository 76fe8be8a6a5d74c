use Rattle.std.proofs.Common.{◌*◌}
use Rattle.turning.specs.Columns.{Done}
use Rattle.turning.proofs.BlockLaws.{Columns}
use Rattle.turning.proofs.block.Column.turn.Given as goal

abbrev pub invariant-loop-place : goal.invariant-loop-place
invariant-loop-place l = Done l.self (l.self.at * 8) l.initial.out → Columns l.self.up l.self.picture.width l.self.picture.height l.self.picture.bytes.now l.self.at l.place l.out
