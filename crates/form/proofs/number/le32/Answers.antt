use borrow.Author.Rules.{rules}
use native.Mathlib.Omega.{arith}
use Rattle.form.proofs.Fields.{field_bytes}
use Rattle.form.proofs.number.le32.Goals as goal

pub returns : goal.returns
returns c = omega (arith, c.from_le_bytes.ensures, field_bytes c.args.at c.args.s.now (search rules))
