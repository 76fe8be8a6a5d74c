use borrow.Author.Rules.{rules}
use native.Mathlib.Omega.{arith}
use Rattle.form.proofs.Fields.{field_two}
use Rattle.form.proofs.number.le16.Goals as goal

pub returns : goal.returns
returns c = omega (arith, c.from_le_bytes.ensures, field_two c.args.at c.args.s.now (search rules))
