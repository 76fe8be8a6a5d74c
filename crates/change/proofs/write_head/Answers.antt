use Rattle.change.proofs.Written.{head_put}
use Rattle.change.proofs.write_head.Goals as goal

pub returns : goal.returns
returns c = rw (c.put-4.ensures, c.put-3.ensures, c.put-2.ensures, c.put.ensures) (head_put c.args.s.now c.args.at c.args.len c.args.id.font c.args.id.code c.requires)
