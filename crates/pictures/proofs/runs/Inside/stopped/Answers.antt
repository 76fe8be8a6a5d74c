use Rattle.std.proofs.Common.{◌≡◌}
use Rattle.pictures.proofs.runs.Inside.stopped.Goals as goal

pub returns : goal.returns
returns c =
    let e : c.from.result ≡ c.args.width = c.from.ensures in
    rw (c.place_of.ensures, e)
