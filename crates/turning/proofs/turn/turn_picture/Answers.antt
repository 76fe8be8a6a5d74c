use Rattle.std.proofs.Common.{length}
use Rattle.std.proofs.lemmas.Result.{err_from_is_err_and}
use Rattle.turning.proofs.Answers.{no_turn, no_picture, turn_refused}
use Rattle.turning.proofs.Turns.{taken_short, taken_done}
use Rattle.turning.proofs.turn.turn_picture.Goals as goal

pub returns-in_err-turn-clause-value : goal.returns-in_err-turn-clause-value
returns-in_err-turn-clause-value c =
    let a = c.args in
    let p = err_from_is_err_and c.from_residual.result c.from_residual.ensures.1 in
    rw (p.1, p.2, c.in_err-turn.ensures.1) (turn_refused a.turn a.width a.height a.picture.now a.out.now (no_turn a.turn a.width a.height (length a.picture.now) c.in_err-turn.ensures.0)).0

pub returns-in_err-turn-clause-out_after : goal.returns-in_err-turn-clause-out_after
returns-in_err-turn-clause-out_after c =
    let a = c.args in (turn_refused a.turn a.width a.height a.picture.now a.out.now (no_turn a.turn a.width a.height (length a.picture.now) c.in_err-turn.ensures.0)).1

pub returns-in_err-picture-clause-value : goal.returns-in_err-picture-clause-value
returns-in_err-picture-clause-value c =
    let a = c.args in
    let p = err_from_is_err_and c.from_residual-in_err-picture.result c.from_residual-in_err-picture.ensures.1 in
    rw (p.1, p.2, c.in_err-picture.ensures.1) (turn_refused a.turn a.width a.height a.picture.now a.out.now (no_picture a.turn a.width a.height (length a.picture.now) c.in_err-picture.ensures.0)).0

pub returns-in_err-picture-clause-out_after : goal.returns-in_err-picture-clause-out_after
returns-in_err-picture-clause-out_after c =
    let a = c.args in (turn_refused a.turn a.width a.height a.picture.now a.out.now (no_picture a.turn a.width a.height (length a.picture.now) c.in_err-picture.ensures.0)).1

pub returns-then-out-size-clause-value : goal.returns-then-out-size-clause-value
returns-then-out-size-clause-value c =
    let a = c.args in
    let p = c.in_ok-picture.ensures in
    (taken_short a.turn a.width a.height a.picture.now a.out.now c.in_ok-turn.turn c.in_ok-turn.ensures p.0 c.turned_size-size.result (rw (p.1, p.2) at c.turned_size-size.ensures) c.if-out-size.true).0

pub returns-then-out-size-clause-out_after : goal.returns-then-out-size-clause-out_after
returns-then-out-size-clause-out_after c =
    let a = c.args in
    let p = c.in_ok-picture.ensures in
    (taken_short a.turn a.width a.height a.picture.now a.out.now c.in_ok-turn.turn c.in_ok-turn.ensures p.0 c.turned_size-size.result (rw (p.1, p.2) at c.turned_size-size.ensures) c.if-out-size.true).1

pub returns-clause-value : goal.returns-clause-value
returns-clause-value c =
    let a = c.args in
    let p = c.in_ok-picture.ensures in
    (taken_done a.turn a.width a.height a.picture.now a.out.now c.in_ok-turn.turn c.in_ok-turn.ensures p.0 c.turned_size-size.result (rw (p.1, p.2) at c.turned_size-size.ensures) c.if-out-size.false
    c.turn_into.new.out (rw (p.1, p.2, p.3) at c.turn_into.ensures)).0

pub returns-clause-out_after : goal.returns-clause-out_after
returns-clause-out_after c =
    let a = c.args in
    let p = c.in_ok-picture.ensures in
    (taken_done a.turn a.width a.height a.picture.now a.out.now c.in_ok-turn.turn c.in_ok-turn.ensures p.0 c.turned_size-size.result (rw (p.1, p.2) at c.turned_size-size.ensures) c.if-out-size.false
    c.turn_into.new.out (rw (p.1, p.2, p.3) at c.turn_into.ensures)).1
