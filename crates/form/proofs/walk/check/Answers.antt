use mathlib.Core.Path.{sym, ◌∙◌}
use Rattle.pictures.proofs.Tests.{failed, passed}
use Rattle.form.proofs.Codec.{begins_parts}
use Rattle.form.proofs.Inspects.{check_not, check_wrong, check_shut, check_open}
use Rattle.form.proofs.walk.check.Goals as goal

pub returns-then-not-begins_right : goal.returns-then-not-begins_right
returns-then-not-begins_right c = sym (check_not _ _ (failed c.begins_right.ensures c.if-not-begins_right.true-raw))

pub see_mark-requires : goal.see_mark-requires
see_mark-requires c = (begins_parts c.args.s.now (passed c.begins_right.ensures c.if-not-begins_right.false-raw)).0

pub check_records-requires : goal.check_records-requires
check_records-requires c =
    let b = begins_parts c.args.s.now (passed c.begins_right.ensures c.if-not-begins_right.false-raw) in (b.0, b.1)

pub check_records-requires-in-Open : goal.check_records-requires-in-Open
check_records-requires-in-Open c =
    let b = begins_parts c.args.s.now (passed c.begins_right.ensures c.if-not-begins_right.false-raw) in (b.0, b.1)

pub returns-in-Shut : goal.returns-in-Shut
returns-in-Shut c = c.check_records.ensures ∙ sym (check_shut _ _ (passed c.begins_right.ensures c.if-not-begins_right.false-raw) (sym c.see_mark.ensures ∙ c.in-Shut.is))

pub returns-in-Open : goal.returns-in-Open
returns-in-Open c = c.check_records-in-Open.ensures ∙ sym (check_open _ _ _ (passed c.begins_right.ensures c.if-not-begins_right.false-raw) (sym c.see_mark.ensures ∙ c.in-Open.is))

pub returns-in-Wrong : goal.returns-in-Wrong
returns-in-Wrong c = sym (check_wrong _ _ (passed c.begins_right.ensures c.if-not-begins_right.false-raw) (sym c.see_mark.ensures ∙ c.in-Wrong.is))
