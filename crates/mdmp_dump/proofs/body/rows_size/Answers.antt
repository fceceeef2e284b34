use Rattle.std.proofs.Common.{refl}
use Rattle.mdmp_dump.proofs.body.rows_size.Goals as goal

pub returns-in-Some-clause-value : goal.returns-in-Some-clause-value
returns-in-Some-clause-value c =
    let kind = c.in-Some.ensures in
    let head = c.head_cost.ensures.value in
    let size = c.record_size.ensures.value in
    rw (c.from-head.ensures, c.from.ensures, c.from-in-Some.ensures, head, size, c.form.ensures, ← kind) refl
