use Rattle.std.proofs.Common.{◌∙◌, ap, refl}
use Rattle.mdmp_summary.specs.Summary.{file_summary}
use Rattle.mdmp_c.specs.Summary.{leaves, sums}
use Rattle.mdmp_c.specs.SummaryRows.{summary_row}
use Rattle.mdmp_c.proofs.summary.mdmp_summary_.Goals as goal

pub returns-in-Ok : goal.returns-in-Ok
returns-in-Ok c =
    let given = c.in-Some.ensures in
    let summed = c.in-Ok.ensures in
    sums (record { limits = c.in-Some.given; given = given; within = summed.0.0; reads = summed.0.1 }) refl refl
    (c.summary_row.ensures ∙ ap (summary_row c.args.file.now c.args.limits.now.name) (summed.1 ∙ ap (file_summary c.args.file.now) given.name))

pub returns-in-Err : goal.returns-in-Err
returns-in-Err c =
    let given = c.in-Some.ensures in
    leaves c.in-Err.told given.valid c.in-Err.ensures (record { status_is = c.status_of-in-Err.ensures; fault_is = refl; out = refl })
