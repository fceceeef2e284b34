use Rattle.mdmp_summary_lines.proofs.json_ids.print_told_ids.Goals as goal

pub returns-in-Rsds : goal.returns-in-Rsds
returns-in-Rsds g c = rw (c.in-Rsds.is, ← c.read-build_id.ensures, ← c.as_bytes.ensures) c.print_around.ensures

pub returns-in-Other : goal.returns-in-Other
returns-in-Other g c = rw (c.in-Other.is, ← c.read-build_id.ensures, ← c.read.ensures) c.print.ensures

pub returns-in-Short : goal.returns-in-Short
returns-in-Short g c = rw (c.in-Short.is, ← c.read-build_id.ensures) c.print-in-Short.ensures
