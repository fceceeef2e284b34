use Rattle.mdmp_summary_lines.proofs.json_ids.print_module_ids.Goals as goal

pub returns-in-None : goal.returns-in-None
returns-in-None g c = rw c.in-None.is c.print.ensures
