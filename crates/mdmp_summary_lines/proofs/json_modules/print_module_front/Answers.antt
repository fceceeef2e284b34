use Rattle.mdmp_summary_lines.proofs.json_modules.print_module_front.Goals as goal

pub returns : goal.returns
returns g c = rw (← c.end_address.ensures) c.print_around.ensures
