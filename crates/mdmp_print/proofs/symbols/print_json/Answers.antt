use Rattle.mdmp_print.proofs.symbols.print_json.Goals as goal

pub returns-in-Rsds : goal.returns-in-Rsds
returns-in-Rsds g c = rw (← c.read.ensures, c.in-Rsds.is, ← c.as_bytes.ensures) c.print_rsds.ensures

pub returns-in-Other : goal.returns-in-Other
returns-in-Other g c = rw (← c.read.ensures, c.in-Other.is, ← c.min-fetched.ensures) c.print_other.ensures
