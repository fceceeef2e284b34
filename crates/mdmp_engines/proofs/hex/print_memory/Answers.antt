use Rattle.mdmp_engines.proofs.SameRuns.{run_aside}
use Rattle.mdmp_engines.proofs.Symbols.{Leaves-cut, Leaves-done}
use Rattle.mdmp_lister.proofs.Requested.{aside_read}
use Rattle.mdmp_engines.proofs.hex.print_memory.Goals as goal

pub returns-in-Err-clause-same : goal.returns-in-Err-clause-same
returns-in-Err-clause-same g c = run_aside _ _ _ _ c.in-Err.ensures.reads

pub returns-in-Ok-print_hex_lines-clause-same : goal.returns-in-Ok-print_hex_lines-clause-same
returns-in-Ok-print_hex_lines-clause-same g c = run_aside _ _ _ _ c.in-Ok.ensures.reads

pub returns-in-Err-print_hex_lines-clause-same : goal.returns-in-Err-print_hex_lines-clause-same
returns-in-Err-print_hex_lines-clause-same g c = run_aside _ _ _ _ c.in-Ok.ensures.reads

pub returns-in-Ok-print_hex_lines-clause-leaves : goal.returns-in-Ok-print_hex_lines-clause-leaves
returns-in-Ok-print_hex_lines-clause-leaves g c = Leaves-done _ _ _ _ _ tt c.in-Ok.ensures.reads.fetches c.in-Ok-print_hex_lines.ensures.steady

pub returns-in-Err-print_hex_lines-clause-leaves : goal.returns-in-Err-print_hex_lines-clause-leaves
returns-in-Err-print_hex_lines-clause-leaves g c = Leaves-cut _ _ _ _ _ c.in-Ok.ensures.reads.fetches c.in-Err-print_hex_lines.ensures.refused

pub returns-in-Err-clause-beside : goal.returns-in-Err-clause-beside
returns-in-Err-clause-beside g c = c.in-Err.ensures.reads.aside.aside

pub returns-in-Ok-print_hex_lines-clause-beside : goal.returns-in-Ok-print_hex_lines-clause-beside
returns-in-Ok-print_hex_lines-clause-beside g c = c.in-Ok.ensures.reads.aside.aside

pub returns-in-Err-print_hex_lines-clause-beside : goal.returns-in-Err-print_hex_lines-clause-beside
returns-in-Err-print_hex_lines-clause-beside g c = c.in-Ok.ensures.reads.aside.aside

pub returns-in-Err-clause-stays : goal.returns-in-Err-clause-stays
returns-in-Err-clause-stays g c = aside_read _ _ _ _ _ c.in-Err.ensures.reads

pub returns-in-Ok-print_hex_lines-clause-stays : goal.returns-in-Ok-print_hex_lines-clause-stays
returns-in-Ok-print_hex_lines-clause-stays g c = aside_read _ _ _ _ _ c.in-Ok.ensures.reads

pub returns-in-Err-print_hex_lines-clause-stays : goal.returns-in-Err-print_hex_lines-clause-stays
returns-in-Err-print_hex_lines-clause-stays g c = aside_read _ _ _ _ _ c.in-Ok.ensures.reads
