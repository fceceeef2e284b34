use Rattle.mdmp_tool.proofs.printing.check_file.Goals as goal

pub returns-then-how : goal.returns-then-how
returns-then-how g c = rw c.if-how.true c.print_file.ensures

pub returns : goal.returns
returns g c = rw c.if-how.false c.print_file-2.ensures
