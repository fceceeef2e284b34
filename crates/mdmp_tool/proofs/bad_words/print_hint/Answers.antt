use Rattle.mdmp_tool.proofs.bad_words.print_hint.Goals as goal

pub returns-in-Some : goal.returns-in-Some
returns-in-Some g c = rw c.in-Some.is (rw c.as_bytes-name.ensures.value at c.print_around.ensures)
