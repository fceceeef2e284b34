use Rattle.mdmp_print.proofs.symbols.print_build_id.Goals as goal

pub returns : goal.returns
returns g c = λ head is. rw is (rw (c.as_bytes.ensures, c.of_build_id-guid.ensures) at c.print_object.ensures)
