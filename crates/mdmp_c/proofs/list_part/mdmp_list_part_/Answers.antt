use Rattle.mdmp_c.proofs.list_part.mdmp_list_part_.Goals as goal

pub returns : goal.returns
returns c = c.give_list.ensures
