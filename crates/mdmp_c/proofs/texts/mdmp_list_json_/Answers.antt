use Rattle.mdmp_c.proofs.texts.mdmp_list_json_.Goals as goal

pub returns : goal.returns
returns c = c.list_in.ensures
