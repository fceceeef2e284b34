use Rattle.mdmp_c.proofs.texts.mdmp_check_json_.Goals as goal

pub returns : goal.returns
returns c = c.check_in.ensures
