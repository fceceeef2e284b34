use Rattle.mdmp_c.specs.Limits.{AreLimits, EndsText, KeepsText}
use Rattle.mdmp_c.proofs.Listed.{Ends-whole}
use Rattle.mdmp_c.proofs.texts.list_in.Goals as goal

pub returns : goal.returns
returns c =
    Ends-whole c.args.form c.args.pdb c.args.file.now c.args.limits.now.name (AreLimits c.args.limits.now) (KeepsText c.args.limits.now c.args.file.now c.args.pdb) (EndsText c.args.limits.now c.args.file.now c.args.pdb) c.give_list.result c.give_list.new.size
    c.give_list.new.fault c.args.out.now c.give_list.new.out c.give_list.ensures
