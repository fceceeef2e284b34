use Rattle.std.proofs.Common.{rules, ap}
use Rattle.mdmp_source.specs.FileBlock.{used_by}
use Rattle.mdmp_source.proofs.file_block.FileBlock.give.Goals as goal

pub returns-clause-given : goal.returns-clause-given
returns-clause-given g c = search rules

pub returns-clause-used : goal.returns-clause-used
returns-clause-used g c = ap (used_by c.copy_at-count.result) c.self.view_is
