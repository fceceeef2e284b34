use Rattle.std.proofs.Common.{refl}
use Rattle.mdmp_map.specs.Ranges.{next_start}
use Rattle.mdmp_map.proofs.search.Search.new.Goals as goal

pub returns-clause-seen : goal.returns-clause-seen
unfolding next_start
returns-clause-seen c = record { none = refl; lowest = refl }
