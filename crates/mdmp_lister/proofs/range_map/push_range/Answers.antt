use Rattle.std.proofs.Common.{refl}
use Rattle.mdmp_lister.proofs.range_map.push_range.Goals as goal

pub returns-in-Inside : goal.returns-in-Inside
returns-in-Inside g c = rw (c.push.ensures, c.in-Some.is, c.in-Inside.is) refl
