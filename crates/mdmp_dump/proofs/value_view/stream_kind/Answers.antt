use Rattle.std.proofs.Common.{refl}
use Rattle.mdmp_dump.proofs.value_view.stream_kind.Goals as goal

pub returns-in-Raw : goal.returns-in-Raw
returns-in-Raw g c = rw c.in-Raw.is refl
