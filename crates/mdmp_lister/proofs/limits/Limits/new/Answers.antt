use Rattle.std.proofs.Common.{arith}
use Rattle.mdmp_lister.proofs.limits.Limits.new.Goals as goal

pub invariant_of-result : goal.invariant_of-result
invariant_of-result c = record { window_least = omega arith; window_most = omega arith; name_most = omega arith }
