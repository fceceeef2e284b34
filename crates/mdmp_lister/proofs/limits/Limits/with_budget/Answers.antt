use Rattle.std.proofs.Common.{refl}
use Rattle.mdmp_lister.proofs.limits.Limits.with_budget.Goals as goal

pub returns-clause-value : goal.returns-clause-value
returns-clause-value c = let of = c.in_ok-limits.ensures.value in (of.0, of.1, refl)
