use Rattle.std.proofs.Common.{sym}
use Rattle.std.proofs.Math.Bool.{and-true}
use Rattle.mdmp_lister.proofs.lister.Lister.is_fresh.Goals as goal

pub returns-in-Between : goal.returns-in-Between
returns-in-Between g c = rw (← c.self.view_is, c.in-Between.is) (sym (and-true _))
