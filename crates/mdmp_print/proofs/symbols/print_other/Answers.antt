use Rattle.std.proofs.Common.{◌≡◌, None}
use Rattle.mdmp_summary.specs.Identity.{build_id_in}
use Rattle.mdmp_print.proofs.symbols.print_other.Goals as goal

pub returns-in-Some-read : goal.returns-in-Some-read
returns-in-Some-read g c =
    let none : None ≡ build_id_in c.args.head.now c.args.size = rw c.in_default.is at c.read.ensures in
    rw (← none, ← c.read-2.ensures, c.in-Some-read.is) c.print_object.ensures

pub returns-in-None : goal.returns-in-None
returns-in-None g c =
    let none : None ≡ build_id_in c.args.head.now c.args.size = rw c.in_default.is at c.read.ensures in
    rw (← none, ← c.read-2.ensures, c.in-None.is) c.print_object-in-None.ensures
