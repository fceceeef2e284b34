use Rattle.std.proofs.Common.{refl}
use Rattle.mdmp_lister.specs.Format.Name.{plain_name}
use Rattle.mdmp_engines.proofs.ObjectsUnused.{thread_unused}
use Rattle.mdmp_engines.proofs.thread_objects.ThreadObjectsVisitor.wants.Goals as goal

pub returns-in_default : goal.returns-in_default
returns-in_default g c = record {
  uses = λ never content limit x is.
      let k = c.args.self.now in
      let unused = thread_unused c.args.kind x (record { out = g.O.Printer.state k.out.now; crashed = record { system = k.system; id = k.crashed; name = plain_name k.name.now }; begun = k.begun; count = k.count; found = k.found }) content c.in_default.not-Threads c.in-None.is is in
      (k, ((refl, unused.0), (refl, unused.1)));
}
