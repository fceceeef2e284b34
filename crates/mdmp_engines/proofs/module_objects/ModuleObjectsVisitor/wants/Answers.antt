use Rattle.std.proofs.Common.{length, refl}
use Rattle.mdmp_engines.proofs.ObjectsUnused.{module_unused}
use Rattle.mdmp_engines.proofs.module_objects.ModuleObjectsVisitor.wants.Goals as goal

pub returns-in_default : goal.returns-in_default
returns-in_default g c = record {
  uses = λ never content limit x is.
      let k = c.args.self.now in
      let unused = module_unused c.args.kind x (record { out = g.O.Printer.state k.out.now; begun = k.begun; is_first = k.is_first; room = length k.buffer.now.items }) content c.in_default.not-Modules c.in-None.is is in
      (k, ((refl, unused.0), (refl, unused.1)));
}
