use Rattle.std.proofs.Common.{ℕ, List, Option, length, refl, subst, take}
use Rattle.mdmp_source.specs.Extent.{extent_of}
use Rattle.mdmp_source.specs.Output.{Puts}
use Rattle.mdmp_summary.specs.Symbols.{AreSymbolsOf}
use Rattle.mdmp_summary.specs.declared.codeview_reading.SymbolsRead.{SymbolsRead}
use Rattle.mdmp_engines.proofs.ObjectIds.{ids_told}
use Rattle.mdmp_engines.proofs.module_objects.print_ids.Goals as goal

pub returns-in-Some-clause-puts : goal.returns-in-Some-clause-puts
returns-in-Some-clause-puts g c = λ file room are.
    let fields = c.args.fields.now in
    let class = extent_of fields.cv_record (length file) in
    subst (λ (text : List ℕ). Puts c.print_module_ids.result (g.O.Printer.state c.args.out.now) text (g.O.Printer.state c.print_module_ids.new.out))
    (ids_told file room fields class c.in-Some.read c.args.buffer.now (take c.in-Some.read.rest c.args.buffer.now) (subst (λ (r : Option SymbolsRead). AreSymbolsOf file fields.cv_record room class r c.args.buffer.now) c.in-Some.is are) refl)
    c.print_module_ids.ensures
