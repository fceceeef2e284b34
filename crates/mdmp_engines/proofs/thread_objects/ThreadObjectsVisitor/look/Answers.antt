use Rattle.std.proofs.Common.{◌≡◌, ℕ, Bool, true, false, List, Option, refl, rules, subst, sym}
use Rattle.mdmp_lister.specs.Format.Name.{plain_name}
use Rattle.mdmp_lister.specs.declared.name.Name.{Name}
use Rattle.mdmp_lister.specs.declared.name.Name.TheVariants as names
use Rattle.mdmp_source.specs.Output.{PutsAll}
use Rattle.mdmp_summary.specs.declared.context.Registers.{Registers}
use Rattle.mdmp_summary_lines.specs.JsonThreads.{thread_object_text}
use Rattle.mdmp_engines.specs.SummaryObject.{name_if}
use Rattle.mdmp_engines.proofs.thread_objects.ThreadObjectsVisitor.look.Goals as goal

thread-plain : (first kept : Bool) (id : ℕ) (n : Name) (r : Option Registers) → thread_object_text first id (name_if kept n) r ≡ thread_object_text first id (name_if kept (plain_name n)) r
thread-plain first false id n r = refl
thread-plain first true id names.None r = refl
thread-plain first true id (names.Units units) r = refl
thread-plain first true id (names.Long length) r = refl

pub returns-in-Ok-print_thread-clause-looks : goal.returns-in-Ok-print_thread-clause-looks
returns-in-Ok-print_thread-clause-looks g c = (
  refl,
  (
    search rules,
    (
      search rules,
      λ F known.
          rw (c.in-Some.is, sym (c.in-Ok.ensures.value F known), sym c.is_crashed-is_crashed.ensures)
          (subst (λ (text : List ℕ). PutsAll (g.O.Printer.state c.args.self.now.out.now) text (g.O.Printer.state c.print_thread.new.out)) (thread-plain _ c.is_crashed-is_crashed.result c.in-Some.fields.thread_id c.args.self.now.name.now c.in-Ok.registers) c.in-Ok-print_thread.ensures),
    ),
  ),
)
