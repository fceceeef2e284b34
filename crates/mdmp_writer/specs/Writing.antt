-- What a writer of a whole dump answers, and what goes out.
use Rattle.std.specs.Prelude.{◌≡◌, ℕ, List, length, Some, None, Result, Ok, Err, IsFalse}
use Rattle.mdmp_source.specs.Output.{OutState, Takes, TakesPrefix, refused_once}
use Rattle.mdmp_dump.specs.declared.dump.Dump.{Dump}
use Rattle.mdmp_dump.specs.Shape.{ViewShape}
use Rattle.mdmp_writer.specs.declared.fault.WriteFault.{WriteFault}
use Rattle.mdmp_writer.specs.declared.fault.WriteFault.TheVariants.{Layout, Out, View}
use Rattle.mdmp_writer.specs.Layout.{layout_fault, shape_fault, size_answer, written_size}
use Rattle.mdmp_writer.specs.Written.{BeginsWith, written}

-- over every view of this shape, whatever it gives: the size or the refusal is that of the shape, where it is refused
-- nothing goes out, and a run stops only where the output refused, which is then not asked again, or where the view answered a
-- fault, which a reliable one does not
abbrev pub IsWritingOf : ViewShape → Result ℕ WriteFault → OutState → OutState → Type 0
IsWritingOf shape (Ok size) before after = (size_answer shape.streams ≡ Ok size) × (after.failures ≡ before.failures)
IsWritingOf shape (Err (Layout fault)) before after = (size_answer shape.streams ≡ Err fault) × (after ≡ before)
IsWritingOf shape (Err Out) before after = (shape_fault shape.streams ≡ None) × (after.failures ≡ refused_once before.failures)
IsWritingOf shape (Err (View fault)) before after =
    (shape_fault shape.streams ≡ None) × IsFalse shape.is_reliable × (after.failures ≡ before.failures)

-- over a view of this dump: all of its bytes go out, or it is refused, or a first part of them goes out
abbrev pub IsWritingOfDump : {Z : Type 0} → Dump Z → Result ℕ WriteFault → OutState → OutState → Type 0
IsWritingOfDump d (Ok size) before after =
    (layout_fault d ≡ None) × (size ≡ written_size d) × Takes before.taken (written d) after.taken
IsWritingOfDump d (Err (Layout fault)) before after = layout_fault d ≡ Some fault
IsWritingOfDump d (Err Out) before after = (layout_fault d ≡ None) × TakesPrefix before.taken (written d) after.taken
IsWritingOfDump d (Err (View fault)) before after = (layout_fault d ≡ None) × TakesPrefix before.taken (written d) after.taken

-- so many bytes went out, which begin with the header and the directory of a view of this shape, whatever it holds
pub record GoesOut (shape : ViewShape) (size : ℕ) (before after : OutState) : Type 0 where
  pub text : List ℕ
  pub count : length text ≡ size
  pub begins : BeginsWith shape text
  pub took : Takes before.taken text after.taken
