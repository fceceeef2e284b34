-- The fields of an exception, and what it points at.
-- Made by bindings/generate from bindings/kinds.toml.
use Rattle.std.proofs.Common.{ℕ, ◌≡◌, List, refl, subst}
use Rattle.mdmp_wire.specs.Exception.{exception_at}
use Rattle.mdmp_wire.specs.declared.exception.ExceptionRecord.{ExceptionRecord}
use Rattle.mdmp_dump.specs.Part.{IsPart}
use Rattle.mdmp_dump.specs.declared.exception.Exception.{Exception}
use Rattle.mdmp_dump.specs.Exception.{IsException, exception_record}
use Rattle.mdmp_dump.proofs.exception.ExceptionRow.of.Goals as goal

exception_of : {Z : Type 0} (F : List ℕ) (o : ℕ) (x : Exception Z) (r : ExceptionRecord) → r ≡ exception_at F o → r ≡ exception_record x r.thread_context
    → IsPart F r.thread_context x.context → IsException F o x
exception_of F o x r same is context = record {
  fields = subst (λ (s : ExceptionRecord). s ≡ exception_record x s.thread_context) same is;
  context = subst (λ (s : ExceptionRecord). IsPart F s.thread_context x.context) same context;
}

pub returns : goal.returns
returns g c = λ file at k o found.
    let read = rw c.in-Exception.is at found in
    let same : c.in-Exception.exception ≡ exception_at file o = let is = read.is.fields in cc is in
    exception_of file o _ c.in-Exception.exception same refl (rw c.take_part.ensures read.parts.first)
