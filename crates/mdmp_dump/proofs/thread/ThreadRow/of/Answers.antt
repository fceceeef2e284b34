-- The fields of a thread, and what it points at.
-- Made by bindings/generate from bindings/kinds.toml.
use Rattle.std.proofs.Common.{ℕ, ◌≡◌, List, refl, subst}
use Rattle.mdmp_wire.specs.Thread.{thread_at}
use Rattle.mdmp_wire.specs.declared.thread.ThreadRecord.{ThreadRecord}
use Rattle.mdmp_dump.specs.Part.{IsPart}
use Rattle.mdmp_dump.specs.declared.thread.Thread.{Thread}
use Rattle.mdmp_dump.specs.Thread.{IsThread, thread_record}
use Rattle.mdmp_dump.proofs.thread.ThreadRow.of.Goals as goal

thread_of : {Z : Type 0} (F : List ℕ) (o : ℕ) (x : Thread Z) (r : ThreadRecord) → r ≡ thread_at F o → r ≡ thread_record x r.stack.memory r.thread_context
    → IsPart F r.stack.memory x.stack → IsPart F r.thread_context x.context → IsThread F o x
thread_of F o x r same is stack context = record {
  fields = subst (λ (s : ThreadRecord). s ≡ thread_record x s.stack.memory s.thread_context) same is;
  stack = subst (λ (s : ThreadRecord). IsPart F s.stack.memory x.stack) same stack;
  context = subst (λ (s : ThreadRecord). IsPart F s.thread_context x.context) same context;
}

pub returns : goal.returns
returns g c = λ file at k o found.
    let read = rw c.in-Thread.is at found in
    let same : c.in-Thread.thread ≡ thread_at file o = let is = read.is.fields in cc is in
    thread_of file o _ c.in-Thread.thread same refl (rw c.take_part.ensures read.parts.first) (rw c.take_part-2.ensures read.parts.second)
