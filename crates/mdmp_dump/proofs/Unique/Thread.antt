-- One thread stands at a place.
-- Made by bindings/generate from bindings/kinds.toml.
use Rattle.std.proofs.Common.{ℕ, List, sym, ◌∙◌}
use Rattle.mdmp_wire.specs.Thread.{thread_at}
use Rattle.mdmp_dump.specs.Thread.{IsThread}
use Rattle.mdmp_dump.proofs.Unique.Part.{part_unique}
use Rattle.mdmp_dump.proofs.Unique.Records.{IsUnique}

pub thread_unique : {Z : Type 0} (F : List ℕ) → IsUnique (λ k o. IsThread {Z = Z} F o)
thread_unique F k o x y p q =
    let fields = sym p.fields ∙ q.fields in
    let stack = part_unique F (thread_at F o).stack.memory x.stack y.stack p.stack q.stack in
    let context = part_unique F (thread_at F o).thread_context x.context y.context p.context q.context in
    λ i. record {
      thread_id = (fields i).thread_id;
      suspend_count = (fields i).suspend_count;
      priority_class = (fields i).priority_class;
      priority = (fields i).priority;
      teb = (fields i).teb;
      stack_start = (fields i).stack.start_of_memory_range;
      stack = stack i;
      context = context i;
    }
