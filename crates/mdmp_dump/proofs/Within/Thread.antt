-- The item of a thread is given, and what it asks for is taken.
-- Made by bindings/generate from bindings/kinds.toml.
use Rattle.std.proofs.Common.{ℕ, ◌+◌, List, length, refl}
use Rattle.mdmp_wire.specs.Thread.{thread_at}
use Rattle.mdmp_lister.specs.declared.item.Item.TheVariants as items
use Rattle.mdmp_lister.specs.declared.kind.StreamKind.TheVariants as kinds
use Rattle.mdmp_lister.specs.Format.Item.{thread_item}
use Rattle.mdmp_wire.specs.declared.slot.PartName.TheVariants as names
use Rattle.mdmp_dump.specs.Thread.{IsThread}
use Rattle.mdmp_dump.specs.Within.{part_size}
use Rattle.mdmp_dump.proofs.Within.Part.{location_taken}
use Rattle.mdmp_dump.proofs.Within.Records.{AreTaken}
use Rattle.mdmp_dump.proofs.Within.Steps.{both_taken}

pub thread_taken : {Z : Type 0} (F : List ℕ) (limit e at : ℕ)
    → AreTaken F limit e at kinds.Threads (λ k o. IsThread {Z = Z} F o) (λ x. Unit {0}) (λ x. part_size x.stack + part_size x.context)
thread_taken F limit e at k o x is fits =
    record {
      item = items.Thread (thread_item (length F) e k (thread_at F o));
      given = refl;
      steps = both_taken
          (location_taken F (thread_at F o).stack.memory e k names.Stack x.stack is.stack)
          (location_taken F (thread_at F o).thread_context e k names.Context x.context is.context);
    }
