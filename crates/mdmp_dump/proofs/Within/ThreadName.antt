-- The item of the name of a thread is given, and what it asks for is taken.
-- Made by bindings/generate from bindings/kinds.toml.
use Rattle.std.proofs.Common.{ℕ, List, refl}
use Rattle.mdmp_wire.specs.ThreadName.{thread_name_at}
use Rattle.mdmp_lister.specs.declared.item.Item.TheVariants as items
use Rattle.mdmp_lister.specs.declared.kind.StreamKind.TheVariants as kinds
use Rattle.mdmp_lister.specs.Format.Item.{thread_name_item}
use Rattle.mdmp_dump.specs.ThreadName.{IsThreadName}
use Rattle.mdmp_dump.specs.Within.{IsNameWithin}
use Rattle.mdmp_dump.proofs.Within.Name.{name_short}
use Rattle.mdmp_dump.proofs.Within.Records.{AreTaken}
use Rattle.mdmp_dump.proofs.Within.Steps.{none_taken}

pub thread_name_taken : {Z : Type 0} (F : List ℕ) (limit e at : ℕ)
    → AreTaken F limit e at kinds.ThreadNames (λ k o. IsThreadName {Z = Z} F o) (λ x. IsNameWithin limit x.name) (λ x. 0)
thread_name_taken F limit e at k o x is fits =
    let short = name_short F (thread_name_at F o).rva_of_thread_name limit x.name is.name fits in
    record {
      item = items.ThreadName (thread_name_item e k (thread_name_at F o) short.name);
      given = rw short.given refl;
      steps = rw (short.asked e k) none_taken;
    }
