-- The item of an exception is given, and what it asks for is taken.
-- Made by bindings/generate from bindings/kinds.toml.
use Rattle.std.proofs.Common.{ℕ, List, length, refl}
use Rattle.mdmp_wire.specs.Exception.{exception_at}
use Rattle.mdmp_lister.specs.declared.item.Item.TheVariants as items
use Rattle.mdmp_lister.specs.declared.kind.StreamKind.TheVariants as kinds
use Rattle.mdmp_lister.specs.Format.Item.{exception_item}
use Rattle.mdmp_wire.specs.declared.slot.PartName.TheVariants as names
use Rattle.mdmp_dump.specs.Exception.{IsException}
use Rattle.mdmp_dump.specs.Within.{part_size}
use Rattle.mdmp_dump.proofs.Within.Part.{location_taken}
use Rattle.mdmp_dump.proofs.Within.Records.{AreTaken}

pub exception_taken : {Z : Type 0} (F : List ℕ) (limit e at : ℕ)
    → AreTaken F limit e at kinds.Exception (λ k o. IsException {Z = Z} F o) (λ x. Unit {0}) (λ x. part_size x.context)
exception_taken F limit e at k o x is fits =
    record {
      item = items.Exception (exception_item (length F) e k (exception_at F o));
      given = refl;
      steps = location_taken F (exception_at F o).thread_context e k names.Context x.context is.context;
    }
