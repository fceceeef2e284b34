-- The item of a module that was unloaded is given, and what it asks for is taken.
-- Made by bindings/generate from bindings/kinds.toml.
use Rattle.std.proofs.Common.{ℕ, List, refl}
use Rattle.mdmp_wire.specs.Unloaded.{unloaded_at}
use Rattle.mdmp_lister.specs.declared.item.Item.TheVariants as items
use Rattle.mdmp_lister.specs.declared.kind.StreamKind.TheVariants as kinds
use Rattle.mdmp_lister.specs.Format.Item.{unloaded_item}
use Rattle.mdmp_dump.specs.Unloaded.{IsUnloaded}
use Rattle.mdmp_dump.specs.Within.{IsNameWithin}
use Rattle.mdmp_dump.proofs.Within.Name.{name_short}
use Rattle.mdmp_dump.proofs.Within.Records.{AreTaken}
use Rattle.mdmp_dump.proofs.Within.Steps.{none_taken}

pub unloaded_taken : {Z : Type 0} (F : List ℕ) (limit e at : ℕ)
    → AreTaken F limit e at kinds.Unloaded (λ k o. IsUnloaded {Z = Z} F o) (λ x. IsNameWithin limit x.name) (λ x. 0)
unloaded_taken F limit e at k o x is fits =
    let short = name_short F (unloaded_at F o).module_name_rva limit x.name is.name fits in
    record {
      item = items.Unloaded (unloaded_item e k (unloaded_at F o) short.name);
      given = rw short.given refl;
      steps = rw (short.asked e k) none_taken;
    }
