-- One module that was unloaded stands at a place.
-- Made by bindings/generate from bindings/kinds.toml.
use Rattle.std.proofs.Common.{ℕ, List, sym, ◌∙◌}
use Rattle.mdmp_wire.specs.Unloaded.{unloaded_at}
use Rattle.mdmp_dump.specs.Unloaded.{IsUnloaded}
use Rattle.mdmp_dump.proofs.Unique.Name.{name_unique}
use Rattle.mdmp_dump.proofs.Unique.Records.{IsUnique}

pub unloaded_unique : {Z : Type 0} (F : List ℕ) → IsUnique (λ k o. IsUnloaded {Z = Z} F o)
unloaded_unique F k o x y p q =
    let fields = sym p.fields ∙ q.fields in
    let name = name_unique F (unloaded_at F o).module_name_rva x.name y.name p.name q.name in
    λ i. record {
      base_of_image = (fields i).base_of_image;
      size_of_image = (fields i).size_of_image;
      checksum = (fields i).checksum;
      time_date_stamp = (fields i).time_date_stamp;
      name = name i;
    }
