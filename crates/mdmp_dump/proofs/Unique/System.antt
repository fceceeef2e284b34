-- One system stands at a place.
-- Made by bindings/generate from bindings/kinds.toml.
use Rattle.std.proofs.Common.{ℕ, List, sym, ◌∙◌}
use Rattle.mdmp_wire.specs.System.{system_at}
use Rattle.mdmp_dump.specs.System.{IsSystem}
use Rattle.mdmp_dump.proofs.Unique.Name.{name_unique}
use Rattle.mdmp_dump.proofs.Unique.Records.{IsUnique}

pub system_unique : {Z : Type 0} (F : List ℕ) → IsUnique (λ k o. IsSystem {Z = Z} F o)
system_unique F k o x y p q =
    let fields = sym p.fields ∙ q.fields in
    let name = name_unique F (system_at F o).csd_version_rva x.name y.name p.name q.name in
    λ i. record {
      processor_architecture = (fields i).processor_architecture;
      processor_level = (fields i).processor_level;
      processor_revision = (fields i).processor_revision;
      number_of_processors = (fields i).number_of_processors;
      product_type = (fields i).product_type;
      major_version = (fields i).major_version;
      minor_version = (fields i).minor_version;
      build_number = (fields i).build_number;
      platform_id = (fields i).platform_id;
      suite_mask = (fields i).suite_mask;
      reserved2 = (fields i).reserved2;
      cpu = (fields i).cpu;
      name = name i;
    }
