-- One module stands at a place.
-- Made by bindings/generate from bindings/kinds.toml.
use Rattle.std.proofs.Common.{ℕ, List, sym, ◌∙◌}
use Rattle.mdmp_wire.specs.Module.{module_at}
use Rattle.mdmp_dump.specs.Module.{IsModule}
use Rattle.mdmp_dump.proofs.Unique.Name.{name_unique}
use Rattle.mdmp_dump.proofs.Unique.Part.{part_unique}
use Rattle.mdmp_dump.proofs.Unique.Records.{IsUnique}

pub module_unique : {Z : Type 0} (F : List ℕ) → IsUnique (λ k o. IsModule {Z = Z} F o)
module_unique F k o x y p q =
    let fields = sym p.fields ∙ q.fields in
    let name = name_unique F (module_at F o).module_name_rva x.name y.name p.name q.name in
    let codeview = part_unique F (module_at F o).cv_record x.codeview y.codeview p.codeview q.codeview in
    let misc = part_unique F (module_at F o).misc_record x.misc y.misc p.misc q.misc in
    λ i. record {
      base_of_image = (fields i).base_of_image;
      size_of_image = (fields i).size_of_image;
      checksum = (fields i).checksum;
      time_date_stamp = (fields i).time_date_stamp;
      version_info = (fields i).version_info;
      reserved0 = (fields i).reserved0;
      reserved1 = (fields i).reserved1;
      name = name i;
      codeview = codeview i;
      misc = misc i;
    }
