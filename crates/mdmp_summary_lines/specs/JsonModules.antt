-- A module in the object of a summary, with the keys of minidump-stackwalk. Its ids are in JsonIds.
use Rattle.std.specs.Prelude.{ℕ, ◌+◌, ◌-◌, ◌^◌, Bool, true, false, List, [], ◌∷◌, codes, min}
use Rattle.std.specs.List.{concat}
use Rattle.mdmp_wire.specs.declared.module.ModuleRecord.{ModuleRecord}
use Rattle.mdmp_lister.specs.declared.item.ModuleItem.{ModuleItem}
use Rattle.mdmp_print.specs.Shown.{in_quotes}
use Rattle.mdmp_print.specs.Versions.{file_version_text}
use Rattle.mdmp_summary_lines.specs.JsonText.{prefixed_string, name_string}

-- a comma in front of each but the first
abbrev pub comma_unless : Bool → List ℕ
comma_unless true = []
comma_unless false = codes ","

-- the address behind the last byte of a module, or the greatest address
abbrev pub end_address : ModuleRecord → ℕ
end_address fields = min (fields.base_of_image + fields.size_of_image) (2 ^ 64 - 1)

-- the name, where the module is, and its version
abbrev pub module_front_text : Bool → ModuleItem → List ℕ
module_front_text is_first item = concat (
    comma_unless is_first ∷ codes "{\"filename\":" ∷ name_string item.name
    ∷ codes ",\"base_addr\":" ∷ prefixed_string 16 item.fields.base_of_image
    ∷ codes ",\"end_addr\":" ∷ prefixed_string 16 (end_address item.fields)
    ∷ codes ",\"version\":" ∷ in_quotes (file_version_text item.fields.version_info.file_version_ms item.fields.version_info.file_version_ls) ∷ [])
