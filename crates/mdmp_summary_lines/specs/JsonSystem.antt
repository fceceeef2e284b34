-- The system in the object of a summary: with the keys of minidump-stackwalk, and with all its numbers.
use Rattle.std.specs.Prelude.{ℕ, ◌==◌, ◌||◌, List, [], ◌∷◌, Option, Some, None, codes, if◌then◌else◌}
use Rattle.std.specs.List.{concat}
use Rattle.std.specs.Fmt.{decimal}
use Rattle.mdmp_wire.specs.declared.system.SystemRecord.{SystemRecord}
use Rattle.mdmp_names.specs.Platforms.{platform_words}
use Rattle.mdmp_print.specs.Versions.{build_text}
use Rattle.mdmp_print.specs.Shown.{in_quotes}
use Rattle.mdmp_summary_lines.specs.JsonText.{word_or_null}

-- what minidump-stackwalk calls a ProcessorArchitecture
abbrev pub cpu_word : ℕ → Option (List ℕ)
cpu_word architecture =
    if architecture == 0 || architecture == 10 then Some (codes "x86")
    else if architecture == 9 then Some (codes "amd64")
    else if architecture == 5 then Some (codes "arm")
    else if architecture == 12 || architecture == 0x8003 then Some (codes "arm64")
    else None

-- `{"os":<platform>,"os_ver":"<major>.<minor>.<build>","cpu_arch":<architecture>,"cpu_count":<n>}`
abbrev pub system_info_text : Option SystemRecord → List ℕ
system_info_text (Some system) = concat (
    codes "{\"os\":" ∷ word_or_null (platform_words system.platform_id)
    ∷ codes ",\"os_ver\":" ∷ in_quotes (build_text system.major_version system.minor_version system.build_number)
    ∷ codes ",\"cpu_arch\":" ∷ word_or_null (cpu_word system.processor_architecture)
    ∷ codes ",\"cpu_count\":" ∷ decimal system.number_of_processors ∷ codes "}" ∷ [])
system_info_text None = codes "null"

-- the numbers of MINIDUMP_SYSTEM_INFO
abbrev pub system_object_text : Option SystemRecord → List ℕ
system_object_text (Some system) = concat (
    codes "{\"platform_id\":" ∷ decimal system.platform_id
    ∷ codes ",\"processor_architecture\":" ∷ decimal system.processor_architecture
    ∷ codes ",\"processor_level\":" ∷ decimal system.processor_level
    ∷ codes ",\"processor_revision\":" ∷ decimal system.processor_revision
    ∷ codes ",\"number_of_processors\":" ∷ decimal system.number_of_processors
    ∷ codes ",\"product_type\":" ∷ decimal system.product_type
    ∷ codes ",\"major_version\":" ∷ decimal system.major_version
    ∷ codes ",\"minor_version\":" ∷ decimal system.minor_version
    ∷ codes ",\"build_number\":" ∷ decimal system.build_number
    ∷ codes ",\"suite_mask\":" ∷ decimal system.suite_mask ∷ codes "}" ∷ [])
system_object_text None = codes "null"
