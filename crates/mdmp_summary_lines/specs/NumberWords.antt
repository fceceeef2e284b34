-- Names of numbers, or the numbers.
use Rattle.std.specs.Prelude.{ℕ, List, [], ◌∷◌, Option, Some, None, codes}
use Rattle.std.specs.List.{concat}
use Rattle.std.specs.Fmt.{decimal}
use Rattle.mdmp_wire.specs.declared.system.SystemRecord.{SystemRecord}
use Rattle.mdmp_names.specs.Architectures.{architecture_words}
use Rattle.mdmp_names.specs.Exceptions.{exception_name, flags_name}
use Rattle.mdmp_names.specs.Platforms.{platform_words}
use Rattle.mdmp_print.specs.Json.{prefixed_hex}

-- a name, or what stands for it if there is none
abbrev pub named_text : Option (List ℕ) → List ℕ → List ℕ
named_text (Some name) other = name
named_text None other = other

-- the name of the code of an exception on this system
abbrev pub code_name : Option SystemRecord → ℕ → Option (List ℕ)
code_name (Some system) code = exception_name system.platform_id code
code_name None code = None

-- the code of an exception, by its name on this system
abbrev pub code_text : Option SystemRecord → ℕ → List ℕ
code_text system code = named_text (code_name system code) (prefixed_hex 8 code)

-- the second name, if the first is there too
abbrev pub name_beside : Option (List ℕ) → Option (List ℕ) → Option (List ℕ)
name_beside (Some code) flags = flags
name_beside None flags = None

-- the name of an exception's flags, if both its code and they have one on this system
abbrev pub code_flags_name : Option SystemRecord → (code flags : ℕ) → Option (List ℕ)
code_flags_name (Some system) code flags =
    name_beside (exception_name system.platform_id code) (flags_name system.platform_id system.processor_architecture code flags)
code_flags_name None code flags = None

-- a text and a name, if there is one
abbrev pub name_behind : List ℕ → Option (List ℕ) → List ℕ
name_behind front (Some name) = concat (front ∷ name ∷ [])
name_behind front None = []

abbrev pub flags_text : Option SystemRecord → (code flags : ℕ) → List ℕ
flags_text system code flags = name_behind (codes " ") (code_flags_name system code flags)

abbrev pub platform_text : ℕ → List ℕ
platform_text id = named_text (platform_words id) (concat (codes "platform " ∷ decimal id ∷ []))

abbrev pub architecture_text : ℕ → List ℕ
architecture_text number = named_text (architecture_words number) (concat (codes "architecture " ∷ decimal number ∷ []))
