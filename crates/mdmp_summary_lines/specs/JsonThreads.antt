-- A thread in the object of a summary, with the keys of minidump-stackwalk.
use Rattle.std.specs.Prelude.{ℕ, Bool, List, [], ◌∷◌, Option, Some, None, codes}
use Rattle.std.specs.List.{concat}
use Rattle.std.specs.Fmt.{decimal}
use Rattle.mdmp_lister.specs.declared.name.Name.{Name}
use Rattle.mdmp_summary.specs.declared.context.Registers.{Registers}
use Rattle.mdmp_summary_lines.specs.JsonModules.{comma_unless}
use Rattle.mdmp_summary_lines.specs.JsonText.{prefixed_string, name_string}

-- the end of the modules
abbrev pub threads_front_text : List ℕ
threads_front_text = codes "],\"threads\":["

-- the frame that its context tells
abbrev pub frame_text : Option Registers → List ℕ
frame_text (Some registers) = concat (codes "{\"frame\":0,\"offset\":" ∷ prefixed_string 16 registers.instruction ∷ codes ",\"trust\":\"context\"}" ∷ [])
frame_text None = []

abbrev pub thread_object_text : Bool → ℕ → Name → Option Registers → List ℕ
thread_object_text is_first id name registers = concat (
    comma_unless is_first ∷ codes "{\"thread_id\":" ∷ decimal id ∷ codes ",\"thread_name\":" ∷ name_string name
    ∷ codes ",\"frames\":[" ∷ frame_text registers ∷ codes "]}" ∷ [])
