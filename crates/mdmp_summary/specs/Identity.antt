-- The ids by which a symbol server knows a module.
use Rattle.std.specs.Prelude.{ℕ, ◌-◌, List, ◌++◌, Bool, Option, Some, None, length, take, drop, replicate, not, nat_lt, ◌==◌, ◌||◌, if◌then◌else◌}
use Rattle.uuid.specs.Parts.{swap_fields}
use Rattle.mdmp_wire.specs.CodeView.{CodeViewValue, Rsds, Other, Short}
use Rattle.mdmp_wire.specs.Number.{number_at}
use Rattle.mdmp_wire.specs.declared.module.ModuleRecord.{ModuleRecord}
use Rattle.mdmp_summary.specs.declared.identity.BuildId.{BuildId}
use Rattle.mdmp_summary.specs.declared.identity.CodeId.{CodeId}
use Rattle.mdmp_summary.specs.declared.identity.DebugIdentifier.{DebugIdentifier}
use Rattle.mdmp_summary.specs.declared.identity.Pdb20.{Pdb20}

-- the code id of a PE file: TimeDateStamp and SizeOfImage, or none if the time is 0
abbrev pub code_id_of : ModuleRecord → Option CodeId
code_id_of fields =
    if fields.time_date_stamp == 0 then None
    else Some (record { time_date_stamp = fields.time_date_stamp; size_of_image = fields.size_of_image })

-- ---- ELF build ids

-- a build id: its bytes, and whether the record has more of them
pub record BuildIdValue : Type 0 where
  pub bytes : List ℕ
  pub cut : Bool

-- the value of a program's BuildId
abbrev pub build_id_value : BuildId → BuildIdValue
build_id_value id = record { bytes = id.bytes.now; cut = id.cut }

-- the bytes `4c 45 70 42`, as a number
abbrev pub elf_signature : ℕ
elf_signature = 0x4270454c

-- the build id in a CodeView record of `size` bytes that begins with the bytes `head`, at most 24: those after its signature
abbrev pub build_id_in : List ℕ → ℕ → Option BuildIdValue
build_id_in head size =
    if nat_lt size 4 || not (number_at head 0 4 == elf_signature) then None
    else Some (record { bytes = drop 4 head; cut = nat_lt 24 size })

-- ---- PDB 2.0

-- the bytes `NB10`, as a number
abbrev pub nb10_signature : ℕ
nb10_signature = 0x3031424e

-- the identity of a symbol file of PDB 2.0: it follows four bytes that are 0
abbrev pub pdb20_in : List ℕ → ℕ → Option Pdb20
pdb20_in head size =
    if nat_lt size 16 || not (number_at head 0 4 == nb10_signature) then None
    else Some (record { time = number_at head 8 4; age = number_at head 12 4 })

-- ---- debug ids

-- that of a record of the kind RSDS: the identity of its symbol file
abbrev pub debug_id_told : CodeViewValue → Option DebugIdentifier
debug_id_told (Rsds guid age name ended) = Some (record { guid = guid; age = age })
debug_id_told (Other signature size) = None
debug_id_told (Short size) = None

-- the first sixteen of some bytes, and zeros after them if there are fewer
abbrev pub sixteen_of : List ℕ → List ℕ
sixteen_of bytes = take 16 bytes ++ replicate (16 - length bytes) 0

-- Breakpad's debug id of a build id: the first sixteen bytes are a GUID as it is in memory
abbrev pub debug_id_built : List ℕ → DebugIdentifier
debug_id_built bytes = record { guid = swap_fields (sixteen_of bytes); age = 0 }
