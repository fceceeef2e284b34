-- What is said of the faults of a source, an opening and a listing.
use Rattle.std.specs.Prelude.{ℕ, List, [], ◌∷◌, ◌++◌, Option, Some, None, codes}
use Rattle.std.specs.List.{concat}
use Rattle.std.specs.Fmt.{decimal}
use Rattle.mdmp_source.specs.declared.fault.SourceFault.{SourceFault}
use Rattle.mdmp_source.specs.declared.fault.SourceFault.TheVariants as source
use Rattle.mdmp_lister.specs.declared.fault.OpenFault.{OpenFault}
use Rattle.mdmp_lister.specs.declared.fault.OpenFault.TheVariants as opening
use Rattle.mdmp_lister.specs.declared.fault.FaultKind.{FaultKind}
use Rattle.mdmp_lister.specs.declared.fault.FaultKind.TheVariants as kinds
use Rattle.mdmp_lister.specs.declared.fault.ListFault.{ListFault}
use Rattle.mdmp_wire.specs.Digits.{hex}

abbrev pub source_text : SourceFault → List ℕ
source_text (source.Failed at) = concat (codes "store failed at " ∷ decimal at ∷ [])
source_text (source.ShortRead at) = concat (codes "store ended at " ∷ decimal at ∷ [])
source_text (source.Changed at) = concat (codes "store changed at " ∷ decimal at ∷ [])

abbrev pub budget_text : ℕ → ℕ → List ℕ
budget_text offset size = concat (codes "fetch budget reached: offset " ∷ decimal offset ∷ codes " size " ∷ decimal size ∷ [])

abbrev pub memory_text : List ℕ
memory_text = codes "out of memory"

abbrev pub memory_limit_text : ℕ → List ℕ
memory_limit_text held = concat (codes "memory limit reached: " ∷ decimal held ∷ [])

abbrev pub version_text : ℕ → List ℕ
version_text low = concat (codes "bad version 0x" ∷ hex 4 low ∷ [])

abbrev pub too_many_ranges_text : ℕ → List ℕ
too_many_ranges_text count = concat (codes "too many memory ranges: " ∷ decimal count ∷ [])

abbrev pub opening_text : OpenFault → List ℕ
opening_text (opening.TooShort size) = concat (codes "file of " ∷ decimal size ∷ codes " bytes is too short" ∷ [])
opening_text (opening.BadSignature) = codes "bad signature"
opening_text (opening.BadVersion low) = version_text low
opening_text (opening.DirectoryOutside offset size) =
    concat (codes "directory outside the file: offset " ∷ decimal offset ∷ codes " size " ∷ decimal size ∷ [])
opening_text (opening.Source fault) = source_text fault
opening_text (opening.Budget offset size) = budget_text offset size
opening_text (opening.Memory) = memory_text
opening_text (opening.MemoryLimit held) = memory_limit_text held
opening_text (opening.TooManyRanges count) = too_many_ranges_text count

-- what a kind of fault is called; a fault of the store or the budget has a text of its own
abbrev pub kind_words : FaultKind → List ℕ
kind_words kinds.StreamOutside = codes "stream outside the file"
kind_words kinds.ShortStream = codes "stream too short"
kind_words kinds.BadHeaderSize = codes "bad header size"
kind_words kinds.BadEntrySize = codes "bad entry size"
kind_words kinds.BadCount = codes "bad count"
kind_words kinds.NameLengthOutside = codes "name length outside the file"
kind_words kinds.NameOdd = codes "odd name length"
kind_words kinds.NameUnitsOutside = codes "name outside the file"
kind_words (kinds.Source fault) = []
kind_words kinds.Budget = []

-- ` item <k>`, where the fault is that of a record
abbrev pub item_text : Option ℕ → List ℕ
item_text None = []
item_text (Some k) = codes " item " ++ decimal k

-- `entry <e>: <words>: offset <n> size <n>`, with ` item <k>` behind the entry for the fault of a record
abbrev pub list_fault_text : ListFault → List ℕ
list_fault_text f = concat (codes "entry " ∷ decimal f.entry ∷ item_text f.index
    ∷ codes ": " ∷ kind_words f.kind ∷ codes ": offset " ∷ decimal f.offset ∷ codes " size " ∷ decimal f.size ∷ [])
