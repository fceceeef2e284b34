-- Worked files, read by the definitions.
use Rattle.std.proofs.Common.{◌≡◌, ℕ, List, [], ◌∷◌, ◌++◌, Some, None, refl, take}
use Rattle.mdmp_wire.specs.Number.{number_at, numbers_at, array_at, le, zeros}
use Rattle.mdmp_lister.specs.declared.fault.FaultKind.TheVariants.{StreamOutside, NameLengthOutside}
use Rattle.mdmp_lister.specs.declared.fault.OpenFault.TheVariants.{TooShort, DirectoryOutside}
use Rattle.mdmp_lister.specs.declared.choice.Choice.TheVariants.{All, Types}
use Rattle.mdmp_lister.specs.Format.Name.{name_at}
use Rattle.mdmp_lister.specs.Format.Shape.{shape_of}
use Rattle.mdmp_lister.specs.Format.Item.{sizes_before}
use Rattle.mdmp_lister.specs.Format.Listing.{entries_from, only_chosen}
use Rattle.mdmp_lister.proofs.Files.{head, entry, location, absent_stack_file, crash_file, faulty_file, memory64_file, misc_file, named_file, opaque_file, system_file}
use Rattle.mdmp_wire.specs.declared.slot.PartName.TheVariants.{Stack, Context, CodeView, Misc, Memory}
use Rattle.mdmp_dump.specs.declared.fault.ReadFault.TheVariants as faults
use Rattle.mdmp_dump.specs.Refusal.{read_refusal, first_refusal}

-- an opaque stream takes its bytes
opaque-read : read_refusal opaque_file All 0 5 ≡ None
unfolding number_at numbers_at array_at le name_at shape_of entries_from only_chosen sizes_before first_refusal
opaque-read = refl

opaque-too_large : read_refusal opaque_file All 0 4 ≡ Some (faults.PartsTooLarge 0 0)
unfolding number_at numbers_at array_at le name_at shape_of entries_from only_chosen sizes_before first_refusal
opaque-too_large = refl

opaque-cut : read_refusal (take 48 opaque_file) All 0 4 ≡ Some (faults.List (record { entry = 0; index = None; kind = StreamOutside; offset = 44; size = 5 }))
unfolding number_at numbers_at array_at le name_at shape_of entries_from only_chosen sizes_before first_refusal
opaque-cut = refl

long_name : read_refusal (named_file 80 (le 4 10 ++ zeros 10)) All 8 100 ≡ Some (faults.NameTooLong 0 0 10)
unfolding number_at numbers_at array_at le name_at shape_of entries_from only_chosen sizes_before first_refusal
long_name = refl

-- of one module the name comes first, and then the parts in the order of its fields
abbrev named_module_file : List ℕ
named_module_file =
    head 1 32 ++ entry 4 112 44 ++ le 4 1 ++ zeros 20 ++ le 4 156 ++ zeros 52 ++ location 30 0xFFFFFFFF ++ location 30 1 ++ zeros 16
    ++ le 4 10 ++ zeros 10

named_module-long_name : read_refusal named_module_file All 8 100 ≡ Some (faults.NameTooLong 0 0 10)
unfolding number_at numbers_at array_at le name_at shape_of entries_from only_chosen sizes_before first_refusal
named_module-long_name = refl

named_module-codeview : read_refusal named_module_file All 10 0 ≡ Some (faults.PartOutside 0 0 CodeView 4294967295 30)
unfolding number_at numbers_at array_at le name_at shape_of entries_from only_chosen sizes_before first_refusal
named_module-codeview = refl

misc-outside : read_refusal misc_file All 0 0 ≡ Some (faults.PartOutside 0 0 Misc 4294967295 30)
unfolding number_at numbers_at array_at le name_at shape_of entries_from only_chosen sizes_before first_refusal
misc-outside = refl

-- a part outside is told before a later one that is too large
memory64-outside : read_refusal memory64_file All 0 4 ≡ Some (faults.PartOutside 0 1 Memory 96 4)
unfolding number_at numbers_at array_at le name_at shape_of entries_from only_chosen sizes_before first_refusal
memory64-outside = refl

memory64-too_large : read_refusal memory64_file All 0 3 ≡ Some (faults.PartsTooLarge 0 0)
unfolding number_at numbers_at array_at le name_at shape_of entries_from only_chosen sizes_before first_refusal
memory64-too_large = refl

faulty-read : read_refusal faulty_file All 0 100 ≡ Some (faults.List (record { entry = 1; index = (Some 0); kind = NameLengthOutside; offset = 4294967295; size = 4 }))
unfolding number_at numbers_at array_at le name_at shape_of entries_from only_chosen sizes_before first_refusal
faulty-read = refl

faulty-opaque : read_refusal faulty_file (Types (10 ∷ [])) 0 100 ≡ Some (faults.List (record { entry = 2; index = None; kind = StreamOutside; offset = 236; size = 5 }))
unfolding number_at numbers_at array_at le name_at shape_of entries_from only_chosen sizes_before first_refusal
faulty-opaque = refl

absent_stack-read : read_refusal absent_stack_file All 0 1 ≡ None
unfolding number_at numbers_at array_at le name_at shape_of entries_from only_chosen sizes_before first_refusal
absent_stack-read = refl

absent_stack-too_large : read_refusal absent_stack_file All 0 0 ≡ Some (faults.PartsTooLarge 0 0)
unfolding number_at numbers_at array_at le name_at shape_of entries_from only_chosen sizes_before first_refusal
absent_stack-too_large = refl

absent_stack-cut : read_refusal (take 96 absent_stack_file) All 0 1 ≡ Some (faults.PartOutside 0 0 Context 96 1)
unfolding number_at numbers_at array_at le name_at shape_of entries_from only_chosen sizes_before first_refusal
absent_stack-cut = refl

system-read : read_refusal system_file All 4096 0 ≡ None
unfolding number_at numbers_at array_at le name_at shape_of entries_from only_chosen sizes_before first_refusal
system-read = refl

system-cut : read_refusal (take 31 system_file) All 4096 0 ≡ Some (faults.Opening (TooShort 31))
unfolding number_at numbers_at array_at le name_at shape_of entries_from only_chosen sizes_before first_refusal
system-cut = refl

-- a thread and an exception, whole and cut
crash-31 : read_refusal (take 31 crash_file) All 4096 100 ≡ Some (faults.Opening (TooShort 31))
unfolding number_at numbers_at array_at le name_at shape_of entries_from only_chosen sizes_before first_refusal
crash-31 = refl

crash-32 : read_refusal (take 32 crash_file) All 4096 100 ≡ Some (faults.Opening (DirectoryOutside 32 24))
unfolding number_at numbers_at array_at le name_at shape_of entries_from only_chosen sizes_before first_refusal
crash-32 = refl

crash-55 : read_refusal (take 55 crash_file) All 4096 100 ≡ Some (faults.Opening (DirectoryOutside 32 24))
unfolding number_at numbers_at array_at le name_at shape_of entries_from only_chosen sizes_before first_refusal
crash-55 = refl

crash-56 : read_refusal (take 56 crash_file) All 4096 100 ≡ Some (faults.List (record { entry = 0; index = None; kind = StreamOutside; offset = 56; size = 52 }))
unfolding number_at numbers_at array_at le name_at shape_of entries_from only_chosen sizes_before first_refusal
crash-56 = refl

crash-107 : read_refusal (take 107 crash_file) All 4096 100 ≡ Some (faults.List (record { entry = 0; index = None; kind = StreamOutside; offset = 56; size = 52 }))
unfolding number_at numbers_at array_at le name_at shape_of entries_from only_chosen sizes_before first_refusal
crash-107 = refl

crash-108 : read_refusal (take 108 crash_file) All 4096 100 ≡ Some (faults.PartOutside 0 0 Stack 108 4)
unfolding number_at numbers_at array_at le name_at shape_of entries_from only_chosen sizes_before first_refusal
crash-108 = refl

crash-111 : read_refusal (take 111 crash_file) All 4096 100 ≡ Some (faults.PartOutside 0 0 Stack 108 4)
unfolding number_at numbers_at array_at le name_at shape_of entries_from only_chosen sizes_before first_refusal
crash-111 = refl

crash-112 : read_refusal (take 112 crash_file) All 4096 100 ≡ Some (faults.PartOutside 0 0 Context 112 6)
unfolding number_at numbers_at array_at le name_at shape_of entries_from only_chosen sizes_before first_refusal
crash-112 = refl

crash-117 : read_refusal (take 117 crash_file) All 4096 100 ≡ Some (faults.PartOutside 0 0 Context 112 6)
unfolding number_at numbers_at array_at le name_at shape_of entries_from only_chosen sizes_before first_refusal
crash-117 = refl

crash-118 : read_refusal (take 118 crash_file) All 4096 100 ≡ Some (faults.List (record { entry = 1; index = None; kind = StreamOutside; offset = 120; size = 168 }))
unfolding number_at numbers_at array_at le name_at shape_of entries_from only_chosen sizes_before first_refusal
crash-118 = refl

crash-287 : read_refusal (take 287 crash_file) All 4096 100 ≡ Some (faults.List (record { entry = 1; index = None; kind = StreamOutside; offset = 120; size = 168 }))
unfolding number_at numbers_at array_at le name_at shape_of entries_from only_chosen sizes_before first_refusal
crash-287 = refl

crash-288 : read_refusal (take 288 crash_file) All 4096 100 ≡ Some (faults.PartOutside 1 0 Context 288 4)
unfolding number_at numbers_at array_at le name_at shape_of entries_from only_chosen sizes_before first_refusal
crash-288 = refl

crash-291 : read_refusal (take 291 crash_file) All 4096 100 ≡ Some (faults.PartOutside 1 0 Context 288 4)
unfolding number_at numbers_at array_at le name_at shape_of entries_from only_chosen sizes_before first_refusal
crash-291 = refl

crash-read : read_refusal crash_file All 4096 100 ≡ None
unfolding number_at numbers_at array_at le name_at shape_of entries_from only_chosen sizes_before first_refusal
crash-read = refl

-- its parts have 14 bytes
crash-14 : read_refusal crash_file All 4096 14 ≡ None
unfolding number_at numbers_at array_at le name_at shape_of entries_from only_chosen sizes_before first_refusal
crash-14 = refl

crash-13 : read_refusal crash_file All 4096 13 ≡ Some (faults.PartsTooLarge 1 0)
unfolding number_at numbers_at array_at le name_at shape_of entries_from only_chosen sizes_before first_refusal
crash-13 = refl
