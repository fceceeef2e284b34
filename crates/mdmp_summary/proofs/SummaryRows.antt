-- Worked files, summed up by the definition.
use Rattle.std.proofs.Common.{◌≡◌, ℕ, zero, suc, ◌+◌, ◌%◌, List, [], ◌∷◌, ◌++◌, Some, None, refl, take}
use Rattle.std.specs.Option.{option_map}
use Rattle.mdmp_wire.specs.declared.thread_name.ThreadNameRecord.{ThreadNameRecord}
use Rattle.mdmp_wire.specs.Number.{number_at, numbers_at, array_at, le, zeros}
use Rattle.mdmp_lister.specs.declared.fault.FaultKind.TheVariants.{StreamOutside}
use Rattle.mdmp_lister.specs.Format.Name.{name_at}
use Rattle.mdmp_lister.specs.Format.Shape.{shape_of}
use Rattle.mdmp_lister.specs.Format.Item.{sizes_before}
use Rattle.mdmp_lister.specs.Format.Listing.{entries_from, only_chosen}
use Rattle.mdmp_lister.proofs.Files.{crash_file, entry, head, location, misc_file, three_ranges_file}
use Rattle.mdmp_lister.proofs.RowWords.{fault_of}
use Rattle.mdmp_summary.specs.Summary.{file_summary}
use Rattle.mdmp_wire.specs.declared.slot.PartName.TheVariants.{Context, Misc, Memory}
use Rattle.mdmp_summary.specs.declared.summary.Crash.{Crash}
use Rattle.mdmp_summary.specs.declared.summary.PlaceInModule.{PlaceInModule}

-- a thread with its stack and context, and an exception of an unknown system
bare-address : option_map (λ (c : Crash). c.address) (file_summary crash_file 0).crash ≡ Some 0x401000
unfolding number_at numbers_at array_at le name_at shape_of entries_from only_chosen sizes_before
bare-address = refl

bare-counts : (file_summary crash_file 0).counts ≡ record { streams = 2; threads = 1; modules = 0; exceptions = 1; ranges = 0; memory = 0 }
unfolding number_at numbers_at array_at le name_at shape_of entries_from only_chosen sizes_before
bare-counts = refl

bare-outside : (file_summary crash_file 0).outside ≡ record { count = 0; first = None }
unfolding number_at numbers_at array_at le name_at shape_of entries_from only_chosen sizes_before
bare-outside = refl

-- the same, cut before the last byte of the exception's context: no entry is bad, but a part lies outside
cut-outside : (file_summary (take 291 crash_file) 0).outside ≡ record { count = 1; first = Some (record { entry = 1; index = 0; part = Context; offset = 288; size = 4 }) }
unfolding number_at numbers_at array_at le name_at shape_of entries_from only_chosen sizes_before
cut-outside = refl

cut-bad : (file_summary (take 291 crash_file) 0).bad ≡ record { count = 0; first = None }
unfolding number_at numbers_at array_at le name_at shape_of entries_from only_chosen sizes_before
cut-bad = refl

-- cut in the exception's record: the entry is bad, and its stream counts
lost-bad : (file_summary (take 287 crash_file) 0).bad ≡ record { count = 1; first = Some (fault_of 1 None StreamOutside 120 168) }
unfolding number_at numbers_at array_at le name_at shape_of entries_from only_chosen sizes_before
lost-bad = refl

lost-crash : (file_summary (take 287 crash_file) 0).crash ≡ None
unfolding number_at numbers_at array_at le name_at shape_of entries_from only_chosen sizes_before
lost-crash = refl

lost-counts : (file_summary (take 287 crash_file) 0).counts ≡ record { streams = 2; threads = 1; modules = 0; exceptions = 0; ranges = 0; memory = 0 }
unfolding number_at numbers_at array_at le name_at shape_of entries_from only_chosen sizes_before
lost-counts = refl

-- three ranges, of which one lies outside and one inside
ranges-memory : (file_summary three_ranges_file 0).counts.memory ≡ 4
unfolding number_at numbers_at array_at le name_at shape_of entries_from only_chosen sizes_before
ranges-memory = refl

ranges-outside : (file_summary three_ranges_file 0).outside ≡ record { count = 1; first = Some (record { entry = 0; index = 1; part = Memory; offset = 97; size = 4 }) }
unfolding number_at numbers_at array_at le name_at shape_of entries_from only_chosen sizes_before
ranges-outside = refl

misc-outside : (file_summary misc_file 0).outside ≡ record { count = 1; first = Some (record { entry = 0; index = 0; part = Misc; offset = 0xFFFFFFFF; size = 30 }) }
unfolding number_at numbers_at array_at le name_at shape_of entries_from only_chosen sizes_before
misc-outside = refl

-- ---- a crash of Linux on x64

-- byte k of a context is k, counted anew from 256 on: Rip is 0xfffefdfcfbfaf9f8
bytes_from : ℕ → ℕ → List ℕ
bytes_from at zero = []
bytes_from at (suc n) = at % 256 ∷ bytes_from (at + 1) n

-- a system of this platform and architecture
abbrev system : ℕ → ℕ → List ℕ
system platform architecture = le 2 architecture ++ zeros 18 ++ le 4 platform ++ zeros 32

-- an exception of a thread, whose context stands there
abbrev exception : ℕ → ℕ → ℕ → ℕ → ℕ → List ℕ
exception thread code address size rva = le 4 thread ++ zeros 4 ++ le 4 code ++ zeros 12 ++ le 8 address ++ zeros 128 ++ location size rva

-- a module of this base and size
abbrev module_sized : ℕ → ℕ → List ℕ
module_sized base size = le 8 base ++ le 4 size ++ zeros 96

-- exceptions and modules before the system, which tells what they mean; the first module ends at the address, the other two hold it
abbrev linux_file : ℕ → ℕ → List ℕ
linux_file platform code =
    head 5 32 ++ entry 6 168 92 ++ entry 6 168 260 ++ entry 4 328 428 ++ entry 7 56 756 ++ entry 24 28 812
    ++ exception 6 19 5 0 0 ++ exception 7 code 16 256 840
    ++ le 4 3 ++ module_sized 0xfffefdfcfbfaf9f0 8 ++ module_sized 0xfffefdfcfbfaf9f1 8 ++ module_sized 0xfffefdfcfbfaf9f8 9
    ++ system platform 9
    ++ le 4 2 ++ le 4 6 ++ zeros 8 ++ le 4 7 ++ zeros 8
    ++ bytes_from 0 256

-- the thread of a crash, and the address that ran
abbrev looked_at : Crash → List ℕ
looked_at c = c.exception.fields.thread_id ∷ c.address ∷ []

-- the base of a module, and the offset in it
abbrev place_in : PlaceInModule → List ℕ
place_in p = p.fields.base_of_image ∷ p.offset ∷ []

linux-crash : option_map looked_at (file_summary (linux_file 0x8201 11) 0).crash ≡ Some (7 ∷ 0xfffefdfcfbfaf9f8 ∷ [])
unfolding number_at numbers_at array_at le name_at shape_of entries_from only_chosen sizes_before bytes_from
linux-crash = refl

linux-holder : option_map (λ (c : Crash). option_map place_in c.holder) (file_summary (linux_file 0x8201 11) 0).crash ≡ Some (Some (0xfffefdfcfbfaf9f1 ∷ 7 ∷ []))
unfolding number_at numbers_at array_at le name_at shape_of entries_from only_chosen sizes_before bytes_from
linux-holder = refl

-- a module holds the address, so none is near it
linux-near : option_map (λ (c : Crash). option_map place_in c.near) (file_summary (linux_file 0x8201 11) 0).crash ≡ Some None
unfolding number_at numbers_at array_at le name_at shape_of entries_from only_chosen sizes_before bytes_from
linux-near = refl

linux-name : option_map (λ (c : Crash). option_map (λ (t : ThreadNameRecord). t.thread_id) c.thread_name) (file_summary (linux_file 0x8201 11) 0).crash ≡ Some (Some 7)
unfolding number_at numbers_at array_at le name_at shape_of entries_from only_chosen sizes_before bytes_from
linux-name = refl

-- the same on Windows: the first exception is the crash, and its address ran; each module begins above it
windows-crash : option_map looked_at (file_summary (linux_file 2 11) 0).crash ≡ Some (6 ∷ 5 ∷ [])
unfolding number_at numbers_at array_at le name_at shape_of entries_from only_chosen sizes_before bytes_from
windows-crash = refl

windows-near : option_map (λ (c : Crash). option_map place_in c.near) (file_summary (linux_file 2 11) 0).crash ≡ Some None
unfolding number_at numbers_at array_at le name_at shape_of entries_from only_chosen sizes_before bytes_from
windows-near = refl

-- modules with sizes of a few bytes, as LLDB writes them: none holds the address, and of two with the greatest base below it
-- the first is near
abbrev small_modules_file : List ℕ
small_modules_file =
    head 2 32 ++ entry 4 544 56 ++ entry 6 168 600
    ++ le 4 5 ++ module_sized 0x3000 8 ++ module_sized 0x1000 8 ++ module_sized 0x2000 9 ++ module_sized 0x2000 16 ++ module_sized 0x1800 8
    ++ exception 7 11 0x2010 0 0

near-holder : option_map (λ (c : Crash). option_map place_in c.holder) (file_summary small_modules_file 0).crash ≡ Some None
unfolding number_at numbers_at array_at le name_at shape_of entries_from only_chosen sizes_before
near-holder = refl

near-near : option_map (λ (c : Crash). option_map (λ (p : PlaceInModule). p.fields.size_of_image ∷ place_in p) c.near) (file_summary small_modules_file 0).crash ≡ Some (Some (9 ∷ 0x2000 ∷ 0x10 ∷ []))
unfolding number_at numbers_at array_at le name_at shape_of entries_from only_chosen sizes_before
near-near = refl

-- two threads that were stopped
stopped-crash : (file_summary (linux_file 0x8201 20) 0).crash ≡ None
unfolding number_at numbers_at array_at le name_at shape_of entries_from only_chosen sizes_before bytes_from
stopped-crash = refl

stopped-counts : (file_summary (linux_file 0x8201 20) 0).counts ≡ record { streams = 5; threads = 0; modules = 3; exceptions = 2; ranges = 0; memory = 0 }
unfolding number_at numbers_at array_at le name_at shape_of entries_from only_chosen sizes_before bytes_from
stopped-counts = refl
