-- Worked files with bad entries, and with parts outside.
use Rattle.std.proofs.Common.{◌≡◌, ℕ, List, ◌++◌, Some, None, refl, take, drop}
use Rattle.std.specs.Option.{option_map}
use Rattle.mdmp_wire.specs.Number.{number_at, numbers_at, array_at, le}
use Rattle.mdmp_lister.specs.declared.fault.FaultKind.TheVariants.{NameLengthOutside, StreamOutside}
use Rattle.mdmp_lister.specs.Format.Name.{name_at}
use Rattle.mdmp_lister.specs.Format.Shape.{shape_of}
use Rattle.mdmp_lister.specs.Format.Item.{sizes_before}
use Rattle.mdmp_lister.specs.Format.Listing.{entries_from, only_chosen}
use Rattle.mdmp_lister.proofs.Files.{crash_file, entry, faulty_file, head, location}
use Rattle.mdmp_lister.proofs.RowWords.{fault_of}
use Rattle.mdmp_summary.specs.Summary.{file_summary}
use Rattle.mdmp_wire.specs.declared.slot.PartName.TheVariants.{Context, Memory}
use Rattle.mdmp_summary.specs.declared.summary.Crash.{Crash}

whole : (file_summary crash_file 0).bad ≡ record { count = 0; first = None }
unfolding number_at numbers_at array_at le name_at shape_of entries_from only_chosen sizes_before
whole = refl

-- after a good entry a module without its name, and an unparsed stream outside
faulty : (file_summary faulty_file 0).bad ≡ record { count = 2; first = Some (fault_of 1 (Some 0) NameLengthOutside 0xFFFFFFFF 4) }
unfolding number_at numbers_at array_at le name_at shape_of entries_from only_chosen sizes_before
faulty = refl

-- after a stream that lies outside a range that does
abbrev behind_file : List ℕ
behind_file = head 2 32 ++ entry 3 4 4096 ++ entry 5 20 56 ++ le 4 1 ++ le 8 0x1000 ++ location 64 60

behind-outside : (file_summary behind_file 0).outside ≡ record { count = 1; first = Some (record { entry = 1; index = 0; part = Memory; offset = 60; size = 64 }) }
unfolding number_at numbers_at array_at le name_at shape_of entries_from only_chosen sizes_before
behind-outside = refl

behind-bad : (file_summary behind_file 0).bad ≡ record { count = 1; first = Some (fault_of 0 None StreamOutside 4096 4) }
unfolding number_at numbers_at array_at le name_at shape_of entries_from only_chosen sizes_before
behind-bad = refl

-- a crash after a bad entry is found
hidden-crash : option_map (λ (c : Crash). c.address) (file_summary (head 2 32 ++ entry 3 4 4096 ++ entry 6 168 120 ++ take 288 (drop 56 crash_file)) 0).crash ≡ Some 0x401000
unfolding number_at numbers_at array_at le name_at shape_of entries_from only_chosen sizes_before
hidden-crash = refl

-- a crash that is cut: the record is whole, and its context lies outside
cut : (file_summary (take 290 crash_file) 0).outside ≡ record { count = 1; first = Some (record { entry = 1; index = 0; part = Context; offset = 288; size = 4 }) }
unfolding number_at numbers_at array_at le name_at shape_of entries_from only_chosen sizes_before
cut = refl
