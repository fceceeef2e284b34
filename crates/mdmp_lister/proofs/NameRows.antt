-- Worked names: what is read of them, and how many are reached.
use Rattle.std.proofs.Common.{◌≡◌, [], ◌∷◌, ◌++◌, Some, None, Ok, Err, refl, take}
use Rattle.std.specs.Prelude.{codes, replicate}
use Rattle.mdmp_source.specs.declared.fault.SourceFault.TheVariants.{Failed}
use Rattle.mdmp_wire.specs.Number.{number_at, numbers_at, array_at, le, les, zeros}
use Rattle.mdmp_wire.specs.Units.{units_over}
use Rattle.mdmp_lister.specs.declared.fault.FaultKind.TheVariants.{StreamOutside, NameLengthOutside, NameOdd, NameUnitsOutside, Source}
use Rattle.mdmp_lister.specs.declared.fault.OpenFault.TheVariants.{DirectoryOutside}
use Rattle.mdmp_lister.specs.declared.item.Item.TheVariants.{System}
use Rattle.mdmp_lister.specs.declared.name.Name.TheVariants.{Units, Long}
use Rattle.mdmp_lister.specs.declared.name.Name.TheVariants as names
use Rattle.mdmp_lister.specs.declared.choice.Choice.TheVariants.{All}
use Rattle.mdmp_lister.specs.Format.Name.{name_at}
use Rattle.mdmp_lister.specs.Format.Shape.{shape_of}
use Rattle.mdmp_lister.specs.Format.Item.{sizes_before}
use Rattle.mdmp_lister.specs.Format.Listing.{listing, entries_from, only_chosen}
use Rattle.mdmp_lister.specs.Format.Numbers.{listed_bytes, range_count, answers_of, names_in, most_names_in, names_reached}
use Rattle.mdmp_lister.specs.Format.Bounds.{held_bound, fetch_bound}
use Rattle.mdmp_lister.specs.Format.Refusal.{opening_fault}
use Rattle.mdmp_lister.proofs.Files.{system_file, named_file}
use Rattle.mdmp_lister.proofs.RowWords.{stream, fault_of, run, last_name}

-- names behind an unloaded list, with a limit of 8 bytes
name-empty : last_name (listing (named_file 80 (zeros 4)) All 8).items ≡ Some (Units (units_over []))
unfolding number_at numbers_at array_at le name_at shape_of entries_from only_chosen sizes_before
name-empty = refl

name-of_limit : last_name (listing (named_file 80 (le 4 8 ++ 97 ∷ 0 ∷ 98 ∷ 0 ∷ 99 ∷ 0 ∷ 100 ∷ 0 ∷ [])) All 8).items ≡ Some (Units (units_over (les 2 (codes "abcd"))))
unfolding number_at numbers_at array_at le name_at shape_of entries_from only_chosen sizes_before
name-of_limit = refl

name-long : last_name (listing (named_file 80 (le 4 10 ++ zeros 10)) All 8).items ≡ Some (Long 10)
unfolding number_at numbers_at array_at le name_at shape_of entries_from only_chosen sizes_before
name-long = refl

name-odd : (listing (named_file 80 (le 4 7 ++ zeros 7)) All 8).fault ≡ Some (fault_of 0 (Some 0) NameOdd 80 7)
unfolding number_at numbers_at array_at le name_at shape_of entries_from only_chosen sizes_before
name-odd = refl

-- an odd length is told before the units are looked for
name-odd_outside : (listing (named_file 80 (le 4 7)) All 8).fault ≡ Some (fault_of 0 (Some 0) NameOdd 80 7)
unfolding number_at numbers_at array_at le name_at shape_of entries_from only_chosen sizes_before
name-odd_outside = refl

name-units : (listing (named_file 80 (le 4 10 ++ zeros 8)) All 8).fault ≡ Some (fault_of 0 (Some 0) NameUnitsOutside 84 10)
unfolding number_at numbers_at array_at le name_at shape_of entries_from only_chosen sizes_before
name-units = refl

name-length : (listing (named_file 80 (8 ∷ 0 ∷ 0 ∷ [])) All 8).fault ≡ Some (fault_of 0 (Some 0) NameLengthOutside 80 4)
unfolding number_at numbers_at array_at le name_at shape_of entries_from only_chosen sizes_before
name-length = refl

name-none : last_name (listing (named_file 0 []) All 8).items ≡ Some names.None
unfolding number_at numbers_at array_at le name_at shape_of entries_from only_chosen sizes_before
name-none = refl

-- a long name is reached
name-long-reached : names_reached (answers_of (listing (named_file 80 (le 4 10 ++ zeros 10)) All 8)) ≡ 1
unfolding number_at numbers_at array_at le name_at shape_of entries_from only_chosen sizes_before
name-long-reached = refl

-- and so is one with a fault
name-odd-reached : names_reached (answers_of (listing (named_file 80 (le 4 7 ++ zeros 7)) All 8)) ≡ 1
unfolding number_at numbers_at array_at le name_at shape_of entries_from only_chosen sizes_before
name-odd-reached = refl

name-none-reached : names_reached (answers_of (listing (named_file 0 []) All 8)) ≡ 0
unfolding number_at numbers_at array_at le name_at shape_of entries_from only_chosen sizes_before
name-none-reached = refl

name-long-held : held_bound 168 8 1 (range_count (named_file 80 (le 4 10 ++ zeros 10)) All) ≡ 188
unfolding number_at numbers_at array_at le name_at shape_of entries_from only_chosen sizes_before
name-long-held = refl

name-long-fetched : fetch_bound 8 1 (listed_bytes (named_file 80 (le 4 10 ++ zeros 10)) All) 1 ≡ 108
unfolding number_at numbers_at array_at le name_at shape_of entries_from only_chosen sizes_before
name-long-fetched = refl

-- a fault of the store reaches a name or none
store_fault-least : names_in (Err (fault_of 0 None (Source (Failed 80)) 80 0)) ≡ 0
unfolding number_at numbers_at array_at le name_at shape_of entries_from only_chosen sizes_before
store_fault-least = refl

store_fault-most : most_names_in (Err (fault_of 0 None (Source (Failed 80)) 80 0)) ≡ 1
unfolding number_at numbers_at array_at le name_at shape_of entries_from only_chosen sizes_before
store_fault-most = refl

-- the fault of a stream reaches none, and neither does the end
stream_fault-most : most_names_in (Err (fault_of 0 None StreamOutside 44 36)) ≡ 0
unfolding number_at numbers_at array_at le name_at shape_of entries_from only_chosen sizes_before
stream_fault-most = refl

end-most : most_names_in (Ok None) ≡ 0
unfolding number_at numbers_at array_at le name_at shape_of entries_from only_chosen sizes_before
end-most = refl

-- two names with a fault, each in an entry of its own
two_faults-reached : names_reached (Err (fault_of 0 (Some 0) NameOdd 80 7) ∷ Ok (Some (stream 1 14 36 44)) ∷ Err (fault_of 1 (Some 0) NameUnitsOutside 84 10) ∷ []) ≡ 2
unfolding number_at numbers_at array_at le name_at shape_of entries_from only_chosen sizes_before
two_faults-reached = refl

-- a system with the name of its service pack, whole and cut
system-opens : opening_fault system_file All ≡ None
unfolding number_at numbers_at array_at le name_at shape_of entries_from only_chosen sizes_before
system-opens = refl

system-listing : listing system_file All 4096 ≡ run (stream 0 7 56 44 ∷ System (record { entry = 0; index = 0; fields = record { processor_architecture = 9; processor_level = 6; processor_revision = 3; number_of_processors = 4; product_type = 1; major_version = 6; minor_version = 1; build_number = 7601; platform_id = 2; csd_version_rva = 100; suite_mask = 256; reserved2 = 0; cpu = replicate 24 0 }; name = Units (units_over (les 2 (codes "Service Pack 1"))) }) ∷ []) None
unfolding number_at numbers_at array_at le name_at shape_of entries_from only_chosen sizes_before
system-listing = refl

system-held : held_bound 65536 4096 1 (range_count system_file All) ≡ 69644
unfolding number_at numbers_at array_at le name_at shape_of entries_from only_chosen sizes_before
system-held = refl

system-fetched : fetch_bound 4096 1 (listed_bytes system_file All) 1 ≡ 4216
unfolding number_at numbers_at array_at le name_at shape_of entries_from only_chosen sizes_before
system-fetched = refl

system-132 : last_name (listing (take 132 system_file) All 4096).items ≡ Some (Units (units_over (les 2 (codes "Service Pack 1"))))
unfolding number_at numbers_at array_at le name_at shape_of entries_from only_chosen sizes_before
system-132 = refl

system-131 : (listing (take 131 system_file) All 4096).fault ≡ Some (fault_of 0 (Some 0) NameUnitsOutside 104 28)
unfolding number_at numbers_at array_at le name_at shape_of entries_from only_chosen sizes_before
system-131 = refl

system-103 : (listing (take 103 system_file) All 4096).fault ≡ Some (fault_of 0 (Some 0) NameLengthOutside 100 4)
unfolding number_at numbers_at array_at le name_at shape_of entries_from only_chosen sizes_before
system-103 = refl

system-99 : listing (take 99 system_file) All 4096 ≡ run (stream 0 7 56 44 ∷ []) (Some (fault_of 0 None StreamOutside 44 56))
unfolding number_at numbers_at array_at le name_at shape_of entries_from only_chosen sizes_before
system-99 = refl

system-43 : opening_fault (take 43 system_file) All ≡ Some (DirectoryOutside 32 12)
unfolding number_at numbers_at array_at le name_at shape_of entries_from only_chosen sizes_before
system-43 = refl
