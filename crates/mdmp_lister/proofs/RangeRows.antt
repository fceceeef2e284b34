-- Worked ranges of memory: what is listed of them, how many there are, and their bytes.
use Rattle.std.proofs.Common.{◌≡◌, ◌*◌, ◌∙◌, ℕ, List, [], ◌∷◌, ◌++◌, Some, None, refl, ap}
use Rattle.std.specs.Prelude.{map, replicate}
use Rattle.std.proofs.lemmas.List.Folds.{sum_by-replicate}
use Rattle.mdmp_source.specs.declared.location.Extent.TheVariants.{Empty, Inside, Outside}
use Rattle.mdmp_wire.specs.Number.{number_at, numbers_at, array_at, le, zeros}
use Rattle.mdmp_map.specs.Ranges.{byte_at, place_of, next_start}
use Rattle.mdmp_lister.specs.declared.fault.OpenFault.TheVariants.{TooManyRanges}
use Rattle.mdmp_lister.specs.declared.item.Item.TheVariants.{Range}
use Rattle.mdmp_lister.specs.declared.choice.Choice.TheVariants.{All}
use Rattle.mdmp_lister.specs.Format.Name.{name_at}
use Rattle.mdmp_lister.specs.Format.Kind.{kind_of}
use Rattle.mdmp_lister.specs.Format.Shape.{shape_of}
use Rattle.mdmp_lister.specs.Format.Item.{sizes_before}
use Rattle.mdmp_lister.specs.Format.Listing.{Numbered, listing, entries_from, only_chosen}
use Rattle.mdmp_lister.specs.Format.Numbers.{ranges_in, ranges_of_all, range_count}
use Rattle.mdmp_lister.specs.Format.Bounds.{held_bound}
use Rattle.mdmp_lister.specs.Format.Refusal.{most_ranges, directory_refusal, opening_fault}
use Rattle.mdmp_lister.specs.Format.Ranges.{ranges_of}
use Rattle.mdmp_lister.proofs.Files.{head, entry, memory64_file, wide_file, overlapping_file, exchanged_file, four_entries_file, three_ranges_file, last_address_file, sixteen_entries_file}
use Rattle.mdmp_lister.proofs.RowWords.{stream, run}

-- ranges of 64-bit memory stand one behind the other
memory64-listing : listing memory64_file All 0 ≡ run (stream 0 9 48 44 ∷ Range (record { entry = 0; index = 0; start = 0x1000; size = 4; extent = Inside; offset = 92 }) ∷ Range (record { entry = 0; index = 1; start = 0x2000; size = 4; extent = Outside; offset = 96 }) ∷ []) None
unfolding number_at numbers_at array_at le name_at shape_of entries_from only_chosen sizes_before
memory64-listing = refl

memory64-byte : map (byte_at memory64_file (ranges_of (listing memory64_file All 0).items)) (0xfff ∷ 0x1000 ∷ 0x1003 ∷ 0x1004 ∷ 0x2000 ∷ []) ≡ None ∷ Some 0x41 ∷ Some 0x44 ∷ None ∷ None ∷ []
unfolding number_at numbers_at array_at le name_at shape_of entries_from only_chosen sizes_before
memory64-byte = refl

wide-listing : listing wide_file All 0 ≡ run (stream 0 9 64 44 ∷ Range (record { entry = 0; index = 0; start = 0x1000; size = 0xFFFFFFFFFFFFFFFF; extent = Outside; offset = 108 }) ∷ Range (record { entry = 0; index = 1; start = 0x2000; size = 0xFFFFFFFFFFFFFFFF; extent = Outside; offset = 18446744073709551723 }) ∷ Range (record { entry = 0; index = 2; start = 0x3000; size = 1; extent = Outside; offset = 36893488147419103338 }) ∷ []) None
unfolding number_at numbers_at array_at le name_at shape_of entries_from only_chosen sizes_before
wide-listing = refl

wide-ranges : range_count wide_file All ≡ 3
unfolding number_at numbers_at array_at le name_at shape_of entries_from only_chosen sizes_before
wide-ranges = refl

-- the first of two ranges that hold an address gives its byte
overlapping-bytes : map (byte_at overlapping_file (ranges_of (listing overlapping_file All 0).items)) (0xfff ∷ 0x1000 ∷ 0x1001 ∷ 0x1002 ∷ 0x1003 ∷ 0x1004 ∷ 0x1005 ∷ 0x1006 ∷ []) ≡ None ∷ Some 0x41 ∷ Some 0x42 ∷ Some 0x43 ∷ Some 0x44 ∷ Some 0x79 ∷ Some 0x7a ∷ None ∷ []
unfolding number_at numbers_at array_at le name_at shape_of entries_from only_chosen sizes_before
overlapping-bytes = refl

exchanged-bytes : map (byte_at exchanged_file (ranges_of (listing exchanged_file All 0).items)) (0xfff ∷ 0x1000 ∷ 0x1001 ∷ 0x1002 ∷ 0x1003 ∷ 0x1004 ∷ 0x1005 ∷ 0x1006 ∷ []) ≡ None ∷ Some 0x41 ∷ Some 0x42 ∷ Some 0x77 ∷ Some 0x78 ∷ Some 0x79 ∷ Some 0x7a ∷ None ∷ []
unfolding number_at numbers_at array_at le name_at shape_of entries_from only_chosen sizes_before
exchanged-bytes = refl

overlapping-place : place_of (ranges_of (listing overlapping_file All 0).items) 0x1004 ≡ Some (record { offset = 86; left = 2 })
unfolding number_at numbers_at array_at le name_at shape_of entries_from only_chosen sizes_before next_start
overlapping-place = refl

-- only a range inside the file has bytes
three_ranges-inside : ranges_of (listing three_ranges_file All 0).items ≡ record { start = 0x3000; length = 4; offset = 96 } ∷ []
unfolding number_at numbers_at array_at le name_at shape_of entries_from only_chosen sizes_before
three_ranges-inside = refl

three_ranges-bytes : map (byte_at three_ranges_file (ranges_of (listing three_ranges_file All 0).items)) (0x1000 ∷ 0x2000 ∷ 0x3000 ∷ 0x3003 ∷ []) ≡ None ∷ None ∷ Some 0x41 ∷ Some 0x44 ∷ []
unfolding number_at numbers_at array_at le name_at shape_of entries_from only_chosen sizes_before
three_ranges-bytes = refl

-- addresses end at the last one
last_address-bytes : map (byte_at last_address_file (ranges_of (listing last_address_file All 0).items)) (0xFFFFFFFFFFFFFFF8 ∷ 0xFFFFFFFFFFFFFFFF ∷ []) ≡ Some 0x41 ∷ Some 0x48 ∷ []
unfolding number_at numbers_at array_at le name_at shape_of entries_from only_chosen sizes_before
last_address-bytes = refl

last_address-no_wrap : map (byte_at last_address_file (ranges_of (listing last_address_file All 0).items)) (0 ∷ 1 ∷ 0x10000000000000000 ∷ 0x10000000000000001 ∷ []) ≡ None ∷ None ∷ None ∷ None ∷ []
unfolding number_at numbers_at array_at le name_at shape_of entries_from only_chosen sizes_before
last_address-no_wrap = refl

-- the ranges of a list that two entries name count twice
twice_counted : range_count (head 2 32 ++ entry 5 36 56 ++ entry 5 36 56 ++ le 4 2 ++ zeros 32) All ≡ 4
unfolding number_at numbers_at array_at le name_at shape_of entries_from only_chosen sizes_before
twice_counted = refl

sixteen_entries-ranges : range_count sixteen_entries_file All ≡ 272
unfolding number_at numbers_at array_at le name_at shape_of entries_from only_chosen sizes_before
sixteen_entries-ranges = refl

sixteen_entries-opens : opening_fault sixteen_entries_file All ≡ None
unfolding number_at numbers_at array_at le name_at shape_of entries_from only_chosen sizes_before
sixteen_entries-opens = refl

most_ranges-number : most_ranges ≡ 268435456
unfolding number_at numbers_at array_at le name_at shape_of entries_from only_chosen sizes_before
most_ranges-number = refl

most_ranges-taken : (F : List ℕ) → directory_refusal F ≡ None → range_count F All ≡ 268435456 → opening_fault F All ≡ None
most_ranges-taken F opens counted = rw (opens, counted) refl

most_ranges-passed : (F : List ℕ) → directory_refusal F ≡ None → range_count F All ≡ 268435457 → opening_fault F All ≡ Some (TooManyRanges 268435457)
most_ranges-passed F opens counted = rw (opens, counted) refl

-- 16384 entries that name one list of 16385 ranges: of the list itself its number of ranges alone is looked at
too_many-ranges : (F : List ℕ) (x : Numbered) → ranges_in F x.entry (kind_of x.entry.stream_type) ≡ 16385 → ranges_of_all F (replicate 16384 x) ≡ 268451840
too_many-ranges F x one = sum_by-replicate (λ (y : Numbered). ranges_in F y.entry (kind_of y.entry.stream_type)) 16384 x ∙ ap (λ n. 16384 * n) one

too_many-opens : (F : List ℕ) → directory_refusal F ≡ None → range_count F All ≡ 268451840 → opening_fault F All ≡ Some (TooManyRanges 268451840)
too_many-opens F opens counted = rw (opens, counted) refl

-- three unused entries and two ranges
four_entries-held : held_bound 176 16 4 (range_count four_entries_file All) ≡ 288
unfolding number_at numbers_at array_at le name_at shape_of entries_from only_chosen sizes_before
four_entries-held = refl

four_entries-listing : listing four_entries_file All 16 ≡ run (stream 0 0 0 0 ∷ stream 1 0 0 0 ∷ stream 2 0 0 0 ∷ stream 3 5 36 80 ∷ Range (record { entry = 3; index = 0; start = 0; size = 0; extent = Empty; offset = 0 }) ∷ Range (record { entry = 3; index = 1; start = 0; size = 0; extent = Empty; offset = 0 }) ∷ []) None
unfolding number_at numbers_at array_at le name_at shape_of entries_from only_chosen sizes_before
four_entries-listing = refl

four_entries-ranges : range_count four_entries_file All ≡ 2
unfolding number_at numbers_at array_at le name_at shape_of entries_from only_chosen sizes_before
four_entries-ranges = refl

-- ranges without bytes count, but none of them holds an address
four_entries-inside : ranges_of (listing four_entries_file All 16).items ≡ []
unfolding number_at numbers_at array_at le name_at shape_of entries_from only_chosen sizes_before
four_entries-inside = refl
