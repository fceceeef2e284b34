-- Worked files, the dumps and streams that they lay out, and what those are within.
use Rattle.std.proofs.Common.{◌≡◌, ◌<◌, zero, suc, slice_index_or, List, [], ◌∷◌, ◌++◌, Some, refl, arith, ℕ}
use Rattle.std.specs.Prelude.{codes}
use Rattle.mdmp_wire.specs.Number.{number_at, numbers_at, array_at, le}
use Rattle.mdmp_lister.specs.declared.choice.Choice.TheVariants.{All}
use Rattle.mdmp_lister.specs.Format.Name.{name_at}
use Rattle.mdmp_lister.specs.Format.Shape.{shape_of}
use Rattle.mdmp_lister.specs.Format.Item.{sizes_before}
use Rattle.mdmp_lister.specs.Format.Listing.{chosen, entries_from, only_chosen}
use Rattle.mdmp_lister.proofs.Files.{absent_stack_file, crash_file, memory64_file, named_file, opaque_file, unused_file}
use Rattle.mdmp_dump.specs.declared.dump.Stream.{Stream}
use Rattle.mdmp_dump.specs.declared.dump.Stream.TheVariants as streams
use Rattle.mdmp_dump.specs.declared.dump.Dump.{Dump}
use Rattle.mdmp_dump.specs.LaysOut.{AreStreams, LaysOut}
use Rattle.mdmp_dump.proofs.WorkedDumps as worked
use Rattle.mdmp_dump.specs.Within.{IsNameWithin, IsWithinLimits, NamesWithin, memory_ranges, part_bytes}

module _ (Z : Type 0) where
  -- the streams of all entries
  abbrev AreAll : List ℕ → List (Stream Z) → Type 0
  AreAll F ss = AreStreams F (chosen F All) ss

  abbrev crash_dump : Dump Z
  crash_dump = worked.crash_dump

  crash-laid_out : LaysOut crash_file All crash_dump
  unfolding number_at numbers_at array_at le name_at shape_of entries_from only_chosen sizes_before
  crash-laid_out = record {
    header = record { room = omega arith; signature = refl; version = refl; fields = refl };
    version_high = refl;
    checksum = refl;
    time = refl;
    flags = refl;
    directory = refl;
    streams = (
      record { type_is = refl; stands = record { inside = refl; shape = _; shaped = refl; count = refl; each = (record { fields = refl; stack = refl; context = refl }, tt) } },
      (record { type_is = refl; stands = record { inside = refl; shape = _; shaped = refl; count = refl; each = (record { fields = refl; context = refl }, tt) } }, tt),
    );
  }

  abbrev absent_stack : Stream Z
  absent_stack = worked.absent_stack

  absent_stack-laid_out : AreAll absent_stack_file (absent_stack ∷ [])
  unfolding number_at numbers_at array_at le name_at shape_of entries_from only_chosen sizes_before
  absent_stack-laid_out = (record { type_is = refl; stands = record { inside = refl; shape = _; shaped = refl; count = refl; each = (record { fields = refl; stack = refl; context = refl }, tt) } }, tt)

  -- a stream of another type, as its bytes
  abbrev opaque : Stream Z
  opaque = streams.Raw 10 (1 ∷ 2 ∷ 3 ∷ 4 ∷ 5 ∷ [])

  opaque-laid_out : AreAll opaque_file (opaque ∷ [])
  unfolding number_at numbers_at array_at le name_at shape_of entries_from only_chosen sizes_before
  opaque-laid_out = (record { type_is = refl; stands = record { used = refl; opaque = refl; inside = refl; bytes_are = refl } }, tt)

  -- an entry that names nothing
  unused-laid_out : AreAll unused_file (streams.Unused ∷ [])
  unfolding number_at numbers_at array_at le name_at shape_of entries_from only_chosen sizes_before
  unused-laid_out = (record { type_is = refl; stands = tt }, tt)

  -- an unloaded module with a name of two units
  name-laid_out : AreAll (named_file 80 (le 4 4 ++ codes "a\0b\0"))
      (streams.Unloaded (record { base_of_image = 0; size_of_image = 0; checksum = 0; time_date_stamp = 0; name = Some (codes "ab") } ∷ []) ∷ [])
  unfolding number_at numbers_at array_at le name_at shape_of entries_from only_chosen sizes_before
  name-laid_out = (record { type_is = refl; stands = record { inside = refl; shape = _; shaped = refl; count = refl; each = (record { fields = refl; name = refl }, tt) } }, tt)

  -- two ranges, the bytes of the second behind those of the first
  abbrev ranges64 : Stream Z
  ranges64 = streams.Memory64 (record { start = 0x1000; bytes = codes "ABCD" } ∷ record { start = 0x2000; bytes = codes "EFGH" } ∷ [])

  ranges64-laid_out : AreAll (memory64_file ++ codes "GH") (ranges64 ∷ [])
  unfolding number_at numbers_at array_at le name_at shape_of entries_from only_chosen sizes_before
  ranges64-laid_out = (record { type_is = refl; stands = record { inside = refl; shape = _; shaped = refl; count = refl; each = (record { fields = refl; inside = refl; bytes = refl }, (record { fields = refl; inside = refl; bytes = refl }, tt)) } }, tt)

  -- ---- limits

  -- three parts of 14 bytes together, and neither names nor ranges
  crash-within : IsWithinLimits 0 14 crash_dump
  crash-within = record { names = unnamed; parts = omega arith; ranges = omega arith } where
    unnamed : (k : ℕ) (d : Stream Z) → k < 2 → NamesWithin 0 (slice_index_or crash_dump.streams k d)
    unnamed zero d lt = tt
    unnamed (suc zero) d lt = tt
    unnamed (suc (suc k)) d lt = absurd (omega (arith, lt))

  crash-over : IsWithinLimits 0 13 crash_dump → ⊥
  crash-over within = absurd (omega (arith, within.parts))

  -- of the absent stack there are no bytes, of the context there is one
  absent_stack-bytes : part_bytes absent_stack ≡ 1
  absent_stack-bytes = refl

  opaque-bytes : part_bytes opaque ≡ 5
  opaque-bytes = refl

  ranges64-bytes : part_bytes ranges64 ≡ 8
  ranges64-bytes = refl

  ranges64-count : memory_ranges ranges64 ≡ 2
  ranges64-count = refl

-- a name of two units has four bytes
name-within : IsNameWithin 4 (Some (codes "ab"))
name-within = omega arith

name-over : IsNameWithin 3 (Some (codes "ab")) → ⊥
name-over within = absurd (omega (arith, within))
