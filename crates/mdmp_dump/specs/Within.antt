-- Whether a dump is within limits: on each name, on the bytes of its parts together, and on its ranges of memory.
use Rattle.std.specs.Prelude.{◌≤◌, ◌+◌, ◌*◌, ℕ, List, length, Option, All, IfSome, sum_by}
use Rattle.mdmp_lister.specs.Format.Refusal.{most_ranges}
use Rattle.mdmp_dump.specs.declared.dump.Stream.{Stream}
use Rattle.mdmp_dump.specs.declared.dump.Stream.TheVariants as streams
use Rattle.mdmp_dump.specs.declared.dump.Dump.{Dump}
use Rattle.mdmp_dump.specs.declared.part.Part.{Part}
use Rattle.mdmp_dump.specs.declared.part.Part.TheVariants as parts

-- the name, or none, has at most so many bytes, two for each unit
abbrev pub IsNameWithin : ℕ → Option (List ℕ) → Type 0
IsNameWithin limit name = IfSome name (λ units. 2 * length units ≤ limit)

module _ {Z : Type 0} where
  -- each name of the stream's records has at most so many bytes
  abbrev pub NamesWithin : ℕ → Stream Z → Type 0
  NamesWithin limit (streams.Modules xs) = All (λ x. IsNameWithin limit x.name) xs
  NamesWithin limit (streams.System x) = IsNameWithin limit x.name
  NamesWithin limit (streams.Unloaded xs) = All (λ x. IsNameWithin limit x.name) xs
  NamesWithin limit (streams.ThreadNames xs) = All (λ x. IsNameWithin limit x.name) xs
  NamesWithin limit s = Unit {0}

  -- how many bytes there are of a part: none of an absent one, whatever its size
  abbrev pub part_size : Part Z → ℕ
  part_size (parts.Bytes bytes) = length bytes
  part_size (parts.Absent size) = 0

  -- how many bytes the parts of the stream's records have together, or the stream itself, where it is raw
  abbrev pub part_bytes : Stream Z → ℕ
  part_bytes (streams.Threads xs) = sum_by (λ x. part_size x.stack + part_size x.context) xs
  part_bytes (streams.Modules xs) = sum_by (λ x. part_size x.codeview + part_size x.misc) xs
  part_bytes (streams.Memory xs) = sum_by (λ x. part_size x.bytes) xs
  part_bytes (streams.Exception x) = part_size x.context
  part_bytes (streams.Memory64 xs) = sum_by (λ x. length x.bytes) xs
  part_bytes (streams.Raw t bytes) = length bytes
  part_bytes s = 0

  -- how many ranges of memory the stream lists
  abbrev pub memory_ranges : Stream Z → ℕ
  memory_ranges (streams.Memory xs) = length xs
  memory_ranges (streams.Memory64 xs) = length xs
  memory_ranges s = 0

  -- each name of the dump has at most name_limit bytes, its parts and raw streams have at most part_limit together, and
  -- its memory lists have no more ranges together than a lister takes. What stands twice counts twice
  pub record IsWithinLimits (name_limit part_limit : ℕ) (d : Dump Z) : Type 0 where
    pub names : All (NamesWithin name_limit) d.streams
    pub parts : sum_by part_bytes d.streams ≤ part_limit
    pub ranges : sum_by memory_ranges d.streams ≤ most_ranges
