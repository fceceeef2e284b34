-- How much memory a listing may take, and when a file needs more.
use Rattle.std.specs.Prelude.{◌≡◌, ◌≤◌, ◌-◌, ◌*◌, ℕ, List, Option, Some, None, Bool, true, false, nat_le, if◌then◌else◌}
use Rattle.std.specs.Option.{option_map}
use Rattle.mdmp_source.specs.Source.{SourceState, FetchesAtMost}
use Rattle.mdmp_lister.specs.declared.choice.Choice.{Choice}
use Rattle.mdmp_lister.specs.declared.fault.OpenFault.{OpenFault}
use Rattle.mdmp_lister.specs.declared.fault.OpenFault.TheVariants.{Source, Budget, Memory, MemoryLimit}
use Rattle.mdmp_lister.specs.declared.limits.Limits.{Limits}
use Rattle.mdmp_lister.specs.Format.Bounds.{held_bound}
use Rattle.mdmp_lister.specs.Format.Listing.{entry_count}
use Rattle.mdmp_lister.specs.Format.Numbers.{range_count}
use Rattle.mdmp_lister.specs.Format.Refusal.{directory_refusal, most_ranges, range_fault}

-- so many bytes are no more than the most, if there is a most
abbrev pub is_within : Option ℕ → ℕ → Bool
is_within None bytes = true
is_within (Some most) bytes = nat_le bytes most

-- the fault of a file whose listing would hold so many bytes
abbrev pub memory_fault : Option ℕ → ℕ → Option OpenFault
memory_fault memory bytes = if is_within memory bytes then None else Some (MemoryLimit bytes)

-- the directory, the window and a name take more memory than there may be
abbrev pub unmapped_fault : Limits → List ℕ → Option OpenFault
unmapped_fault limits F = memory_fault limits.memory (held_bound limits.window limits.name (entry_count F) 0)

-- and with the map of the ranges
abbrev pub mapped_fault : Limits → List ℕ → Choice → Option OpenFault
mapped_fault limits F choice = memory_fault limits.memory (held_bound limits.window limits.name (entry_count F) (range_count F choice))

-- the first of two faults
abbrev pub earlier_fault : Option OpenFault → Option OpenFault → Option OpenFault
earlier_fault (Some fault) next = Some fault
earlier_fault None next = next

-- what keeps a walk over a file from being opened within limits: its header or directory, or the memory for them
abbrev pub walk_fault : Limits → List ℕ → Option OpenFault
walk_fault limits F = earlier_fault (directory_refusal F) (unmapped_fault limits F)

-- what keeps a lister of a file from being opened within limits, in the order in which it is tested
abbrev pub opening_fault_within : Limits → List ℕ → Choice → Option OpenFault
opening_fault_within limits F choice =
    earlier_fault (walk_fault limits F) (earlier_fault (range_fault F choice) (mapped_fault limits F choice))

-- these limits for a lister of a caller who holds so many bytes beside it
abbrev pub leaving : ℕ → Limits → Limits
leaving held limits = record limits { memory = option_map (λ most. most - held) limits.memory }

-- ---- what a refusal tells of a known file

-- a walk is refused for the file's first fault; it may also run out of memory behind those, or some bytes were not obtained
abbrev pub IsWalkRefusal : Limits → List ℕ → OpenFault → Type 0
IsWalkRefusal limits F (Source fault) = Unit {0}
IsWalkRefusal limits F (Budget offset size) = Unit {0}
IsWalkRefusal limits F Memory = walk_fault limits F ≡ None
IsWalkRefusal limits F fault = walk_fault limits F ≡ Some fault

-- the same of a lister
abbrev pub IsRefusalWithin : Limits → List ℕ → Choice → OpenFault → Type 0
IsRefusalWithin limits F choice (Source fault) = Unit {0}
IsRefusalWithin limits F choice (Budget offset size) = Unit {0}
IsRefusalWithin limits F choice Memory = walk_fault limits F ≡ None
IsRefusalWithin limits F choice fault = opening_fault_within limits F choice ≡ Some fault

-- ---- and of any

-- the lists of a listing with room for so many ranges would take these bytes, which are more than there may be; its directory
-- fits in the file. If those without the ranges would be too many, no more than the header was fetched.
pub record IsOverMemory (limits : Limits) (ranges : ℕ) (old : SourceState) (held : ℕ) (new : SourceState) : Type 0 where
  pub over : is_within limits.memory held ≡ false
  pub entries : ℕ
  pub held_is : held ≡ held_bound limits.window limits.name entries ranges
  pub inside : 12 * entries ≤ old.size
  pub early : is_within limits.memory (held_bound limits.window limits.name entries 0) ≡ false → FetchesAtMost 32 old new

-- a walk that is refused for its limit of memory would hold too much
abbrev pub TellsWalkMemory : Limits → SourceState → OpenFault → SourceState → Type 0
TellsWalkMemory limits old (MemoryLimit held) new = IsOverMemory limits 0 old held new
TellsWalkMemory limits old fault new = Unit {0}

-- and so would a lister, with ranges or without
abbrev pub TellsMemory : Limits → SourceState → OpenFault → SourceState → Type 0
TellsMemory limits old (MemoryLimit held) new = (ranges : ℕ) × (ranges ≤ most_ranges × IsOverMemory limits ranges old held new)
TellsMemory limits old fault new = Unit {0}
