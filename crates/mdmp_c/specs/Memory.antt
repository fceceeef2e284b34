-- Ranges of memory that a caller keeps.
use Rattle.std.specs.Prelude.{◌≡◌, ◌+◌, ◌==◌, ◌&&◌, ℕ, Bool, List, length, Option, Some, None, filter_map, nat_le, nat_lt, if◌then◌else◌}
use Rattle.mdmp_c.specs.declared.fault.PlainFault.{PlainFault}
use Rattle.mdmp_c.specs.declared.limits.PlainLimits.{PlainLimits}
use Rattle.mdmp_c.specs.Fault.{list_told, no_fault, no_memory, of_kind, told_unless}
use Rattle.mdmp_c.specs.Giving.{bad_limits}
use Rattle.mdmp_c.specs.Limits.{AreLimits, EndsListing, KeepsListing}
use Rattle.mdmp_lister.specs.Addressing.{ReadsCells}
use Rattle.mdmp_lister.specs.Format.Listing.{listing, memory_lists}
use Rattle.mdmp_lister.specs.Format.Ranges.{ranges_of}
use Rattle.mdmp_lister.specs.Format.Refusal.{opening_fault}
use Rattle.mdmp_map.specs.declared.range.Range.{Range}
use Rattle.mdmp_c.specs.declared.rows.RangeRow.{RangeRow}

-- the bytes of a range lie inside a file of z bytes, as it says
abbrev pub is_kept : ℕ → RangeRow → Bool
is_kept z r = r.extent == 2 && r.offset_high == 0 && nat_lt 0 r.size && nat_le (r.offset + r.size) z

abbrev pub kept_range : ℕ → RangeRow → Option Range
kept_range z r = if is_kept z r then Some (record { start = r.start; length = r.size; offset = r.offset }) else None

-- those of some ranges whose bytes do, in order
abbrev pub kept_ranges : ℕ → List RangeRow → List Range
kept_ranges z rs = filter_map (kept_range z) rs

-- nothing was put into either buffer, for this reason
pub record GivesNoBytes (status told : ℕ) (reason fault : PlainFault) (out_before out_after : List ℕ) (known_before known_after : List Bool) : Type 0 where
  pub status_is : status ≡ told
  pub fault_is : fault ≡ reason
  pub out : out_after ≡ out_before
  pub known : known_after ≡ known_before

-- the cells at an address were given, by these ranges of F
pub record GivesCells (F : List ℕ) (ranges : List Range) (address status : ℕ) (fault : PlainFault) (out : List ℕ) (known : List Bool) : Type 0 where
  pub status_is : status ≡ 0
  pub fault_is : fault ≡ no_fault
  pub cells : ReadsCells (Some F) ranges address out known

abbrev pub lengths_differ : PlainFault
lengths_differ = of_kind 70

-- memory of F by ranges that the caller kept
pub data ReadsKept (F : List ℕ) (ranges : List RangeRow) (address status : ℕ) (fault : PlainFault) (out_before out_after : List ℕ) (known_before known_after : List Bool) : Type 0 where
  reads : length out_before ≡ length known_before → GivesCells F (kept_ranges (length F) ranges) address status fault out_after known_after
      → ReadsKept F ranges address status fault out_before out_after known_before known_after
  differ : (length out_before ≡ length known_before → ⊥) → GivesNoBytes status 2 lengths_differ fault out_before out_after known_before known_after
      → ReadsKept F ranges address status fault out_before out_after known_before known_after

-- why F can't be opened, or the first fault of its memory lists
abbrev pub memory_told : List ℕ → ℕ → PlainFault
memory_told F limit = told_unless (opening_fault F memory_lists) (list_told (listing F memory_lists limit).fault)

-- memory of F by all ranges of its memory lists, none of which has a fault; or nothing, where they have one, memory was wanting
-- or a limit was reached before they were read
pub data ReadsMemory (F : List ℕ) (limits : PlainLimits) (address status : ℕ) (fault : PlainFault) (out_before out_after : List ℕ) (known_before known_after : List Bool) : Type 0 where
  reads : AreLimits limits → KeepsListing limits F memory_lists → length out_before ≡ length known_before → memory_told F limits.name ≡ no_fault
      → GivesCells F (ranges_of (listing F memory_lists limits.name).items) address status fault out_after known_after
      → ReadsMemory F limits address status fault out_before out_after known_before known_after
  faulty : AreLimits limits → KeepsListing limits F memory_lists → length out_before ≡ length known_before → (memory_told F limits.name ≡ no_fault → ⊥) → GivesNoBytes status 1 (memory_told F limits.name) fault out_before out_after known_before known_after
      → ReadsMemory F limits address status fault out_before out_after known_before known_after
  wants : AreLimits limits → length out_before ≡ length known_before → GivesNoBytes status 3 no_memory fault out_before out_after known_before known_after
      → ReadsMemory F limits address status fault out_before out_after known_before known_after
  stops : AreLimits limits → (told : PlainFault) → EndsListing limits F memory_lists told → length out_before ≡ length known_before
      → GivesNoBytes status 5 told fault out_before out_after known_before known_after
      → ReadsMemory F limits address status fault out_before out_after known_before known_after
  differ : (length out_before ≡ length known_before → ⊥) → GivesNoBytes status 2 lengths_differ fault out_before out_after known_before known_after
      → ReadsMemory F limits address status fault out_before out_after known_before known_after
  refuses : (AreLimits limits → ⊥) → length out_before ≡ length known_before → GivesNoBytes status 2 bad_limits fault out_before out_after known_before known_after
      → ReadsMemory F limits address status fault out_before out_after known_before known_after
