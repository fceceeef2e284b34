-- Whether what a listing would hold is within the limit of memory.
use Rattle.std.proofs.Common.{◌≡◌, ◌≤◌, ◌<◌, ◌∙◌, ap, arith, sym, ℕ, List, Option, Some, None, Err}
use Rattle.std.specs.Prelude.{Bool, if◌then◌else◌, nat_lt, true, false}
use Rattle.std.proofs.lemmas.Bool.{le-ltb, lt-ltb}
use Rattle.mdmp_source.specs.Source.{SourceState}
use Rattle.mdmp_wire.specs.declared.header.Header.{Header}
use Rattle.mdmp_wire.specs.Header.{header_at}
use Rattle.mdmp_lister.specs.declared.choice.Choice.{Choice}
use Rattle.mdmp_lister.specs.declared.fault.FetchFault.{FetchFault}
use Rattle.mdmp_lister.specs.declared.fault.FetchFault.TheVariants as fetch
use Rattle.mdmp_lister.specs.declared.fault.OpenFault.{OpenFault}
use Rattle.mdmp_lister.specs.declared.fault.OpenFault.TheVariants.{TooManyRanges, Source, Budget, Memory, MemoryLimit}
use Rattle.mdmp_lister.specs.declared.limits.Limits.{Limits}
use Rattle.mdmp_lister.specs.Format.Bounds.{held_bound}
use Rattle.mdmp_lister.specs.Format.Numbers.{range_count}
use Rattle.mdmp_lister.specs.Format.Refusal.{directory_refusal, most_ranges, range_fault}
use Rattle.mdmp_lister.specs.Memory.{IsRefusalWithin, IsWalkRefusal, TellsMemory, TellsWalkMemory, earlier_fault, is_within, mapped_fault, memory_fault, opening_fault_within, unmapped_fault, walk_fault}
use Rattle.mdmp_lister.specs.Opening.{Finds, IsBareRefusal, IsHeaderRefusal, refusal_of_fetch}
use Rattle.mdmp_lister.proofs.Refusals.{directory_refusal-other}

-- ---- a walk

module _ (limits : Limits) (F : List ℕ) (h : Header) (opens : directory_refusal F ≡ None) (is : h ≡ header_at F 0) where
  walk_by_header : walk_fault limits F ≡ memory_fault limits.memory (held_bound limits.window limits.name h.number_of_streams 0)
  walk_by_header =
      ap (λ own. earlier_fault own (unmapped_fault limits F)) opens
      ∙ ap (λ (x : Header). memory_fault limits.memory (held_bound limits.window limits.name x.number_of_streams 0)) (sym is)

  -- the header of a file says whether a walk may be opened
  pub walk_within : is_within limits.memory (held_bound limits.window limits.name h.number_of_streams 0) ≡ true → walk_fault limits F ≡ None
  walk_within within = walk_by_header ∙ ap (λ b. if b then None else Some (MemoryLimit (held_bound limits.window limits.name h.number_of_streams 0))) within

  pub walk_over : (held : ℕ) → held ≡ held_bound limits.window limits.name h.number_of_streams 0 → is_within limits.memory held ≡ false → walk_fault limits F ≡ Some (MemoryLimit held)
  walk_over held same over =
      walk_by_header ∙ ap (λ n. memory_fault limits.memory n) (sym same) ∙ ap (λ b. if b then None else Some (MemoryLimit held)) over

-- a fault of the header comes first
pub walk_refusal-header : (limits : Limits) (F : List ℕ) (fault : OpenFault) → Finds F (Err fault) → IsWalkRefusal limits F fault
walk_refusal-header limits F (Source fault) finds = tt
walk_refusal-header limits F (Budget offset size) finds = tt
walk_refusal-header limits F Memory finds = absurd (directory_refusal-other F Memory (λ of. of) finds)
walk_refusal-header limits F _ finds = ap (λ own. earlier_fault own (unmapped_fault limits F)) finds

-- and it tells nothing of memory
pub walk_tells-header : (limits : Limits) (size : ℕ) (old new : SourceState) (fault : OpenFault) → IsHeaderRefusal size fault → TellsWalkMemory limits old fault new
walk_tells-header limits size old new (MemoryLimit held) of = absurd of
walk_tells-header limits size old new _ of = tt

-- nor do bytes that were not obtained
pub walk_refusal-fetch : (limits : Limits) (F : List ℕ) (fault : FetchFault) → IsWalkRefusal limits F (refusal_of_fetch fault)
walk_refusal-fetch limits F (fetch.Source fault) = tt
walk_refusal-fetch limits F (fetch.Budget offset size) = tt

pub walk_tells-fetch : (limits : Limits) (old new : SourceState) (fault : FetchFault) → TellsWalkMemory limits old (refusal_of_fetch fault) new
walk_tells-fetch limits old new (fetch.Source fault) = tt
walk_tells-fetch limits old new (fetch.Budget offset size) = tt

-- ---- a lister

-- a walk that is refused for its memory is a lister that is, without ranges
pub tells_memory-walk : (limits : Limits) (old new : SourceState) (fault : OpenFault) → TellsWalkMemory limits old fault new → TellsMemory limits old fault new
tells_memory-walk limits old new (MemoryLimit held) of = (0, (omega arith, of))
tells_memory-walk limits old new _ of = tt

-- a fault that a walk is refused with, but of ranges, is a lister's
pub refusal_within-walk : (limits : Limits) (F : List ℕ) (choice : Choice) (size : ℕ) (fault : OpenFault) → IsBareRefusal size fault → IsWalkRefusal limits F fault → IsRefusalWithin limits F choice fault
refusal_within-walk limits F choice size (Source fault) bare of = tt
refusal_within-walk limits F choice size (Budget offset len) bare of = tt
refusal_within-walk limits F choice size Memory bare of = of
refusal_within-walk limits F choice size _ bare of = ap (λ own. earlier_fault own (earlier_fault (range_fault F choice) (mapped_fault limits F choice))) of

pub refusal_within-fetch : (limits : Limits) (F : List ℕ) (choice : Choice) (fault : FetchFault) → IsRefusalWithin limits F choice (refusal_of_fetch fault)
refusal_within-fetch limits F choice (fetch.Source fault) = tt
refusal_within-fetch limits F choice (fetch.Budget offset size) = tt

pub tells_memory-fetch : (limits : Limits) (old new : SourceState) (fault : FetchFault) → TellsMemory limits old (refusal_of_fetch fault) new
tells_memory-fetch limits old new (fetch.Source fault) = tt
tells_memory-fetch limits old new (fetch.Budget offset size) = tt

module _ (limits : Limits) (F : List ℕ) (choice : Choice) (h : Header) (count : ℕ) (walks : walk_fault limits F ≡ None) (is : h ≡ header_at F 0) (counted : count ≡ range_count F choice) where
  -- the faults behind those of the walk
  abbrev behind_walk : ℕ → Option OpenFault
  behind_walk ranges = earlier_fault (if nat_lt most_ranges ranges then Some (TooManyRanges ranges) else None) (memory_fault limits.memory (held_bound limits.window limits.name h.number_of_streams ranges))

  within_by_count : opening_fault_within limits F choice ≡ behind_walk count
  within_by_count =
      ap (λ own. earlier_fault own (earlier_fault (range_fault F choice) (mapped_fault limits F choice))) walks
      ∙ ap (λ (x : Header). earlier_fault (range_fault F choice) (memory_fault limits.memory (held_bound limits.window limits.name x.number_of_streams (range_count F choice)))) (sym is)
      ∙ ap behind_walk (sym counted)

  abbrev behind_few : Bool → Bool → Option OpenFault
  behind_few many fits = earlier_fault (if many then Some (TooManyRanges count) else None) (if fits then None else Some (MemoryLimit (held_bound limits.window limits.name h.number_of_streams count)))

  pub lister_many : most_ranges < count → opening_fault_within limits F choice ≡ Some (TooManyRanges count)
  lister_many many = within_by_count ∙ ap (λ b. behind_few b (is_within limits.memory (held_bound limits.window limits.name h.number_of_streams count))) (lt-ltb most_ranges count many)

  pub lister_over : (held : ℕ) → count ≤ most_ranges → held ≡ held_bound limits.window limits.name h.number_of_streams count → is_within limits.memory held ≡ false
      → opening_fault_within limits F choice ≡ Some (MemoryLimit held)
  lister_over held few same over =
      within_by_count ∙ ap (λ b. behind_few b (is_within limits.memory (held_bound limits.window limits.name h.number_of_streams count))) (le-ltb most_ranges count few)
      ∙ ap (λ n. memory_fault limits.memory n) (sym same) ∙ ap (λ b. if b then None else Some (MemoryLimit held)) over

  pub lister_within : count ≤ most_ranges → is_within limits.memory (held_bound limits.window limits.name h.number_of_streams count) ≡ true → opening_fault_within limits F choice ≡ None
  lister_within few within =
      within_by_count ∙ ap (λ b. behind_few b (is_within limits.memory (held_bound limits.window limits.name h.number_of_streams count))) (le-ltb most_ranges count few)
      ∙ ap (λ b. behind_few false b) within
