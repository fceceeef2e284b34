-- What an opening asks its allocator for.
use Rattle.std.specs.Prelude.{◌≡◌, ◌≤◌, ◌⊎◌, ℕ, List, Option, None, Some, true}
use Rattle.mdmp_source.specs.Source.{FetchesAtMost, SourceState}
use Rattle.mdmp_lister.specs.declared.choice.Choice.{Choice}
use Rattle.mdmp_lister.specs.declared.fault.OpenFault.{OpenFault}
use Rattle.mdmp_lister.specs.declared.fault.OpenFault.TheVariants.{Memory}
use Rattle.mdmp_lister.specs.declared.limits.Limits.{Limits}
use Rattle.mdmp_lister.specs.Format.Bounds.{held_bound}
use Rattle.mdmp_lister.specs.Format.Listing.{entry_count}
use Rattle.mdmp_lister.specs.Format.Numbers.{range_count}
use Rattle.mdmp_lister.specs.Format.Refusal.{most_ranges}
use Rattle.mdmp_lister.specs.Memory.{is_within, opening_fault_within}

-- what is asked for: the directory of a file with so many entries, with the window and a name, or behind it the map of so many
-- ranges
pub data AskedRoom : Type 0 where
  ForWalk : (entries : ℕ) → AskedRoom
  ForMap : (entries ranges : ℕ) → AskedRoom

-- the limits were judged, and allow it
abbrev pub IsAllowed : Limits → AskedRoom → Type 0
IsAllowed limits (ForWalk entries) = is_within limits.memory (held_bound limits.window limits.name entries 0) ≡ true
IsAllowed limits (ForMap entries ranges) = (ranges ≤ most_ranges) × (is_within limits.memory (held_bound limits.window limits.name entries ranges) ≡ true)

-- it is asked for the listing of F
abbrev pub IsAskedOf : List ℕ → Choice → AskedRoom → Type 0
IsAskedOf F choice (ForWalk entries) = entries ≡ entry_count F
IsAskedOf F choice (ForMap entries ranges) = (entries ≡ entry_count F) × (ranges ≡ range_count F choice)

-- memory ran out for lists that the limits allow. If the content is known, they are that file's lists, and either the header was read
-- at most, or the file can be opened within the limits
pub record IsOutOfMemory (limits : Limits) (choice : Choice) (old new : SourceState) : Type 0 where
  pub asked : AskedRoom
  pub allowed : IsAllowed limits asked
  pub of_file : (file : List ℕ) → old.store.content ≡ Some file → IsAskedOf file choice asked
  pub stage : FetchesAtMost 32 old new ⊎ ((file : List ℕ) → old.store.content ≡ Some file → opening_fault_within limits file choice ≡ None)

module _ {A : Type 0} where
  -- the allocator refused what was asked for within the limits
  pub record IsLacking (may_lack : A → Limits → AskedRoom → Type 0) (alloc : A) (limits : Limits) (choice : Choice) (content : Option (List ℕ)) (asked : AskedRoom) : Type 0 where
    pub allowed : IsAllowed limits asked
    pub of_file : (file : List ℕ) → content ≡ Some file → IsAskedOf file choice asked
    pub refused : may_lack alloc limits asked

  -- a walk tells want of memory only if the allocator refused its lists
  abbrev pub TellsListsLacking : (A → Limits → AskedRoom → Type 0) → A → Limits → Choice → Option (List ℕ) → OpenFault → Type 0
  TellsListsLacking may_lack alloc limits choice content Memory = (entries : ℕ) × IsLacking may_lack alloc limits choice content (ForWalk entries)
  TellsListsLacking may_lack alloc limits choice content fault = Unit {0}

  -- and a lister only if it refused those or the map
  abbrev pub TellsLacking : (A → Limits → AskedRoom → Type 0) → A → Limits → Choice → Option (List ℕ) → OpenFault → Type 0
  TellsLacking may_lack alloc limits choice content Memory = (asked : AskedRoom) × IsLacking may_lack alloc limits choice content asked
  TellsLacking may_lack alloc limits choice content fault = Unit {0}
