-- A view of a file as those see it who open it.
use Rattle.std.specs.Prelude.{◌≡◌, ◌≤◌, ◌+◌, ◌*◌, ◌/◌, ℕ, IsTrue, List, Option, None, Some, false, true, length, map, sum, vec_capacity}
use Rattle.mdmp_source.specs.Count.{raised}
use Rattle.mdmp_source.specs.Source.{SourceState, FetchesSome}
use Rattle.mdmp_source.specs.declared.store.Store.{Ghosts}
use Rattle.mdmp_lister.specs.declared.choice.Choice.{Choice}
use Rattle.mdmp_lister.specs.declared.fault.OpenFault.{OpenFault}
use Rattle.mdmp_lister.specs.declared.fault.OpenFault.TheVariants as opening
use Rattle.mdmp_lister.specs.declared.limits.Limits.{Limits}
use Rattle.mdmp_lister.specs.Format.Listing.{Numbered, chosen, entry_count}
use Rattle.mdmp_lister.specs.Format.Refusal.{directory_refusal}
use Rattle.mdmp_lister.specs.Memory.{is_within}
use Rattle.mdmp_lister.specs.Meter.{KeepsTo, is_passed}
use Rattle.mdmp_lister.specs.NextFetch.{IsDirectoryFetch}
use Rattle.mdmp_wire.specs.Header.{header_at}
use Rattle.mdmp_dump.specs.declared.file_view.FileView.{FileView}
use Rattle.mdmp_dump.specs.declared.fault.ReadFault.{ReadFault}
use Rattle.mdmp_dump.specs.declared.fault.ReadFault.TheVariants as faults
use Rattle.mdmp_dump.specs.FileView.{AreCounted, AreInside, IsFirstOver, IsShortAt, asks_in, costs_in, inside_cost_in, opening_cost, pass_cost_in}

-- ---- what a known file costs

-- what opening a view of F may fetch: the header, the directory, and one pass over each chosen stream
abbrev pub opening_bound : List ℕ → Choice → ℕ
opening_bound F choice = 32 + 12 * entry_count F + sum (map (pass_cost_in F) (chosen F choice))

-- the same where a stream that lies outside a file of z bytes costs nothing
abbrev pub listed_bound : ℕ → List ℕ → Choice → ℕ
listed_bound z F choice = 32 + 12 * entry_count F + sum (map (inside_cost_in z F) (chosen F choice))

-- what a copy of the chosen streams of F may fetch: it opens a view, passes over each stream twice more, and asks for the
-- bytes of all names, parts and streams whose records are not known
abbrev pub copy_bound : (Z : Type 0) → List ℕ → Choice → ℕ
copy_bound Z F choice = opening_bound F choice + 2 * sum (map (pass_cost_in F) (chosen F choice)) + asks_in Z F (chosen F choice)

-- ---- limits

-- half of a limit
abbrev pub half_of : Option ℕ → Option ℕ
half_of None = None
half_of (Some most) = Some (most / 2)

-- the limits of the walk under a view: it reads no names, and a copy holds twice what it does
pub record IsNameless (limits nameless : Limits) : Type 0 where
  pub window : nameless.window ≡ limits.window
  pub name : nameless.name ≡ 0
  pub budget : nameless.budget ≡ limits.budget
  pub memory : nameless.memory ≡ half_of limits.memory

-- why a file gives no view, by why it can't be listed: of memory it is told what a copy would hold
abbrev pub copy_fault : OpenFault → OpenFault
copy_fault (opening.MemoryLimit held) = opening.MemoryLimit (raised held held)
copy_fault fault = fault

-- at most so many bytes were fetched as a budget has
abbrev pub FetchesWithin : Option ℕ → SourceState → SourceState → Type 0
FetchesWithin budget old new = (most : ℕ) → budget ≡ Some most → new.fetched ≤ old.fetched + most

-- what a copy holds of a file with so many entries: two windows, and 24 bytes for each
abbrev pub copy_held : ℕ → ℕ → ℕ
copy_held window entries = 2 * window + 24 * entries

-- a copy of a known file would hold no more than the limit of memory
abbrev pub HoldsWithin : Limits → Option (List ℕ) → Type 0
HoldsWithin limits content = (file : List ℕ) → content ≡ Some file → is_within limits.memory (copy_held limits.window (entry_count file)) ≡ true

-- the limit of memory is reported only if a copy would hold more. If the content is known, the header and the place of the directory
-- are good, and the error says how much. Out of memory, or an error after the directory, is reported only of a file within the limit.
abbrev pub IsLimited : Limits → Option (List ℕ) → ReadFault → Type 0
IsLimited limits content (faults.Opening (opening.MemoryLimit held)) =
    (is_within limits.memory held ≡ false) × ((file : List ℕ) → content ≡ Some file → (directory_refusal file ≡ None) × (held ≡ copy_held limits.window (entry_count file)))
IsLimited limits content (faults.Opening opening.Memory) = HoldsWithin limits content
IsLimited limits content (faults.Opening fault) = Unit {0}
IsLimited limits content fault = HoldsWithin limits content

-- where a budget ends the opening of a view of F: at the header; at the directory, of which the window takes so much next; or at the
-- first stream that the budget has no room for
pub data EndsOpening (budget : Option ℕ) (window : ℕ) (F : List ℕ) (choice : Choice) (offset size : ℕ) : Type 0 where
  at_header : offset ≡ 0 → size ≡ 32 → IsTrue (is_passed budget 32) → EndsOpening budget window F choice offset size
  at_directory : directory_refusal F ≡ None → (fetched : ℕ) → IsDirectoryFetch window (header_at F 0) fetched offset size → KeepsTo budget fetched
      → IsTrue (is_passed budget (raised fetched size)) → EndsOpening budget window F choice offset size
  at_stream : directory_refusal F ≡ None → IsFirstOver budget F (entry_count F) (chosen F choice) offset size → EndsOpening budget window F choice offset size

abbrev pub TellsOpeningEnd : Option ℕ → (window : ℕ) → List ℕ → Choice → ReadFault → Type 0
TellsOpeningEnd budget window F choice (faults.Opening (opening.Budget offset size)) = EndsOpening budget window F choice offset size
TellsOpeningEnd budget window F choice fault = Unit {0}

-- where a budget ends the opening of a view, it has less room than the opening may fetch; of the directory that is known with
-- 16 bytes more for each entry. And it is told what it has no room for.
pub record IsShortOf (budget : Option ℕ) (window : ℕ) (F : List ℕ) (choice : Choice) (fault : ReadFault) : Type 0 where
  pub short : IsShortAt budget (opening_bound F choice + 16 * entry_count F) fault
  pub place : TellsOpeningEnd budget window F choice fault

-- ---- what a file costs that gives no view

-- the header was fetched, so many entries of the directory, and, of those that are chosen, a pass over each stream up to the
-- one that is refused: so many records of each were reached
pub record HasSpentOpening (choice : Choice) (old new : SourceState) : Type 0 where
  pub entries : ℕ
  pub chosen_are : List Numbered
  pub reached : List ℕ
  pub few : length chosen_are ≤ entries
  pub fetched : new.fetched ≤ old.fetched + (32 + 12 * entries + sum (costs_in chosen_are reached))
  -- of a known file that is no more than what opening it may fetch
  pub of_file : (file : List ℕ) → old.store.content ≡ Some file → 32 + 12 * entries + sum (costs_in chosen_are reached) ≤ opening_bound file choice
  -- no stream that was reached lies outside the file
  pub inside : AreInside old.size chosen_are reached
  -- so of a known file it is no more than what the streams cost that lie inside
  pub inside_costs : (file : List ℕ) → old.store.content ≡ Some file → 32 + 12 * entries + sum (costs_in chosen_are reached) ≤ listed_bound old.size file choice

-- ---- what is seen of a view

module _ {S A : Type 0} {G : Ghosts S} where
  -- the source that it reads
  abbrev pub source_in : FileView S A G → SourceState
  source_in v = v.walk.source

  -- how many entries the directory has
  abbrev pub entries_in : FileView S A G → ℕ
  entries_in v = v.walk.header.number_of_streams

  -- the bytes that its lists take: those of the walk, and 12 for each entry
  abbrev pub held_by : FileView S A G → ℕ
  held_by v = v.walk.held + 12 * entries_in v

  -- the bytes that its opening may fetch: the header, the directory, and what one pass over each stream costs
  abbrev pub opened_by : FileView S A G → ℕ
  opened_by v = opening_cost v.walk v.counts.items

  -- the bytes that its walk counts as fetched, for the walk and aside
  abbrev pub fetched_by : FileView S A G → ℕ
  fetched_by v = raised v.walk.fetched v.walk.aside

  -- what a copy of all that it gives may fetch
  abbrev pub needed_by : FileView S A G → ℕ
  needed_by v = v.needed

  -- the bytes that were fetched since it was opened
  abbrev pub spent_by : FileView S A G → ℕ
  spent_by v = v.walk.fetched + v.walk.aside

  -- what its source's own count was when it was opened
  abbrev pub started_by : FileView S A G → ℕ
  started_by v = v.walk.start

  -- it was opened over a source through a window of so many bytes, for this choice of the entries, and nothing was asked of it yet
  pub record IsNewView (source : SourceState) (window : ℕ) (memory : Option ℕ) (choice : Choice) (v : FileView S A G) : Type 0 where
    pub choice_is : v.walk.choice ≡ choice
    -- of each stream it keeps as many records as what was read of its head counts, whatever the file holds
    pub counted : AreCounted source.size v.walk v.counts.items
    pub fetches : FetchesSome source (source_in v)
    pub start : started_by v ≡ source.fetched
    pub held : held_by v ≡ window + 24 * entries_in v
    -- its two lists have room for one number of 4 and one of 8 bytes for each entry, and no more
    pub lists : 4 * vec_capacity v.counts + 8 * vec_capacity v.rooms ≡ 12 * entries_in v
    -- it is these parts, and holds no other list
    pub whole : v ≡ record { walk = v.walk; limit = v.limit; counts = v.counts; rooms = v.rooms; pass = v.pass; passed = v.passed; asked = v.asked; last = v.last; needed = v.needed; sound = v.sound }
    -- a copy holds no more than the limit of memory, if there is one
    pub within : is_within memory (copy_held window (entries_in v)) ≡ true
    -- it needs no less than three passes over each stream cost
    pub needed : opened_by v + 2 * sum (costs_in v.walk.chosen v.counts.items) ≤ needed_by v
    pub passed : v.passed ≡ 0
    pub asked : v.asked ≡ 0
    pub last : v.last ≡ None
