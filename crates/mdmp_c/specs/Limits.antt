-- Which limits are good, and when a call says that one was reached.
use Rattle.std.specs.Prelude.{◌≡◌, ◌≤◌, ◌<◌, ◌+◌, ◌==◌, ◌-◌, ◌^◌, ℕ, Bool, IfSome, List, length, max, Option, Some, None, true, if◌then◌else◌}
use Rattle.mdmp_source.specs.Count.{raised}
use Rattle.mdmp_source.specs.Range.{IsInside}
use Rattle.mdmp_wire.specs.declared.entry.Entry.{Entry}
use Rattle.mdmp_c.specs.declared.fault.PlainFault.{PlainFault}
use Rattle.mdmp_c.specs.Fault.{aside_fault, budget_fault, wide_fault}
use Rattle.mdmp_c.specs.declared.limits.PlainLimits.{PlainLimits}
use Rattle.mdmp_c.specs.NextRead.{IsNextRead}
use Rattle.mdmp_lister.specs.declared.choice.Choice.{Choice}
use Rattle.mdmp_lister.specs.declared.choice.Choice.TheVariants.{All}
use Rattle.mdmp_lister.specs.declared.fault.OpenFault.TheVariants.{MemoryLimit}
use Rattle.mdmp_lister.specs.declared.item.Item.{Item}
use Rattle.mdmp_lister.specs.declared.limits.Limits.{Limits}
use Rattle.mdmp_lister.specs.Check.{items_of, names_judged}
use Rattle.mdmp_lister.specs.Format.Bounds.{fetch_bound}
use Rattle.mdmp_lister.specs.Format.Directory.{IsDirectory}
use Rattle.mdmp_lister.specs.Format.Kind.{greatest_record}
use Rattle.mdmp_lister.specs.Format.Listing.{chosen, entry_count, listing, verdicts}
use Rattle.mdmp_lister.specs.Format.Numbers.{listed_bytes}
use Rattle.mdmp_lister.specs.Format.Refusal.{opening_fault}
use Rattle.mdmp_lister.specs.Limits.{most_bytes}
use Rattle.mdmp_lister.specs.Memory.{is_within, opening_fault_within}
use Rattle.mdmp_lister.specs.Meter.{KeepsTo}
use Rattle.mdmp_lister.specs.NamesFetched.{names_bytes}
use Rattle.mdmp_lister.specs.Opening.{KeepsOpening}
use Rattle.mdmp_lister.specs.Requested.{IsListedWithin}
use Rattle.mdmp_lister.specs.Sink.{names_of_all}
use Rattle.mdmp_lister.specs.StreamHead.{opening_bytes}
use Rattle.mdmp_summary.specs.BadEntries.{all_items}
use Rattle.mdmp_engines.specs.Symbols.{IsRecordAmong, symbols_bytes, taken_bytes}

-- a window of at least the greatest record, neither it nor a name of more than 2^30 bytes
abbrev pub AreLimits : PlainLimits → Type 0
AreLimits l = (greatest_record ≤ l.window) × (l.window ≤ most_bytes) × (l.name ≤ most_bytes)

-- the most that a number limits, if it is a limit: the greatest number of 64 bits is none
abbrev pub limit_of : ℕ → Option ℕ
limit_of n = if n == 2 ^ 64 - 1 then None else Some n

-- the number is a limit
abbrev pub IsLimit : ℕ → Type 0
IsLimit n = n ≡ 2 ^ 64 - 1 → ⊥

-- the limits that some numbers are, or none if they are not good
pub record AreGiven (plain : PlainLimits) (limits : Limits) : Type 0 where
  pub valid : AreLimits plain
  pub window : limits.window ≡ plain.window
  pub name : limits.name ≡ plain.name
  pub budget : limits.budget ≡ limit_of plain.budget
  pub memory : limits.memory ≡ limit_of plain.memory
  pub aside : limits.aside ≡ limit_of plain.aside

abbrev pub IsLimits : PlainLimits → Option Limits → Type 0
IsLimits plain (Some limits) = AreGiven plain limits
IsLimits plain None = AreLimits plain → ⊥

-- the limit of memory is kept: within the limits, no other reason keeps F from being opened than without them. What is read as F is
-- opened is within the budget
pub record KeepsMemory (plain : PlainLimits) (F : List ℕ) (choice : Choice) : Type 0 where
  pub limits : Limits
  pub given : AreGiven plain limits
  pub within : opening_fault_within limits F choice ≡ opening_fault F choice
  pub opening : opening_fault F choice ≡ None → KeepsOpening limits.budget F choice

-- what an opening of F fetches and the names of all its items are within the budget
pub record AreFetchedWithin (budget : Option ℕ) (F : List ℕ) (limit : ℕ) : Type 0 where
  pub entries : List Entry
  pub directory : IsDirectory F entries
  pub kept : KeepsTo budget (raised (opening_bytes All (length F) entries) (names_bytes (all_items F limit)))

-- the limit of memory is kept; and if F can be opened, its opening and the names of the items that a check reads are within the budget
pub record KeepsChecking (plain : PlainLimits) (F : List ℕ) : Type 0 where
  pub memory : KeepsMemory plain F All
  pub checked : opening_fault F All ≡ None → AreFetchedWithin (limit_of plain.budget) F plain.name

-- and the listing of a file that can be opened is kept within the budget: a lister that was opened for these limits gives all of it by
-- requests, each of them within the budget
pub record KeepsListing (plain : PlainLimits) (F : List ℕ) (choice : Choice) : Type 0 where
  pub memory : KeepsMemory plain F choice
  pub listed : opening_fault F choice ≡ None → (limits : Limits) × (AreGiven plain limits × IsListedWithin limits F choice)

-- the text of a list keeps to the budget, and reads no more bytes of the CodeView records that it tells than the limit for these
pub record KeepsText (plain : PlainLimits) (F : List ℕ) (pdb : Bool) : Type 0 where
  pub listed : KeepsListing plain F All
  pub beside : opening_fault F All ≡ None → is_within (limit_of plain.aside) (raised 0 (taken_bytes F pdb plain.name (listing F All plain.name).items)) ≡ true

-- ---- what a call reads at most

-- the bytes of F that are read at most for the listing of these entries, if so many names are read, and one more that may be at hand
abbrev pub most_read : List ℕ → Choice → ℕ → ℕ → ℕ
most_read F choice limit names = fetch_bound limit (entry_count F) (listed_bytes F choice) (names + 1)

-- how many names the listing of these entries reads
abbrev pub names_listed : List ℕ → Choice → ℕ → ℕ
names_listed F choice limit = names_of_all (listing F choice limit).items

-- and how many their check reads, which goes on after a fault
abbrev pub names_checked : List ℕ → Choice → ℕ → ℕ
names_checked F choice limit = names_judged (items_of F limit (chosen F choice)) (verdicts F choice limit)

-- ---- limits that were reached

-- a call did not read these bytes of F, which came next: with them it would have read more than the budget, without them it has not. They
-- lie inside F, and are at most as many as the window or a name may have. A call that reads at most so many bytes does so only below that
-- budget.
pub record PassesBudget (limits : PlainLimits) (F : List ℕ) (choice : Choice) (counted : Option Choice) (most : Option ℕ) (offset size : ℕ) : Type 0 where
  pub read : ℕ
  pub kept : read ≤ limits.budget
  pub passes : limits.budget < read + size
  pub bound : IfSome most (λ n. read + size ≤ n)
  pub inside : IsInside offset size (length F)
  pub few : size ≤ max limits.window limits.name
  pub next : IsNextRead limits F choice counted read offset size

-- a call did not read the CodeView record at this place of F: with it, it might have read more bytes of such records than the limit,
-- without it, it has not. What it read of them are those of the items before
pub record PassesAside (limits : PlainLimits) (F : List ℕ) (pdb : Bool) (before : List Item) (offset size : ℕ) : Type 0 where
  pub read : ℕ
  pub kept : read ≤ limits.aside
  pub passes : limits.aside < read + size
  pub most : read ≤ symbols_bytes pdb limits.name before
  pub inside : IsInside offset size (length F)
  pub few : size ≤ 24 + limits.name

-- a call over these entries of F, which counts the ranges of some lists or none, says that a limit was reached, and there is one: the
-- budget, or that of memory, which is the first that keeps F from being opened
pub data ReachesLimit (limits : PlainLimits) (F : List ℕ) (choice : Choice) (counted : Option Choice) (most : Option ℕ) (told : PlainFault) : Type 0 where
  reaches_budget : IsLimit limits.budget → (offset size : ℕ) → told ≡ budget_fault offset size → PassesBudget limits F choice counted most offset size
      → ReachesLimit limits F choice counted most told
  reaches_memory : IsLimit limits.memory → (held : ℕ) → told ≡ wide_fault 72 held → (given : Limits) → AreGiven limits given
      → opening_fault_within given F choice ≡ Some (MemoryLimit held) → ReachesLimit limits F choice counted most told

-- a call that lists these entries
abbrev pub EndsListing : PlainLimits → List ℕ → Choice → PlainFault → Type 0
EndsListing limits F choice = ReachesLimit limits F choice (Some choice) (Some (most_read F choice limits.name (names_listed F choice limits.name)))

-- a call that checks all entries
abbrev pub EndsChecking : PlainLimits → List ℕ → PlainFault → Type 0
EndsChecking limits F = ReachesLimit limits F All (Some All) (Some (most_read F All limits.name (names_checked F All limits.name)))

-- a call that gives the text of a list, which also reads CodeView records: of these the budget counts nothing
pub data EndsText (limits : PlainLimits) (F : List ℕ) (pdb : Bool) (told : PlainFault) : Type 0 where
  ends_text : EndsListing limits F All told → EndsText limits F pdb told
  ends_aside : IsLimit limits.aside → (offset size : ℕ) → told ≡ aside_fault offset size
      → (among : IsRecordAmong pdb limits.name (listing F All limits.name).items offset size) → PassesAside limits F pdb among.before offset size → EndsText limits F pdb told
