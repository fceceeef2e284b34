-- What the two passes over all items give.
use Rattle.std.specs.Prelude.{◌≡◌, ℕ, List, Option, Some, Result, IfErr, IfOk, false, filter}
use Rattle.mdmp_source.specs.Store.{IsGood}
use Rattle.mdmp_wire.specs.declared.header.Header.{Header}
use Rattle.mdmp_lister.specs.declared.fault.ListFault.{ListFault}
use Rattle.mdmp_lister.specs.declared.item.Item.{Item}
use Rattle.mdmp_lister.specs.Fault.{IsOfStore}
use Rattle.mdmp_lister.specs.NamesFetched.{FetchesNames}
use Rattle.mdmp_lister.specs.Walker.{WalkerState, is_failed}
use Rattle.mdmp_summary.specs.BadEntries.{all_items, entry_faults, told_bad}
use Rattle.mdmp_summary.specs.Crash.{breaks_nothing, stops_nothing}
use Rattle.mdmp_summary.specs.Keeping.{first}
use Rattle.mdmp_summary.specs.Search.{holds_address, is_name_of, nearest_below}
use Rattle.mdmp_summary.specs.Spending.{ReadsNoneSince, SpendsPasses}
use Rattle.mdmp_summary.specs.Summary.{exceptions, item_counts, modules, outside, systems, thread_names, told_outside}
use Rattle.mdmp_summary.specs.Walking.{IsPassFault, KeepsItsBudget}
use Rattle.mdmp_summary.specs.declared.gathering.Gathering.{Gathering}
use Rattle.mdmp_summary.specs.declared.passes.FirstPass.{FirstPass}
use Rattle.mdmp_summary.specs.declared.search.CrashSearch.{CrashSearch}
use Rattle.mdmp_summary.specs.declared.summary.Crash.{Crash}
use Rattle.mdmp_summary.specs.declared.summary.FileSummary.{FileSummary}

-- what is gathered from some items
abbrev pub gathering_of : List Item → Gathering
gathering_of items = record {
  system = first (systems items);
  program = first (modules items);
  exceptions = record {
    first = first (exceptions items);
    unbroken = first (filter breaks_nothing (exceptions items));
    unstopped = first (filter stops_nothing (exceptions items));
  };
  counts = item_counts items;
  outside = told_outside (outside items);
}

-- what the first pass gives
abbrev pub all_gathered : List ℕ → ℕ → FirstPass
all_gathered F limit = record { gathering = gathering_of (all_items F limit); bad = told_bad (entry_faults F limit) }

-- the summary of a file with this header and this crash
abbrev pub summary_with : FirstPass → Header → Option Crash → FileSummary
summary_with told header crash = record {
  header = header;
  system = told.gathering.system;
  program = told.gathering.program;
  crash = crash;
  counts = told.gathering.counts;
  outside = told.gathering.outside;
  bad = told.bad;
}

-- what is found among some items
abbrev pub searched : ℕ → ℕ → List Item → CrashSearch
searched address thread items = record {
  address = address;
  thread = thread;
  holder = first (filter (holds_address address) (modules items));
  nearest = nearest_below address (modules items);
  name = first (filter (is_name_of thread) (thread_names items));
}

-- a pass of a visitor that takes every item and reads nothing: it is spent, within the budget, and each name is fetched once. An
-- error is one of bytes that were not read, in an entry since whose begin nothing was read outside the listing
pub record MakesPass {T : Type 0} (old : WalkerState) (result : Result T ListFault) (new : WalkerState) : Type 0 where
  pub spends : SpendsPasses 1 0 old new
  pub keeps : KeepsItsBudget old.list new.list
  pub named : (file : List ℕ) → old.list.source.store.content ≡ Some file
      → IfOk result (λ told. FetchesNames 1 (all_items file old.list.limit) old.list.counts.fetched new.list.counts.fetched)
  pub going : IfOk result (λ told. is_failed new.list.stop ≡ false)
  pub fault : IfErr result (IsPassFault old.list new.list)
  pub good : (file : List ℕ) → IsGood old.list.source.store file → IfErr result (λ fault. IsOfStore fault.kind → ⊥)
  pub none : IfErr result (λ fault. ReadsNoneSince new)
