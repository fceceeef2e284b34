use Rattle.std.proofs.Common.{◌≡◌, ◌≤◌, ◌+◌, ◌*◌, ◌^◌, ℕ, List, None, Some, take}
use Rattle.mdmp_source.specs.Count.{raised}
use Rattle.mdmp_lister.specs.Format.Numbers.{range_count, ranges_of_all}
use Rattle.mdmp_lister.specs.Format.Listing.{chosen_from}
use Rattle.mdmp_lister.specs.StreamHead.{heads_ahead}
use Rattle.mdmp_lister.specs.Meter.{Books}
use Rattle.mdmp_lister.specs.Fault.{IsCaused}
use Rattle.mdmp_lister.proofs.counting.count_ranges.Given as goal

-- the ranges of the first entries were counted
abbrev pub invariant-loop-entry : goal.invariant-loop-entry
invariant-loop-entry g l = record {
  books : Books l.entry-index (heads_ahead l.choice l.initial.meter.source.size (take l.entry-index l.entries)) l.initial.meter l.meter;
  caused : IsCaused None l.initial.meter.source l.meter.source;
  counted : (file : List ℕ) → l.initial.meter.source.store.content ≡ Some file
      → l.total + ranges_of_all file (chosen_from file l.choice l.entry-index) ≡ range_count file l.choice;
  spent : l.meter.fetched ≡ raised l.initial.meter.fetched (heads_ahead l.choice l.initial.meter.source.size (take l.entry-index l.entries));
  bound : l.total ≤ 2 ^ 64 * l.entry-index;
}
