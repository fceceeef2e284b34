use Rattle.std.proofs.Common.{◌≡◌, ◌-◌, ◌≤◌, ◌<◌, ℕ, List, Some, false, drop, length, slice_get}
use Rattle.mdmp_lister.specs.Format.Directory.{IsDirectory}
use Rattle.mdmp_wire.specs.declared.entry.Entry.{Entry}
use Rattle.mdmp_lister.specs.Format.Listing.{chosen_from, is_chosen}
use Rattle.mdmp_lister.specs.Listed.{cost_by}
use Rattle.mdmp_lister.proofs.opening.next_chosen.Given as goal

-- the entries passed are not chosen
abbrev pub invariant-loop-at : goal.invariant-loop-at
invariant-loop-at l = record {
  risen : l.fn.from ≤ l.at;
  placed : l.at ≤ length l.entries;
  passed : (file : List ℕ) → IsDirectory file l.entries → chosen_from file l.choice l.fn.from ≡ chosen_from file l.choice l.at;
  unchosen : (k : ℕ) (d : Entry) → l.fn.from ≤ k → k < l.at → slice_get l.entries k ≡ Some d → is_chosen l.choice d.stream_type ≡ false;
  costs : (f : ℕ → ℕ) (size : ℕ) → cost_by f l.choice size (drop l.at l.entries) ≤ cost_by f l.choice size (drop l.fn.from l.entries);
}

abbrev pub decreases-loop-at : goal.decreases-loop-at
decreases-loop-at l = length l.entries - l.at
