use Rattle.std.proofs.Common.{◌≡◌, ◌≤◌, ℕ, take}
use Rattle.mdmp_index.specs.Cells.{edge_at}
use Rattle.mdmp_index.specs.Index.{IsIndexTo}
use Rattle.mdmp_index.specs.Slots.{index_slot}
use Rattle.mdmp_index.proofs.building.keep.Given as goal

abbrev pub invariant-loop-number : goal.invariant-loop-number
invariant-loop-number g l = record {
  kept : l.kept ≤ l.number;
  same : (k : ℕ) → l.number ≤ k → index_slot l.cells k ≡ index_slot l.initial.cells k;
  index : IsIndexTo (g.R.Ranges.ranges l.ranges) (edge_at l.initial.cells l.number) (take l.kept l.cells);
}
