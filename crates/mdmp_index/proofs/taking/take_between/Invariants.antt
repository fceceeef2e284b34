use Rattle.std.proofs.Common.{◌≡◌, ◌≤◌, ◌<◌, ◌-◌, ℕ, length, true, false}
use Rattle.mdmp_index.specs.Cells.{KeepsCells, is_taken, next_at, owner_at}
use Rattle.mdmp_index.specs.Slots.{index_slot}
use Rattle.mdmp_index.proofs.taking.take_between.Given as goal

abbrev pub invariant-loop-cell : goal.invariant-loop-cell
invariant-loop-cell l = record {
  order : l.low ≤ l.cell;
  within : l.cell ≤ length l.cells;
  ahead : (k : ℕ) → k < length l.cells → k ≤ next_at l.cells k;
  inside : (k : ℕ) → k < length l.cells → next_at l.cells k ≤ length l.cells;
  skips_below : (k n : ℕ) → k < length l.cells → k ≤ n → n < next_at l.cells k → n < l.low → n < next_at l.cells n;
  skips_behind : (k n : ℕ) → k < length l.cells → k ≤ n → n < next_at l.cells k → l.high ≤ n → n < next_at l.cells n;
  taken : (k : ℕ) → l.low ≤ k → k < l.cell → is_taken l.cells k ≡ true;
  owner : (k : ℕ) → l.low ≤ k → k < l.cell → is_taken l.initial.cells k ≡ false → owner_at l.cells k ≡ l.owner;
  before : (k : ℕ) → is_taken l.initial.cells k ≡ true → owner_at l.cells k ≡ owner_at l.initial.cells k;
  same_below : (k : ℕ) → k < l.low → index_slot l.cells k ≡ index_slot l.initial.cells k;
  same_behind : (k : ℕ) → l.high ≤ k → index_slot l.cells k ≡ index_slot l.initial.cells k;
  same_ahead : (k : ℕ) → l.cell ≤ k → index_slot l.cells k ≡ index_slot l.initial.cells k;
  keeps : KeepsCells l.initial.cells l.cells;
}

abbrev pub decreases-loop-cell : goal.decreases-loop-cell
decreases-loop-cell l = l.high - l.cell
