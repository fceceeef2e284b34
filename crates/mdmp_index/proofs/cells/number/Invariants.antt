use Rattle.std.proofs.Common.{◌≡◌, ◌<◌, ℕ, List, length}
use Rattle.mdmp_index.specs.declared.slot.IndexSlot.{IndexSlot}
use Rattle.mdmp_index.specs.Cells.{IsCellOfCut, next_at, owner_at, start_at}
use Rattle.mdmp_index.proofs.cells.number.Given as goal

abbrev pub invariant-loop-number : goal.invariant-loop-number
invariant-loop-number l = record {
  own : (k : ℕ) → k < l.number → next_at l.cells k ≡ k;
  starts : (k : ℕ) → start_at l.cells k ≡ start_at l.initial.cells k;
  owners : (k : ℕ) → owner_at l.cells k ≡ owner_at l.initial.cells k;
  placed : (cuts : List IndexSlot) → ((k : ℕ) → k < length l.initial.cells → start_at l.initial.cells k ≡ start_at cuts (owner_at l.initial.cells k))
      → (k : ℕ) → k < l.number → IsCellOfCut l.cells (owner_at l.initial.cells k) (start_at l.initial.cells k);
}
