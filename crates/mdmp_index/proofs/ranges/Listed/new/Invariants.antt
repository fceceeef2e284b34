use Rattle.std.specs.List.{AllWithin}
use Rattle.mdmp_index.specs.Index.{OffsetsFit}
use Rattle.mdmp_index.proofs.ranges.Listed.new.Given as goal

abbrev pub invariant-loop-range : goal.invariant-loop-range
invariant-loop-range l = AllWithin OffsetsFit l.ranges 0 l.range-index
