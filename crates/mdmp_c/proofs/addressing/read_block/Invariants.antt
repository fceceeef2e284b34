use Rattle.std.proofs.Common.{◌≡◌, Some, length, take}
use Rattle.mdmp_lister.specs.Painting.{AreCells, ArePainted}
use Rattle.mdmp_c.specs.Memory.{kept_ranges}
use Rattle.mdmp_c.proofs.addressing.read_block.Given as goal

-- the first rows were read
abbrev pub invariant-loop-row : goal.invariant-loop-row
invariant-loop-row l = record {
  painted : ArePainted l.paint l.known;
  start : l.paint.start ≡ l.address;
  cells : AreCells (Some l.file) (kept_ranges (length l.file) (take l.row-index l.rows)) l.address l.out l.known;
}
