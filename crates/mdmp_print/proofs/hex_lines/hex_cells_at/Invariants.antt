use Rattle.std.proofs.Common.{◌*◌, take}
use Rattle.std.specs.List.{flat_map}
use Rattle.mdmp_lister.specs.Addressing.{cells}
use Rattle.mdmp_print.specs.HexText.{cell_text}
use Rattle.mdmp_print.specs.Buffer.{IsPutBehind}
use Rattle.mdmp_print.proofs.hex_lines.hex_cells_at.Given as goal

abbrev pub invariant-loop-index : goal.invariant-loop-index
invariant-loop-index l = IsPutBehind l.fn.text l.fn.len (flat_map cell_text (take l.index (cells l.bytes l.known))) (3 * l.index) l.text l.len
