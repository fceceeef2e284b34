use Rattle.std.proofs.Common.{take, length}
use Rattle.std.specs.List.{flat_map}
use Rattle.mdmp_source.specs.Output.{PutsAll}
use Rattle.mdmp_lister.specs.Addressing.{cells}
use Rattle.mdmp_print.specs.HexText.{line_text, line_numbers}
use Rattle.mdmp_print.proofs.hex_lines.print_hex_lines.Given as goal

abbrev pub invariant-loop-line : goal.invariant-loop-line
invariant-loop-line g l =
    PutsAll (g.O.Printer.state l.fn.out) (flat_map (line_text l.address (cells l.bytes l.known)) (take l.line (line_numbers (length l.bytes)))) (g.O.Printer.state l.out)
