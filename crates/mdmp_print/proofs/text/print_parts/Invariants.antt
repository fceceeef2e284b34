use Rattle.std.proofs.Common.{◌-◌, ◌≤◌}
use Rattle.mdmp_print.specs.Parts.{IsUnprinted}
use Rattle.mdmp_print.proofs.text.print_parts.Given as goal

abbrev pub invariant-loop-place : goal.invariant-loop-place
invariant-loop-place g l = record {
  within : l.place ≤ l.places;
  left : IsUnprinted (g.O.Printer.state l.fn.out) (g.T.Parts.text_from l.text 0) (g.T.Parts.text_from l.text l.place) (g.O.Printer.state l.out);
}

abbrev pub decreases-loop-place : goal.decreases-loop-place
decreases-loop-place g l = l.places - l.place
