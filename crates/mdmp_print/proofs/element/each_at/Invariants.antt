use Rattle.std.proofs.Common.{◌*◌, take}
use Rattle.std.specs.List.{flat_map}
use Rattle.mdmp_print.specs.Buffer.{IsPutBehind}
use Rattle.mdmp_print.proofs.element.each_at.Given as goal

abbrev pub invariant-loop-element : goal.invariant-loop-element
invariant-loop-element g l =
    IsPutBehind l.fn.buffer l.fn.len (flat_map (λ x. g.E.Piece.text (g.E.Element.of x)) (take l.element-index l.elements)) (g.E.Piece.most * l.element-index) l.buffer l.len
