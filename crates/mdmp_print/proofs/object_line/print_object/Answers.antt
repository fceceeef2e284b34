use Rattle.mdmp_print.specs.Shown.{object_line-members}
use Rattle.mdmp_print.proofs.Printing.{Puts-as}
use Rattle.mdmp_print.proofs.object_line.print_object.Goals as goal

pub returns : goal.returns
returns g c = Puts-as _ _ _ _ _ c.print.ensures
    (object_line-members c.args.line.now (g.M.Members.onto c.args.members) (g.M.Piece.text c.args.members) (g.M.Members.is_plain c.args.members)
    c.requires.plain (g.met.M.Members.shown c.args.members))
