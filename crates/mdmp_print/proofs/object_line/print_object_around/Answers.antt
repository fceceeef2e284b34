use Rattle.std.proofs.Common.{◌∙◌, ◌++◌, List, ℕ, [], ap, codes, sym}
use Rattle.mdmp_print.proofs.Printing.{Puts-as}
use Rattle.mdmp_print.specs.Shown.{object_line-long}
use Rattle.mdmp_print.proofs.object_line.print_object_around.Goals as goal

pub returns : goal.returns
returns g c =
    let line = c.args.line.now in
    let value = g.T.LongText.text c.args.value.now in
    let rest = g.R.Piece.text c.args.rest in
    let behind = codes ",\"" ++ (c.args.name.now ++ (codes "\":" ++ (value ++ (rest ++ (codes "}\n" ++ []))))) in
    Puts-as _ _ _ _ _ c.print_around.ensures
    (object_line-long line (g.M.Members.onto c.args.members) (g.M.Piece.text c.args.members) (g.M.Members.is_plain c.args.members)
    c.args.name.now (g.T.LongValue.tokens c.args.value.now) value
    (g.R.Members.onto c.args.rest) rest (g.R.Members.is_plain c.args.rest)
    c.requires.plain (g.met.M.Members.shown c.args.members) (g.met.T.LongValue.shown c.args.value.now) (g.met.R.Members.shown c.args.rest)
    ∙ ap (λ (x : List ℕ). codes "{\"line\":\"" ++ (line ++ (codes "\"" ++ x))) (sym (g.met.M.Piece.joined c.args.members behind)))
