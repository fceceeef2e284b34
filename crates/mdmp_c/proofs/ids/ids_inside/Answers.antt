use Rattle.std.proofs.Common.{List, ℕ, ap, ◌∙◌}
use Rattle.mdmp_c.specs.Ids.{codeview_ids}
use Rattle.mdmp_c.proofs.Fronts.{head_sliced}
use Rattle.mdmp_c.proofs.ids.ids_inside.Goals as goal

pub returns : goal.returns
returns c =
    c.codeview_ids.ensures
    ∙ ap (λ (head : List ℕ). codeview_ids head c.args.place.now.size) (head_sliced c.args.file.now c.args.place.now.rva c.args.place.now.size c.min.result c.min.ensures)
