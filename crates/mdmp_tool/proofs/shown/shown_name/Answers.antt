use Rattle.std.proofs.Common.{◌≡◌, ◌∙◌, [], ap, rules}
use Rattle.std.specs.Prelude.{Some}
use Rattle.std.proofs.lemmas.Option.{same_Some}
use Rattle.mdmp_tool.specs.Shown.{shown}
use Rattle.mdmp_tool.proofs.shown.shown_name.Goals as goal

pub returns-in-Ok : goal.returns-in-Ok
returns-in-Ok g c =
    let empty : c.new-out.result.writer.items ≡ [] = search rules in
    same_Some _ _ (c.into_inner.ensures ∙ c.in-Ok.ensures.took [] (ap Some empty)) ∙ ap shown c.as_bytes.ensures.value
