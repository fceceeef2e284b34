use Rattle.std.proofs.Common.{◌≡◌, rules}
use Rattle.mdmp_lister.specs.declared.position.Position.TheVariants.{Begun}
use Rattle.mdmp_lister.specs.Costs.{begun_at}
use Rattle.mdmp_lister.specs.HeldStep.{answer_told}
use Rattle.mdmp_lister.specs.Walk.Positions.{IsWalked, position_by}
use Rattle.mdmp_lister.proofs.walker.advance_from.Goals as goal

pub returns-in-Ok-Some-Stream-clause-position : goal.returns-in-Ok-Some-Stream-clause-position
returns-in-Ok-Some-Stream-clause-position g c =
    let begun : Begun ≡ position_by (begun_at (answer_told c.answer_from-answer.new.walk.window.held c.answer_from-answer.result)) = search rules in
    begun

pub returns-in-Ok-Some-Stream-clause-walked : goal.returns-in-Ok-Some-Stream-clause-walked
returns-in-Ok-Some-Stream-clause-walked g c =
    let walked : IsWalked Begun c.counts.result c.answer_from-answer.new.walk = search rules in
    walked
