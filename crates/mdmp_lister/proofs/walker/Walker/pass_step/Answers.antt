use Rattle.std.proofs.Common.{◌≡◌, refl, rules}
use Rattle.mdmp_lister.specs.HeldStep.{answer_told}
use Rattle.mdmp_lister.specs.Walker.{passed_of}
use Rattle.mdmp_lister.proofs.Walked.{step_passes}
use Rattle.mdmp_lister.proofs.walker.Walker.pass_step.Goals.{in-Err, in-Ok-None, in-Ok-Some}
use Rattle.mdmp_lister.proofs.walker.Walker.pass_step.Goals as goal

pub returns : goal.returns
returns g c =
    let of = c.advance_from.ensures in
    let walk = c.advance_from.new.walk in
    let told = answer_told walk.window.held c.advance_from.result in
    let passed : c.match-advance_from.result ≡ passed_of told = elim c.match-advance_from.branch [ in-Ok-Some w ↦ search rules | in-Ok-None w ↦ search rules | in-Err w ↦ search rules ] in
    rw (← c.self.view_is, of.position, of.mark)
    (step_passes c.self.inside.walk walk c.self.inside.mark c.self.inside.position told c.match-advance_from.result passed c.self.invariant of.answered of.unchanged of.nameless)
