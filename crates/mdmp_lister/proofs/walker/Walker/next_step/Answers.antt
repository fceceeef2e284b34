use Rattle.mdmp_lister.specs.HeldStep.{answer_told}
use Rattle.mdmp_lister.proofs.Walked.{step_good, step_kinded, step_leaves, stop_again, step_refused}
use Rattle.mdmp_lister.proofs.walker.Walker.next_step.Goals as goal

pub returns-clause-leaves : goal.returns-clause-leaves
returns-clause-leaves g c =
    let of = c.advance_from-answer.ensures in
    rw (c.told.ensures, ← c.self.view_is, of.position, of.mark)
    (step_leaves c.self.inside.walk c.advance_from-answer.new.walk c.self.inside.mark c.self.inside.position (answer_told c.advance_from-answer.new.walk.window.held c.advance_from-answer.result) c.self.invariant of.answered of.unchanged of.nameless)

pub returns-clause-good : goal.returns-clause-good
returns-clause-good g c =
    rw (c.told.ensures, ← c.self.view_is)
    (step_good c.self.inside.walk c.advance_from-answer.new.walk c.self.inside.mark c.self.inside.position (answer_told c.advance_from-answer.new.walk.window.held c.advance_from-answer.result) c.advance_from-answer.ensures.answered)

pub returns-clause-repeats : goal.returns-clause-repeats
returns-clause-repeats g c =
    rw (c.told.ensures, ← c.self.view_is)
    (stop_again c.self.inside.walk c.advance_from-answer.new.walk c.self.inside.position (answer_told c.advance_from-answer.new.walk.window.held c.advance_from-answer.result) c.advance_from-answer.ensures.answered)

pub returns-clause-refused : goal.returns-clause-refused
returns-clause-refused g c =
    rw c.told.ensures (step_refused c.self.inside.walk c.advance_from-answer.new.walk c.self.inside.mark c.self.inside.position (answer_told c.advance_from-answer.new.walk.window.held c.advance_from-answer.result) c.advance_from-answer.ensures.answered)

pub returns-clause-kind : goal.returns-clause-kind
returns-clause-kind g c =
    rw c.told.ensures
    (step_kinded c.self.inside.walk c.advance_from-answer.new.walk c.self.inside.mark c.self.inside.position (answer_told c.advance_from-answer.new.walk.window.held c.advance_from-answer.result) c.advance_from-answer.ensures.answered)
