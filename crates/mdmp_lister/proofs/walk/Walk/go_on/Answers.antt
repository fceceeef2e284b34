use Rattle.std.proofs.Common.{refl}
use Rattle.mdmp_lister.proofs.Requests.{answered_end, answered_stopped}
use Rattle.mdmp_lister.proofs.walk.Walk.go_on.Goals as goal

pub returns-in-Ended-clause-taken : goal.returns-in-Ended-clause-taken
returns-in-Ended-clause-taken g c = record { answered = answered_end c.args.self.now c.requires.sound c.in-Ended.is; room = λ room has. has; unchanged = λ stays. stays; nameless = λ none. refl }

pub returns-in-Bad-clause-taken : goal.returns-in-Bad-clause-taken
returns-in-Bad-clause-taken g c = record { answered = answered_stopped c.args.self.now c.requires.sound c.in-Bad.fault c.in-Bad.is; room = λ room has. has; unchanged = λ stays. stays; nameless = λ none. refl }

pub returns-in-Bad-2-clause-taken : goal.returns-in-Bad-2-clause-taken
returns-in-Bad-2-clause-taken g c = record { answered = answered_stopped c.args.self.now c.requires.sound c.in-Bad.fault c.in-Bad.is; room = λ room has. has; unchanged = λ stays. stays; nameless = λ none. refl }
