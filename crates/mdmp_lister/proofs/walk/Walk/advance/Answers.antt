use Rattle.std.proofs.Common.{◌∙◌}
use Rattle.mdmp_lister.specs.HeldStep.{answer_told}
use Rattle.mdmp_lister.proofs.Requests.{answered_then}
use Rattle.mdmp_lister.proofs.walk.Walk.advance.Goals as goal

pub returns-in_ok-read_head-in-Head : goal.returns-in_ok-read_head-in-Head
returns-in_ok-read_head-in-Head g c =
    let n = c.go_on.new.self in
    let taken = c.go_on.ensures.taken in
    record {
      answered = answered_then c.args.self.now c.read_head.new.self n c.in_ok-read_head-in-Head.ensures.read (answer_told n.window.held c.go_on.result) c.in-Head.is taken.answered;
      whole = c.go_on.ensures.whole;
      unchanged = λ stays. taken.unchanged c.read_head.ensures.counted.unchanged;
      nameless = λ none. taken.nameless (rw c.in_ok-read_head-in-Head.ensures.read.same.current none) ∙ c.read_head.ensures.counted.books.same_names;
    }
