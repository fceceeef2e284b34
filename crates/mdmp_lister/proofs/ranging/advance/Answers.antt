use Rattle.mdmp_lister.specs.HeldStep.{answer_told}
use Rattle.mdmp_lister.proofs.Requests.{answered_then}
use Rattle.mdmp_lister.proofs.ranging.advance.Goals as goal

pub returns-in_ok-read_head-in-Head : goal.returns-in_ok-read_head-in-Head
returns-in_ok-read_head-in-Head g c =
    let n = c.go_on.new.self in
    let taken = c.go_on.ensures.taken in
    record {
      answered = answered_then c.args.walk.now c.read_head.new.walk n c.in_ok-read_head-in-Head.ensures.read (answer_told n.window.held c.go_on.result) c.in-Head.is taken.answered;
      whole = c.go_on.ensures.whole;
      room = taken.room c.args.room c.read_head.ensures.room;
    }

pub returns-in_default : goal.returns-in_default
returns-in_default g c = record {
  answered = c.go_on-in_default.ensures.taken.answered;
  whole = c.go_on-in_default.ensures.whole;
  room = c.go_on-in_default.ensures.taken.room c.args.room c.requires.room;
}
