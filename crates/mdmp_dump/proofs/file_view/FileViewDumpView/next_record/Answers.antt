use Rattle.std.proofs.Common.{◌<◌, ℕ, arith, refl, subst}
use Rattle.mdmp_dump.specs.Shape.{IsChangeAt}
use Rattle.mdmp_dump.proofs.Moving.{cursor_left, cursor_place, moves_err, moves_quiet, records_none, reliable_err, shape_stays, unended, view_taken, view_untaken}
use Rattle.mdmp_dump.proofs.file_view.FileViewDumpView.next_record.Goals as goal

pub take_record-requires-clause-going : goal.take_record-requires-clause-going
take_record-requires-clause-going g c =
    let s = c.args.self.now in
    let p = c.in-Some.pass in
    let going : 0 < p.left = (let left = cursor_left g.row.A.Denot s.limit s.walk s.counts.items s.rooms.items s.pass s.passed s.asked s.last s.sound p c.in-Some.is in let some = c.requires in omega (arith, left, some)) in
    going

pub take_record-requires-clause-unfailed : goal.take_record-requires-clause-unfailed
take_record-requires-clause-unfailed g c =
    let s = c.args.self.now in
    unended g.row.A.Denot s.limit s.walk s.counts.items s.rooms.items s.pass s.passed s.asked s.last s.sound c.in-Some.pass c.in-Some.is

pub take_record-requires-clause-passing : goal.take_record-requires-clause-passing
take_record-requires-clause-passing g c = c.args.self.now.sound.passing c.in-Some.pass c.in-Some.is

pub take_record-requires-clause-of_file : goal.take_record-requires-clause-of_file
take_record-requires-clause-of_file g c = λ F known. c.args.self.now.sound.pass_of F c.in-Some.pass known c.in-Some.is

pub invariant_of-self : goal.invariant_of-self
invariant_of-self g c =
    let s = c.args.self.now in
    let p = c.in-Some.pass in
    let going : 0 < p.left = (let left = cursor_left g.row.A.Denot s.limit s.walk s.counts.items s.rooms.items s.pass s.passed s.asked s.last s.sound p c.in-Some.is in let some = c.requires in omega (arith, left, some)) in
    let of = c.in-Ok.ensures in
    record { sound = view_taken g.row.A.Denot s.limit s.walk s.counts.items s.rooms.items s.pass s.passed s.asked s.last s.sound c.take_record.new.walk of.pays.same p c.in-Some.is going of.pays (c.in-Ok.fields, c.in-Ok.next) c.in-Ok.next of.passes.0 (of.passes.1, of.passes.2) of.tells of.passes_of }

pub invariant_of-self-in-Err : goal.invariant_of-self-in-Err
invariant_of-self-in-Err g c =
    let s = c.args.self.now in
    let p = c.in-Some.pass in
    let going : 0 < p.left = (let left = cursor_left g.row.A.Denot s.limit s.walk s.counts.items s.rooms.items s.pass s.passed s.asked s.last s.sound p c.in-Some.is in let some = c.requires in omega (arith, left, some)) in
    let of = c.in-Err.ensures in
    record { sound = view_untaken g.row.A.Denot s.limit s.walk s.counts.items s.rooms.items s.pass s.passed s.asked s.last s.sound c.take_record.new.walk of.pays.same p c.in-Some.is going of.pays c.in-Err.fault of.tells }

pub returns-in-Err-clause-reliable : goal.returns-in-Err-clause-reliable
returns-in-Err-clause-reliable g c =
    let s = c.args.self.now in
    let of = c.in-Err.ensures in
    λ reliable. reliable_err g.row.A.Denot s.limit s.walk s.counts.items s.rooms.items s.pass s.passed s.asked s.last s.sound c.take_record.new.walk of.pays.same c.in-Err.fault of.tells reliable

pub returns-in-Ok-clause-gives : goal.returns-in-Ok-clause-gives
returns-in-Ok-clause-gives g c = rw c.in-Some.is c.in-Ok.ensures.gives

pub returns-in-Err-clause-told : goal.returns-in-Err-clause-told
returns-in-Err-clause-told g c =
    let s = c.args.self.now in
    let at = cursor_place g.row.A.Denot s.walk s.pass c.in-Some.pass c.in-Some.is in
    record { last = refl; place = subst (λ (n : ℕ). IsChangeAt n c.in-Err.fault) at c.in-Err.ensures.place }

pub returns-in_default-clause-told : goal.returns-in_default-clause-told
returns-in_default-clause-told g c =
    let s = c.args.self.now in
    absurd (records_none g.row.A.Denot s.walk s.pass c.in_default.is c.requires)

pub returns-in_default-clause-reliable : goal.returns-in_default-clause-reliable
returns-in_default-clause-reliable g c =
    let s = c.args.self.now in
    λ reliable. records_none g.row.A.Denot s.walk s.pass c.in_default.is c.requires

pub returns-in-Ok-clause-shape : goal.returns-in-Ok-clause-shape
returns-in-Ok-clause-shape g c =
    let s = c.args.self.now in
    shape_stays s.walk c.take_record.new.walk c.in-Ok.ensures.pays.same g.row.A.Denot s.counts.items s.rooms.items

pub returns-in-Ok-clause-moves : goal.returns-in-Ok-clause-moves
returns-in-Ok-clause-moves g c =
    let s = c.args.self.now in
    moves_quiet s.walk c.take_record.new.walk c.in-Ok.ensures.pays.same s.last

pub returns-in-Err-clause-shape : goal.returns-in-Err-clause-shape
returns-in-Err-clause-shape g c =
    let s = c.args.self.now in
    shape_stays s.walk c.take_record.new.walk c.in-Err.ensures.pays.same g.row.A.Denot s.counts.items s.rooms.items

pub returns-in-Err-clause-moves : goal.returns-in-Err-clause-moves
returns-in-Err-clause-moves g c =
    let s = c.args.self.now in
    let of = c.in-Err.ensures in
    moves_err g.row.A.Denot s.limit s.walk s.counts.items s.rooms.items s.pass s.passed s.asked s.last s.sound c.take_record.new.walk of.pays.same c.in-Err.fault of.tells
