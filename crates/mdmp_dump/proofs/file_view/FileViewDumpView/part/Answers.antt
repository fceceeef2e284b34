use Rattle.std.proofs.Common.{◌≡◌, ◌<◌, ◌+◌, ◌-◌, ◌^◌, arith, inr, length, refl, Ok, Err, Some, None}
use Rattle.mdmp_dump.specs.FileView.{file_cursor, opening_cost}
use Rattle.mdmp_dump.proofs.FaultsTold.{fetched_place, last_of}
use Rattle.mdmp_dump.specs.declared.view.ViewFault.TheVariants as view
use Rattle.mdmp_dump.proofs.Moving.{aside_same, asked_bytes, asked_inside, asked_which, bytes_none, cursor_stays, moves_quiet, moves_told, reliable_read, shape_stays, uncut, view_read, view_unasked}
use Rattle.mdmp_dump.proofs.file_view.FileViewDumpView.part.Goals as goal

pub offset_bounds-pass-which : goal.offset_bounds-pass-which
offset_bounds-pass-which g c =
    let s = c.args.self.now in
    let p = c.in-Some.pass in
    let n = length c.args.out.now in
    let some : 0 < n = omega (arith, c.if-count-eq0.false) in
    (let which = asked_which g.row.A.Denot s.limit s.walk s.counts.items s.rooms.items s.pass s.passed s.asked s.last s.sound p c.in-Some.is c.args.which c.args.at n c.requires some in omega (arith, which))

pub bounds-pass-which : goal.bounds-pass-which
bounds-pass-which g c =
    let s = c.args.self.now in
    let p = c.in-Some.pass in
    let n = length c.args.out.now in
    let some : 0 < n = omega (arith, c.if-count-eq0.false) in
    asked_which g.row.A.Denot s.limit s.walk s.counts.items s.rooms.items s.pass s.passed s.asked s.last s.sound p c.in-Some.is c.args.which c.args.at n c.requires some

pub overflow_add-pass : goal.overflow_add-pass
overflow_add-pass g c =
    let s = c.args.self.now in
    let p = c.in-Some.pass in
    let n = length c.args.out.now in
    let some : 0 < n = omega (arith, c.if-count-eq0.false) in
    (let inside = asked_inside g.row.A.Denot s.limit s.walk s.counts.items s.rooms.items s.pass s.passed s.asked s.last s.sound p c.in-Some.is c.args.which c.args.at n c.requires some in omega (arith, inside, c.size-size.ensures.value))

pub read_part-requires : goal.read_part-requires
read_part-requires g c =
    let s = c.args.self.now in
    let p = c.in-Some.pass in
    let n = length c.args.out.now in
    let some : 0 < n = omega (arith, c.if-count-eq0.false) in
    inr (asked_inside g.row.A.Denot s.limit s.walk s.counts.items s.rooms.items s.pass s.passed s.asked s.last s.sound p c.in-Some.is c.args.which c.args.at n c.requires some)

pub invariant_of-self-in-Ok : goal.invariant_of-self-in-Ok
invariant_of-self-in-Ok g c =
    let s = c.args.self.now in
    let p = c.in-Some.pass in
    let sum_is : opening_cost s.walk s.counts.items + s.passed + c.saturating_add-self.result < 2 ^ 128 - 1 → c.saturating_add-self.result ≡ s.asked + length c.read_part.new.out =
    λ low. rw c.read_part.auto.out (uncut s.asked (length c.args.out.now) c.saturating_add-self.result (opening_cost s.walk s.counts.items + s.passed) c.saturating_add-self.ensures low) in
    record { sound = view_read g.row.A.Denot s.limit s.walk s.counts.items s.rooms.items s.pass s.passed s.asked s.last s.sound p c.in-Some.is (length c.read_part.new.out) c.saturating_add-self.result (Ok tt) c.read_part.new.self c.in-Ok.ensures.reads sum_is None }

pub invariant_of-self-in-Err : goal.invariant_of-self-in-Err
invariant_of-self-in-Err g c =
    let s = c.args.self.now in
    let p = c.in-Some.pass in
    let sum_is : opening_cost s.walk s.counts.items + s.passed + c.saturating_add-self.result < 2 ^ 128 - 1 → c.saturating_add-self.result ≡ s.asked + length c.read_part.new.out =
    λ low. rw c.read_part.auto.out (uncut s.asked (length c.args.out.now) c.saturating_add-self.result (opening_cost s.walk s.counts.items + s.passed) c.saturating_add-self.ensures low) in
    record { sound = view_read g.row.A.Denot s.limit s.walk s.counts.items s.rooms.items s.pass s.passed s.asked s.last s.sound p c.in-Some.is (length c.read_part.new.out) c.saturating_add-self.result (Err c.in-Err.fault) c.read_part.new.self c.in-Err.ensures.reads sum_is (Some (view.Source c.in-Err.fault)) }

pub returns-in-Ok-clause-bytes : goal.returns-in-Ok-clause-bytes
returns-in-Ok-clause-bytes g c =
    let s = c.args.self.now in
    let p = c.in-Some.pass in
    let n = length c.args.out.now in
    let some : 0 < n = omega (arith, c.if-count-eq0.false) in
    asked_bytes g.row.A.Denot s.limit s.walk s.counts.items s.rooms.items s.pass s.passed s.asked s.last s.sound p c.in-Some.is c.args.which c.args.at n c.requires some c.read_part.new.out c.read_part.auto.out c.in-Ok.ensures.bytes

pub invariant_of-self : goal.invariant_of-self
invariant_of-self g c =
    let s = c.args.self.now in
    let sum_is = rw c.if-count-eq0.true at c.saturating_add-self.ensures in
    record { sound = view_unasked g.row.A.Denot s.limit s.walk s.counts.items s.rooms.items s.pass s.passed s.asked s.last s.sound c.saturating_add-self.result sum_is }

pub invariant_of-self-in_default : goal.invariant_of-self-in_default
invariant_of-self-in_default g c =
    let s = c.args.self.now in
    absurd (bytes_none g.row.A.Denot s.walk s.pass c.args.which c.args.at (length c.args.out.now) c.in_default.is c.requires (omega (arith, c.if-count-eq0.false)))

pub returns-in_default-clause-told : goal.returns-in_default-clause-told
returns-in_default-clause-told g c =
    let s = c.args.self.now in
    absurd (bytes_none g.row.A.Denot s.walk s.pass c.args.which c.args.at (length c.args.out.now) c.in_default.is c.requires (omega (arith, c.if-count-eq0.false)))

pub returns-in_default-clause-reliable : goal.returns-in_default-clause-reliable
returns-in_default-clause-reliable g c =
    let s = c.args.self.now in
    λ reliable. bytes_none g.row.A.Denot s.walk s.pass c.args.which c.args.at (length c.args.out.now) c.in_default.is c.requires (omega (arith, c.if-count-eq0.false))

pub returns-in-Ok-clause-shape : goal.returns-in-Ok-clause-shape
returns-in-Ok-clause-shape g c =
    let s = c.args.self.now in
    shape_stays s.walk c.read_part.new.self (aside_same c.in-Ok.ensures.reads) g.row.A.Denot s.counts.items s.rooms.items

pub returns-in-Ok-clause-cursor : goal.returns-in-Ok-clause-cursor
returns-in-Ok-clause-cursor g c =
    let s = c.args.self.now in
    cursor_stays s.walk c.read_part.new.self (aside_same c.in-Ok.ensures.reads) g.row.A.Denot s.pass

pub returns-in-Ok-clause-moves : goal.returns-in-Ok-clause-moves
returns-in-Ok-clause-moves g c =
    let s = c.args.self.now in
    moves_quiet s.walk c.read_part.new.self (aside_same c.in-Ok.ensures.reads) s.last

pub returns-in-Err-clause-shape : goal.returns-in-Err-clause-shape
returns-in-Err-clause-shape g c =
    let s = c.args.self.now in
    shape_stays s.walk c.read_part.new.self (aside_same c.in-Err.ensures.reads) g.row.A.Denot s.counts.items s.rooms.items

pub returns-in-Err-clause-moves : goal.returns-in-Err-clause-moves
returns-in-Err-clause-moves g c =
    let s = c.args.self.now in
    let of = c.in-Err.ensures.reads in
    moves_told s.walk c.read_part.new.self (aside_same of) s.last (view.Source c.in-Err.fault) (last_of c.in-Err.fault s.walk.source c.read_part.new.self.source of.told)

pub returns-in-Err-clause-told : goal.returns-in-Err-clause-told
returns-in-Err-clause-told g c =
    let s = c.args.self.now in
    let of = c.in-Err.ensures.reads in
    record { last = refl; place = fetched_place (file_cursor g.row.A.Denot s.walk s.pass).at c.in-Err.fault s.walk.source c.read_part.new.self.source of.told }

pub returns-in-Err-clause-reliable : goal.returns-in-Err-clause-reliable
returns-in-Err-clause-reliable g c =
    let s = c.args.self.now in
    reliable_read g.row.A.Denot s.walk s.counts.items s.rooms.items c.in-Err.ensures.reads
