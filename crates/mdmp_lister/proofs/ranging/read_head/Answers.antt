use Rattle.std.proofs.Common.{◌≤◌, ◌<◌, arith}
use Rattle.mdmp_lister.specs.Walk.Owing.{ranges_ahead}
use Rattle.mdmp_lister.proofs.Changing.{changed_answered, room_faulted, room_headed}
use Rattle.mdmp_lister.proofs.ranging.read_head.Goals as goal

pub returns-in_err-read_head-clause-room : goal.returns-in_err-read_head-clause-room
returns-in_err-read_head-clause-room g c = room_faulted c.args.room c.args.walk.now c.read_head.new.self c.in_err-read_head.field-0.0 c.requires.room c.in_err-read_head.ensures.read

pub returns-clause-room : goal.returns-clause-room
returns-clause-room g c =
    let fits : ranges_ahead c.read_head.new.self.stage ≤ c.args.room = omega (arith, c.ranges_ahead.ensures, c.if-ranges_ahead-room.false) in
    room_headed c.args.room c.args.walk.now c.read_head.new.self c.in_ok-read_head.ensures.read c.requires.head c.requires.room fits

pub returns-then-ranges_ahead-room-clause-read : goal.returns-then-ranges_ahead-room-clause-read
returns-then-ranges_ahead-room-clause-read g c =
    let of = c.stop_changed.ensures in
    let more : c.args.room < ranges_ahead c.read_head.new.self.stage = omega (arith, c.ranges_ahead.ensures, c.if-ranges_ahead-room.true) in
    rw of.answer (changed_answered c.args.room c.args.walk.now c.read_head.new.self c.stop_changed.new.self c.in_ok-read_head.ensures.read c.requires.head c.requires.sound c.requires.room more
    of.fault of.stops of.kind of.placed of.index of.entry)

pub returns-then-ranges_ahead-room-clause-room : goal.returns-then-ranges_ahead-room-clause-room
returns-then-ranges_ahead-room-clause-room g c =
    let of = c.stop_changed.ensures in
    let more : c.args.room < ranges_ahead c.read_head.new.self.stage = omega (arith, c.ranges_ahead.ensures, c.if-ranges_ahead-room.true) in
    room_faulted c.args.room c.args.walk.now c.stop_changed.new.self of.fault c.requires.room
    (changed_answered c.args.room c.args.walk.now c.read_head.new.self c.stop_changed.new.self c.in_ok-read_head.ensures.read c.requires.head c.requires.sound c.requires.room more
    of.fault of.stops of.kind of.placed of.index of.entry)

pub stop_changed-requires-clause-begun : goal.stop_changed-requires-clause-begun
stop_changed-requires-clause-begun g c =
    let begun : 0 < c.args.walk.now.next = rw c.requires.head at c.requires.sound.staged in
    rw c.in_ok-read_head.ensures.read.same.next begun
