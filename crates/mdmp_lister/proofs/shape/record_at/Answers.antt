use Rattle.std.proofs.Common.{arith}
use Rattle.mdmp_lister.proofs.Room.{record-within, stream-whole}
use Rattle.mdmp_lister.proofs.shape.record_at.Goals as goal

pub returns-clause-end : goal.returns-clause-end
returns-clause-end c =
    let a = c.args in
    rw c.from.ensures (record-within a.stream.rva a.stream.size a.kind a.shape a.index c.requires.inside.fits c.requires.left)

pub returns-clause-whole : goal.returns-clause-whole
returns-clause-whole c =
    let a = c.args in
    stream-whole a.stream.rva a.stream.size a.kind a.shape a.index c.requires.inside.fits c.requires.left a.size c.requires.inside.inside

pub returns-clause-room : goal.returns-clause-room
returns-clause-room c =
    let a = c.args in
    let end = record-within a.stream.rva a.stream.size a.kind a.shape a.index c.requires.inside.fits c.requires.left in
    let whole = stream-whole a.stream.rva a.stream.size a.kind a.shape a.index c.requires.inside.fits c.requires.left a.size c.requires.inside.inside in
    rw c.from.ensures (omega (arith, end, whole))
