use Rattle.std.proofs.Common.{◌≡◌, ◌≤◌, ◌+◌, ◌*◌, ◌^◌, arith, length, refl}
use Rattle.mdmp_lister.specs.Listed.{cost_of}
use Rattle.mdmp_lister.proofs.Numbers.{counts_held, counts_of_file, counts_spent}
use Rattle.mdmp_lister.proofs.lister.Lister.counts.Goals as goal

pub returns-clause-of_file : goal.returns-clause-of_file
returns-clause-of_file g c =
    let w = c.self.inside.walk in
    rw (← c.self.view_is, c.counts.ensures.value) (λ file known. counts_of_file w _ c.self.invariant.sound file known)

pub returns-clause-ranges : goal.returns-clause-ranges
returns-clause-ranges g c =
    let room : c.len.result + c.free.result ≡ c.self.inside.map.room = omega (arith, c.len.ensures, c.free.ensures.value, c.free.ensures.room) in
    rw (← c.self.view_is, c.counts.ensures.value, room) (λ file known. c.self.invariant.counted file known)

pub returns-clause-value : goal.returns-clause-value
returns-clause-value g c =
    let room : c.len.result + c.free.result ≡ c.self.inside.map.room = omega (arith, c.len.ensures, c.free.ensures.value, c.free.ensures.room) in
    rw (← c.self.view_is, c.counts.ensures.value, room) refl

pub returns-clause-held : goal.returns-clause-held
returns-clause-held g c =
    let w = c.self.inside.walk in
    let m = c.self.inside.map in
    let room : c.len.result + c.free.result ≡ m.room = omega (arith, c.len.ensures, c.free.ensures.value, c.free.ensures.room) in
    rw (← c.self.view_is, c.counts.ensures.value, room) (counts_held w m.room m.ranges c.self.invariant.sound (omega (arith, c.free.ensures.room)) c.counts.ensures.booked c.counts.ensures.kept)

pub returns-clause-spent : goal.returns-clause-spent
returns-clause-spent g c =
    let w = c.self.inside.walk in
    let m = c.self.inside.map in
    let room : c.len.result + c.free.result ≡ m.room = omega (arith, c.len.ensures, c.free.ensures.value, c.free.ensures.room) in
    let small : cost_of w.choice w.meter.source.size w.entries.items ≤ 2 ^ 32 * length w.entries.items = rw c.counts.ensures.value at c.counts.ensures.listed in
    rw (← c.self.view_is, c.counts.ensures.value, room) (counts_spent w m.room m.ranges c.self.invariant.sound c.self.invariant.bounded c.self.invariant.opened small c.counts.ensures.kept.within)
