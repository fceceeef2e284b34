use Rattle.std.proofs.Common.{arith, ap, ◌≡◌, ◌≤◌, ◌+◌, length, take, drop, vec_capacity, vec_len}
use Rattle.mdmp_source.proofs.Held.{length-held, held_less, window_of}
use Rattle.mdmp_source.proofs.window.Window.consume.Goals as goal

pub returns : goal.returns
returns g c =
    let w = c.self.inside in
    let all = w.buffer.items in
    let held_len : length (take w.len (drop w.first all)) ≡ w.len = length-held all w.first w.len (omega (arith, w.buffer.ok.0, c.self.invariant.0)) in
    let same : length (take w.len (drop w.first all)) ≡ length c.args.self.now.held = ap (λ v. length v.held) c.self.view_is in
    let few : c.args.count ≤ w.len = omega (arith, c.requires, same, held_len) in
    rw (← c.self.view_is) (ap (window_of (w.place + c.args.count) w.end (vec_capacity w.buffer) (vec_len w.buffer)) (held_less all w.first w.len c.args.count few))
