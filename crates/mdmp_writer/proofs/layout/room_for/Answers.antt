use Rattle.std.proofs.Common.{◌≡◌, ◌∙◌, ap, arith}
use Rattle.mdmp_dump.specs.Shape.{ViewShape, body_of, stream_at}
use Rattle.mdmp_writer.proofs.Sums.{few_parts, room_told}
use Rattle.mdmp_writer.proofs.layout.room_for.Goals as goal

pub returns-clause-room : goal.returns-clause-room
returns-clause-room g c =
    let k = c.args.stream in
    let s = stream_at (g.V.DumpView.shape c.args.view.now) k in
    let one = c.body_size-body.ensures.shape in
    let two = c.parts_size-parts.ensures.shape ∙ one in
    let body : c.body_size-body.result ≡ body_of s = omega (arith, c.body_size-body.ensures.size, c.requires.block) in
    let parts : c.parts_size-parts.result ≡ s.parts = omega (arith, c.parts_size-parts.ensures.size, ap (λ (t : ViewShape). (stream_at t k).parts) one, few_parts s c.requires.block c.requires.far) in
    room_told s _ _ _ _ c.stream_room.ensures (c.kind-kind.ensures.kind ∙ ap (λ (t : ViewShape). (stream_at t k).kind) two) body parts
