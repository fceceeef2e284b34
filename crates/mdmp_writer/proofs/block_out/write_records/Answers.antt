use Rattle.std.proofs.Common.{◌≡◌, ◌+◌, ◌*◌, ◌∙◌, ◌++◌, ℕ, Option, Some, ap, length, refl, sym, arith}
use Rattle.mdmp_lister.specs.declared.kind.StreamKind.{StreamKind}
use Rattle.mdmp_lister.specs.Format.Kind.{kind_of}
use Rattle.mdmp_dump.specs.Places.{up}
use Rattle.mdmp_dump.specs.Shape.{ViewShape, body_of, head_by, room_of, row_by, seen_at, stream_at}
use Rattle.mdmp_dump.specs.View.{DumpSeen}
use Rattle.mdmp_writer.specs.Gather.{gathered}
use Rattle.mdmp_writer.specs.Layout.{block_size}
use Rattle.mdmp_writer.specs.Passes.{parts_asks, parts_passes}
use Rattle.mdmp_writer.specs.Written.{all_padded, block_text, head_by_kind, padding, parts_of, rows}
use Rattle.mdmp_writer.proofs.Blocks.{block_known, known_size}
use Rattle.mdmp_writer.proofs.Causes.{handed, uses_out, uses_sent, uses_then, uses_within}
use Rattle.mdmp_writer.proofs.Counting.{ok_is, ok_then, some_is, some_of, some_then}
use Rattle.mdmp_writer.proofs.Placing.{length-padding}
use Rattle.mdmp_writer.proofs.Sending.{cut_before, cut_behind, cut_same, puts_puts, writes_same, writes_then}
use Rattle.mdmp_writer.proofs.Sums.{room_body, room_parts}
use Rattle.mdmp_writer.proofs.block_out.write_records.Given.{Over}
use Rattle.mdmp_writer.proofs.block_out.write_records.Goals.{After-write_body}
use Rattle.mdmp_writer.proofs.block_out.write_records.Goals as goal

-- so many records
counted : (g : Over) (c : After-write_body g) → c.count_of-count.result ≡ (stream_at (g.V.DumpView.shape c.args.view.now) c.args.stream).records
counted g c =
    let s = stream_at (g.V.DumpView.shape c.args.view.now) c.args.stream in
    let kind : c.of_type-kind.result ≡ kind_of c.args.stream_type = c.of_type-kind.ensures in
    c.count_of-count.ensures.count s.records (room_body s c.args.room c.requires.room ∙ known_size s c.args.stream_type c.requires.kind ∙ ap (λ (o : Option StreamKind). head_by o + s.records * row_by o) (sym kind))

-- what is written, in the order of the calls
is_block : (g : Over) (c : After-write_body g) (x : DumpSeen) → (g.V.DumpView.shape c.args.view.now).seen ≡ Some x
    → block_text (seen_at x c.args.stream) c.args.place.at c.args.place.far
    ≡ (head_by_kind c.of_type-kind.result c.count_of-count.result c.args.place.far ++ rows (c.args.place.at + c.next_multiple_of.result) (seen_at x c.args.stream).records)
    ++ padding c.args.room.body ++ all_padded (parts_of (seen_at x c.args.stream).records)
is_block g c x known =
    let s = g.V.DumpView.shape c.args.view.now in
    let k = c.args.stream in
    let t = c.args.stream_type in
    block_known s x k t c.of_type-kind.result c.args.place.at c.args.place.far c.args.room.body c.count_of-count.result (c.args.place.at + c.next_multiple_of.result)
    (g.met.V.DumpView.sound c.args.view.now x known) c.requires.kind c.of_type-kind.ensures (room_body (stream_at s k) c.args.room c.requires.room) (counted g c) (omega (arith, c.next_multiple_of.ensures.value))

pub returns-clause-writes : goal.returns-clause-writes
returns-clause-writes g c x known =
    let state = g.O.Out.state in
    let zeros = padding c.args.room.body in
    writes_same c.write_stream_parts.result (gathered (state c.args.out.now) c.args.gather.now) (gathered (state c.write_stream_parts.new.out) c.write_stream_parts.new.gather) _ _
    (is_block g (goal.at.returns-clause-writes g c).After-write_body x known)
    (writes_then c.write_stream_parts.result _ _ _ (_ ++ zeros) (all_padded (parts_of (seen_at x c.args.stream).records))
    (puts_puts _ _ _ _ zeros (c.in_ok-write_body.ensures.writes x known) c.in_ok-write_padding.ensures.writes)
    (c.write_stream_parts.ensures.writes x (ap (λ (s : ViewShape). s.seen) c.write_body.ensures.uses.shape ∙ known)))

pub returns-in_err-write_padding-clause-writes : goal.returns-in_err-write_padding-clause-writes
returns-in_err-write_padding-clause-writes g c x known =
    rw (handed c.from_residual-in_err-write_padding.result _ c.from_residual-in_err-write_padding.ensures.1) (cut_same _ _ _ _ (is_block g (goal.at.returns-in_err-write_padding-clause-writes g c).After-write_body x known)
    (cut_before _ _ _ _ (cut_behind _ _ _ _ (padding c.args.room.body) (c.in_ok-write_body.ensures.writes x known) c.in_err-write_padding.ensures.writes)))

pub returns-in_err-write_body-clause-writes : goal.returns-in_err-write_body-clause-writes
returns-in_err-write_body-clause-writes g c x known =
    rw (handed c.from_residual.result _ c.from_residual.ensures.1) (cut_same _ _ _ _ (is_block g (goal.at.returns-in_err-write_body-clause-writes g c).After-write_body x known)
    (cut_before _ _ _ _ (cut_before _ _ _ (padding c.args.room.body) (c.in_err-write_body.ensures.writes x known))))

pub returns-clause-some : goal.returns-clause-some
returns-clause-some g c =
    let s = stream_at (g.V.DumpView.shape c.args.view.now) c.args.stream in
    let t = c.args.stream_type in
    let kind = c.of_type-kind.result in
    let size = c.args.room.body in
    let told : size ≡ body_of s = room_body s c.args.room c.requires.room in
    let count = counted g (goal.at.returns-clause-some g c).After-write_body in
    let body : head_by kind + c.count_of-count.result * row_by kind ≡ size =
    ap (λ (m : ℕ). head_by kind + m * row_by kind) count ∙ ap (λ (o : Option StreamKind). head_by o + s.records * row_by o) c.of_type-kind.ensures ∙ sym (known_size s t c.requires.kind) ∙ sym told in
    let rest = length (padding size) in
    let whole : size + rest ≡ up (body_of s) = length-padding size ∙ ap up told in
    let front = some_then _ _ _ size rest (some_is _ _ _ size body (c.in_ok-write_body.ensures.some t c.requires.kind c.of_type-kind.ensures)) (some_of _ _ (padding size) rest c.in_ok-write_padding.ensures.writes refl) in
    ok_then c.write_stream_parts.result _ _ _ (size + rest) (room_of s) (block_size s) (ap (λ (m : ℕ). m + room_of s) whole) front
    (ok_is c.write_stream_parts.result _ _ _ _ (ap (λ (u : ViewShape). room_of (stream_at u c.args.stream)) c.write_body.ensures.uses.shape) c.write_stream_parts.ensures.some)

pub returns-clause-uses : goal.returns-clause-uses
returns-clause-uses g c =
    let k = c.args.stream in
    let same = c.write_body.ensures.uses.shape in
    uses_then (uses_sent c.in_ok-write_body.ensures.uses c.in_ok-write_padding.ensures.cause) c.write_stream_parts.ensures.uses
    (omega (arith, ap (λ (u : ViewShape). parts_passes u k) same)) (omega (arith, ap (λ (u : ViewShape). parts_asks u k) same))

pub returns-in_err-write_padding-clause-uses : goal.returns-in_err-write_padding-clause-uses
returns-in_err-write_padding-clause-uses g c =
    rw (handed c.from_residual-in_err-write_padding.result _ c.from_residual-in_err-write_padding.ensures.1) (uses_within (uses_out c.in_ok-write_body.ensures.uses c.in_err-write_padding.ensures.cause) (omega arith) (omega arith))

pub returns-in_err-write_body-clause-uses : goal.returns-in_err-write_body-clause-uses
returns-in_err-write_body-clause-uses g c = rw (handed c.from_residual.result _ c.from_residual.ensures.1) (uses_within c.in_err-write_body.ensures.uses (omega arith) (omega arith))

pub write_body-requires-clause-count : goal.write_body-requires-clause-count
write_body-requires-clause-count g c =
    let s = stream_at (g.V.DumpView.shape c.args.view.now) c.args.stream in
    let kind : c.of_type-kind.result ≡ kind_of c.args.stream_type = c.of_type-kind.ensures in
    c.count_of-count.ensures.count s.records (room_body s c.args.room c.requires.room ∙ known_size s c.args.stream_type c.requires.kind ∙ ap (λ (o : Option StreamKind). head_by o + s.records * row_by o) (sym kind))

pub write_stream_parts-requires-clause-parts : goal.write_stream_parts-requires-clause-parts
write_stream_parts-requires-clause-parts g c =
    let k = c.args.stream in
    room_parts (stream_at (g.V.DumpView.shape c.args.view.now) k) c.args.room c.requires.room ∙ ap (λ (u : ViewShape). room_of (stream_at u k)) (sym c.write_body.ensures.uses.shape)

pub returns-clause-moves : goal.returns-clause-moves
returns-clause-moves g c = g.met.V.DumpView.follows _ _ _ c.in_ok-write_body.ensures.moves c.write_stream_parts.ensures.moves
