use Rattle.std.proofs.Common.{◌≡◌, ◌<◌, ◌≤◌, ◌+◌, ◌^◌, ◌∙◌, Some, ap, arith, refl, sym, subst, length, ℕ}
use Rattle.mdmp_dump.specs.Shape.{ViewShape, stream_at}
use Rattle.mdmp_writer.specs.Layout.{IsRoom, block_size, far_size}
use Rattle.mdmp_writer.proofs.Sending.{left_begin, left_none}
use Rattle.mdmp_writer.proofs.Streaming.{directory_none, entry_cut, entry_is, entry_put}
use Rattle.mdmp_writer.proofs.Sums.{blocks_next, ends_below, far_within, room_block, room_body}
use Rattle.mdmp_writer.proofs.Causes.{handed}
use Rattle.mdmp_writer.proofs.head_out.write_directory.Goals as goal

pub loop-stream-init : goal.loop-stream-init
loop-stream-init g c = record {
  shape = c.streams-stream-end.ensures.shape;
  spent = c.streams-stream-end.ensures.spent;
  moves = c.streams-stream-end.ensures.moves;
  steady = refl;
  at = omega (arith, c.requires.first);
  left = left_begin _ _;
}

pub room_for-room-requires-clause-block : goal.room_for-room-requires-clause-block
room_for-room-requires-clause-block g c =
    let s = g.V.DumpView.shape c.args.view.now in
    let k = c.loop-stream.stream in
    let fewer : k < length s.streams = omega (arith, c.loop-stream-test.true, c.streams-stream-end.ensures.count) in
    subst (λ (t : ViewShape). block_size (stream_at t k) < 2 ^ 33) (sym c.loop-stream.invariant.shape) (omega (arith, ends_below s k c.loop-stream.at fewer c.loop-stream.invariant.at, c.requires.low))

pub room_for-room-requires-clause-far : goal.room_for-room-requires-clause-far
room_for-room-requires-clause-far g c =
    let s = g.V.DumpView.shape c.args.view.now in
    let k = c.loop-stream.stream in
    subst (λ (t : ViewShape). far_size (stream_at t k) < 2 ^ 64) (sym c.loop-stream.invariant.shape) (omega (arith, far_within s.streams k, c.requires.short))

pub entry_at-requires-clause-body : goal.entry_at-requires-clause-body
entry_at-requires-clause-body g c =
    let s = g.V.DumpView.shape c.args.view.now in
    let k = c.loop-stream.stream in
    let fewer : k < length s.streams = omega (arith, c.loop-stream-test.true, c.streams-stream-end.ensures.count) in
    let is : IsRoom (stream_at s k) (Some c.room_for-room.result) = subst (λ (t : ViewShape). IsRoom (stream_at t k) (Some c.room_for-room.result)) c.loop-stream.invariant.shape c.room_for-room.ensures.room in
    omega (arith, room_body (stream_at s k) c.room_for-room.result is, ends_below s k c.loop-stream.at fewer c.loop-stream.invariant.at, c.requires.low)

pub block-at-requires : goal.block-at-requires
block-at-requires g c =
    let s = g.V.DumpView.shape c.args.view.now in
    let k = c.loop-stream.stream in
    let fewer : k < length s.streams = omega (arith, c.loop-stream-test.true, c.streams-stream-end.ensures.count) in
    let is : IsRoom (stream_at s k) (Some c.room_for-room.result) = subst (λ (t : ViewShape). IsRoom (stream_at t k) (Some c.room_for-room.result)) c.loop-stream.invariant.shape c.room_for-room.ensures.room in
    omega (arith, room_block (stream_at s k) c.room_for-room.result is, ends_below s k c.loop-stream.at fewer c.loop-stream.invariant.at, c.requires.low)

pub overflow_add-at : goal.overflow_add-at
overflow_add-at g c =
    let s = g.V.DumpView.shape c.args.view.now in
    let k = c.loop-stream.stream in
    let fewer : k < length s.streams = omega (arith, c.loop-stream-test.true, c.streams-stream-end.ensures.count) in
    let is : IsRoom (stream_at s k) (Some c.room_for-room.result) = subst (λ (t : ViewShape). IsRoom (stream_at t k) (Some c.room_for-room.result)) c.loop-stream.invariant.shape c.room_for-room.ensures.room in
    omega (arith, c.block-at.ensures, room_block (stream_at s k) c.room_for-room.result is, ends_below s k c.loop-stream.at fewer c.loop-stream.invariant.at, c.requires.low)

pub returns-in_err-write_record-clause-writes : goal.returns-in_err-write_record-clause-writes
returns-in_err-write_record-clause-writes g c =
    let s = g.V.DumpView.shape c.args.view.now in
    let k = c.loop-stream.stream in
    let at = c.loop-stream.at in
    let fewer : k < length s.streams = omega (arith, c.loop-stream-test.true, c.streams-stream-end.ensures.count) in
    let is : IsRoom (stream_at s k) (Some c.room_for-room.result) = subst (λ (t : ViewShape). IsRoom (stream_at t k) (Some c.room_for-room.result)) c.loop-stream.invariant.shape c.room_for-room.ensures.room in
    rw (handed c.from_residual.result _ c.from_residual.ensures.1) (entry_cut s k at c.entry_at.result _ _ _ _ fewer (entry_is (stream_at s k) c.room_for-room.result at c.entry_at.result is c.entry_at.ensures) c.loop-stream.invariant.left c.in_err-write_record.ensures.writes)

pub loop-stream-preserved : goal.loop-stream-preserved
loop-stream-preserved g c =
    let s = g.V.DumpView.shape c.args.view.now in
    let k = c.loop-stream.stream in
    let at = c.loop-stream.at in
    let fewer : k < length s.streams = omega (arith, c.loop-stream-test.true, c.streams-stream-end.ensures.count) in
    let is : IsRoom (stream_at s k) (Some c.room_for-room.result) = subst (λ (t : ViewShape). IsRoom (stream_at t k) (Some c.room_for-room.result)) c.loop-stream.invariant.shape c.room_for-room.ensures.room in
    let block : c.block-at.result ≡ block_size (stream_at s k) = c.block-at.ensures ∙ room_block (stream_at s k) c.room_for-room.result is in
    record {
      shape = c.room_for-room.ensures.shape ∙ c.loop-stream.invariant.shape;
      spent = c.room_for-room.ensures.spent ∙ c.loop-stream.invariant.spent;
      moves = g.met.V.DumpView.follows _ _ _ c.loop-stream.invariant.moves c.room_for-room.ensures.moves;
      steady = c.in_ok-write_record.ensures.cause ∙ c.loop-stream.invariant.steady;
      at = omega (arith, block, blocks_next s k fewer, c.loop-stream.invariant.at);
      left = entry_put s k at _ c.entry_at.result _ _ _ _ fewer (entry_is (stream_at s k) c.room_for-room.result at c.entry_at.result is c.entry_at.ensures) (ap (λ (n : ℕ). at + n) block) c.loop-stream.invariant.left c.in_ok-write_record.ensures.writes;
    }

pub returns-clause-writes : goal.returns-clause-writes
returns-clause-writes g c =
    let s = g.V.DumpView.shape c.args.view.now in
    let past : length s.streams ≤ c.loop-stream.stream = omega (arith, c.loop-stream-test.false, c.streams-stream-end.ensures.count) in
    left_none _ _ _ _ (directory_none s c.loop-stream.stream c.loop-stream.at past) c.loop-stream.invariant.left

pub returns-in_err-write_record-clause-moves : goal.returns-in_err-write_record-clause-moves
returns-in_err-write_record-clause-moves g c = g.met.V.DumpView.follows _ _ _ c.loop-stream.invariant.moves c.room_for-room.ensures.moves
