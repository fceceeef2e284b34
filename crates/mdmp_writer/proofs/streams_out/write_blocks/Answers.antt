use Rattle.std.proofs.Common.{◌≡◌, ◌<◌, ◌≤◌, ◌+◌, ◌^◌, ◌∙◌, ℕ, Some, ap, arith, sym, subst, length}
use Rattle.mdmp_dump.specs.Shape.{ViewShape, stream_at}
use Rattle.mdmp_writer.specs.Layout.{IsRoom, block_size, blocks_size, far_size}
use Rattle.mdmp_writer.specs.Passes.{block_asks, block_passes}
use Rattle.mdmp_writer.proofs.Causes.{handed, uses_asked, uses_none, uses_then, uses_within}
use Rattle.mdmp_writer.proofs.Counting.{come_begin, come_next, come_none, some_is}
use Rattle.mdmp_writer.proofs.Passing.{sum_more, sum_next, sum_with}
use Rattle.mdmp_writer.proofs.Sending.{left_begin, left_none}
use Rattle.mdmp_writer.proofs.Streaming.{blocks_none, block_cut, block_put}
use Rattle.mdmp_writer.proofs.Sums.{blocks_next, blocks_none as none_left, ends_below, far_within, fars_next, room_block, room_far}
use Rattle.mdmp_writer.proofs.streams_out.write_blocks.Goals as goal

pub loop-stream-init : goal.loop-stream-init
loop-stream-init g c = record {
  uses = uses_within (uses_asked uses_none c.streams-stream-end.ensures.shape c.streams-stream-end.ensures.spent) (omega arith) (omega arith);
  moves = c.streams-stream-end.ensures.moves;
  at = omega (arith, c.requires.at);
  far = omega (arith, c.requires.far);
  come = come_begin _ _;
  left = λ x known all. left_begin _ _;
}

pub room_for-room-requires-clause-block : goal.room_for-room-requires-clause-block
room_for-room-requires-clause-block g c =
    let s = g.V.DumpView.shape c.args.view.now in
    let k = c.loop-stream.stream in
    let fewer : k < length s.streams = omega (arith, c.loop-stream-test.true, c.streams-stream-end.ensures.count) in
    subst (λ (t : ViewShape). block_size (stream_at t k) < 2 ^ 33) (sym c.loop-stream.invariant.uses.shape) (omega (arith, ends_below s k c.loop-stream.at fewer c.loop-stream.invariant.at, c.requires.low))

pub room_for-room-requires-clause-far : goal.room_for-room-requires-clause-far
room_for-room-requires-clause-far g c =
    let s = g.V.DumpView.shape c.args.view.now in
    let k = c.loop-stream.stream in
    subst (λ (t : ViewShape). far_size (stream_at t k) < 2 ^ 64) (sym c.loop-stream.invariant.uses.shape) (omega (arith, far_within s.streams k, c.requires.short))

pub write_block-requires-clause-low : goal.write_block-requires-clause-low
write_block-requires-clause-low g c =
    let s = g.V.DumpView.shape c.args.view.now in
    let k = c.loop-stream.stream in
    let fewer : k < length s.streams = omega (arith, c.loop-stream-test.true, c.streams-stream-end.ensures.count) in
    subst (λ (t : ViewShape). c.loop-stream.at + block_size (stream_at t k) < 2 ^ 32) (sym (c.room_for-room.ensures.shape ∙ c.loop-stream.invariant.uses.shape)) (omega (arith, ends_below s k c.loop-stream.at fewer c.loop-stream.invariant.at, c.requires.low))

pub returns-in_err-write_block-clause-writes : goal.returns-in_err-write_block-clause-writes
returns-in_err-write_block-clause-writes g c x known all =
    let s = g.V.DumpView.shape c.args.view.now in
    let k = c.loop-stream.stream in
    let fewer : k < length s.streams = omega (arith, c.loop-stream-test.true, c.streams-stream-end.ensures.count) in
    rw (handed c.from_residual.result _ c.from_residual.ensures.1) (block_cut s x k c.loop-stream.at c.loop-stream.far _ _ _ _ (g.met.V.DumpView.sound c.args.view.now x known) fewer (c.loop-stream.invariant.left x known all)
    (c.in_err-write_block.ensures.writes x (ap (λ (t : ViewShape). t.seen) (c.room_for-room.ensures.shape ∙ c.loop-stream.invariant.uses.shape) ∙ known) (all k)))

pub loop-stream-preserved : goal.loop-stream-preserved
loop-stream-preserved g c =
    let s = g.V.DumpView.shape c.args.view.now in
    let k = c.loop-stream.stream in
    let fewer : k < length s.streams = omega (arith, c.loop-stream-test.true, c.streams-stream-end.ensures.count) in
    let is : IsRoom (stream_at s k) (Some c.room_for-room.result) = subst (λ (t : ViewShape). IsRoom (stream_at t k) (Some c.room_for-room.result)) c.loop-stream.invariant.uses.shape c.room_for-room.ensures.room in
    let block : c.block-at.result ≡ block_size (stream_at s k) = c.block-at.ensures ∙ room_block (stream_at s k) c.room_for-room.result is in
    let far : c.room_for-room.result.far ≡ far_size (stream_at s k) = room_far (stream_at s k) c.room_for-room.result is in
    record {
      uses = uses_then (uses_asked c.loop-stream.invariant.uses c.room_for-room.ensures.shape c.room_for-room.ensures.spent) c.in_ok-write_block.ensures.uses
          (omega (arith, ap (λ (t : ViewShape). block_passes t k) (c.room_for-room.ensures.shape ∙ c.loop-stream.invariant.uses.shape), sum_next (block_passes s) k)) (omega (arith, ap (λ (t : ViewShape). block_asks t k) (c.room_for-room.ensures.shape ∙ c.loop-stream.invariant.uses.shape), sum_next (block_asks s) k));
      moves = g.met.V.DumpView.follows _ _ _ c.loop-stream.invariant.moves (g.met.V.DumpView.follows _ _ _ c.room_for-room.ensures.moves c.in_ok-write_block.ensures.moves);
      at = omega (arith, block, blocks_next s k fewer, c.loop-stream.invariant.at);
      far = omega (arith, far, fars_next s k fewer, c.loop-stream.invariant.far);
      come = come_next _ _ _ _ _ (block_size (stream_at s k)) _ (blocks_next s k fewer) c.loop-stream.invariant.come
          (some_is _ _ _ _ (ap (λ (t : ViewShape). block_size (stream_at t k)) (c.room_for-room.ensures.shape ∙ c.loop-stream.invariant.uses.shape)) c.in_ok-write_block.ensures.some);
      left = λ x known all. block_put s x k c.loop-stream.at c.loop-stream.far _ _ _ _ _ _ (g.met.V.DumpView.sound c.args.view.now x known) fewer (ap (λ (n : ℕ). c.loop-stream.at + n) block) (ap (λ (n : ℕ). c.loop-stream.far + n) far)
          (c.loop-stream.invariant.left x known all) (c.in_ok-write_block.ensures.writes x (ap (λ (t : ViewShape). t.seen) (c.room_for-room.ensures.shape ∙ c.loop-stream.invariant.uses.shape) ∙ known) (all k));
    }

pub returns-clause-writes : goal.returns-clause-writes
returns-clause-writes g c x known all =
    let s = g.V.DumpView.shape c.args.view.now in
    let past : length s.streams ≤ c.loop-stream.stream = omega (arith, c.loop-stream-test.false, c.streams-stream-end.ensures.count) in
    left_none _ _ _ _ (blocks_none s x c.loop-stream.stream c.loop-stream.at c.loop-stream.far (g.met.V.DumpView.sound c.args.view.now x known) past) (c.loop-stream.invariant.left x known all)

pub overflow_add-at : goal.overflow_add-at
overflow_add-at g c =
    let s = g.V.DumpView.shape c.args.view.now in
    let k = c.loop-stream.stream in
    let fewer : k < length s.streams = omega (arith, c.loop-stream-test.true, c.streams-stream-end.ensures.count) in
    let is : IsRoom (stream_at s k) (Some c.room_for-room.result) = subst (λ (t : ViewShape). IsRoom (stream_at t k) (Some c.room_for-room.result)) c.loop-stream.invariant.uses.shape c.room_for-room.ensures.room in
    let block : c.block-at.result ≡ block_size (stream_at s k) = c.block-at.ensures ∙ room_block (stream_at s k) c.room_for-room.result is in
    omega (arith, block, ends_below s k c.loop-stream.at fewer c.loop-stream.invariant.at, c.requires.low)

pub overflow_add-far : goal.overflow_add-far
overflow_add-far g c =
    let s = g.V.DumpView.shape c.args.view.now in
    let k = c.loop-stream.stream in
    let fewer : k < length s.streams = omega (arith, c.loop-stream-test.true, c.streams-stream-end.ensures.count) in
    let is : IsRoom (stream_at s k) (Some c.room_for-room.result) = subst (λ (t : ViewShape). IsRoom (stream_at t k) (Some c.room_for-room.result)) c.loop-stream.invariant.uses.shape c.room_for-room.ensures.room in
    let far : c.room_for-room.result.far ≡ far_size (stream_at s k) = room_far (stream_at s k) c.room_for-room.result is in
    omega (arith, far, fars_next s k fewer, c.loop-stream.invariant.far, c.requires.short)

pub returns-in_err-write_block-clause-moves : goal.returns-in_err-write_block-clause-moves
returns-in_err-write_block-clause-moves g c =
    g.met.V.DumpView.follows _ _ _ c.loop-stream.invariant.moves (g.met.V.DumpView.follows _ _ _ c.room_for-room.ensures.moves c.in_err-write_block.ensures.moves)

pub returns-clause-some : goal.returns-clause-some
returns-clause-some g c =
    let s = g.V.DumpView.shape c.args.view.now in
    let past : length s.streams ≤ c.loop-stream.stream = omega (arith, c.loop-stream-test.false, c.streams-stream-end.ensures.count) in
    come_none _ _ (blocks_size s.streams) _ (none_left s c.loop-stream.stream past) c.loop-stream.invariant.come

pub returns-in_err-write_block-clause-uses : goal.returns-in_err-write_block-clause-uses
returns-in_err-write_block-clause-uses g c =
    let s = g.V.DumpView.shape c.args.view.now in
    let k = c.loop-stream.stream in
    let n = length s.streams in
    let fewer : k < n = omega (arith, c.loop-stream-test.true, c.streams-stream-end.ensures.count) in
    rw (handed c.from_residual.result _ c.from_residual.ensures.1) (uses_then (uses_asked c.loop-stream.invariant.uses c.room_for-room.ensures.shape c.room_for-room.ensures.spent) c.in_err-write_block.ensures.uses
    (omega (arith, ap (λ (t : ViewShape). block_passes t k) (c.room_for-room.ensures.shape ∙ c.loop-stream.invariant.uses.shape), sum_with (block_passes s) k n fewer)) (omega (arith, ap (λ (t : ViewShape). block_asks t k) (c.room_for-room.ensures.shape ∙ c.loop-stream.invariant.uses.shape), sum_with (block_asks s) k n fewer)))

pub returns-clause-uses : goal.returns-clause-uses
returns-clause-uses g c =
    let s = g.V.DumpView.shape c.args.view.now in
    let k = c.loop-stream.stream in
    let n = length s.streams in
    let fewer : k ≤ n = omega (arith, c.streams-stream-end.ensures.count) in
    uses_within c.loop-stream.invariant.uses (sum_more (block_passes s) k n fewer) (sum_more (block_asks s) k n fewer)

pub write_block-requires-clause-room : goal.write_block-requires-clause-room
write_block-requires-clause-room g c =
    subst (λ (t : ViewShape). IsRoom (stream_at t c.loop-stream.stream) (Some c.room_for-room.result)) (sym c.room_for-room.ensures.shape) c.room_for-room.ensures.room

pub block-at-requires : goal.block-at-requires
block-at-requires g c =
    let s = g.V.DumpView.shape c.args.view.now in
    let k = c.loop-stream.stream in
    let fewer : k < length s.streams = omega (arith, c.loop-stream-test.true, c.streams-stream-end.ensures.count) in
    let is : IsRoom (stream_at s k) (Some c.room_for-room.result) = subst (λ (t : ViewShape). IsRoom (stream_at t k) (Some c.room_for-room.result)) c.loop-stream.invariant.uses.shape c.room_for-room.ensures.room in
    omega (arith, room_block (stream_at s k) c.room_for-room.result is, ends_below s k c.loop-stream.at fewer c.loop-stream.invariant.at, c.requires.low)
