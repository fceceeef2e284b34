use Rattle.std.proofs.Common.{◌≡◌, ◌<◌, ◌≤◌, ◌+◌, ◌∙◌, arith, subst, length, None, Some}
use Rattle.mdmp_dump.specs.Shape.{ViewShape, stream_at}
use Rattle.mdmp_writer.specs.Layout.{IsRoom, blocks_end, file_size}
use Rattle.mdmp_writer.proofs.Sums.{blocks_next, fars_next, blocks_none, fars_none, too_large_blocks, too_large_file, not_too_large, past_room, room_block, room_far}
use Rattle.mdmp_writer.proofs.layout.find_ends.Goals as goal

pub returns-then-block-from-clause-ends : goal.returns-then-block-from-clause-ends
returns-then-block-from-clause-ends g c =
    let s = g.V.DumpView.shape c.args.view.now in
    let k = c.loop-stream.stream in
    let fewer : k < length s.streams = omega (arith, c.loop-stream-test.true, c.streams-count.ensures.count) in
    let is : IsRoom (stream_at s k) (Some c.in-Some-room_if.room) = subst (λ (t : ViewShape). IsRoom (stream_at t k) (Some c.in-Some-room_if.room)) c.loop-stream.invariant.shape c.in-Some-room_if.ensures.room in
    too_large_blocks s.streams (omega (arith, c.block-block.ensures, room_block (stream_at s k) c.in-Some-room_if.room is, blocks_next s k fewer, c.loop-stream.invariant.blocks, c.from.ensures, c.if-block-from.true))

pub returns-then-room-far-clause-ends : goal.returns-then-room-far-clause-ends
returns-then-room-far-clause-ends g c =
    let s = g.V.DumpView.shape c.args.view.now in
    let k = c.loop-stream.stream in
    let fewer : k < length s.streams = omega (arith, c.loop-stream-test.true, c.streams-count.ensures.count) in
    let is : IsRoom (stream_at s k) (Some c.in-Some-room_if.room) = subst (λ (t : ViewShape). IsRoom (stream_at t k) (Some c.in-Some-room_if.room)) c.loop-stream.invariant.shape c.in-Some-room_if.ensures.room in
    too_large_file s.streams (omega (arith, room_far (stream_at s k) c.in-Some-room_if.room is, fars_next s k fewer, c.loop-stream.invariant.far, c.if-room-far.true))

pub returns-in-None-room_if-clause-ends : goal.returns-in-None-room_if-clause-ends
returns-in-None-room_if-clause-ends g c =
    let s = g.V.DumpView.shape c.args.view.now in
    let k = c.loop-stream.stream in
    let fewer : k < length s.streams = omega (arith, c.loop-stream-test.true, c.streams-count.ensures.count) in
    past_room s k c.loop-stream.blocks c.loop-stream.far fewer c.loop-stream.invariant.blocks c.loop-stream.invariant.far
    (subst (λ (t : ViewShape). IsRoom (stream_at t k) None) c.loop-stream.invariant.shape c.in-None-room_if.ensures.room)

pub loop-stream-preserved : goal.loop-stream-preserved
loop-stream-preserved g c =
    let s = g.V.DumpView.shape c.args.view.now in
    let k = c.loop-stream.stream in
    let fewer : k < length s.streams = omega (arith, c.loop-stream-test.true, c.streams-count.ensures.count) in
    let is : IsRoom (stream_at s k) (Some c.in-Some-room_if.room) = subst (λ (t : ViewShape). IsRoom (stream_at t k) (Some c.in-Some-room_if.room)) c.loop-stream.invariant.shape c.in-Some-room_if.ensures.room in
    record {
      shape = c.room_if.ensures.shape ∙ c.loop-stream.invariant.shape;
      cursor = c.room_if.ensures.cursor ∙ c.loop-stream.invariant.cursor;
      spent = c.room_if.ensures.spent ∙ c.loop-stream.invariant.spent;
      moves = g.met.V.DumpView.follows _ _ _ c.loop-stream.invariant.moves c.room_if.ensures.moves;
      low = omega (arith, c.from.ensures, c.if-block-from.false);
      blocks = omega (arith, c.block-block.ensures, room_block (stream_at s k) c.in-Some-room_if.room is, blocks_next s k fewer, c.loop-stream.invariant.blocks);
      far = omega (arith, room_far (stream_at s k) c.in-Some-room_if.room is, fars_next s k fewer, c.loop-stream.invariant.far);
    }

pub returns-then-far-blocks-clause-ends : goal.returns-then-far-blocks-clause-ends
returns-then-far-blocks-clause-ends g c =
    let s = g.V.DumpView.shape c.args.view.now in
    let k = c.loop-stream.stream in
    let past : length s.streams ≤ k = omega (arith, c.loop-stream-test.false, c.streams-count.ensures.count) in
    too_large_file s.streams (omega (arith, blocks_none s k past, fars_none s k past, c.loop-stream.invariant.blocks, c.loop-stream.invariant.far, c.if-far-blocks.true))

pub returns-clause-ends : goal.returns-clause-ends
returns-clause-ends g c =
    let s = g.V.DumpView.shape c.args.view.now in
    let k = c.loop-stream.stream in
    let past : length s.streams ≤ k = omega (arith, c.loop-stream-test.false, c.streams-count.ensures.count) in
    let blocks : c.loop-stream.blocks ≡ blocks_end s.streams = omega (arith, blocks_none s k past, c.loop-stream.invariant.blocks) in
    let file : c.loop-stream.blocks + c.loop-stream.far ≡ file_size s.streams = omega (arith, blocks_none s k past, fars_none s k past, c.loop-stream.invariant.blocks, c.loop-stream.invariant.far) in
    (not_too_large s.streams (omega (arith, blocks, c.loop-stream.invariant.low)) (omega (arith, file, c.if-far-blocks.false)), record { blocks = blocks; file = file })

pub returns-then-block-from-clause-moves : goal.returns-then-block-from-clause-moves
returns-then-block-from-clause-moves g c = g.met.V.DumpView.follows _ _ _ c.loop-stream.invariant.moves c.room_if.ensures.moves

pub returns-then-room-far-clause-moves : goal.returns-then-room-far-clause-moves
returns-then-room-far-clause-moves g c = g.met.V.DumpView.follows _ _ _ c.loop-stream.invariant.moves c.room_if.ensures.moves

pub returns-in-None-room_if-clause-moves : goal.returns-in-None-room_if-clause-moves
returns-in-None-room_if-clause-moves g c = g.met.V.DumpView.follows _ _ _ c.loop-stream.invariant.moves c.room_if.ensures.moves
