use Rattle.std.proofs.Common.{◌<◌, ◌≤◌, ◌^◌, ◌∙◌, ap, arith, sym, subst, length}
use Rattle.mdmp_dump.specs.Shape.{ViewShape, body_of, stream_at}
use Rattle.mdmp_writer.specs.Layout.{far_size, fars_size}
use Rattle.mdmp_writer.specs.Passes.{far_asks, far_passes}
use Rattle.mdmp_writer.proofs.Causes.{handed, uses_asked, uses_none, uses_then, uses_within}
use Rattle.mdmp_writer.proofs.Counting.{come_begin, come_next, come_none, some_is}
use Rattle.mdmp_writer.proofs.Passing.{sum_more, sum_next, sum_with}
use Rattle.mdmp_writer.proofs.Sending.{left_begin, left_none}
use Rattle.mdmp_writer.proofs.Streaming.{fars_none, far_cut, far_put}
use Rattle.mdmp_writer.proofs.Sums.{block_within, far_within, fars_next, fars_none as none_left}
use Rattle.mdmp_writer.proofs.streams_out.write_fars.Goals as goal

pub loop-stream-init : goal.loop-stream-init
loop-stream-init g c = record {
  uses = uses_within (uses_asked uses_none c.streams-stream-end.ensures.shape c.streams-stream-end.ensures.spent) (omega arith) (omega arith);
  moves = c.streams-stream-end.ensures.moves;
  come = come_begin _ _;
  left = λ x known. left_begin _ _;
}

pub write_far-requires-clause-room : goal.write_far-requires-clause-room
write_far-requires-clause-room g c =
    let s = g.V.DumpView.shape c.args.view.now in
    let k = c.loop-stream.stream in
    subst (λ (t : ViewShape). far_size (stream_at t k) < 2 ^ 64) (sym c.loop-stream.invariant.uses.shape) (omega (arith, far_within s.streams k, c.requires.short))

pub returns-in_err-write_far-clause-writes : goal.returns-in_err-write_far-clause-writes
returns-in_err-write_far-clause-writes g c x known =
    let s = g.V.DumpView.shape c.args.view.now in
    let k = c.loop-stream.stream in
    let fewer : k < length s.streams = omega (arith, c.loop-stream-test.true, c.streams-stream-end.ensures.count) in
    rw (handed c.from_residual.result _ c.from_residual.ensures.1) (far_cut s x k _ _ _ _ (g.met.V.DumpView.sound c.args.view.now x known) fewer (c.loop-stream.invariant.left x known) (c.in_err-write_far.ensures.writes x (ap (λ (t : ViewShape). t.seen) c.loop-stream.invariant.uses.shape ∙ known)))

pub loop-stream-preserved : goal.loop-stream-preserved
loop-stream-preserved g c =
    let s = g.V.DumpView.shape c.args.view.now in
    let k = c.loop-stream.stream in
    let fewer : k < length s.streams = omega (arith, c.loop-stream-test.true, c.streams-stream-end.ensures.count) in
    record {
      uses = uses_then c.loop-stream.invariant.uses c.in_ok-write_far.ensures.uses
          (omega (arith, ap (λ (t : ViewShape). far_passes t k) c.loop-stream.invariant.uses.shape, sum_next (far_passes s) k)) (omega (arith, ap (λ (t : ViewShape). far_asks t k) c.loop-stream.invariant.uses.shape, sum_next (far_asks s) k));
      moves = g.met.V.DumpView.follows _ _ _ c.loop-stream.invariant.moves c.in_ok-write_far.ensures.moves;
      come = come_next _ _ _ _ _ (far_size (stream_at s k)) _ (fars_next s k fewer) c.loop-stream.invariant.come
          (some_is _ _ _ _ (ap (λ (t : ViewShape). far_size (stream_at t k)) (c.loop-stream.invariant.uses.shape)) c.in_ok-write_far.ensures.some);
      left = λ x known. far_put s x k _ _ _ _ (g.met.V.DumpView.sound c.args.view.now x known) fewer (c.loop-stream.invariant.left x known) (c.in_ok-write_far.ensures.writes x (ap (λ (t : ViewShape). t.seen) c.loop-stream.invariant.uses.shape ∙ known));
    }

pub returns-clause-writes : goal.returns-clause-writes
returns-clause-writes g c x known =
    let s = g.V.DumpView.shape c.args.view.now in
    let past : length s.streams ≤ c.loop-stream.stream = omega (arith, c.loop-stream-test.false, c.streams-stream-end.ensures.count) in
    left_none _ _ _ _ (fars_none s x c.loop-stream.stream (g.met.V.DumpView.sound c.args.view.now x known) past) (c.loop-stream.invariant.left x known)

pub write_far-requires-clause-body : goal.write_far-requires-clause-body
write_far-requires-clause-body g c =
    let s = g.V.DumpView.shape c.args.view.now in
    let k = c.loop-stream.stream in
    subst (λ (t : ViewShape). body_of (stream_at t k) < 2 ^ 32) (sym c.loop-stream.invariant.uses.shape) (omega (arith, block_within s.streams k, c.requires.low))

pub returns-in_err-write_far-clause-moves : goal.returns-in_err-write_far-clause-moves
returns-in_err-write_far-clause-moves g c = g.met.V.DumpView.follows _ _ _ c.loop-stream.invariant.moves c.in_err-write_far.ensures.moves

pub returns-clause-some : goal.returns-clause-some
returns-clause-some g c =
    let s = g.V.DumpView.shape c.args.view.now in
    let past : length s.streams ≤ c.loop-stream.stream = omega (arith, c.loop-stream-test.false, c.streams-stream-end.ensures.count) in
    come_none _ _ (fars_size s.streams) _ (none_left s c.loop-stream.stream past) c.loop-stream.invariant.come

pub returns-in_err-write_far-clause-uses : goal.returns-in_err-write_far-clause-uses
returns-in_err-write_far-clause-uses g c =
    let s = g.V.DumpView.shape c.args.view.now in
    let k = c.loop-stream.stream in
    let n = length s.streams in
    let fewer : k < n = omega (arith, c.loop-stream-test.true, c.streams-stream-end.ensures.count) in
    rw (handed c.from_residual.result _ c.from_residual.ensures.1) (uses_then c.loop-stream.invariant.uses c.in_err-write_far.ensures.uses
    (omega (arith, ap (λ (t : ViewShape). far_passes t k) c.loop-stream.invariant.uses.shape, sum_with (far_passes s) k n fewer)) (omega (arith, ap (λ (t : ViewShape). far_asks t k) c.loop-stream.invariant.uses.shape, sum_with (far_asks s) k n fewer)))

pub returns-clause-uses : goal.returns-clause-uses
returns-clause-uses g c =
    let s = g.V.DumpView.shape c.args.view.now in
    let k = c.loop-stream.stream in
    let n = length s.streams in
    let fewer : k ≤ n = omega (arith, c.streams-stream-end.ensures.count) in
    uses_within c.loop-stream.invariant.uses (sum_more (far_passes s) k n fewer) (sum_more (far_asks s) k n fewer)
