use Rattle.std.proofs.Common.{◌≡◌, ◌∙◌, sym, ap, arith, true, false}
use Rattle.mdmp_dump.specs.Shape.{ViewShape, stream_at}
use Rattle.mdmp_writer.specs.Layout.{is_misnamed}
use Rattle.mdmp_writer.proofs.Sums.{misnamed_here, misnamed_later, misnamed_none}
use Rattle.mdmp_writer.proofs.layout.misnamed_stream.Goals as goal

pub returns-then-is_misnamed-clause-first : goal.returns-then-is_misnamed-clause-first
returns-then-is_misnamed-clause-first g c =
    let s = g.V.DumpView.shape c.args.view.now in
    let is : is_misnamed (stream_at s c.loop-stream.stream).kind ≡ true = ap (λ (t : ViewShape). is_misnamed (stream_at t c.loop-stream.stream).kind) (sym c.loop-stream.invariant.shape) ∙ ap is_misnamed (sym c.kind.ensures.kind) ∙ sym c.is_misnamed.ensures ∙ c.if-is_misnamed.true in
    sym (misnamed_here s c.loop-stream.stream (omega (arith, c.loop-stream-test.true, c.streams-stream-end.ensures.count)) is) ∙ c.loop-stream.invariant.first

pub loop-stream-preserved : goal.loop-stream-preserved
loop-stream-preserved g c =
    let s = g.V.DumpView.shape c.args.view.now in
    let is : is_misnamed (stream_at s c.loop-stream.stream).kind ≡ false = ap (λ (t : ViewShape). is_misnamed (stream_at t c.loop-stream.stream).kind) (sym c.loop-stream.invariant.shape) ∙ ap is_misnamed (sym c.kind.ensures.kind) ∙ sym c.is_misnamed.ensures ∙ c.if-is_misnamed.false in
    record {
      shape = c.kind.ensures.shape ∙ c.loop-stream.invariant.shape;
      cursor = c.kind.ensures.cursor ∙ c.loop-stream.invariant.cursor;
      spent = c.kind.ensures.spent ∙ c.loop-stream.invariant.spent;
      moves = g.met.V.DumpView.follows _ _ _ c.loop-stream.invariant.moves c.kind.ensures.moves;
      first = sym (misnamed_later s c.loop-stream.stream (omega (arith, c.loop-stream-test.true, c.streams-stream-end.ensures.count)) is) ∙ c.loop-stream.invariant.first;
    }

pub returns-clause-first : goal.returns-clause-first
returns-clause-first g c =
    let s = g.V.DumpView.shape c.args.view.now in
    sym (misnamed_none s c.loop-stream.stream (omega (arith, c.loop-stream-test.false, c.streams-stream-end.ensures.count))) ∙ c.loop-stream.invariant.first
