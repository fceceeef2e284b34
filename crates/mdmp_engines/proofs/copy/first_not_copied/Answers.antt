use Rattle.std.proofs.Common.{◌∙◌, refl, sym, arith}
use Rattle.mdmp_engines.proofs.Copying.{here, later, none_left}
use Rattle.mdmp_engines.proofs.copy.first_not_copied.Goals as goal

pub loop-stream_type-init : goal.loop-stream_type-init
loop-stream_type-init c = refl

pub returns-then-not-copied : goal.returns-then-not-copied
returns-then-not-copied c =
    sym (here c.args.types.now c.loop-stream_type.stream_type-index c.loop-stream_type-test.true (sym c.copied.ensures ∙ c.if-not-copied.true)) ∙ c.loop-stream_type.invariant

pub loop-stream_type-preserved : goal.loop-stream_type-preserved
loop-stream_type-preserved c =
    sym (later c.args.types.now c.loop-stream_type.stream_type-index c.loop-stream_type-test.true (sym c.copied.ensures ∙ c.if-not-copied.false)) ∙ c.loop-stream_type.invariant

pub returns : goal.returns
returns c = sym (none_left c.args.types.now c.loop-stream_type.stream_type-index (omega (arith, c.loop-stream_type-test.false))) ∙ c.loop-stream_type.invariant
