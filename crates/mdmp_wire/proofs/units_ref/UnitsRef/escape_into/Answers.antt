use Rattle.std.proofs.Common.{◌*◌, ◌+◌, arith}
use Rattle.std.proofs.lemmas.Result.{MatchResult-from_err}
use Rattle.mdmp_wire.proofs.EscapeLemmas.{PutsAll-units, PutsPrefix-units}
use Rattle.mdmp_wire.specs.Units.{units_of}
use Rattle.mdmp_wire.proofs.units_ref.UnitsRef.escape_into.Goals as goal

pub loop-chunk-preserved : goal.loop-chunk-preserved
loop-chunk-preserved g c =
    PutsAll-units (64 * c.loop-chunk.chunk) 64 (64 * (c.loop-chunk.chunk + 1)) (units_of c.args.self.now.bytes.now) _ _ _ (omega arith) c.loop-chunk.invariant c.in_ok-put_chunk.ensures

pub returns-in_err-put_chunk : goal.returns-in_err-put_chunk
returns-in_err-put_chunk g c =
    MatchResult-from_err _ _ _ c.from_residual.ensures.0 (λ _.
    PutsPrefix-units (64 * c.loop-chunk.chunk) 64 (units_of c.args.self.now.bytes.now) _ _ _ c.loop-chunk.invariant c.in_err-put_chunk.ensures)
