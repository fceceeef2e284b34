use Rattle.std.proofs.Common.{◌≡◌, drop}
use Rattle.mdmp_engines.specs.Copying.{first_not_copied}
use Rattle.mdmp_engines.proofs.copy.first_not_copied.Given as goal

abbrev pub invariant-loop-stream_type : goal.invariant-loop-stream_type
invariant-loop-stream_type l = first_not_copied (drop l.stream_type-index l.fn.types) ≡ first_not_copied l.fn.types
