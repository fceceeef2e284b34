use Rattle.std.proofs.Common.{arith}
use Rattle.std.proofs.lemmas.List.Sums.{prefix_len-le-length}
use Rattle.mdmp_wire.proofs.PlainRuns.{lows_fit, put_text}
use Rattle.mdmp_wire.specs.Escape.{is_plain}
use Rattle.mdmp_wire.proofs.plain_run.put_run.Goals as goal

pub overflow_cast-text : goal.overflow_cast-text
overflow_cast-text c = lows_fit c.args.units

pub returns-clause-within : goal.returns-clause-within
returns-clause-within c = omega (arith, c.plain_run.ensures, c.requires.lanes, prefix_len-le-length is_plain c.args.units)

pub returns-clause-text : goal.returns-clause-text
returns-clause-text c = put_text c.args.len c.plain_run.result c.args.text.now c.args.units c.requires.lanes c.requires.room c.plain_run.ensures
