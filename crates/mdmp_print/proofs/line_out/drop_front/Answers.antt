use Rattle.std.proofs.Common.{rules}
use Rattle.std.proofs.lemmas.Slice.{between_is, overwrites}
use Rattle.mdmp_print.proofs.line_out.drop_front.Goals as goal

pub returns : goal.returns
returns c = search (rules, overwrites, between_is)
