use Rattle.std.proofs.Common.{arith, rules}
use Rattle.mdmp_lister.specs.Format.Shape.{FitsIn}
use Rattle.mdmp_lister.proofs.Paying.{few_records}
use Rattle.mdmp_lister.proofs.head.head_of.Goals as goal

pub returns-in_ok-shape-in-Sized64-clause-head : goal.returns-in_ok-shape-in-Sized64-clause-head
returns-in_ok-shape-in-Sized64-clause-head c =
    let shape = c.in_ok-shape-in-Sized64.shape in
    let fits : FitsIn c.args.at.size c.args.kind shape = search rules in
    record {
      fits = fits;
      few = few_records c.args.at.size c.args.kind shape (omega arith) fits;
      ranges = search rules;
      behind = search rules;
    }
