use Rattle.std.proofs.Common.{◌*◌, refl}
use Rattle.mdmp_index.specs.Cells.{cell_of}
use Rattle.mdmp_index.proofs.Taken.{taken_more}
use Rattle.mdmp_index.proofs.taking.take.Goals as goal

pub returns-clause-taken : goal.returns-clause-taken
returns-clause-taken g c =
    taken_more (g.R.Ranges.ranges c.args.ranges.now) c.args.cells.now c.take_between.new.cells c.args.number (cell_of c.args.cells.now (2 * c.args.number)) c.end_of-high.result
    c.requires.placed c.requires.rise c.requires.within
    (record { first = refl; end = c.end_of-high.ensures.cell; all = c.end_of-high.ensures.none })
    c.take_between.auto.cells c.take_between.ensures.keeps c.take_between.ensures.takes c.requires.taken
