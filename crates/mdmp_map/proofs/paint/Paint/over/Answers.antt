use Rattle.std.proofs.Common.{◌<◌, arith, length}
use Rattle.std.specs.Prelude.{slice_index}
use Rattle.std.proofs.lemmas.Bool.{le-ltb}
use Rattle.mdmp_map.proofs.Painted.{none_painted}
use Rattle.mdmp_map.proofs.paint.Paint.over.Goals as goal

pub returns-clause-free : goal.returns-clause-free
returns-clause-free c = none_painted c.args.start c.args.count c.number.new.next (λ place within.
    let inside : place < length c.number.new.next = omega (arith, within, c.requires) in
    le-ltb place (slice_index c.number.new.next place) (omega (arith, c.number.ensures place inside)))

pub returns-clause-of_none : goal.returns-clause-of_none
returns-clause-of_none c = λ place within. returns-clause-free c place
