use Rattle.std.proofs.Common.{ℕ, subst}
use Rattle.mdmp_dump.specs.FoundRecord.{AreIn}
use Rattle.mdmp_dump.proofs.Founding.{found_bare}
use Rattle.mdmp_dump.proofs.Rooms.{seen_inside}
use Rattle.mdmp_dump.proofs.found_record.found_record.Goals as goal

pub returns-then-is_region-clause-finds : goal.returns-then-is_region-clause-finds
returns-then-is_region-clause-finds c = λ F size fits name told is.
    let found = found_bare F c.args.limit c.args.read.now (c.is_region.ensures c.if-is_region.true) name told is in
    (found.0, (found.1.0, (found.1.1, tt)))

pub returns-then-not-lies_inside-clause-finds : goal.returns-then-not-lies_inside-clause-finds
returns-then-not-lies_inside-clause-finds c = λ F size fits name told is.
    let found = c.in_ok-found.ensures.finds F size name told is in
    let r = c.args.read.now in
    absurd (cc (c.if-not-lies_inside.true, c.lies_inside.ensures.1 (subst (λ (n : ℕ). AreIn n c.in_ok-found.found.parts) size (seen_inside F r.offset r.fields c.in_ok-found.found fits found.1.1.1))))

pub returns-clause-finds : goal.returns-clause-finds
returns-clause-finds c = λ F size fits name told is.
    let found = c.in_ok-found.ensures.finds F size name told is in
    (found.0, (found.1.0, (found.1.1, tt)))
