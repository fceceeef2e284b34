use Rattle.std.proofs.Common.{arith, refl}
use Rattle.mdmp_dump.proofs.Begun.{begun_inside}
use Rattle.mdmp_dump.proofs.value_view.next_fields.Goals as goal

pub stream_of-chosen-requires : goal.stream_of-chosen-requires
stream_of-chosen-requires g c = begun_inside c.args.streams.now c.args.stream c.args.given c.requires

pub record_fields-requires : goal.record_fields-requires
record_fields-requires g c = rw c.stream_of-chosen.ensures c.requires

pub overflow_add-result : goal.overflow_add-result
overflow_add-result g c = let count = rw c.stream_of-chosen.ensures at c.record_count-count.ensures in omega (arith, count, c.requires, c.record_count-count.type_inv)

pub returns-clause-fields : goal.returns-clause-fields
returns-clause-fields g c = rw (← c.stream_of-chosen.ensures) c.record_fields.ensures

pub returns-clause-next : goal.returns-clause-next
returns-clause-next g c = refl
