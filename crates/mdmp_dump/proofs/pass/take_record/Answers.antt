use Rattle.std.proofs.Common.{◌≡◌, ◌+◌, ◌-◌, arith, refl, subst, Ok}
use Rattle.mdmp_lister.specs.Format.Listing.{Numbered}
use Rattle.mdmp_dump.specs.declared.pass.Pass.{Pass}
use Rattle.mdmp_dump.specs.declared.view.Fields.{Fields}
use Rattle.mdmp_dump.specs.EntryWalk.{Pays, name_cost}
use Rattle.mdmp_dump.proofs.FaultsTold.{next_changed, next_refused}
use Rattle.mdmp_dump.proofs.Taken.{met_whole, met_within, pass_behind, record_given}
use Rattle.mdmp_dump.proofs.pass.take_record.Goals as goal
use Rattle.mdmp_dump.proofs.pass.take_record.Goals.{else-left-eq0-via-then-left-eq0+else-met-pass-2, else-left-eq0-via-else-left-eq0}

pub returns-in-Err-clause-tells : goal.returns-in-Err-clause-tells
returns-in-Err-clause-tells g c =
    let w = c.args.walk.now in
    let p = c.args.pass in
    rw c.told_reading.ensures.told
    (next_refused g.row.A.Denot w c.next_record.new.self c.args.limit p c.requires.passing c.requires.going c.requires.unfailed c.requires.of_file (Fields × Pass) c.in-Err.fault p.rva c.in-Err.ensures)

pub returns-then-met-pass-clause-tells : goal.returns-then-met-pass-clause-tells
returns-then-met-pass-clause-tells g c =
    let w = c.args.walk.now in
    let p = c.args.pass in
    rw c.changed.ensures
    (next_changed g.row.A.Denot w c.next_record.new.self c.args.limit p c.requires.passing c.requires.going c.requires.unfailed c.requires.of_file (Fields × Pass) (Ok c.in-Ok.found) p.rva c.in-Ok.ensures refl
    (λ F known.
    let within = met_within g.row.A.Denot w c.next_record.new.self c.args.limit p c.requires.passing c.requires.going c.requires.unfailed c.requires.of_file c.size-size.ensures.bytes
    c.in-Ok.found c.in-Ok.ensures c.fields-fields.result c.fields-fields.ensures c.met_room-met.result c.met_room-met.ensures F known in
    omega (arith, within, c.if-met-pass.true)))

pub returns-then-met-pass-2-clause-tells : goal.returns-then-met-pass-2-clause-tells
returns-then-met-pass-2-clause-tells g c =
    let w = c.args.walk.now in
    let p = c.args.pass in
    rw c.changed-then-met-pass-2.ensures
    (next_changed g.row.A.Denot w c.next_record.new.self c.args.limit p c.requires.passing c.requires.going c.requires.unfailed c.requires.of_file (Fields × Pass) (Ok c.in-Ok.found) p.rva c.in-Ok.ensures refl
    (λ F known.
    let last : p.left ≡ 1 = omega (arith, c.if-left-eq0.true, c.requires.going) in
    let whole = met_whole g.row.A.Denot w c.next_record.new.self c.args.limit p c.requires.passing c.requires.going c.requires.unfailed c.requires.of_file c.size-size.ensures.bytes
    c.in-Ok.found c.in-Ok.ensures c.fields-fields.result c.fields-fields.ensures c.met_room-met.result c.met_room-met.ensures F known last in
    omega (arith, whole, c.if-met-pass-2.true)))

pub returns-clause-gives : goal.returns-clause-gives
returns-clause-gives g c =
    let w = c.args.walk.now in
    let p = c.args.pass in
    let q = record p { given = p.given + 1; left = p.left - 1; met = c.met_room-met.result; parts = c.in-Ok.found.parts } in
    record_given g.row.A.Denot w c.next_record.new.self c.args.limit p c.requires.passing c.requires.going c.requires.unfailed c.requires.of_file c.size-size.ensures.bytes
    c.in-Ok.found c.in-Ok.ensures c.fields-fields.result c.fields-fields.ensures c.met_room-met.result c.met_room-met.ensures
    q refl refl refl (omega (arith, c.requires.going)) refl refl refl (omega (arith, c.size-size.ensures.value)) (omega arith) (omega arith)
    (λ none. elim c.else-left-eq0.branch [ else-left-eq0-via-then-left-eq0+else-met-pass-2 v ↦ omega (arith, c.if-met-pass.false, v.if-met-pass-2.false) | else-left-eq0-via-else-left-eq0 v ↦ absurd (omega (arith, none, v.if-left-eq0.false)) ])

pub returns-clause-passes_of : goal.returns-clause-passes_of
returns-clause-passes_of g c =
    let w = c.args.walk.now in
    let p = c.args.pass in
    let q = record p { given = p.given + 1; left = p.left - 1; met = c.met_room-met.result; parts = c.in-Ok.found.parts } in
    pass_behind g.row.A.Denot w c.next_record.new.self c.args.limit p c.requires.passing c.requires.going c.requires.unfailed c.requires.of_file c.size-size.ensures.bytes
    c.in-Ok.found c.in-Ok.ensures c.fields-fields.result c.fields-fields.ensures c.met_room-met.result c.met_room-met.ensures
    q refl refl refl (omega (arith, c.requires.going)) refl refl refl

pub next_record-requires : goal.next_record-requires
next_record-requires g c = let begun = c.requires.passing.going c.requires.going in omega (arith, begun.1, c.requires.going)

pub returns-in-Err-clause-pays : goal.returns-in-Err-clause-pays
returns-in-Err-clause-pays g c =
    let begun = c.requires.passing.going c.requires.going in
    subst (λ (x : Numbered). Pays 0 (name_cost x.entry.stream_type) c.args.walk.now c.next_record.new.self) begun.0 c.in-Err.ensures.pays

pub returns-then-met-pass-clause-pays : goal.returns-then-met-pass-clause-pays
returns-then-met-pass-clause-pays g c =
    let begun = c.requires.passing.going c.requires.going in
    subst (λ (x : Numbered). Pays 0 (name_cost x.entry.stream_type) c.args.walk.now c.next_record.new.self) begun.0 c.in-Ok.ensures.pays

pub returns-then-met-pass-2-clause-pays : goal.returns-then-met-pass-2-clause-pays
returns-then-met-pass-2-clause-pays g c =
    let begun = c.requires.passing.going c.requires.going in
    subst (λ (x : Numbered). Pays 0 (name_cost x.entry.stream_type) c.args.walk.now c.next_record.new.self) begun.0 c.in-Ok.ensures.pays

pub returns-clause-pays : goal.returns-clause-pays
returns-clause-pays g c =
    let begun = c.requires.passing.going c.requires.going in
    subst (λ (x : Numbered). Pays 0 (name_cost x.entry.stream_type) c.args.walk.now c.next_record.new.self) begun.0 c.in-Ok.ensures.pays

pub returns-in-Err-clause-gives : goal.returns-in-Err-clause-gives
returns-in-Err-clause-gives g c = tt

pub returns-in-Err-clause-passes : goal.returns-in-Err-clause-passes
returns-in-Err-clause-passes g c = tt

pub returns-in-Err-clause-passes_of : goal.returns-in-Err-clause-passes_of
returns-in-Err-clause-passes_of g c = λ F known. tt

pub returns-then-met-pass-clause-gives : goal.returns-then-met-pass-clause-gives
returns-then-met-pass-clause-gives g c = tt

pub returns-then-met-pass-clause-passes : goal.returns-then-met-pass-clause-passes
returns-then-met-pass-clause-passes g c = tt

pub returns-then-met-pass-clause-passes_of : goal.returns-then-met-pass-clause-passes_of
returns-then-met-pass-clause-passes_of g c = λ F known. tt

pub returns-then-met-pass-2-clause-gives : goal.returns-then-met-pass-2-clause-gives
returns-then-met-pass-2-clause-gives g c = tt

pub returns-then-met-pass-2-clause-passes : goal.returns-then-met-pass-2-clause-passes
returns-then-met-pass-2-clause-passes g c = tt

pub returns-then-met-pass-2-clause-passes_of : goal.returns-then-met-pass-2-clause-passes_of
returns-then-met-pass-2-clause-passes_of g c = λ F known. tt
