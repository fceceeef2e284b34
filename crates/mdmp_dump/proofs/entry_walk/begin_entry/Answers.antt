use Rattle.std.proofs.Common.{Ok, refl, subst, sym}
use Rattle.std.specs.Prelude.{IsTrue}
use Rattle.std.proofs.lemmas.Option.{slice_get-get_or}
use Rattle.mdmp_lister.specs.declared.position.Position.{Position}
use Rattle.mdmp_lister.specs.Walker.{begins}
use Rattle.mdmp_dump.specs.EntryWalk.{no_entry}
use Rattle.mdmp_dump.proofs.EntryBegun.{begins_counted, begins_err, begins_refused, kept_counted, kept_err, kept_refused, step_fresh, stream_begun}
use Rattle.mdmp_dump.proofs.entry_walk.begin_entry.Goals as goal

pub returns-in-Err-clause-begins : goal.returns-in-Err-clause-begins
returns-in-Err-clause-begins g c = λ stream e at is.
    begins_err c.args.number e c.args.walker.now c.seek_entry.new.self c.next_step.new.self at c.requires.kept c.seek_entry.ensures c.in-Err.fault c.in-Err.ensures.leaves c.in-Err.ensures.repeats stream

pub records-requires : goal.records-requires
records-requires g c =
    let old = c.args.walker.now in
    let mid = c.seek_entry.new.self in
    let at = slice_get-get_or old.list.entries c.args.number no_entry.entry c.requires.number in
    let fresh = step_fresh c.args.number _ old mid c.next_step.new.self at c.requires.kept c.seek_entry.ensures c.in-Ok.field-0 c.in-Ok.ensures.leaves c.in-Ok.ensures.repeats in
    let begun = stream_begun c.args.number _ old mid c.next_step.new.self at c.requires.kept c.seek_entry.ensures (Ok c.in-Ok.field-0) c.in-Ok.ensures.leaves fresh in
    subst (λ (p : Position). IsTrue (begins p)) (sym begun.position) refl

pub returns-in-Ok-records-clause-begins : goal.returns-in-Ok-records-clause-begins
returns-in-Ok-records-clause-begins g c = λ stream e at is.
    let old = c.args.walker.now in
    let mid = c.seek_entry.new.self in
    let fresh = step_fresh c.args.number e old mid c.next_step.new.self at c.requires.kept c.seek_entry.ensures c.in-Ok.field-0 c.in-Ok.ensures.leaves c.in-Ok.ensures.repeats in
    let begun = stream_begun c.args.number e old mid c.next_step.new.self at c.requires.kept c.seek_entry.ensures (Ok c.in-Ok.field-0) c.in-Ok.ensures.leaves fresh in
    begins_counted _ old c.next_step.new.self c.records.new.self c.requires.kept begun c.in-Ok-records.count c.in-Ok-records.ensures.counts c.in-Ok-records.ensures.of_file stream is fresh

pub returns-in-Ok-records-clause-kept : goal.returns-in-Ok-records-clause-kept
returns-in-Ok-records-clause-kept g c =
    let old = c.args.walker.now in
    let mid = c.seek_entry.new.self in
    let at = slice_get-get_or old.list.entries c.args.number no_entry.entry c.requires.number in
    let fresh = step_fresh c.args.number _ old mid c.next_step.new.self at c.requires.kept c.seek_entry.ensures c.in-Ok.field-0 c.in-Ok.ensures.leaves c.in-Ok.ensures.repeats in
    let begun = stream_begun c.args.number _ old mid c.next_step.new.self at c.requires.kept c.seek_entry.ensures (Ok c.in-Ok.field-0) c.in-Ok.ensures.leaves fresh in
    kept_counted _ old c.next_step.new.self c.records.new.self c.requires.kept begun c.in-Ok-records.count c.in-Ok-records.ensures.counts c.in-Ok-records.ensures.of_file (λ F known. c.requires.of_file F _ known at)

pub returns-in-Err-clause-kept : goal.returns-in-Err-clause-kept
returns-in-Err-clause-kept g c =
    let old = c.args.walker.now in
    let at = slice_get-get_or old.list.entries c.args.number no_entry.entry c.requires.number in
    kept_err c.args.number _ old c.seek_entry.new.self c.next_step.new.self at c.requires.kept c.seek_entry.ensures c.in-Err.fault c.in-Err.ensures.leaves c.in-Err.ensures.repeats

pub returns-in-Err-records-clause-kept : goal.returns-in-Err-records-clause-kept
returns-in-Err-records-clause-kept g c =
    let old = c.args.walker.now in
    let mid = c.seek_entry.new.self in
    let at = slice_get-get_or old.list.entries c.args.number no_entry.entry c.requires.number in
    let fresh = step_fresh c.args.number _ old mid c.next_step.new.self at c.requires.kept c.seek_entry.ensures c.in-Ok.field-0 c.in-Ok.ensures.leaves c.in-Ok.ensures.repeats in
    let begun = stream_begun c.args.number _ old mid c.next_step.new.self at c.requires.kept c.seek_entry.ensures (Ok c.in-Ok.field-0) c.in-Ok.ensures.leaves fresh in
    kept_refused _ old c.next_step.new.self c.records.new.self c.requires.kept begun c.in-Err-records.fault c.in-Err-records.ensures.counts c.in-Err-records.ensures.of_file

pub returns-in-Err-records-clause-begins : goal.returns-in-Err-records-clause-begins
returns-in-Err-records-clause-begins g c = λ stream e at is.
    let old = c.args.walker.now in
    let mid = c.seek_entry.new.self in
    let fresh = step_fresh c.args.number e old mid c.next_step.new.self at c.requires.kept c.seek_entry.ensures c.in-Ok.field-0 c.in-Ok.ensures.leaves c.in-Ok.ensures.repeats in
    let begun = stream_begun c.args.number e old mid c.next_step.new.self at c.requires.kept c.seek_entry.ensures (Ok c.in-Ok.field-0) c.in-Ok.ensures.leaves fresh in
    begins_refused _ old c.next_step.new.self c.records.new.self c.requires.kept begun c.in-Err-records.fault c.in-Err-records.ensures.counts c.in-Err-records.ensures.of_file stream is fresh
