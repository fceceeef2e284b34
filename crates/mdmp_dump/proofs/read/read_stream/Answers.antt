use Rattle.std.proofs.Common.{◌≡◌, Err, Ok, Some, [], ◌∷◌, refl, rules}
use Rattle.mdmp_lister.specs.declared.kind.StreamKind.TheVariants as kinds
use Rattle.mdmp_dump.specs.declared.dump.Stream.TheVariants as streams
use Rattle.mdmp_wire.specs.MemoryInfo.{memory_info_at}
use Rattle.mdmp_dump.specs.LaysOut.{HasRecords}
use Rattle.mdmp_dump.specs.Memory.{IsMemory}
use Rattle.mdmp_dump.specs.Memory64.{IsMemory64}
use Rattle.mdmp_dump.specs.Module.{IsModule}
use Rattle.mdmp_dump.specs.Thread.{IsThread}
use Rattle.mdmp_dump.specs.ThreadName.{IsThreadName}
use Rattle.mdmp_dump.specs.Unloaded.{IsUnloaded}
use Rattle.mdmp_dump.specs.Exception.{IsException}
use Rattle.mdmp_dump.specs.System.{IsSystem}
use Rattle.mdmp_dump.proofs.Streams.{one_single, stream_read, stream_refused, unused_read}
use Rattle.std.proofs.lemmas.Result.{IfOk-from_err}
use Rattle.mdmp_dump.proofs.Keeping.{keeps_any}
use Rattle.mdmp_dump.proofs.Taking.{Fetches_as, Fetches_only, refused_by}
use Rattle.mdmp_dump.proofs.ItemsRead.{reads_any, reads_as, reads_done}
use Rattle.mdmp_dump.proofs.read.read_stream.Goals as goal

pub returns-in_ok-threads-in-3-clause-of_file : goal.returns-in_ok-threads-in-3-clause-of_file
returns-in_ok-threads-in-3-clause-of_file g c =
    let r = c.in_ok-threads-in-3 in
    stream_read c.args.reader.now c.rows.new.self c.args.item 3 c.in-3.is (λ size e at. refl) kinds.Threads refl
    (λ F at. HasRecords F at kinds.Threads (λ k. IsThread F)) r.threads _ r.next (λ F e type has. (streams.Threads r.threads, (refl, record { type_is = type; stands = has })))
    r.ensures.of_file

pub returns-in_ok-modules-in-4-clause-of_file : goal.returns-in_ok-modules-in-4-clause-of_file
returns-in_ok-modules-in-4-clause-of_file g c =
    let r = c.in_ok-modules-in-4 in
    stream_read c.args.reader.now c.rows-in-4.new.self c.args.item 4 c.in-4.is (λ size e at. refl) kinds.Modules refl
    (λ F at. HasRecords F at kinds.Modules (λ k. IsModule F)) r.modules _ r.next (λ F e type has. (streams.Modules r.modules, (refl, record { type_is = type; stands = has })))
    r.ensures.of_file

pub returns-in_ok-ranges-in-5-clause-of_file : goal.returns-in_ok-ranges-in-5-clause-of_file
returns-in_ok-ranges-in-5-clause-of_file g c =
    let r = c.in_ok-ranges-in-5 in
    stream_read c.args.reader.now c.rows-in-5.new.self c.args.item 5 c.in-5.is (λ size e at. refl) kinds.Memory refl
    (λ F at. HasRecords F at kinds.Memory (λ k. IsMemory F)) r.ranges _ r.next (λ F e type has. (streams.Memory r.ranges, (refl, record { type_is = type; stands = has })))
    r.ensures.of_file

pub returns-in_ok-ranges-in-9-clause-of_file : goal.returns-in_ok-ranges-in-9-clause-of_file
returns-in_ok-ranges-in-9-clause-of_file g c =
    let r = c.in_ok-ranges-in-9 in
    stream_read c.args.reader.now c.rows-in-9.new.self c.args.item 9 c.in-9.is (λ size e at. refl) kinds.Memory64 refl
    (λ F at. HasRecords F at kinds.Memory64 (IsMemory64 F at.rva)) r.ranges _ r.next (λ F e type has. (streams.Memory64 r.ranges, (refl, record { type_is = type; stands = has })))
    r.ensures.of_file

pub returns-in_ok-modules-in-14-clause-of_file : goal.returns-in_ok-modules-in-14-clause-of_file
returns-in_ok-modules-in-14-clause-of_file g c =
    let r = c.in_ok-modules-in-14 in
    stream_read c.args.reader.now c.rows-in-14.new.self c.args.item 14 c.in-14.is (λ size e at. refl) kinds.Unloaded refl
    (λ F at. HasRecords F at kinds.Unloaded (λ k. IsUnloaded F)) r.modules _ r.next (λ F e type has. (streams.Unloaded r.modules, (refl, record { type_is = type; stands = has })))
    r.ensures.of_file

pub returns-in_ok-threads-in-24-clause-of_file : goal.returns-in_ok-threads-in-24-clause-of_file
returns-in_ok-threads-in-24-clause-of_file g c =
    let r = c.in_ok-threads-in-24 in
    stream_read c.args.reader.now c.rows-in-24.new.self c.args.item 24 c.in-24.is (λ size e at. refl) kinds.ThreadNames refl
    (λ F at. HasRecords F at kinds.ThreadNames (λ k. IsThreadName F)) r.threads _ r.next (λ F e type has. (streams.ThreadNames r.threads, (refl, record { type_is = type; stands = has })))
    r.ensures.of_file

pub returns-in_ok-exception-in-6-clause-of_file : goal.returns-in_ok-exception-in-6-clause-of_file
returns-in_ok-exception-in-6-clause-of_file g c =
    let r = c.in_ok-exception-in-6 in
    stream_read c.args.reader.now c.single.new.self c.args.item 6 c.in-6.is (λ size e at. refl) kinds.Exception refl
    (λ F at row. (one : _) × ((row ≡ Some one) × HasRecords F at kinds.Exception (λ k. IsException F) (one ∷ []))) r.exception _ r.next
    (λ F e type has.
    let cases = rw has.1.0 at c.map.ensures.cases in
    let same : c.map.result ≡ Some (streams.Exception has.0) = search rules in
    (streams.Exception has.0, (same, record { type_is = type; stands = has.1.1 })))
    (λ F limit x xs known left kind current. r.ensures.of_file F limit x xs known left kind current (one_single F x kinds.Exception refl))

pub returns-in_err-exception-in-6-clause-of_file : goal.returns-in_err-exception-in-6-clause-of_file
returns-in_err-exception-in-6-clause-of_file g c =
    let fault = c.in_err-exception-in-6.field-0.0 in
    let is = refused_by c.from_residual-in_err-exception-in-6.result fault c.from_residual-in_err-exception-in-6.ensures.1 in
    rw is (stream_refused c.args.reader.now c.single.new.self c.args.item 6 c.in-6.is (λ size e at. refl) kinds.Exception refl
    (λ F at row. (one : _) × ((row ≡ Some one) × HasRecords F at kinds.Exception (λ k. IsException F) (one ∷ []))) fault
    (λ F limit x xs known left kind current. c.in_err-exception-in-6.ensures.of_file F limit x xs known left kind current (one_single F x kinds.Exception refl)))

pub returns-in_ok-system-in-7-clause-of_file : goal.returns-in_ok-system-in-7-clause-of_file
returns-in_ok-system-in-7-clause-of_file g c =
    let r = c.in_ok-system-in-7 in
    stream_read c.args.reader.now c.single-in-7.new.self c.args.item 7 c.in-7.is (λ size e at. refl) kinds.System refl
    (λ F at row. (one : _) × ((row ≡ Some one) × HasRecords F at kinds.System (λ k. IsSystem F) (one ∷ []))) r.system _ r.next
    (λ F e type has.
    let cases = rw has.1.0 at c.map-in-7.ensures.cases in
    let same : c.map-in-7.result ≡ Some (streams.System has.0) = search rules in
    (streams.System has.0, (same, record { type_is = type; stands = has.1.1 })))
    (λ F limit x xs known left kind current. r.ensures.of_file F limit x xs known left kind current (one_single F x kinds.System refl))

pub returns-in_err-system-in-7-clause-of_file : goal.returns-in_err-system-in-7-clause-of_file
returns-in_err-system-in-7-clause-of_file g c =
    let fault = c.in_err-system-in-7.field-0.0 in
    let is = refused_by c.from_residual-in_err-system-in-7.result fault c.from_residual-in_err-system-in-7.ensures.1 in
    rw is (stream_refused c.args.reader.now c.single-in-7.new.self c.args.item 7 c.in-7.is (λ size e at. refl) kinds.System refl
    (λ F at row. (one : _) × ((row ≡ Some one) × HasRecords F at kinds.System (λ k. IsSystem F) (one ∷ []))) fault
    (λ F limit x xs known left kind current. c.in_err-system-in-7.ensures.of_file F limit x xs known left kind current (one_single F x kinds.System refl)))

pub returns-in_ok-next-in-0-clause-of_file : goal.returns-in_ok-next-in-0-clause-of_file
returns-in_ok-next-in-0-clause-of_file g c =
    let r = c.in_ok-next-in-0 in
    unused_read c.args.reader.now c.behind.new.self c.args.item c.in-0.is (Ok r.next) r.ensures.gives

pub returns-in_err-next-in-0-clause-of_file : goal.returns-in_err-next-in-0-clause-of_file
returns-in_err-next-in-0-clause-of_file g c =
    let fault = c.in_err-next-in-0.field-0.0 in
    rw (refused_by c.from_residual.result fault c.from_residual.ensures.1) (unused_read c.args.reader.now c.behind.new.self c.args.item c.in-0.is (Err fault) c.in_err-next-in-0.ensures.gives)

pub returns-in_err-next-in-0-clause-fetches : goal.returns-in_err-next-in-0-clause-fetches
returns-in_err-next-in-0-clause-fetches g c =
    let fault = c.in_err-next-in-0.field-0.0 in
    rw (refused_by c.from_residual.result fault c.from_residual.ensures.1) (Fetches_as fault c.args.reader.now.lister.source c.behind.new.self.lister.source c.in_err-next-in-0.ensures.fetches)

pub returns-in_err-next-in-0-clause-going : goal.returns-in_err-next-in-0-clause-going
returns-in_err-next-in-0-clause-going g c = IfOk-from_err c.from_residual.result _ c.from_residual.ensures.0

pub returns-in_ok-next-in-0-clause-fetches : goal.returns-in_ok-next-in-0-clause-fetches
returns-in_ok-next-in-0-clause-fetches g c = Fetches_only _ c.args.reader.now.lister.source c.behind.new.self.lister.source c.in_ok-next-in-0.ensures.fetches.fetches

pub returns-in_ok-next-in-0-clause-going : goal.returns-in_ok-next-in-0-clause-going
returns-in_ok-next-in-0-clause-going g c = c.in_ok-next-in-0.ensures.going

pub returns-in_err-threads-in-3-clause-fetches : goal.returns-in_err-threads-in-3-clause-fetches
returns-in_err-threads-in-3-clause-fetches g c =
    let fault = c.in_err-threads-in-3.field-0.0 in
    rw (refused_by c.from_residual-in_err-threads-in-3.result fault c.from_residual-in_err-threads-in-3.ensures.1) (Fetches_as fault c.args.reader.now.lister.source c.rows.new.self.lister.source c.in_err-threads-in-3.ensures.step.fetches)

pub returns-in_err-threads-in-3-clause-going : goal.returns-in_err-threads-in-3-clause-going
returns-in_err-threads-in-3-clause-going g c = IfOk-from_err c.from_residual-in_err-threads-in-3.result _ c.from_residual-in_err-threads-in-3.ensures.0

pub returns-in_ok-threads-in-3-clause-fetches : goal.returns-in_ok-threads-in-3-clause-fetches
returns-in_ok-threads-in-3-clause-fetches g c = Fetches_only _ c.args.reader.now.lister.source c.rows.new.self.lister.source c.in_ok-threads-in-3.ensures.step.fetches.fetches

pub returns-in_ok-threads-in-3-clause-going : goal.returns-in_ok-threads-in-3-clause-going
returns-in_ok-threads-in-3-clause-going g c = c.in_ok-threads-in-3.ensures.step.going

pub returns-in_err-modules-in-4-clause-fetches : goal.returns-in_err-modules-in-4-clause-fetches
returns-in_err-modules-in-4-clause-fetches g c =
    let fault = c.in_err-modules-in-4.field-0.0 in
    rw (refused_by c.from_residual-in_err-modules-in-4.result fault c.from_residual-in_err-modules-in-4.ensures.1) (Fetches_as fault c.args.reader.now.lister.source c.rows-in-4.new.self.lister.source c.in_err-modules-in-4.ensures.step.fetches)

pub returns-in_err-modules-in-4-clause-going : goal.returns-in_err-modules-in-4-clause-going
returns-in_err-modules-in-4-clause-going g c = IfOk-from_err c.from_residual-in_err-modules-in-4.result _ c.from_residual-in_err-modules-in-4.ensures.0

pub returns-in_ok-modules-in-4-clause-fetches : goal.returns-in_ok-modules-in-4-clause-fetches
returns-in_ok-modules-in-4-clause-fetches g c = Fetches_only _ c.args.reader.now.lister.source c.rows-in-4.new.self.lister.source c.in_ok-modules-in-4.ensures.step.fetches.fetches

pub returns-in_ok-modules-in-4-clause-going : goal.returns-in_ok-modules-in-4-clause-going
returns-in_ok-modules-in-4-clause-going g c = c.in_ok-modules-in-4.ensures.step.going

pub returns-in_err-ranges-in-5-clause-fetches : goal.returns-in_err-ranges-in-5-clause-fetches
returns-in_err-ranges-in-5-clause-fetches g c =
    let fault = c.in_err-ranges-in-5.field-0.0 in
    rw (refused_by c.from_residual-in_err-ranges-in-5.result fault c.from_residual-in_err-ranges-in-5.ensures.1) (Fetches_as fault c.args.reader.now.lister.source c.rows-in-5.new.self.lister.source c.in_err-ranges-in-5.ensures.step.fetches)

pub returns-in_err-ranges-in-5-clause-going : goal.returns-in_err-ranges-in-5-clause-going
returns-in_err-ranges-in-5-clause-going g c = IfOk-from_err c.from_residual-in_err-ranges-in-5.result _ c.from_residual-in_err-ranges-in-5.ensures.0

pub returns-in_ok-ranges-in-5-clause-fetches : goal.returns-in_ok-ranges-in-5-clause-fetches
returns-in_ok-ranges-in-5-clause-fetches g c = Fetches_only _ c.args.reader.now.lister.source c.rows-in-5.new.self.lister.source c.in_ok-ranges-in-5.ensures.step.fetches.fetches

pub returns-in_ok-ranges-in-5-clause-going : goal.returns-in_ok-ranges-in-5-clause-going
returns-in_ok-ranges-in-5-clause-going g c = c.in_ok-ranges-in-5.ensures.step.going

pub returns-in_err-exception-in-6-clause-fetches : goal.returns-in_err-exception-in-6-clause-fetches
returns-in_err-exception-in-6-clause-fetches g c =
    let fault = c.in_err-exception-in-6.field-0.0 in
    rw (refused_by c.from_residual-in_err-exception-in-6.result fault c.from_residual-in_err-exception-in-6.ensures.1) (Fetches_as fault c.args.reader.now.lister.source c.single.new.self.lister.source c.in_err-exception-in-6.ensures.step.fetches)

pub returns-in_err-exception-in-6-clause-going : goal.returns-in_err-exception-in-6-clause-going
returns-in_err-exception-in-6-clause-going g c = IfOk-from_err c.from_residual-in_err-exception-in-6.result _ c.from_residual-in_err-exception-in-6.ensures.0

pub returns-in_ok-exception-in-6-clause-fetches : goal.returns-in_ok-exception-in-6-clause-fetches
returns-in_ok-exception-in-6-clause-fetches g c = Fetches_only _ c.args.reader.now.lister.source c.single.new.self.lister.source c.in_ok-exception-in-6.ensures.step.fetches.fetches

pub returns-in_ok-exception-in-6-clause-going : goal.returns-in_ok-exception-in-6-clause-going
returns-in_ok-exception-in-6-clause-going g c = c.in_ok-exception-in-6.ensures.step.going

pub returns-in_err-system-in-7-clause-fetches : goal.returns-in_err-system-in-7-clause-fetches
returns-in_err-system-in-7-clause-fetches g c =
    let fault = c.in_err-system-in-7.field-0.0 in
    rw (refused_by c.from_residual-in_err-system-in-7.result fault c.from_residual-in_err-system-in-7.ensures.1) (Fetches_as fault c.args.reader.now.lister.source c.single-in-7.new.self.lister.source c.in_err-system-in-7.ensures.step.fetches)

pub returns-in_err-system-in-7-clause-going : goal.returns-in_err-system-in-7-clause-going
returns-in_err-system-in-7-clause-going g c = IfOk-from_err c.from_residual-in_err-system-in-7.result _ c.from_residual-in_err-system-in-7.ensures.0

pub returns-in_ok-system-in-7-clause-fetches : goal.returns-in_ok-system-in-7-clause-fetches
returns-in_ok-system-in-7-clause-fetches g c = Fetches_only _ c.args.reader.now.lister.source c.single-in-7.new.self.lister.source c.in_ok-system-in-7.ensures.step.fetches.fetches

pub returns-in_ok-system-in-7-clause-going : goal.returns-in_ok-system-in-7-clause-going
returns-in_ok-system-in-7-clause-going g c = c.in_ok-system-in-7.ensures.step.going

pub returns-in_err-ranges-in-9-clause-fetches : goal.returns-in_err-ranges-in-9-clause-fetches
returns-in_err-ranges-in-9-clause-fetches g c =
    let fault = c.in_err-ranges-in-9.field-0.0 in
    rw (refused_by c.from_residual-in_err-ranges-in-9.result fault c.from_residual-in_err-ranges-in-9.ensures.1) (Fetches_as fault c.args.reader.now.lister.source c.rows-in-9.new.self.lister.source c.in_err-ranges-in-9.ensures.step.fetches)

pub returns-in_err-ranges-in-9-clause-going : goal.returns-in_err-ranges-in-9-clause-going
returns-in_err-ranges-in-9-clause-going g c = IfOk-from_err c.from_residual-in_err-ranges-in-9.result _ c.from_residual-in_err-ranges-in-9.ensures.0

pub returns-in_ok-ranges-in-9-clause-fetches : goal.returns-in_ok-ranges-in-9-clause-fetches
returns-in_ok-ranges-in-9-clause-fetches g c = Fetches_only _ c.args.reader.now.lister.source c.rows-in-9.new.self.lister.source c.in_ok-ranges-in-9.ensures.step.fetches.fetches

pub returns-in_ok-ranges-in-9-clause-going : goal.returns-in_ok-ranges-in-9-clause-going
returns-in_ok-ranges-in-9-clause-going g c = c.in_ok-ranges-in-9.ensures.step.going

pub returns-in_err-modules-in-14-clause-fetches : goal.returns-in_err-modules-in-14-clause-fetches
returns-in_err-modules-in-14-clause-fetches g c =
    let fault = c.in_err-modules-in-14.field-0.0 in
    rw (refused_by c.from_residual-in_err-modules-in-14.result fault c.from_residual-in_err-modules-in-14.ensures.1) (Fetches_as fault c.args.reader.now.lister.source c.rows-in-14.new.self.lister.source c.in_err-modules-in-14.ensures.step.fetches)

pub returns-in_err-modules-in-14-clause-going : goal.returns-in_err-modules-in-14-clause-going
returns-in_err-modules-in-14-clause-going g c = IfOk-from_err c.from_residual-in_err-modules-in-14.result _ c.from_residual-in_err-modules-in-14.ensures.0

pub returns-in_ok-modules-in-14-clause-fetches : goal.returns-in_ok-modules-in-14-clause-fetches
returns-in_ok-modules-in-14-clause-fetches g c = Fetches_only _ c.args.reader.now.lister.source c.rows-in-14.new.self.lister.source c.in_ok-modules-in-14.ensures.step.fetches.fetches

pub returns-in_ok-modules-in-14-clause-going : goal.returns-in_ok-modules-in-14-clause-going
returns-in_ok-modules-in-14-clause-going g c = c.in_ok-modules-in-14.ensures.step.going

pub returns-in_err-regions-in-16-clause-fetches : goal.returns-in_err-regions-in-16-clause-fetches
returns-in_err-regions-in-16-clause-fetches g c =
    let fault = c.in_err-regions-in-16.field-0.0 in
    rw (refused_by c.from_residual-in_err-regions-in-16.result fault c.from_residual-in_err-regions-in-16.ensures.1) (Fetches_as fault c.args.reader.now.lister.source c.rows-in-16.new.self.lister.source c.in_err-regions-in-16.ensures.step.fetches)

pub returns-in_err-regions-in-16-clause-going : goal.returns-in_err-regions-in-16-clause-going
returns-in_err-regions-in-16-clause-going g c = IfOk-from_err c.from_residual-in_err-regions-in-16.result _ c.from_residual-in_err-regions-in-16.ensures.0

pub returns-in_ok-regions-in-16-clause-fetches : goal.returns-in_ok-regions-in-16-clause-fetches
returns-in_ok-regions-in-16-clause-fetches g c = Fetches_only _ c.args.reader.now.lister.source c.rows-in-16.new.self.lister.source c.in_ok-regions-in-16.ensures.step.fetches.fetches

pub returns-in_ok-regions-in-16-clause-going : goal.returns-in_ok-regions-in-16-clause-going
returns-in_ok-regions-in-16-clause-going g c = c.in_ok-regions-in-16.ensures.step.going

pub returns-in_err-threads-in-24-clause-fetches : goal.returns-in_err-threads-in-24-clause-fetches
returns-in_err-threads-in-24-clause-fetches g c =
    let fault = c.in_err-threads-in-24.field-0.0 in
    rw (refused_by c.from_residual-in_err-threads-in-24.result fault c.from_residual-in_err-threads-in-24.ensures.1) (Fetches_as fault c.args.reader.now.lister.source c.rows-in-24.new.self.lister.source c.in_err-threads-in-24.ensures.step.fetches)

pub returns-in_err-threads-in-24-clause-going : goal.returns-in_err-threads-in-24-clause-going
returns-in_err-threads-in-24-clause-going g c = IfOk-from_err c.from_residual-in_err-threads-in-24.result _ c.from_residual-in_err-threads-in-24.ensures.0

pub returns-in_ok-threads-in-24-clause-fetches : goal.returns-in_ok-threads-in-24-clause-fetches
returns-in_ok-threads-in-24-clause-fetches g c = Fetches_only _ c.args.reader.now.lister.source c.rows-in-24.new.self.lister.source c.in_ok-threads-in-24.ensures.step.fetches.fetches

pub returns-in_ok-threads-in-24-clause-going : goal.returns-in_ok-threads-in-24-clause-going
returns-in_ok-threads-in-24-clause-going g c = c.in_ok-threads-in-24.ensures.step.going

pub returns-in_err-threads-in-3-clause-of_file : goal.returns-in_err-threads-in-3-clause-of_file
returns-in_err-threads-in-3-clause-of_file g c =
    let fault = c.in_err-threads-in-3.field-0.0 in
    rw (refused_by c.from_residual-in_err-threads-in-3.result fault c.from_residual-in_err-threads-in-3.ensures.1)
    (stream_refused c.args.reader.now c.rows.new.self c.args.item 3 c.in-3.is (λ size e at. refl) kinds.Threads refl
    (λ F at. HasRecords F at kinds.Threads (λ k. IsThread F)) fault c.in_err-threads-in-3.ensures.of_file)

pub returns-in_err-modules-in-4-clause-of_file : goal.returns-in_err-modules-in-4-clause-of_file
returns-in_err-modules-in-4-clause-of_file g c =
    let fault = c.in_err-modules-in-4.field-0.0 in
    rw (refused_by c.from_residual-in_err-modules-in-4.result fault c.from_residual-in_err-modules-in-4.ensures.1)
    (stream_refused c.args.reader.now c.rows-in-4.new.self c.args.item 4 c.in-4.is (λ size e at. refl) kinds.Modules refl
    (λ F at. HasRecords F at kinds.Modules (λ k. IsModule F)) fault c.in_err-modules-in-4.ensures.of_file)

pub returns-in_err-ranges-in-5-clause-of_file : goal.returns-in_err-ranges-in-5-clause-of_file
returns-in_err-ranges-in-5-clause-of_file g c =
    let fault = c.in_err-ranges-in-5.field-0.0 in
    rw (refused_by c.from_residual-in_err-ranges-in-5.result fault c.from_residual-in_err-ranges-in-5.ensures.1)
    (stream_refused c.args.reader.now c.rows-in-5.new.self c.args.item 5 c.in-5.is (λ size e at. refl) kinds.Memory refl
    (λ F at. HasRecords F at kinds.Memory (λ k. IsMemory F)) fault c.in_err-ranges-in-5.ensures.of_file)

pub returns-in_err-ranges-in-9-clause-of_file : goal.returns-in_err-ranges-in-9-clause-of_file
returns-in_err-ranges-in-9-clause-of_file g c =
    let fault = c.in_err-ranges-in-9.field-0.0 in
    rw (refused_by c.from_residual-in_err-ranges-in-9.result fault c.from_residual-in_err-ranges-in-9.ensures.1)
    (stream_refused c.args.reader.now c.rows-in-9.new.self c.args.item 9 c.in-9.is (λ size e at. refl) kinds.Memory64 refl
    (λ F at. HasRecords F at kinds.Memory64 (IsMemory64 F at.rva)) fault c.in_err-ranges-in-9.ensures.of_file)

pub returns-in_err-modules-in-14-clause-of_file : goal.returns-in_err-modules-in-14-clause-of_file
returns-in_err-modules-in-14-clause-of_file g c =
    let fault = c.in_err-modules-in-14.field-0.0 in
    rw (refused_by c.from_residual-in_err-modules-in-14.result fault c.from_residual-in_err-modules-in-14.ensures.1)
    (stream_refused c.args.reader.now c.rows-in-14.new.self c.args.item 14 c.in-14.is (λ size e at. refl) kinds.Unloaded refl
    (λ F at. HasRecords F at kinds.Unloaded (λ k. IsUnloaded F)) fault c.in_err-modules-in-14.ensures.of_file)

pub returns-in_err-threads-in-24-clause-of_file : goal.returns-in_err-threads-in-24-clause-of_file
returns-in_err-threads-in-24-clause-of_file g c =
    let fault = c.in_err-threads-in-24.field-0.0 in
    rw (refused_by c.from_residual-in_err-threads-in-24.result fault c.from_residual-in_err-threads-in-24.ensures.1)
    (stream_refused c.args.reader.now c.rows-in-24.new.self c.args.item 24 c.in-24.is (λ size e at. refl) kinds.ThreadNames refl
    (λ F at. HasRecords F at kinds.ThreadNames (λ k. IsThreadName F)) fault c.in_err-threads-in-24.ensures.of_file)

pub behind-requires : goal.behind-requires
behind-requires g c = c.requires

pub rows-requires : goal.rows-requires
rows-requires g c = c.requires

pub rows-requires-in-4 : goal.rows-requires-in-4
rows-requires-in-4 g c = c.requires

pub rows-requires-in-5 : goal.rows-requires-in-5
rows-requires-in-5 g c = c.requires

pub rows-requires-in-9 : goal.rows-requires-in-9
rows-requires-in-9 g c = c.requires

pub rows-requires-in-14 : goal.rows-requires-in-14
rows-requires-in-14 g c = c.requires

pub rows-requires-in-16 : goal.rows-requires-in-16
rows-requires-in-16 g c = c.requires

pub rows-requires-in-24 : goal.rows-requires-in-24
rows-requires-in-24 g c = c.requires

pub single-requires : goal.single-requires
single-requires g c = c.requires

pub single-requires-in-7 : goal.single-requires-in-7
single-requires-in-7 g c = c.requires

pub read_raw-requires : goal.read_raw-requires
read_raw-requires g c = c.requires

pub returns-in_ok-regions-in-16-clause-of_file : goal.returns-in_ok-regions-in-16-clause-of_file
returns-in_ok-regions-in-16-clause-of_file g c =
    let r = c.in_ok-regions-in-16 in
    stream_read c.args.reader.now c.rows-in-16.new.self c.args.item 16 c.in-16.is (λ size e at. refl) kinds.MemoryInfo refl
    (λ F at. HasRecords F at kinds.MemoryInfo (λ k o row. memory_info_at F o ≡ row)) r.regions _ r.next (λ F e type has. (streams.MemoryInfo r.regions, (refl, record { type_is = type; stands = has })))
    r.ensures.of_file

pub returns-in_err-regions-in-16-clause-of_file : goal.returns-in_err-regions-in-16-clause-of_file
returns-in_err-regions-in-16-clause-of_file g c =
    let fault = c.in_err-regions-in-16.field-0.0 in
    rw (refused_by c.from_residual-in_err-regions-in-16.result fault c.from_residual-in_err-regions-in-16.ensures.1)
    (stream_refused c.args.reader.now c.rows-in-16.new.self c.args.item 16 c.in-16.is (λ size e at. refl) kinds.MemoryInfo refl
    (λ F at. HasRecords F at kinds.MemoryInfo (λ k o row. memory_info_at F o ≡ row)) fault c.in_err-regions-in-16.ensures.of_file)

pub returns-in_err-next-in-0-clause-keeps : goal.returns-in_err-next-in-0-clause-keeps
returns-in_err-next-in-0-clause-keeps g c =
    let fault = c.in_err-next-in-0.field-0.0 in
    rw (refused_by c.from_residual.result fault c.from_residual.ensures.1) (keeps_any _ fault c.args.reader.now _ c.in_err-next-in-0.ensures.keeps)

pub returns-in_ok-next-in-0-clause-keeps : goal.returns-in_ok-next-in-0-clause-keeps
returns-in_ok-next-in-0-clause-keeps g c = c.in_ok-next-in-0.ensures.keeps

pub returns-in_err-threads-in-3-clause-keeps : goal.returns-in_err-threads-in-3-clause-keeps
returns-in_err-threads-in-3-clause-keeps g c =
    let fault = c.in_err-threads-in-3.field-0.0 in
    rw (refused_by c.from_residual-in_err-threads-in-3.result fault c.from_residual-in_err-threads-in-3.ensures.1) (keeps_any _ fault c.args.reader.now _ c.in_err-threads-in-3.ensures.step.keeps)

pub returns-in_ok-threads-in-3-clause-keeps : goal.returns-in_ok-threads-in-3-clause-keeps
returns-in_ok-threads-in-3-clause-keeps g c = c.in_ok-threads-in-3.ensures.step.keeps

pub returns-in_err-modules-in-4-clause-keeps : goal.returns-in_err-modules-in-4-clause-keeps
returns-in_err-modules-in-4-clause-keeps g c =
    let fault = c.in_err-modules-in-4.field-0.0 in
    rw (refused_by c.from_residual-in_err-modules-in-4.result fault c.from_residual-in_err-modules-in-4.ensures.1) (keeps_any _ fault c.args.reader.now _ c.in_err-modules-in-4.ensures.step.keeps)

pub returns-in_ok-modules-in-4-clause-keeps : goal.returns-in_ok-modules-in-4-clause-keeps
returns-in_ok-modules-in-4-clause-keeps g c = c.in_ok-modules-in-4.ensures.step.keeps

pub returns-in_err-ranges-in-5-clause-keeps : goal.returns-in_err-ranges-in-5-clause-keeps
returns-in_err-ranges-in-5-clause-keeps g c =
    let fault = c.in_err-ranges-in-5.field-0.0 in
    rw (refused_by c.from_residual-in_err-ranges-in-5.result fault c.from_residual-in_err-ranges-in-5.ensures.1) (keeps_any _ fault c.args.reader.now _ c.in_err-ranges-in-5.ensures.step.keeps)

pub returns-in_ok-ranges-in-5-clause-keeps : goal.returns-in_ok-ranges-in-5-clause-keeps
returns-in_ok-ranges-in-5-clause-keeps g c = c.in_ok-ranges-in-5.ensures.step.keeps

pub returns-in_err-exception-in-6-clause-keeps : goal.returns-in_err-exception-in-6-clause-keeps
returns-in_err-exception-in-6-clause-keeps g c =
    let fault = c.in_err-exception-in-6.field-0.0 in
    rw (refused_by c.from_residual-in_err-exception-in-6.result fault c.from_residual-in_err-exception-in-6.ensures.1) (keeps_any _ fault c.args.reader.now _ c.in_err-exception-in-6.ensures.step.keeps)

pub returns-in_ok-exception-in-6-clause-keeps : goal.returns-in_ok-exception-in-6-clause-keeps
returns-in_ok-exception-in-6-clause-keeps g c = c.in_ok-exception-in-6.ensures.step.keeps

pub returns-in_err-system-in-7-clause-keeps : goal.returns-in_err-system-in-7-clause-keeps
returns-in_err-system-in-7-clause-keeps g c =
    let fault = c.in_err-system-in-7.field-0.0 in
    rw (refused_by c.from_residual-in_err-system-in-7.result fault c.from_residual-in_err-system-in-7.ensures.1) (keeps_any _ fault c.args.reader.now _ c.in_err-system-in-7.ensures.step.keeps)

pub returns-in_ok-system-in-7-clause-keeps : goal.returns-in_ok-system-in-7-clause-keeps
returns-in_ok-system-in-7-clause-keeps g c = c.in_ok-system-in-7.ensures.step.keeps

pub returns-in_err-ranges-in-9-clause-keeps : goal.returns-in_err-ranges-in-9-clause-keeps
returns-in_err-ranges-in-9-clause-keeps g c =
    let fault = c.in_err-ranges-in-9.field-0.0 in
    rw (refused_by c.from_residual-in_err-ranges-in-9.result fault c.from_residual-in_err-ranges-in-9.ensures.1) (keeps_any _ fault c.args.reader.now _ c.in_err-ranges-in-9.ensures.step.keeps)

pub returns-in_ok-ranges-in-9-clause-keeps : goal.returns-in_ok-ranges-in-9-clause-keeps
returns-in_ok-ranges-in-9-clause-keeps g c = c.in_ok-ranges-in-9.ensures.step.keeps

pub returns-in_err-modules-in-14-clause-keeps : goal.returns-in_err-modules-in-14-clause-keeps
returns-in_err-modules-in-14-clause-keeps g c =
    let fault = c.in_err-modules-in-14.field-0.0 in
    rw (refused_by c.from_residual-in_err-modules-in-14.result fault c.from_residual-in_err-modules-in-14.ensures.1) (keeps_any _ fault c.args.reader.now _ c.in_err-modules-in-14.ensures.step.keeps)

pub returns-in_ok-modules-in-14-clause-keeps : goal.returns-in_ok-modules-in-14-clause-keeps
returns-in_ok-modules-in-14-clause-keeps g c = c.in_ok-modules-in-14.ensures.step.keeps

pub returns-in_err-regions-in-16-clause-keeps : goal.returns-in_err-regions-in-16-clause-keeps
returns-in_err-regions-in-16-clause-keeps g c =
    let fault = c.in_err-regions-in-16.field-0.0 in
    rw (refused_by c.from_residual-in_err-regions-in-16.result fault c.from_residual-in_err-regions-in-16.ensures.1) (keeps_any _ fault c.args.reader.now _ c.in_err-regions-in-16.ensures.step.keeps)

pub returns-in_ok-regions-in-16-clause-keeps : goal.returns-in_ok-regions-in-16-clause-keeps
returns-in_ok-regions-in-16-clause-keeps g c = c.in_ok-regions-in-16.ensures.step.keeps

pub returns-in_err-threads-in-24-clause-keeps : goal.returns-in_err-threads-in-24-clause-keeps
returns-in_err-threads-in-24-clause-keeps g c =
    let fault = c.in_err-threads-in-24.field-0.0 in
    rw (refused_by c.from_residual-in_err-threads-in-24.result fault c.from_residual-in_err-threads-in-24.ensures.1) (keeps_any _ fault c.args.reader.now _ c.in_err-threads-in-24.ensures.step.keeps)

pub returns-in_ok-threads-in-24-clause-keeps : goal.returns-in_ok-threads-in-24-clause-keeps
returns-in_ok-threads-in-24-clause-keeps g c = c.in_ok-threads-in-24.ensures.step.keeps

pub returns-in_err-next-in-0-clause-reads : goal.returns-in_err-next-in-0-clause-reads
returns-in_err-next-in-0-clause-reads g c =
    let fault = c.in_err-next-in-0.field-0.0 in
    rw (refused_by c.from_residual.result fault c.from_residual.ensures.1) (reads_any _ [] _ _ _ (reads_as [] fault _ _ c.in_err-next-in-0.ensures.reads))

pub returns-in_err-threads-in-3-clause-reads : goal.returns-in_err-threads-in-3-clause-reads
returns-in_err-threads-in-3-clause-reads g c =
    let fault = c.in_err-threads-in-3.field-0.0 in
    rw (refused_by c.from_residual-in_err-threads-in-3.result fault c.from_residual-in_err-threads-in-3.ensures.1) (reads_any _ [] _ _ _ (reads_as [] fault _ _ c.in_err-threads-in-3.ensures.step.reads))

pub returns-in_err-modules-in-4-clause-reads : goal.returns-in_err-modules-in-4-clause-reads
returns-in_err-modules-in-4-clause-reads g c =
    let fault = c.in_err-modules-in-4.field-0.0 in
    rw (refused_by c.from_residual-in_err-modules-in-4.result fault c.from_residual-in_err-modules-in-4.ensures.1) (reads_any _ [] _ _ _ (reads_as [] fault _ _ c.in_err-modules-in-4.ensures.step.reads))

pub returns-in_err-ranges-in-5-clause-reads : goal.returns-in_err-ranges-in-5-clause-reads
returns-in_err-ranges-in-5-clause-reads g c =
    let fault = c.in_err-ranges-in-5.field-0.0 in
    rw (refused_by c.from_residual-in_err-ranges-in-5.result fault c.from_residual-in_err-ranges-in-5.ensures.1) (reads_any _ [] _ _ _ (reads_as [] fault _ _ c.in_err-ranges-in-5.ensures.step.reads))

pub returns-in_err-exception-in-6-clause-reads : goal.returns-in_err-exception-in-6-clause-reads
returns-in_err-exception-in-6-clause-reads g c =
    let fault = c.in_err-exception-in-6.field-0.0 in
    rw (refused_by c.from_residual-in_err-exception-in-6.result fault c.from_residual-in_err-exception-in-6.ensures.1) (reads_any _ [] _ _ _ (reads_as [] fault _ _ c.in_err-exception-in-6.ensures.step.reads))

pub returns-in_err-system-in-7-clause-reads : goal.returns-in_err-system-in-7-clause-reads
returns-in_err-system-in-7-clause-reads g c =
    let fault = c.in_err-system-in-7.field-0.0 in
    rw (refused_by c.from_residual-in_err-system-in-7.result fault c.from_residual-in_err-system-in-7.ensures.1) (reads_any _ [] _ _ _ (reads_as [] fault _ _ c.in_err-system-in-7.ensures.step.reads))

pub returns-in_err-ranges-in-9-clause-reads : goal.returns-in_err-ranges-in-9-clause-reads
returns-in_err-ranges-in-9-clause-reads g c =
    let fault = c.in_err-ranges-in-9.field-0.0 in
    rw (refused_by c.from_residual-in_err-ranges-in-9.result fault c.from_residual-in_err-ranges-in-9.ensures.1) (reads_any _ [] _ _ _ (reads_as [] fault _ _ c.in_err-ranges-in-9.ensures.step.reads))

pub returns-in_err-modules-in-14-clause-reads : goal.returns-in_err-modules-in-14-clause-reads
returns-in_err-modules-in-14-clause-reads g c =
    let fault = c.in_err-modules-in-14.field-0.0 in
    rw (refused_by c.from_residual-in_err-modules-in-14.result fault c.from_residual-in_err-modules-in-14.ensures.1) (reads_any _ [] _ _ _ (reads_as [] fault _ _ c.in_err-modules-in-14.ensures.step.reads))

pub returns-in_err-regions-in-16-clause-reads : goal.returns-in_err-regions-in-16-clause-reads
returns-in_err-regions-in-16-clause-reads g c =
    let fault = c.in_err-regions-in-16.field-0.0 in
    rw (refused_by c.from_residual-in_err-regions-in-16.result fault c.from_residual-in_err-regions-in-16.ensures.1) (reads_any _ [] _ _ _ (reads_as [] fault _ _ c.in_err-regions-in-16.ensures.step.reads))

pub returns-in_err-threads-in-24-clause-reads : goal.returns-in_err-threads-in-24-clause-reads
returns-in_err-threads-in-24-clause-reads g c =
    let fault = c.in_err-threads-in-24.field-0.0 in
    rw (refused_by c.from_residual-in_err-threads-in-24.result fault c.from_residual-in_err-threads-in-24.ensures.1) (reads_any _ [] _ _ _ (reads_as [] fault _ _ c.in_err-threads-in-24.ensures.step.reads))

pub returns-in_ok-next-in-0-clause-reads : goal.returns-in_ok-next-in-0-clause-reads
returns-in_ok-next-in-0-clause-reads g c = reads_any _ _ _ _ _ (reads_done [] _ _ _ _ _ c.in_ok-next-in-0.ensures.reads)

pub returns-in_ok-threads-in-3-clause-reads : goal.returns-in_ok-threads-in-3-clause-reads
returns-in_ok-threads-in-3-clause-reads g c = reads_any _ _ _ _ _ (reads_done [] _ _ _ _ _ c.in_ok-threads-in-3.ensures.step.reads)

pub returns-in_ok-modules-in-4-clause-reads : goal.returns-in_ok-modules-in-4-clause-reads
returns-in_ok-modules-in-4-clause-reads g c = reads_any _ _ _ _ _ (reads_done [] _ _ _ _ _ c.in_ok-modules-in-4.ensures.step.reads)

pub returns-in_ok-ranges-in-5-clause-reads : goal.returns-in_ok-ranges-in-5-clause-reads
returns-in_ok-ranges-in-5-clause-reads g c = reads_any _ _ _ _ _ (reads_done [] _ _ _ _ _ c.in_ok-ranges-in-5.ensures.step.reads)

pub returns-in_ok-exception-in-6-clause-reads : goal.returns-in_ok-exception-in-6-clause-reads
returns-in_ok-exception-in-6-clause-reads g c = reads_any _ _ _ _ _ (reads_done [] _ _ _ _ _ c.in_ok-exception-in-6.ensures.step.reads)

pub returns-in_ok-system-in-7-clause-reads : goal.returns-in_ok-system-in-7-clause-reads
returns-in_ok-system-in-7-clause-reads g c = reads_any _ _ _ _ _ (reads_done [] _ _ _ _ _ c.in_ok-system-in-7.ensures.step.reads)

pub returns-in_ok-ranges-in-9-clause-reads : goal.returns-in_ok-ranges-in-9-clause-reads
returns-in_ok-ranges-in-9-clause-reads g c = reads_any _ _ _ _ _ (reads_done [] _ _ _ _ _ c.in_ok-ranges-in-9.ensures.step.reads)

pub returns-in_ok-modules-in-14-clause-reads : goal.returns-in_ok-modules-in-14-clause-reads
returns-in_ok-modules-in-14-clause-reads g c = reads_any _ _ _ _ _ (reads_done [] _ _ _ _ _ c.in_ok-modules-in-14.ensures.step.reads)

pub returns-in_ok-regions-in-16-clause-reads : goal.returns-in_ok-regions-in-16-clause-reads
returns-in_ok-regions-in-16-clause-reads g c = reads_any _ _ _ _ _ (reads_done [] _ _ _ _ _ c.in_ok-regions-in-16.ensures.step.reads)

pub returns-in_ok-threads-in-24-clause-reads : goal.returns-in_ok-threads-in-24-clause-reads
returns-in_ok-threads-in-24-clause-reads g c = reads_any _ _ _ _ _ (reads_done [] _ _ _ _ _ c.in_ok-threads-in-24.ensures.step.reads)
