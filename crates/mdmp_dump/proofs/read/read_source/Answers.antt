use Rattle.std.proofs.Common.{Err, None, Some, [], ap, refl, sym, ◌∙◌, ◌≡◌}
use Rattle.mdmp_lister.specs.declared.fault.OpenFault.{OpenFault}
use Rattle.mdmp_lister.specs.Format.Listing.{chosen}
use Rattle.mdmp_lister.specs.Format.Refusal.{opening_fault}
use Rattle.mdmp_dump.specs.Left.{run_of}
use Rattle.mdmp_dump.specs.Reading.{owed, read_within}
use Rattle.mdmp_dump.specs.Refusal.{read_refusal, refusal_of}
use Rattle.mdmp_lister.proofs.OutOfMemory.{out_of_memory-allowed}
use Rattle.mdmp_dump.proofs.Keeping.{opening_keeps, reading_ends, reading_keeps}
use Rattle.mdmp_dump.proofs.Opened.{opened-head, opened_behind, opening-fetches, opening-settles, tells_none, tells_of, wants_behind}
use Rattle.mdmp_dump.proofs.ReadWithin.{fetches-within, limited-within, opening-limited, refusal-without, settles-within, without}
use Rattle.mdmp_dump.proofs.Taking.{fetches_err, fetches_ok}
use Rattle.mdmp_dump.proofs.ItemsRead.{reads_done}
use Rattle.mdmp_dump.proofs.read.read_source.Goals as goal

pub returns-in-Err-clause-refuses : goal.returns-in-Err-clause-refuses
returns-in-Err-clause-refuses g c = λ file known.
    rw c.refusal.ensures (opening-settles file c.args.choice c.args.limits.name c.args.parts c.in-Err.refused.fault (c.in-Err.ensures.opens file known))

pub returns-in-Err-clause-cause : goal.returns-in-Err-clause-cause
returns-in-Err-clause-cause g c =
    rw c.refusal.ensures (opening-fetches _ c.in-Err.refused.fault c.args.source c.in-Err.refused.source c.in-Err.ensures.refused.handed_back.fetches c.in-Err.ensures.refused.fetches.cause c.in-Err.ensures.refused.fetches.good c.in-Err.ensures.refused.refusal)

pub returns-in-Err-clause-short : goal.returns-in-Err-clause-short
returns-in-Err-clause-short g c = λ few. rw c.refusal.ensures (ap (λ (fault : OpenFault). Err (refusal_of fault)) (c.in-Err.ensures.short few))

pub returns-in-Err-read_streams-clause-refuses : goal.returns-in-Err-read_streams-clause-refuses
returns-in-Err-read_streams-clause-refuses g c = λ file known.
    let opened = c.in-Ok.ensures.new in
    let none : opening_fault file c.args.choice ≡ None = c.in-Ok.ensures.opens file known in
    let left : c.in-Ok.lister.left ≡ Some (run_of file c.args.limits.name (chosen file c.args.choice)) = opened.list.given.left ∙ (rw known refl) in
    let read = c.in-Err-read_streams.ensures.of_file file c.args.limits.name (chosen file c.args.choice) (opened.fetches.same_content ∙ known) left in
    let owes : owed file c.args.parts None c.in-Ok.lister.left ≡ read_refusal file c.args.choice c.args.limits.name c.args.parts = rw (left, none) refl in
    rw c.told_within.ensures (settles-within {T = Unit {0}} c.args.limits.budget (read_refusal file c.args.choice c.args.limits.name c.args.parts) c.in-Err-read_streams.fault (λ _. None) (λ own. sym owes ∙ read.1 own))

pub returns-in-Err-read_streams-clause-cause : goal.returns-in-Err-read_streams-clause-cause
returns-in-Err-read_streams-clause-cause g c =
    rw (c.source_of-in-Err-read_streams.ensures.value, c.told_within.ensures) (fetches-within c.args.limits.budget c.in-Err-read_streams.fault c.args.source c.read_streams.new.reader.lister.source
    (fetches_err c.args.source c.in-Ok.lister.source c.read_streams.new.reader.lister.source
    (record { count = _; fetches = c.in-Ok.ensures.new.fetches }) c.in-Err-read_streams.fault c.in-Err-read_streams.ensures.fetches))

pub returns-in-Ok-read_streams-clause-lays_out : goal.returns-in-Ok-read_streams-clause-lays_out
returns-in-Ok-read_streams-clause-lays_out g c = λ file known.
    let opened = c.in-Ok.ensures.new in
    let head = opened-head file c.args.choice (c.in-Ok.ensures.opens file known) in
    let header = c.header-header.ensures ∙ opened.list.read.header_is file known in
    let left : c.in-Ok.lister.left ≡ Some (run_of file c.args.limits.name (chosen file c.args.choice)) = opened.list.given.left ∙ (rw known refl) in
    let read = c.in-Ok-read_streams.ensures.of_file file c.args.limits.name (chosen file c.args.choice) (opened.fetches.same_content ∙ known) left in
    rw header (record { header = head.0; version_high = refl; checksum = refl; time = refl; flags = refl; directory = head.1; streams = read.0 })

pub returns-in-Ok-read_streams-clause-refuses : goal.returns-in-Ok-read_streams-clause-refuses
returns-in-Ok-read_streams-clause-refuses g c = λ file known.
    let opened = c.in-Ok.ensures.new in
    let none : opening_fault file c.args.choice ≡ None = c.in-Ok.ensures.opens file known in
    let left : c.in-Ok.lister.left ≡ Some (run_of file c.args.limits.name (chosen file c.args.choice)) = opened.list.given.left ∙ (rw known refl) in
    let read = c.in-Ok-read_streams.ensures.of_file file c.args.limits.name (chosen file c.args.choice) (opened.fetches.same_content ∙ known) left in
    let owes : owed file c.args.parts None c.in-Ok.lister.left ≡ read_refusal file c.args.choice c.args.limits.name c.args.parts = rw (left, none) refl in
    sym owes ∙ read.1

pub returns-in-Ok-read_streams-clause-cause : goal.returns-in-Ok-read_streams-clause-cause
returns-in-Ok-read_streams-clause-cause g c =
    rw c.source_of.ensures.value (fetches_ok c.args.source c.in-Ok.lister.source c.read_streams.new.reader.lister.source
    (record { count = _; fetches = c.in-Ok.ensures.new.fetches }) _ c.in-Ok-read_streams.ensures.fetches.fetches)

pub returns-in-Err-read_streams-clause-short : goal.returns-in-Err-read_streams-clause-short
returns-in-Err-read_streams-clause-short g c = λ few. absurd (c.in-Ok.ensures.short few)

pub returns-in-Ok-read_streams-clause-short : goal.returns-in-Ok-read_streams-clause-short
returns-in-Ok-read_streams-clause-short g c = λ few. absurd (c.in-Ok.ensures.short few)

pub returns-in-Err-clause-tells : goal.returns-in-Err-clause-tells
returns-in-Err-clause-tells g c =
    let fault = c.in-Err.refused.fault in
    rw c.refusal.ensures
    (tells_of {T = Unit {0}} (refusal_of fault) c.args.source c.in-Err.refused.source
    (opening-fetches _ fault c.args.source c.in-Err.refused.source c.in-Err.ensures.refused.handed_back.fetches c.in-Err.ensures.refused.fetches.cause c.in-Err.ensures.refused.fetches.good c.in-Err.ensures.refused.refusal)
    (λ is file known. wants_behind file c.args.choice fault (c.in-Err.ensures.opens file known) is))

pub returns-in-Err-read_streams-clause-tells : goal.returns-in-Err-read_streams-clause-tells
returns-in-Err-read_streams-clause-tells g c =
    rw c.told_within.ensures (tells_of {T = Unit {0}} (read_within c.args.limits.budget c.in-Err-read_streams.fault) c.args.source c.read_streams.new.reader.lister.source
    (fetches-within c.args.limits.budget c.in-Err-read_streams.fault c.args.source c.read_streams.new.reader.lister.source (fetches_err c.args.source c.in-Ok.lister.source c.read_streams.new.reader.lister.source (record { count = _; fetches = c.in-Ok.ensures.new.fetches }) c.in-Err-read_streams.fault c.in-Err-read_streams.ensures.fetches))
    (λ is file known. opened_behind file c.args.choice (c.in-Ok.ensures.opens file known)))

pub returns-in-Err-clause-limited : goal.returns-in-Err-clause-limited
returns-in-Err-clause-limited g c =
    rw c.refusal.ensures (opening-limited c.args.limits c.args.choice c.args.source c.in-Err.refused.fault c.in-Err.refused.source c.in-Err.ensures.refused.over c.in-Err.ensures.within)

pub returns-in-Err-read_streams-clause-limited : goal.returns-in-Err-read_streams-clause-limited
returns-in-Err-read_streams-clause-limited g c =
    rw c.told_within.ensures (limited-within c.args.limits c.args.choice c.args.source.store.content c.args.limits.budget c.in-Err-read_streams.fault (λ file known. (c.in-Ok.ensures.within file known, c.in-Ok.ensures.new.opening file known)))

pub returns-in-Ok-read_streams-clause-limited : goal.returns-in-Ok-read_streams-clause-limited
returns-in-Ok-read_streams-clause-limited g c = λ file known. (c.in-Ok.ensures.within file known, c.in-Ok.ensures.new.opening file known)

pub returns-in-Err-clause-unbudgeted : goal.returns-in-Err-clause-unbudgeted
returns-in-Err-clause-unbudgeted g c = λ none.
    let fault = c.in-Err.refused.fault in
    rw c.refusal.ensures (refusal-without fault (tells_none c.args.limits c.args.source fault c.in-Err.refused.source none c.in-Err.ensures.refused.fetches.kept))

pub returns-in-Err-read_streams-clause-unbudgeted : goal.returns-in-Err-read_streams-clause-unbudgeted
returns-in-Err-read_streams-clause-unbudgeted g c = λ none. rw (c.told_within.ensures, none) (without c.in-Err-read_streams.fault)

pub returns-in-Err-clause-keeps : goal.returns-in-Err-clause-keeps
returns-in-Err-clause-keeps g c =
    rw c.refusal.ensures (opening_keeps c.args.choice c.args.limits c.args.parts c.args.source c.in-Err.refused.fault c.in-Err.refused.source c.in-Err.ensures.refused.fetches.kept c.in-Err.ensures.refused.fetches.next
    c.in-Err.ensures.refused.handed_back (out_of_memory-allowed _ _ _ _ _ _ _ c.in-Err.ensures.lacks c.in-Err.ensures.refused.memory))

pub returns-in-Ok-read_streams-clause-keeps : goal.returns-in-Ok-read_streams-clause-keeps
returns-in-Ok-read_streams-clause-keeps g c =
    let opened = c.in-Ok.ensures.new in
    reading_keeps c.args.choice c.args.limits c.args.parts c.args.source _ c.read_streams.new.reader c.source_of.result opened refl (λ file known. (let size = rw known at c.size-size.ensures.content in sym c.size-size.ensures.value ∙ size)) c.source_of.ensures.value c.source_of.ensures.spent c.source_of.ensures.booked c.source_of.ensures.kept _
    c.in-Ok-read_streams.ensures.keeps (reads_done [] [] _ _ _ _ c.in-Ok-read_streams.ensures.reads)
    (λ file known.
    let left : c.in-Ok.lister.left ≡ Some (run_of file c.args.limits.name (chosen file c.args.choice)) = opened.list.given.left ∙ (rw known refl) in
    c.in-Ok-read_streams.ensures.whole file c.args.limits.name (chosen file c.args.choice) (opened.fetches.same_content ∙ known) left)

pub returns-in-Err-read_streams-clause-keeps : goal.returns-in-Err-read_streams-clause-keeps
returns-in-Err-read_streams-clause-keeps g c =
    let opened = c.in-Ok.ensures.new in
    let ended = c.source_of-in-Err-read_streams.ensures in
    rw c.told_within.ensures
    (reading_ends c.args.choice c.args.limits c.args.parts c.args.source _ c.read_streams.new.reader c.source_of-in-Err-read_streams.result opened refl (λ file known. (let size = rw known at c.size-size.ensures.content in sym c.size-size.ensures.value ∙ size)) ended.value ended.spent ended.booked ended.kept
    c.in-Err-read_streams.fault c.in-Err-read_streams.ensures.keeps c.in-Err-read_streams.ensures.reads)
