use Rattle.std.proofs.Common.{◌≡◌, refl, Some}
use Rattle.mdmp_lister.specs.Lister.{tail}
use Rattle.mdmp_lister.specs.FaultLaws.{next_fits}
use Rattle.mdmp_dump.specs.Left.{left_from}
use Rattle.mdmp_dump.proofs.Keeping.{keeps_found, keeps_next, keeps_refused}
use Rattle.mdmp_dump.proofs.Settled.{end-given, fault-owed, found-given, found_first, found_going, read_kind}
use Rattle.mdmp_dump.proofs.Taking.{Fetches_found, Fetches_listed}
use Rattle.mdmp_dump.proofs.ItemsRead.{reads_end, reads_fault, reads_found}
use Rattle.mdmp_lister.proofs.Requested.{item_requested}
use Rattle.mdmp_lister.specs.ItemRead.{item_read}
use Rattle.mdmp_dump.proofs.reader.Reader.find.Goals as goal

pub returns-in-Err-clause-of_file : goal.returns-in-Err-clause-of_file
returns-in-Err-clause-of_file g c = λ file limit x k xs kind known left is current. (tt, λ own. rw left (fault-owed file c.args.self.now.left _ c.in-Err.fault (c.in-Err.ensures.gives _ left) own))

pub returns-in-Ok-None-clause-of_file : goal.returns-in-Ok-None-clause-of_file
returns-in-Ok-None-clause-of_file g c = λ file limit x k xs kind known left is current.
    let none = rw c.in-Ok-None.field-0-is at (c.in-Ok-None.ensures.gives _ left) in
    let new : c.next_read.follows.lender-at-none.left ≡ Some (left_from file limit x k xs) = rw (c.in-Ok-None.is, c.in-Ok-None.field-0-is, left) at c.next_read.follows.holds-at-none.leaves.list.stands.left in
    rw (new, left) (end-given file limit x k xs none, refl)

pub returns-in-Ok-Some-clause-of_file : goal.returns-in-Ok-Some-clause-of_file
returns-in-Ok-Some-clause-of_file g c = λ file limit x k xs kind known left is current.
    let z = c.args.self.now.lister.source.size in
    let holds = c.next_read.follows.holds-at-none in
    let first = rw c.in-Ok-Some.field-0-is at (c.in-Ok-Some.ensures.gives _ left) in
    let new : c.next_read.follows.lender-at-none.left ≡ Some (tail (left_from file limit x k xs)) = rw (c.in-Ok-Some.is, c.in-Ok-Some.field-0-is, left) at holds.leaves.list.stands.left in
    let entry = rw (c.in-Ok-Some.is, c.in-Ok-Some.field-0-is) at holds.leaves.list.places.current in
    let of = rw (c.in-Ok-Some.is, c.in-Ok-Some.field-0-is) at holds.kind in
    rw (new, left) (found-given file limit x k xs kind is c.args.self.now.left z c.in-Ok-Some.item (read_kind z x.entry.stream_type kind c.in-Ok-Some.item _ _ entry is current of) first c.found.result c.found.ensures)

pub returns-in-Err-clause-fetches : goal.returns-in-Err-clause-fetches
returns-in-Err-clause-fetches g c =
    let holds = c.next_read.follows.holds-at-none.leaves in
    Fetches_listed c.args.self.now.lister.current c.in-Err.fault _ _ (record { count = _; fetches = holds.list.spends.fetches }) (rw c.in-Err.is at (holds.list.told c.requires)) c.in-Err.ensures.good
    (next_fits c.args.self.now.lister c.in-Err.fault c.next_read.follows.lender-at-none (rw c.in-Err.is at (holds.follows c.requires)))

pub returns-in-Ok-Some-clause-fetches : goal.returns-in-Ok-Some-clause-fetches
returns-in-Ok-Some-clause-fetches g c =
    Fetches_found _ _ (record { count = _; fetches = c.next_read.follows.holds-at-none.leaves.list.spends.fetches }) c.in-Ok-Some.item c.found.result c.found.ensures

pub returns-in-Ok-Some-clause-going : goal.returns-in-Ok-Some-clause-going
returns-in-Ok-Some-clause-going g c =
    let list = c.next_read.follows.holds-at-none.leaves.list in
    let z = c.args.self.now.lister.source.size in
    let stop = rw (c.in-Ok-Some.is, c.in-Ok-Some.field-0-is) at list.stands.stop in
    let falls = rw (c.in-Ok-Some.is, c.in-Ok-Some.field-0-is) at list.stands.falls in
    let entry = rw (c.in-Ok-Some.is, c.in-Ok-Some.field-0-is) at list.places.current in
    found_going z c.in-Ok-Some.item c.args.self.now.lister c.next_read.follows.lender-at-none (stop, falls) entry (λ run left. rw c.in-Ok-Some.field-0-is at (c.in-Ok-Some.ensures.gives run left)) c.found.result c.found.ensures

pub returns-in-Ok-Some-clause-first : goal.returns-in-Ok-Some-clause-first
returns-in-Ok-Some-clause-first g c =
    found_first c.in-Ok-Some.item c.args.self.now.lister (λ run left. rw c.in-Ok-Some.field-0-is at (c.in-Ok-Some.ensures.gives run left)) c.found.result c.found.ensures

pub returns-in-Err-clause-keeps : goal.returns-in-Err-clause-keeps
returns-in-Err-clause-keeps g c =
    keeps_refused c.args.self.now _ refl c.requires c.in-Err.fault (rw c.in-Err.is at c.next_read.follows.holds-at-none.leaves)

pub returns-in-Ok-None-clause-keeps : goal.returns-in-Ok-None-clause-keeps
returns-in-Ok-None-clause-keeps g c =
    keeps_next c.args.self.now _ refl c.requires _ c.next_read.follows.holds-at-none.leaves

pub returns-in-Ok-Some-clause-keeps : goal.returns-in-Ok-Some-clause-keeps
returns-in-Ok-Some-clause-keeps g c =
    keeps_found c.in-Ok-Some.item c.args.self.now _ (keeps_next c.args.self.now _ refl c.requires _ c.next_read.follows.holds-at-none.leaves) c.found.result c.found.ensures

pub returns-in-Err-clause-reads : goal.returns-in-Err-clause-reads
returns-in-Err-clause-reads g c = reads_fault _ _ c.in-Err.fault (record { leaves = rw c.in-Err.is at c.next_read.follows.holds-at-none.leaves; gives = c.in-Err.ensures.gives })

pub returns-in-Ok-None-clause-reads : goal.returns-in-Ok-None-clause-reads
returns-in-Ok-None-clause-reads g c =
    let r = c.in-Ok-None in
    reads_end _ _ _ (record { leaves = rw (r.is, r.field-0-is) at c.next_read.follows.holds-at-none.leaves; gives = λ left known. rw r.field-0-is at (r.ensures.gives left known) })

pub returns-in-Ok-Some-clause-reads : goal.returns-in-Ok-Some-clause-reads
returns-in-Ok-Some-clause-reads g c =
    let r = c.in-Ok-Some in
    let leaves = rw (r.is, r.field-0-is) at c.next_read.follows.holds-at-none.leaves in
    let given = item_requested c.args.self.now.lister (item_read c.args.self.now.lister.source.size r.item) _ leaves (λ run left. rw r.field-0-is at (r.ensures.gives run left)) in
    reads_found c.args.self.now.lister _ r.item given c.found.result c.found.ensures
