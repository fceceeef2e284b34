use Rattle.mdmp_lister.specs.FaultLaws.{next_fits}
use Rattle.std.proofs.Common.{None, Some, ap, refl, rules}
use Rattle.mdmp_wire.specs.declared.entry.Entry.{Entry}
use Rattle.mdmp_lister.specs.declared.item.Item.TheVariants as items
use Rattle.mdmp_dump.proofs.Keeping.{keeps_next, keeps_refused}
use Rattle.mdmp_dump.proofs.Settled.{fault-owed}
use Rattle.mdmp_dump.proofs.Taking.{Fetches_listed}
use Rattle.mdmp_dump.proofs.ItemsRead.{reads_answer, reads_fault, reads_item}
use Rattle.mdmp_lister.proofs.Requested.{item_requested}
use Rattle.mdmp_dump.proofs.reader.Reader.behind.Goals as goal

pub returns-in-Err-clause-gives : goal.returns-in-Err-clause-gives
returns-in-Err-clause-gives g c = λ file run known left first. (tt, λ own. rw left (fault-owed file c.args.self.now.left run c.in-Err.fault (c.in-Err.ensures.gives run left) own))

pub returns-in-Err-clause-fetches : goal.returns-in-Err-clause-fetches
returns-in-Err-clause-fetches g c =
    let holds = c.next.follows.holds-at-none in
    Fetches_listed c.args.self.now.lister.current c.in-Err.fault _ _ (record { count = _; fetches = holds.list.spends.fetches }) (rw c.in-Err.is at (holds.list.told c.requires)) c.in-Err.ensures.good
    (next_fits c.args.self.now.lister c.in-Err.fault c.next.follows.lender-at-none (rw c.in-Err.is at (holds.follows c.requires)))

pub returns-in-Err-clause-keeps : goal.returns-in-Err-clause-keeps
returns-in-Err-clause-keeps g c =
    keeps_refused c.args.self.now _ refl c.requires c.in-Err.fault (rw c.in-Err.is at c.next.follows.holds-at-none)

pub returns-in-Ok-Some-Stream-clause-keeps : goal.returns-in-Ok-Some-Stream-clause-keeps
returns-in-Ok-Some-Stream-clause-keeps g c = keeps_next c.args.self.now _ refl c.requires _ c.next.follows.holds-at-none

pub returns-clause-keeps : goal.returns-clause-keeps
returns-clause-keeps g c = keeps_next c.args.self.now _ refl c.requires _ c.next.follows.holds-at-none

pub returns-in-Ok-Some-Stream-clause-going : goal.returns-in-Ok-Some-Stream-clause-going
returns-in-Ok-Some-Stream-clause-going g c =
    let list = c.next.follows.holds-at-none.list in
    let r = c.in-Ok-Some-Stream in
    let stop = rw (r.is, r.field-0-is) at list.stands.stop in
    let falls = rw (r.is, r.field-0-is) at list.stands.falls in
    let entry = rw (r.is, r.field-0-is, r.field-0-0-is) at list.places.current in
    ((stop, falls), ap (λ (e : Entry). e.stream_type) entry, λ run left. (0, rw (r.field-0-is, r.field-0-0-is) at (r.ensures.gives run left)))

pub returns-in-Err-clause-reads : goal.returns-in-Err-clause-reads
returns-in-Err-clause-reads g c = reads_fault _ _ c.in-Err.fault (record { leaves = rw c.in-Err.is at c.next.follows.holds-at-none; gives = c.in-Err.ensures.gives })

pub returns-in-Ok-Some-Stream-clause-reads : goal.returns-in-Ok-Some-Stream-clause-reads
returns-in-Ok-Some-Stream-clause-reads g c =
    let r = c.in-Ok-Some-Stream in
    let leaves = rw (r.is, r.field-0-is, r.field-0-0-is) at c.next.follows.holds-at-none in
    let given = item_requested c.args.self.now.lister (items.Stream r.item) _ leaves (λ run left. rw (r.field-0-is, r.field-0-0-is) at (r.ensures.gives run left)) in
    reads_item c.args.self.now.lister _ (items.Stream r.item) (Some r.item) _ given refl

pub returns-clause-reads : goal.returns-clause-reads
returns-clause-reads g c = reads_answer c.args.self.now.lister _ None c.next.result (search rules) c.next.follows.holds-at-none c.next.ensures.gives

pub returns-2-clause-reads : goal.returns-2-clause-reads
returns-2-clause-reads g c = reads_answer c.args.self.now.lister _ None c.next.result (search rules) c.next.follows.holds-at-none c.next.ensures.gives
