-- Where a listing stood as it came to a fetch.
use Rattle.std.proofs.Common.{◌≡◌, ℕ, Err, ap, subst, sym}
use Rattle.mdmp_lister.specs.declared.fault.FaultKind.{FaultKind}
use Rattle.mdmp_lister.specs.declared.fault.ListFault.{ListFault}
use Rattle.mdmp_lister.specs.declared.sink.RunFault.TheVariants as run
use Rattle.mdmp_lister.specs.Lister.{IsSameLister, ListerState, Rooms, standpoint_in}
use Rattle.mdmp_lister.specs.Sink.{TellsRunFetch}
use Rattle.mdmp_lister.specs.NextFetch.{Standpoint, TellsNextFetch, TellsSomeFetch}

-- a fetch that came next where a listing stood came next in the entry that is the current one still
pub some_fetch : (s t : Standpoint) (kind : FaultKind) (offset size fetched : ℕ)
    → t.content ≡ s.content → t.size ≡ s.size → t.room ≡ s.room → t.limit ≡ s.limit → t.entry ≡ s.entry
    → TellsNextFetch s kind offset size fetched → TellsSomeFetch t kind offset size fetched
some_fetch s t kind offset size fetched content file_size room limit entry told =
    let contents = sym content in
    let sizes = sym file_size in
    let rooms = sym room in
    let limits = sym limit in
    let entries = sym entry in (
      s.standing,
      s.unread,
      s.fetched,
      subst (λ (u : Standpoint). TellsNextFetch u kind offset size fetched)
          (λ i. record { content = contents i; size = sizes i; room = rooms i; limit = limits i; entry = entries i; standing = s.standing; unread = s.unread; fetched = s.fetched })
          told,
    )

-- and so of a lister that goes on to a request which ends a run
pub run_fetch : (old new : ListerState) (f : ListFault) → IsSameLister old new → new.source.store.content ≡ old.source.store.content → new.source.size ≡ old.source.size → new.current ≡ old.current
    → TellsNextFetch (standpoint_in old) f.kind f.offset f.size new.counts.fetched → TellsRunFetch (Err (run.At f)) new
run_fetch old new f same content size current told =
    some_fetch (standpoint_in old) (standpoint_in new) f.kind f.offset f.size new.counts.fetched content size (ap (λ (r : Rooms). r.window) same.rooms) same.limit current told
