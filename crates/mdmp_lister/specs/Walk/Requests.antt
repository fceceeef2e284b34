-- What a request for the next item leaves of a walk.
use Rattle.std.specs.Prelude.{◌≡◌, ◌≤◌, ◌<◌, ◌+◌, ◌-◌, ℕ, List, Option, Some, None, Result, Ok, Err, IfOk, IfErr, IfSome, IsOk, IsTrue, false, get_or, length, max}
use Rattle.mdmp_source.specs.Count.{raised}
use Rattle.mdmp_source.specs.Source.{FetchesAtMost}
use Rattle.mdmp_source.specs.Store.{IsGood}
use Rattle.mdmp_source.specs.declared.fault.SourceFault.{SourceFault}
use Rattle.mdmp_source.specs.declared.fault.SourceFault.TheVariants.{Changed}
use Rattle.mdmp_wire.specs.declared.entry.Entry.{Entry}
use Rattle.mdmp_source.specs.declared.location.Location.{Location}
use Rattle.mdmp_lister.specs.declared.codeview.CodeViewRead.{CodeViewRead}
use Rattle.mdmp_lister.specs.declared.fault.FaultKind.TheVariants.{Source}
use Rattle.mdmp_lister.specs.declared.fault.ListFault.{ListFault}
use Rattle.mdmp_lister.specs.declared.kind.StreamKind.{StreamKind}
use Rattle.mdmp_lister.specs.declared.meter.Amount.{Amount}
use Rattle.mdmp_lister.specs.declared.step.Step.{Step}
use Rattle.mdmp_lister.specs.declared.step.Step.TheVariants as step
use Rattle.mdmp_lister.specs.declared.walk.Walk.{Walk}
use Rattle.mdmp_lister.specs.CodeView.{ReadsCodeView}
use Rattle.mdmp_lister.specs.Costs.{IsUnreadBy, begun_at, given_spent, stream_begun}
use Rattle.mdmp_lister.specs.Meter.{Books, IsUnmade, Moves, counts_of}
use Rattle.mdmp_lister.specs.NextFetch.{IsStepPaid, Standpoint, TellsNextFetch, head_takes}
use Rattle.mdmp_lister.specs.Walk.Paying.{IsPaid, IsWithinSince, unread_bytes}
use Rattle.mdmp_lister.specs.Walk.Reaching.{Reaches, ReachesAtFault, given_once}
use Rattle.mdmp_lister.specs.Fault.{IsOfStore, IsToldIn}
use Rattle.mdmp_lister.specs.Following.{Follows, IsBegun, begun}
use Rattle.mdmp_lister.specs.Format.Kind.{HasNoNames, kind_of}
use Rattle.mdmp_lister.specs.Format.Listing.{records_told}
use Rattle.mdmp_lister.specs.Stage.{IsCounted, IsStageAfter, StaysUnchanged, ends, fault_stage, records_left_in, standing_of, stop_after, stop_of}
use Rattle.mdmp_lister.specs.declared.stage.Stage.TheVariants.{Between, Head}
use Rattle.mdmp_lister.specs.Walk.Owing.{HasRoom, count_answered}
use Rattle.mdmp_lister.specs.Step.{CurrentAfter, IsStepHeld, TakesRecord, stream_told}
use Rattle.mdmp_lister.specs.Walk.{Advances, IsListing, IsPastHead, IsSound, IsStageCounted, PassesTo, SameEntry, SameRoom, current_of, cursor_of, left_of, work_of}

module _ {S A : Type 0} where
  -- a step that was given
  pub record StepGiven (old : Walk S A) (step : Step) (new : Walk S A) : Type 0 where
    -- its name stands in the walk's buffer, and it is a record of the entry's kind
    pub held : IsStepHeld (length new.name.items) (kind_of new.current.stream_type) step
    -- where it begins an entry, the stream of that entry is left to be read
    pub begins : IsUnreadBy old.meter.source.size (stream_told step) (unread_bytes old) (unread_bytes new)
    pub head : IfSome (stream_told step) (λ _. new.stage ≡ Head)
    pub falls : work_of new < work_of old

  -- where it stands as its next step is asked for
  abbrev pub standpoint_of : Walk S A → Standpoint
  standpoint_of w = record {
    content = w.meter.source.store.content;
    size = w.meter.source.size;
    room = w.window.room;
    limit = w.name.limit;
    entry = w.current;
    standing = standing_of w.stage;
    unread = unread_bytes w;
    fetched = w.meter.fetched;
  }

  -- the bytes of the head were fetched, and come off those of the current entry's stream that may still be
  abbrev pub TakesHead : StreamKind → Walk S A → Walk S A → Type 0
  TakesHead kind old new =
      let taken = head_takes (standpoint_of old) kind in
      (new.meter.fetched ≡ raised old.meter.fetched taken) × (unread_bytes new ≡ unread_bytes old - taken)

  -- a fault that was met: it stands in the current entry; one of the store was told by the last fetch, and one of the budget
  -- is of a fetch that was not made
  pub record FaultMet (old : Walk S A) (fault : ListFault) (new : Walk S A) : Type 0 where
    pub told : IsToldIn old.current fault old.meter.source new.meter.source
    pub number : fault.entry + 1 ≡ old.next
    pub named : ReachesAtFault fault.kind old.meter new.meter
    pub over : IsUnmade (max old.window.room old.name.limit) fault.kind fault.offset fault.size (counts_of new.meter) new.meter.source.size
    -- the one that comes next
    pub next : TellsNextFetch (standpoint_of old) fault.kind fault.offset fault.size new.meter.fetched

  -- a request for the next item was answered so, and left the walk so
  pub record Answered (old : Walk S A) (result : Result (Option Step) ListFault) (new : Walk S A) : Type 0 where
    pub sound : IsSound new
    pub same : SameRoom old new
    -- the first of what was left was answered
    pub listing : (file : List ℕ) → old.meter.source.store.content ≡ Some file
        → Advances old.meter.source.size new.name.items (left_of old file) result (left_of new file)
    pub given : IfOk result (λ given. IfSome given (λ step. StepGiven old step new))
    pub met : stop_of old.stage ≡ None → IfErr result (λ fault. FaultMet old fault new)
    pub stage : IsStageAfter result new.stage
    pub passed : PassesTo result old.next new.next
    pub current : CurrentAfter result old.current new.current
    pub records : TakesRecord (records_left_in old.stage) result (records_left_in new.stage)
    -- what may be answered next, whatever the file holds
    pub follows : stop_of old.stage ≡ None → Follows old.choice old.entries.items old.meter.source.size old.name.limit (cursor_of old) result (cursor_of new)
    pub rests : work_of new ≤ work_of old
    -- what came off the unread bytes of the current entry's stream was fetched, and the name of the step
    pub fetches : FetchesAtMost (unread_bytes old + stream_begun old.meter.source.size (begun_at result) + given_spent old.name.limit result - unread_bytes new)
        old.meter.source new.meter.source
    pub counts : Moves 1 (counts_of old.meter) (counts_of new.meter)
    pub named : IfOk result (λ given. Reaches (given_once given) old.meter new.meter)
    -- just so many bytes, and just so many are unread behind a record
    pub costs : IfOk result (λ given. IsStepPaid (standpoint_of old) given new.meter.fetched (unread_bytes new))
    -- and so it was counted, with a name and its length where one was reached
    pub spent : IsWithinSince old.meter.asked old.meter.fetched old.meter.names (unread_bytes old + stream_begun old.meter.source.size (begun_at result)) new
    pub paid : (allowed : Amount) (before : ℕ) → IsPaid allowed before old → IsPaid allowed before new
    -- an answer that is given again changes nothing
    pub repeats : (stop : Option ListFault) → stop_of old.stage ≡ Some stop → (new ≡ old) × (stop_after result ≡ Some stop)
    -- a store that is good has no fault
    pub good : (file : List ℕ) → IsGood old.meter.source.store file → IfErr result (λ fault. IsOfStore fault.kind → ⊥)

  -- the head of the current entry was read, or it has none: nothing was given, and what is left of the entry stays
  pub record HeadRead (old new : Walk S A) : Type 0 where
    pub sound : IsSound new
    pub same : SameEntry old new
    pub left : (file : List ℕ) → old.meter.source.store.content ≡ Some file → current_of new file ≡ current_of old file
    pub stage : IsListing new.stage
    -- how far the entry was given then, whatever the file holds
    pub begins : IsBegun old.meter.source.size old.current (Ok (standing_of new.stage))
    pub falls : work_of new < work_of old
    pub owes : unread_bytes new ≤ unread_bytes old
    pub books : Books 1 (unread_bytes old - unread_bytes new) old.meter new.meter
    -- what was fetched is no longer unread
    pub taken : (kind : StreamKind) → kind_of old.current.stream_type ≡ Some kind → TakesHead kind old new
    pub paid : (allowed : Amount) (before : ℕ) → IsPaid allowed before old → IsPaid allowed before new

  -- the head of the current entry was read, or has a fault: what was fetched of it came off what was unread, and where the
  -- file is known the stage tells how many records the entry has
  pub record HeadCounted (old new : Walk S A) : Type 0 where
    pub books : Books 1 (unread_bytes old - unread_bytes new) old.meter new.meter
    pub of_file : (file : List ℕ) → old.meter.source.store.content ≡ Some file → IsCounted (records_told file (record { number = old.next - 1; entry = old.current })) new.stage
    pub unchanged : StaysUnchanged new.stage

  -- it stays for good at the fault that the store has changed
  pub record HasChanged {T : Type 0} (old : Walk S A) (result : Result T ListFault) (new : Walk S A) : Type 0 where
    pub fault : ListFault
    pub answer : result ≡ Err fault
    pub stops : new ≡ record old { stage = fault_stage fault }
    pub kind : fault.kind ≡ Source (Changed old.current.location.rva)
    pub placed : (fault.offset ≡ old.current.location.rva) × (fault.size ≡ 0)
    pub index : fault.index ≡ None
    pub entry : fault.entry + 1 ≡ old.next

  -- the Stream item of an entry was given, chosen or not
  pub record EntryTaken (at : ℕ) (old : Walk S A) (given : Step) (new : Walk S A) : Type 0 where
    pub sound : IsSound new
    pub is : new ≡ record old { next = at + 1; current = new.current; stage = Head }
    pub entry : (d : Entry) → get_or old.entries.items at d ≡ new.current
    pub step_is : given ≡ step.Stream (record { entry = at; stream_type = new.current.stream_type; location = new.current.location })

  -- the records of the current entry were counted, or there is a fault, which is met the first time
  pub record RecordsCounted (old : Walk S A) (result : Result ℕ ListFault) (new : Walk S A) : Type 0 where
    pub sound : IsSound new
    pub same : SameEntry old new
    pub stage : IsStageCounted result new.stage
    pub left : (file : List ℕ) → old.meter.source.store.content ≡ Some file → IsOk result → left_of new file ≡ left_of old file
    pub books : Books 1 (unread_bytes old - unread_bytes new) old.meter new.meter
    pub owes : unread_bytes new ≤ unread_bytes old
    pub of_file : (file : List ℕ) → old.meter.source.store.content ≡ Some file → IsCounted (records_told file (record { number = old.next - 1; entry = old.current })) old.stage
        → IsCounted (records_told file (record { number = old.next - 1; entry = old.current })) new.stage
    pub met : stop_of old.stage ≡ None → IfErr result (λ fault. IsToldIn old.current fault old.meter.source new.meter.source × (fault.entry + 1 ≡ old.next))
    pub next : stop_of old.stage ≡ None → IfErr result (λ fault. TellsNextFetch (standpoint_of old) fault.kind fault.offset fault.size new.meter.fetched)
    pub good : (file : List ℕ) → IsGood old.meter.source.store file → IfErr result (λ fault. IsOfStore fault.kind → ⊥)
    pub repeats : IsPastHead old.stage → new ≡ old
    pub unchanged : StaysUnchanged old.stage → StaysUnchanged new.stage
    pub rests : work_of new ≤ work_of old
    -- how far the entry was given then, whatever the file holds, or a fault that may come next
    pub begins : IfOk result (λ _. standing_of old.stage ≡ begun → IsBegun old.meter.source.size old.current (Ok (standing_of new.stage)))
    pub follows : IfErr result (λ f. stop_of old.stage ≡ None → Follows old.choice old.entries.items old.meter.source.size old.name.limit (cursor_of old) (Err f) (cursor_of new))

  -- a request was answered so, and as much room is left as the ranges that may still be given need
  pub record StepTaken (old : Walk S A) (result : Result (Option Step) ListFault) (new : Walk S A) : Type 0 where
    pub answered : Answered old result new
    pub room : (room : ℕ) → HasRoom room 0 old → HasRoom room (count_answered result) new
    -- of its own it never tells that the store has changed
    pub unchanged : StaysUnchanged old.stage → StaysUnchanged new.stage
    -- no name is reached in an entry whose records have none
    pub nameless : HasNoNames (kind_of old.current.stream_type) → new.meter.names ≡ old.meter.names

  -- what is left of the current entry was dropped, unless nothing is given for good
  pub record EntrySkipped (old new : Walk S A) : Type 0 where
    pub sound : IsSound new
    pub skips : ends old.stage ≡ false → new ≡ record old { stage = Between }
    pub stays : IsTrue (ends old.stage) → new ≡ old
    pub unbegun : old.next ≡ 0 → new ≡ old
    pub paid : (allowed : Amount) (before : ℕ) → IsPaid allowed before old → IsPaid allowed before new
    pub room : (room : ℕ) → HasRoom room 0 old → HasRoom room 0 new
    pub rests : work_of new ≤ work_of old

  -- a CodeView record was read, and but for what was counted and the bytes of the buffer of names the walk stays
  pub record CodeViewFetched (at : Location) (old : Walk S A) (result : Result CodeViewRead SourceFault) (new : Walk S A) : Type 0 where
    pub same : new ≡ record old { meter = new.meter; name = new.name }
    pub room : new.name.limit ≡ old.name.limit
    pub read : ReadsCodeView at old.name.limit new.name.items result old.meter new.meter
