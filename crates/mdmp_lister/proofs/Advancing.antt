-- What a step says of what is left.
use Rattle.std.proofs.Common.{◌≡◌, ◌+◌, ◌*◌, arith, ℕ, List, Option, None, Some, Result, refl, sym, subst, ap, ◌∙◌, vec_capacity}
use Rattle.std.specs.Option.{option_map}
use Rattle.mdmp_source.specs.Source.{SourceState, FetchesAtMost}
use Rattle.mdmp_lister.specs.declared.fault.FetchFault.{FetchFault}
use Rattle.mdmp_wire.specs.declared.entry.Entry.{Entry}
use Rattle.mdmp_lister.specs.declared.choice.Choice.{Choice}
use Rattle.mdmp_lister.specs.declared.limits.Limits.{Limits}
use Rattle.mdmp_lister.specs.declared.walk.Walk.{Walk}
use Rattle.mdmp_lister.specs.declared.item.Item.{Item}
use Rattle.mdmp_lister.specs.declared.step.Step.{Step}
use Rattle.mdmp_lister.specs.declared.fault.OpenFault.{OpenFault}
use Rattle.mdmp_lister.specs.StreamHead.{heads_ahead}
use Rattle.mdmp_lister.specs.Format.Item.{plain}
use Rattle.mdmp_lister.specs.Opening.{IsHandedBack, IsOfHead, IsOpeningOver, KeepsToBudget}
use Rattle.mdmp_lister.specs.Lister.{Rooms, current_after, passed_after}
use Rattle.mdmp_lister.specs.Format.Listing.{Run}
use Rattle.mdmp_lister.specs.Step.{current_by, passed_by, step_item}
use Rattle.mdmp_lister.specs.Format.Summary.{Summary, entry_begun, number_behind}
use Rattle.mdmp_wire.specs.declared.header.Header.{Header}
use Rattle.mdmp_lister.specs.Fault.{IsCaused}
use Rattle.mdmp_lister.specs.Meter.{IsBooked, KeepsTo, counts_of, store_fault_of}
use Rattle.mdmp_lister.proofs.Budgets.{IsOpening, opening-over, opening-then}
use Rattle.mdmp_lister.proofs.Fetches.{IsCaused_later}
use Rattle.mdmp_lister.proofs.Heads.{heads_few}
use Rattle.mdmp_lister.proofs.Refusals.{IsHandedBack-begun}
use Rattle.mdmp_lister.proofs.Summary.{begins_as, summary_of-plain}
use Rattle.mdmp_lister.specs.Walk.{CountsRanges, IsNewWalk, SameRoom, held_beside}

-- what is left now follows from what was left, of each file
pub option_map-then : (old new : List ℕ → Run) (f : Run → Run) (content : Option (List ℕ)) → ((file : List ℕ) → content ≡ Some file → new file ≡ f (old file))
    → (now : Option (List ℕ)) → now ≡ content → option_map new now ≡ option_map f (option_map old content)
option_map-then old new f None each now same = rw same refl
option_map-then old new f (Some file) each now same = rw same (ap Some (each file refl))

-- what is known of a file's run is known of the run
pub of_run : (of : List ℕ → Run) (P : Run → Type 0) (content : Option (List ℕ)) → ((file : List ℕ) → content ≡ Some file → P (of file)) → (left : Run) → option_map of content ≡ Some left → P left
of_run of P None each left same = cc
of_run of P (Some file) each left same = let k : of file ≡ left = cc in subst P k (each file refl)

-- an item passes its entry as its step does
pub passes : (z : ℕ) (buffer : List ℕ) (s : Step) (x : Item) (old new : ℕ) → plain x ≡ step_item z buffer s → new ≡ passed_by s old → new ≡ passed_after x old
passes z buffer s x old new same next = next ∙ sym (ap (λ begun. number_behind begun old) (begins_as z buffer s x same))

-- and is the current entry as its step says
pub becomes : (z : ℕ) (buffer : List ℕ) (s : Step) (x : Item) (old new : Entry) → plain x ≡ step_item z buffer s → new ≡ current_by s old → new ≡ current_after x old
becomes z buffer s x old new same now = now ∙ sym (ap (λ begun. entry_begun begun old) (begins_as z buffer s x same))

pub passed_after-plain : (x : Item) (next : ℕ) → passed_after (plain x) next ≡ passed_after x next
passed_after-plain x next = ap (λ (s : Summary). number_behind s.stream next) (summary_of-plain x)

pub current_after-plain : (x : Item) (e : Entry) → current_after (plain x) e ≡ current_after x e
current_after-plain x e = ap (λ (s : Summary). entry_begun s.stream e) (summary_of-plain x)

-- what a lister has room for stays where no list of its walk is longer or shorter
module _ {S A : Type 0} where
  abbrev rooms_of : Walk S A → ℕ → Rooms
  rooms_of w room = record { entries = vec_capacity w.entries; window = w.window.room; ranges = room; held = held_beside room w }

  pub same_rooms : (old new : Walk S A) (room : ℕ) → SameRoom old new → rooms_of new room ≡ rooms_of old room
  same_rooms old new room same = rw (same.entries, same.window, same.name) refl

  pub same_entries : (old new : Walk S A) → SameRoom old new → new.entries.items ≡ old.entries.items
  same_entries old new same = rw same.entries refl

-- ---- a walk that was opened

module _ {S A : Type 0} (source : SourceState) (choice : Choice) (limits : Limits) (w n : Walk S A) where
  -- a file that is refused behind the heads by which its ranges were counted
  pub IsHandedBack-counted : (result : Result ℕ FetchFault) (fault : OpenFault) → IsNewWalk source choice limits w → CountsRanges w result n → (IsOfHead fault → ⊥) → IsHandedBack choice source fault n.meter.source
  IsHandedBack-counted result fault new counts late =
      let ok = w.entries.ok.0 in
      let same : heads_ahead w.choice w.meter.source.size w.entries.items ≡ heads_ahead choice source.size w.entries.items =
      ap (λ (c : Choice). heads_ahead c w.meter.source.size w.entries.items) new.choice_is ∙ ap (λ z. heads_ahead choice z w.entries.items) new.spends.fetches.same_size in
      let calls = counts.books.source_calls in
      IsHandedBack-begun choice source w.meter.source n.meter.source fault w.header w.entries.items (32 + 12 * w.header.number_of_streams) (heads_ahead choice source.size w.entries.items)
      new.spends.fetches (subst (λ k. FetchesAtMost k w.meter.source n.meter.source) same counts.books.fetches) (omega arith) (omega (arith, ok, new.reads.entries)) (omega (arith, ok, calls, new.spends.calls, new.reads.entries)) new.reads.inside
      (λ file known. (new.reads.opens file known, new.sound.header_is file (new.spends.fetches.same_content ∙ known)))
      (λ file known. (new.sound.directory file (new.spends.fetches.same_content ∙ known)).each)
      late

  -- with the fault of the store, or none, that the count ended with
  pub IsCaused-counted : (result : Result ℕ FetchFault) → IsNewWalk source choice limits w → CountsRanges w result n → IsCaused (store_fault_of result) source n.meter.source
  IsCaused-counted result new counts = IsCaused_later (store_fault_of result) (32 + 12 * w.header.number_of_streams) source w.meter.source n.meter.source
      new.spends.fetches (record { once = new.spends.steady; told = tt; good = λ file good. refl }) counts.caused

  -- which keeps to its budget
  pub KeepsToBudget-counted : (result : Result ℕ FetchFault) → IsNewWalk source choice limits w → CountsRanges w result n → IsBooked n.meter.source (counts_of n.meter) → KeepsTo n.meter.budget n.meter.fetched
      → (fault : OpenFault) → IsOpeningOver 16 fault n.meter → KeepsToBudget limits source fault n.meter.source
  KeepsToBudget-counted result new counts booked kept =
      let ok = w.entries.ok.0 in
      let heads = heads_ahead w.choice w.meter.source.size w.entries.items in
      let streams = w.header.number_of_streams in
      let began : IsOpening limits source (32 + 12 * streams) w.meter = record { budget = new.budget; start = new.spends.start; aside = new.spends.aside; size = new.spends.fetches.same_size; asked = new.spends.asked } in
      let is = opening-then limits source (32 + 12 * streams) _ heads w.meter n.meter began counts.books in
      opening-over limits source (32 + 12 * streams + heads) 16 streams n.meter is booked kept (omega (arith, limits.window_least)) (omega (arith, ok, new.reads.entries, heads_few w.choice w.meter.source.size w.entries.items))
      new.reads.inside (λ file known. let same = ap (λ (h : Header). h.number_of_streams) (new.sound.header_is file (new.spends.fetches.same_content ∙ known)) in omega (arith, same))
