-- An entry that is begun, and whose records are counted.
use Rattle.std.proofs.Common.{◌≡◌, ◌∙◌, ◌≤◌, ◌<◌, ◌+◌, ◌-◌, ◌*◌, ◌^◌, ℕ, Bool, true, false, List, ◌∷◌, length, slice_get, Option, Some, None, Result, Ok, Err, arith, ap, refl, sym, subst, if◌then◌else◌, ne_eqb}
use Rattle.std.specs.Prelude.{◌==◌, ◌&&◌, IfSome, IsTrue, max, option_map}
use Rattle.mdmp_source.specs.Source.{FetchesSome, SourceState}
use Rattle.mdmp_source.specs.Range.{is_inside}
use Rattle.mdmp_source.specs.declared.fault.SourceFault.{SourceFault}
use Rattle.mdmp_source.specs.declared.fault.SourceFault.TheVariants.{Failed, ShortRead, Changed}
use Rattle.mdmp_wire.specs.declared.entry.Entry.{Entry}
use Rattle.mdmp_lister.proofs.Handing.{same_lister-then}
use Rattle.mdmp_lister.specs.Format.Bounds.{held_bound}
use Rattle.mdmp_lister.specs.declared.meter.Amount.{Amount}
use Rattle.mdmp_lister.specs.Fault.{is_unobtained, IsAnsweredFor, IsOfStore, IsUnobtained, IsToldByFetch, TellsNoChange}
use Rattle.mdmp_lister.specs.Meter.{IsUnmade}
use Rattle.mdmp_lister.specs.declared.fault.Fault.{Fault}
use Rattle.mdmp_lister.specs.declared.fault.FaultKind.{FaultKind}
use Rattle.mdmp_lister.specs.declared.fault.FaultKind.TheVariants.{Budget, Source}
use Rattle.mdmp_lister.specs.declared.fault.ListFault.{ListFault}
use Rattle.mdmp_lister.specs.declared.item.Item.{Item}
use Rattle.mdmp_lister.specs.declared.item.Item.TheVariants as items
use Rattle.mdmp_lister.specs.declared.item.StreamItem.{StreamItem}
use Rattle.mdmp_lister.specs.declared.meter.MeterCounts.{MeterCounts}
use Rattle.mdmp_lister.specs.declared.position.Position.TheVariants.{Begun, Sought}
use Rattle.mdmp_lister.specs.declared.step.Step.{Step}
use Rattle.mdmp_lister.specs.Format.Item.{plain}
use Rattle.mdmp_lister.specs.Format.Kind.{is_known}
use Rattle.mdmp_lister.specs.Format.Listing.{Numbered, Run, chosen_from, count_listed, entry_of, listing_sought, only_chosen, records_told, stream_item}
use Rattle.mdmp_lister.specs.Format.Numbers.{is_listed}
use Rattle.mdmp_lister.specs.Format.Shape.{record_count}
use Rattle.mdmp_lister.specs.FaultLaws.{follows_fits}
use Rattle.mdmp_lister.specs.Lister.{IsRefusedIn, IsSameLister, ListerState, cursor_in, tail}
use Rattle.mdmp_lister.specs.Stage.{stop_after}
use Rattle.mdmp_lister.specs.Listed.{entry_cost, entry_cost_by}
use Rattle.mdmp_lister.specs.Following.{IsBegun, Standing, begun as unread_head}
use Rattle.mdmp_lister.specs.Step.{TellsAnswer}
use Rattle.mdmp_lister.specs.Walker.{CountsRecords, GivesEntry, IsSought, IsSoughtAt, StepLeaves, WalkerLeaves, WalkerState, is_failed, records_answer, seeks}
use Rattle.mdmp_dump.specs.declared.fault.ReadFault.TheVariants as faults
use Rattle.mdmp_dump.specs.EntryWalk.{Begins, IsSameWalk, Pays, WalkState, chosen_entry, listed, numbered}
use Rattle.mdmp_dump.specs.FileRefusal.{IsUnbudgeted}
use Rattle.mdmp_dump.specs.Left.{left_from, run_of}
use Rattle.mdmp_dump.specs.Reading.{IsLastTold, store_fault_in}
use Rattle.mdmp_dump.specs.Walking.{IsKept, bytes_allowed, current_entry, ended_with, left_by, records_to_give, state_of}
use Rattle.mdmp_dump.proofs.Costs.{pays_none, unlisted_cost}
use Rattle.mdmp_dump.proofs.Left.{begun}
use Rattle.mdmp_dump.proofs.Taking.{FetchesSome_then, Fetches_only, fetches_err}

-- ---- numbers

-- what was fetched is within what was allowed, with no limit for names
pub paid_by : (limit f a m n : ℕ) → limit ≡ 0 → f + m * (limit + 4) ≤ a + n * (limit + 4) → m ≤ n → f ≤ a + 4 * (n - m)
paid_by limit f a m n none most within = omega (arith, within, (rw none at most))

-- a stream costs no more than its bytes, where its records are known
cost_listed : (size : ℕ) (e : Entry) → entry_cost size e ≤ listed e
unfolding entry_cost_by
cost_listed size e = by (is_known e.stream_type) (is_inside e.location.rva e.location.size size) where
  by : (known inside : Bool) → (if known && inside then e.location.size else 0) ≤ (if known then e.location.size else 0)
  by true true = omega arith
  by true false = omega arith
  by false inside = omega arith

-- ---- what is seen of a walker

pub left_begun : (passed : ℕ) (stop : Option (Option ListFault)) (records : ℕ) → (passed ≡ 0 → ⊥) → stop ≡ None → left_by passed stop records ≡ records
left_begun passed stop records begun none =
    let some : (passed == 0) ≡ false = ne_eqb passed 0 begun in
    rw (none, some) refl

pub left_stopped : (passed : ℕ) (stop : Option (Option ListFault)) (by : Option ListFault) (records : ℕ) → stop ≡ Some by → left_by passed stop records ≡ 0
left_stopped passed stop by records is = rw is refl

pub failed_ended : (stop : Option (Option ListFault)) (fault : SourceFault) → ended_with stop ≡ Some fault → is_failed stop ≡ true
failed_ended (Some (Some f)) fault is = of_kind f.kind is where
  of_kind : (kind : FaultKind) → store_fault_in kind ≡ Some fault → is_unobtained kind ≡ true
  of_kind (Source other) told = refl
  of_kind kind told = absurd (cc told)
failed_ended (Some None) fault is = absurd (cc is)
failed_ended None fault is = absurd (cc is)

-- where the directory and the choice stay, all that a walk keeps does
pub walk_same : (old new : WalkerState) → IsSameLister old.list new.list → FetchesSome old.list.source new.list.source → IsSameWalk (state_of old) (state_of new)
walk_same old new same fetches = record {
  header = same.header_is;
  choice = same.choice;
  chosen = λ i. only_chosen (same.choice i) (numbered 0 (same.entries i));
  held = λ i. held_bound (same.rooms i).window (same.limit i) (length (same.entries i)) (same.rooms i).ranges;
  start = ap (λ (a : Amount). a.bytes) same.start;
  fetches = fetches;
}

-- ---- faults

of_kind : (kind : FaultKind) → IsUnbudgeted kind → is_unobtained kind ≡ true → (s : SourceFault) × (store_fault_in kind ≡ Some s)
of_kind (Source fault) unbudgeted is = (fault, refl)
of_kind Budget unbudgeted is = absurd unbudgeted
of_kind kind unbudgeted is = absurd (cc is)

passes_none : (most : ℕ) (kind : FaultKind) (offset size : ℕ) (c : MeterCounts) (z : ℕ) → c.budget ≡ None → IsUnmade most kind offset size c z → IsUnbudgeted kind
passes_none most Budget offset size c z none over = let never : IsTrue false = rw none at over.passes in absurd (cc never)
passes_none most kind offset size c z none over = tt

-- where there is no budget, no fault tells one
pub unbudgeted : (f : ListFault) (v : ListerState) → v.counts.budget ≡ None → IsRefusedIn f v → IsUnbudgeted f.kind
unbudgeted f v none refused = passes_none (max v.rooms.window v.limit) f.kind f.offset f.size v.counts v.source.size none refused

-- a fault of the store that does not tell a change is the last that was told
pub last_told : (e : Entry) (kind : FaultKind) (old new : SourceState) → IsToldByFetch e kind old new → TellsNoChange kind → IfSome (store_fault_in kind) (λ of_store. IsLastTold of_store old new)
last_told e (Source (Changed at)) old new told steady = absurd steady
last_told e (Source (Failed at)) old new told steady = told
last_told e (Source (ShortRead at)) old new told steady = told
last_told e kind old new told steady = tt

pub no_store_fault : (kind : FaultKind) → (IsOfStore kind → ⊥) → store_fault_in kind ≡ None
no_store_fault (Source fault) never = absurd (never tt)
no_store_fault kind never = refl

pub own_store_fault : (kind : FaultKind) → IsUnbudgeted kind → ((told : SourceFault) × (store_fault_in kind ≡ Some told) → ⊥) → IsUnobtained kind → ⊥
own_store_fault (Source fault) unbudgeted not of_source = not (fault, refl)
own_store_fault Budget unbudgeted not of_source = unbudgeted
own_store_fault kind unbudgeted not of_source = of_source

-- ---- the Stream item of an entry

-- it was given, and nothing of the stream was read
pub record IsAtEntry (x : Numbered) (old new : WalkerState) : Type 0 where
  pub same : IsSameLister old.list new.list
  pub fetches : FetchesSome old.list.source new.list.source
  pub current : new.list.current ≡ x.entry
  pub passed : new.list.passed ≡ x.number + 1
  pub names : new.list.counts.names ≡ old.list.counts.names
  pub mark : new.mark ≡ new.list.counts
  pub paid : new.list.counts.names + 1 < 2 ^ 128 → new.list.counts.asked ≤ bytes_allowed old
  pub stop : new.list.stop ≡ None
  pub position : new.position ≡ Begun
  pub standing : new.list.standing ≡ unread_head
  pub left : (F : List ℕ) → old.list.source.store.content ≡ Some F → x.entry ≡ entry_of F x.number
      → new.list.left ≡ Some (left_from F 0 x 0 (chosen_from F old.list.choice (x.number + 1)))

-- a walker for which an entry is sought
abbrev sought_state : WalkerState → ℕ → Option Run → Option (Option ListFault) → ℕ → Standing → ℕ → ℕ → WalkerState
sought_state old number left stop unread standing records work = record {
  list = record old.list { left = left; stop = stop; unread = unread; standing = standing; records = records; work = work };
  position = Sought number;
  mark = old.mark;
}

sought_is : (old mid : WalkerState) (number : ℕ) → IsSought number old mid → mid.position ≡ Sought number
    → mid ≡ sought_state old number mid.list.left mid.list.stop mid.list.unread mid.list.standing mid.list.records mid.list.work
sought_is old mid number is at = λ i. record { list = is.same i; position = at i; mark = is.mark i }

-- all that the entry gives begins with its Stream item
sought_tail : (F : List ℕ) (x : Numbered) (xs : List Numbered) → x.entry ≡ entry_of F x.number
    → tail (run_of F 0 (record { number = x.number; entry = entry_of F x.number } ∷ xs)) ≡ left_from F 0 x 0 xs
sought_tail F x xs is =
    ap (λ (e : Entry). tail (run_of F 0 (record { number = x.number; entry = e } ∷ xs))) (sym is) ∙ ap tail (begun F 0 x xs)

module _ (x : Numbered) (old : WalkerState) (kept : IsKept old) (new : WalkerState) where
  given_at : (left : Option Run) (stop : Option (Option ListFault)) (unread : ℕ) (standing : Standing) (records work : ℕ)
      → left ≡ option_map (λ file. listing_sought file old.list.choice old.list.limit x.number) old.list.source.store.content
      → WalkerLeaves (sought_state old x.number left stop unread standing records work) (Ok (Some (stream_item x))) new → IsAtEntry x old new
  given_at left stop unread standing records work sought leaves =
      let l = leaves.list in
      let names : new.list.counts.names ≡ old.list.counts.names = omega (arith, l.spends.names) in
      record {
        same = record {
          header_is = l.same.header_is;
          entries = l.same.entries;
          choice = l.same.choice;
          limit = l.same.limit;
          rooms = l.same.rooms;
          aside = l.same.aside;
          start = l.same.start;
          budget = l.same.budget;
        };
        fetches = record { count = _; fetches = l.spends.fetches };
        current = l.places.current;
        passed = l.places.passed;
        names = names;
        mark = leaves.mark;
        paid = λ few.
            let most = paid_by old.list.limit new.list.counts.asked (old.mark.asked + entry_cost old.list.source.size old.list.current) old.mark.names new.list.counts.names kept.limit
            (leaves.spent few) (omega (arith, names, kept.within)) in
            omega (arith, most, names);
        stop = l.stands.stop;
        position = leaves.position;
        standing = leaves.begins;
        left = λ F known is.
            let all : left ≡ Some (run_of F 0 (record { number = x.number; entry = entry_of F x.number } ∷ chosen_from F old.list.choice (x.number + 1))) = sought ∙ (rw (known, kept.limit) refl) in
            l.stands.left ∙ (rw all refl) ∙ ap Some (sought_tail F x (chosen_from F old.list.choice (x.number + 1)) is);
      }

-- an item whose Stream item this is
pub plain_stream : (item : Item) (s : StreamItem) → plain item ≡ items.Stream s → item ≡ items.Stream s
plain_stream (items.Stream x) s is = is
plain_stream item s is = absurd (cc is)

module _ (number : ℕ) (e : Entry) (old mid new : WalkerState) (at : slice_get old.list.entries number ≡ Some e) (kept : IsKept old)
    (sought : IsSought number old mid) (result : Result (Option Step) ListFault) (step : StepLeaves mid result new) where
  module _ (fresh : is_failed old.list.stop ≡ false) where
    goes : IsSoughtAt number old mid
    goes = sought.goes fresh

    entries_same : mid.list.entries ≡ old.list.entries
    entries_same = ap (λ (l : ListerState). l.entries) sought.same

    given_by : (answer : Result (Option Item) ListFault) → WalkerLeaves mid answer new → GivesEntry number mid.list.entries answer → IsAtEntry (record { number = number; entry = e }) old new
    given_by (Ok (Some item)) leaves gives =
        let x : Numbered = record { number = number; entry = e } in
        let other : gives.0 ≡ e = let there : slice_get old.list.entries number ≡ Some gives.0 = ap (λ (es : List Entry). slice_get es number) (sym entries_same) ∙ gives.1.0 in cc (at, there) in
        let is : item ≡ stream_item x = plain_stream item _ (gives.1.1 ∙ ap (λ (d : Entry). stream_item (record { number = number; entry = d })) other) in
        let state = sought_is old mid number sought goes.position in
        given_at x old kept new mid.list.left mid.list.stop mid.list.unread mid.list.standing mid.list.records mid.list.work goes.left
        (subst (λ (m : WalkerState). WalkerLeaves m (Ok (Some (stream_item x))) new) state (subst (λ (i : Item). WalkerLeaves mid (Ok (Some i)) new) is leaves))
    given_by (Ok None) leaves gives = absurd gives
    given_by (Err f) leaves gives = absurd gives

    -- the entry that is sought was begun
    pub stream_begun : IsAtEntry (record { number = number; entry = e }) old new
    stream_begun = given_by step.answer step.leaves (step.sought number goes.position)

    none_refused : (f : ListFault) (answer : Result (Option Item) ListFault) → answer ≡ Err f → GivesEntry number mid.list.entries answer → ⊥
    none_refused f answer is gives = subst (GivesEntry number mid.list.entries) is gives

    -- so it is not refused
    pub stream_given : (f : ListFault) → result ≡ Err f → ⊥
    stream_given f is = none_refused f step.answer (subst (λ (r : Result (Option Step) ListFault). TellsAnswer new.list.source.size r step.answer) is step.told) (step.sought number goes.position)

  -- after a fault of the store all stays, and the fault is told again
  module _ (failed : is_failed old.list.stop ≡ true) (repeats : (stop : _) → mid.list.stop ≡ Some stop → stop_after result ≡ Some stop) where
    stays : mid ≡ old
    stays = sought.stays failed

    stop_is : (stop : Option (Option ListFault)) → is_failed stop ≡ true → (f : ListFault) × ((stop ≡ Some (Some f)) × (is_unobtained f.kind ≡ true))
    stop_is (Some (Some f)) is = (f, (refl, is))
    stop_is (Some None) is = absurd (cc is)
    stop_is None is = absurd (cc is)

    pub fault_kept : (f : ListFault) × ((old.list.stop ≡ Some (Some f)) × ((is_unobtained f.kind ≡ true) × (stop_after result ≡ Some (Some f))))
    fault_kept =
        let is = stop_is old.list.stop failed in
        (is.0, (is.1.0, (is.1.1, repeats (Some is.0) (ap (λ (w : WalkerState). w.list.stop) stays ∙ is.1.0))))

    module _ (f : ListFault) (refused : result ≡ Err f) where
      told_again : step.answer ≡ Err f
      told_again = subst (λ (r : Result (Option Step) ListFault). TellsAnswer new.list.source.size r step.answer) refused step.told

      leaves_again : WalkerLeaves mid (Err f) new
      leaves_again = subst (λ (a : Result (Option Item) ListFault). WalkerLeaves mid a new) told_again step.leaves

      list_stays : new.list ≡ old.list
      list_stays = leaves_again.list.stands.repeats (Some fault_kept.0) (ap (λ (w : WalkerState). w.list.stop) stays ∙ fault_kept.1.0) ∙ ap (λ (w : WalkerState). w.list) stays

      mark_stays : new.mark ≡ old.mark
      mark_stays = leaves_again.mark ∙ ap (λ (w : WalkerState). w.mark) stays

      pub state_stays : state_of new ≡ state_of old
      state_stays = λ i. state_of (record { list = list_stays i; position = new.position; mark = mark_stays i })

      same_fault : f ≡ fault_kept.0
      same_fault = let again : stop_after {X = Step} (Err f) ≡ Some (Some fault_kept.0) = ap (stop_after {X = Step}) (sym refused) ∙ fault_kept.1.1.1 in cc again

      unbudgeted_again : IsUnbudgeted f.kind
      unbudgeted_again = kept.unbudgeted f (fault_kept.1.0 ∙ ap (λ (g : ListFault). Some (Some g)) (sym same_fault))

      own : (s : SourceFault) × (store_fault_in f.kind ≡ Some s)
      own = of_kind f.kind unbudgeted_again (ap (λ (g : ListFault). is_unobtained g.kind) same_fault ∙ fault_kept.1.1.0)

      ended : ended_with old.list.stop ≡ store_fault_in f.kind
      ended = ap ended_with fault_kept.1.0 ∙ ap (λ (g : ListFault). store_fault_in g.kind) (sym same_fault)

      -- it is told as before
      pub begins_failed : (stream : ℕ) → Begins (state_of old) stream (Err (faults.List f)) (state_of new)
      begins_failed stream = subst (λ (w : WalkState). Begins (state_of old) stream (Err (faults.List f)) w) (sym state_stays) (record {
        pays = pays_none _ _ (state_of old);
        unlisted = λ none. pays_none 0 0 (state_of old);
        begun = tt;
        of_file = λ F known not. absurd (not own);
        counts = tt;
        fetches = λ none. absurd (let some = own.1 in cc (some, ended, none));
        told = (f, (refl, unbudgeted_again, leaves_again.unchanged));
        failed = ended;
        repeats = λ fault told. (refl, sym ended ∙ told);
      })

      stopped_again : records_to_give new.list ≡ 0
      stopped_again = left_stopped new.list.passed new.list.stop (Some fault_kept.0) new.list.records (ap (λ (l : ListerState). l.stop) list_stays ∙ fault_kept.1.0)

      pub kept_failed : IsKept new
      kept_failed = record {
        limit = ap (λ (l : ListerState). l.limit) list_stays ∙ kept.limit;
        budget = ap (λ (l : ListerState). l.counts.budget) list_stays ∙ kept.budget;
        unbudgeted = λ g is. kept.unbudgeted g (sym (ap (λ (l : ListerState). l.stop) list_stays) ∙ is);
        within = rw (mark_stays, list_stays) kept.within;
        spent = rw (mark_stays, list_stays) kept.spent;
        of_file = λ F known some. absurd (omega (arith, some, stopped_again));
        unsought = λ some. absurd (omega (arith, some, stopped_again));
      }

-- what a request for the Stream item of an entry that is sought answers
module _ (number : ℕ) (e : Entry) (old mid new : WalkerState) (at : slice_get old.list.entries number ≡ Some e) (kept : IsKept old) (sought : IsSought number old mid) where
  -- a fault, where the walk has failed
  pub begins_err : (f : ListFault) → StepLeaves mid (Err f) new → ((stop : _) → mid.list.stop ≡ Some stop → stop_after {X = Step} (Err f) ≡ Some stop) → (stream : ℕ) → Begins (state_of old) stream (Err (faults.List f)) (state_of new)
  begins_err f step repeats stream = by (is_failed old.list.stop) refl where
    by : (b : Bool) → is_failed old.list.stop ≡ b → Begins (state_of old) stream (Err (faults.List f)) (state_of new)
    by true failed = begins_failed number e old mid new at kept sought (Err f) step failed repeats f refl stream
    by false fresh = absurd (stream_given number e old mid new at kept sought (Err f) step fresh f refl)

  -- which leaves it so
  pub kept_err : (f : ListFault) → StepLeaves mid (Err f) new → ((stop : _) → mid.list.stop ≡ Some stop → stop_after {X = Step} (Err f) ≡ Some stop) → IsKept new
  kept_err f step repeats = by (is_failed old.list.stop) refl where
    by : (b : Bool) → is_failed old.list.stop ≡ b → IsKept new
    by true failed = kept_failed number e old mid new at kept sought (Err f) step failed repeats f refl
    by false fresh = absurd (stream_given number e old mid new at kept sought (Err f) step fresh f refl)

  -- or the item, where it has not
  pub step_fresh : (given : Option Step) → StepLeaves mid (Ok given) new → ((stop : _) → mid.list.stop ≡ Some stop → stop_after (Ok given) ≡ Some stop) → is_failed old.list.stop ≡ false
  step_fresh given step repeats = by (is_failed old.list.stop) refl where
    never : (f : ListFault) (given : Option Step) → stop_after (Ok given) ≡ Some (Some f) → ⊥
    never f (Some s) is = cc is
    never f None is = cc is

    by : (b : Bool) → is_failed old.list.stop ≡ b → is_failed old.list.stop ≡ false
    by true failed = let again = fault_kept number e old mid new at kept sought (Ok given) step failed repeats in absurd (never again.0 given again.1.1.1)
    by false fresh = fresh

-- behind a fault no records are left
pub step_stopped : (mid new : WalkerState) (f : ListFault) → StepLeaves mid (Err f) new → records_to_give new.list ≡ 0
step_stopped mid new f step =
    let stop = (subst (λ (a : Result (Option Item) ListFault). WalkerLeaves mid a new) step.told step.leaves).list.stands.stop in
    left_stopped new.list.passed new.list.stop (Some f) new.list.records stop

-- ---- its records are counted

told_count : (e : ℕ) (r : Result ℕ Fault) (count : ℕ) → count_listed e r ≡ Ok count → r ≡ Ok count
told_count e (Ok n) count is = ap Ok (cc is)
told_count e (Err f) count is = absurd (cc is)

module _ (x : Numbered) (old mid new : WalkerState) (kept : IsKept old) (at : IsAtEntry x old mid) (result : Result ℕ ListFault) (counts : CountsRecords mid result new) where
  current_is : current_entry mid.list ≡ x
  current_is = let number : mid.list.passed - 1 ≡ x.number = omega (arith, at.passed) in λ i. record { number = number i; entry = at.current i }

  current_new : current_entry new.list ≡ x
  current_new = (λ i. record { number = counts.passed i - 1; entry = counts.current i }) ∙ current_is

  fetched : FetchesSome old.list.source new.list.source
  fetched = FetchesSome_then old.list.source mid.list.source new.list.source at.fetches (record { count = _; fetches = counts.fetches })

  names_new : new.list.counts.names ≡ mid.list.counts.names
  names_new = omega (arith, counts.counts.more_names, counts.counts.most_names)

  pub counted_same : IsSameLister old.list new.list
  counted_same = same_lister-then old.list mid.list new.list at.same counts.same

  same_walk : IsSameWalk (state_of old) (state_of new)
  same_walk = walk_same old new counted_same fetched

  mark_new : new.mark ≡ mid.list.counts
  mark_new = counts.mark ∙ at.mark

  mark_names : new.mark.names ≡ mid.list.counts.names
  mark_names = ap (λ (c : MeterCounts). c.names) mark_new

  cost_new : entry_cost new.list.source.size new.list.current ≤ listed x.entry
  cost_new = subst (λ (e : Entry). entry_cost new.list.source.size new.list.current ≤ listed e) (counts.current ∙ at.current) (cost_listed new.list.source.size new.list.current)

  paid : Pays (listed x.entry) 0 (state_of old) (state_of new)
  paid = record {
    same = same_walk;
    aside = ap (λ (a : Amount). a.bytes) counted_same.aside;
    allowed = λ few.
        let asked : mid.list.counts.asked ≤ bytes_allowed old = at.paid (omega (arith, few, names_new)) in
        let mark = ap (λ (c : MeterCounts). c.asked) mark_new in
        omega (arith, asked, cost_new, mark, mark_names, names_new);
    reached = omega (arith, names_new, at.names);
    more = omega (arith, names_new, at.names);
  }

  -- of an entry that is not listed nothing is fetched
  unlisted : is_listed old.list.source.size x.entry ≡ false → Pays 0 0 (state_of old) (state_of new)
  unlisted none = record {
    same = same_walk;
    aside = ap (λ (a : Amount). a.bytes) counted_same.aside;
    allowed = λ few.
        let asked : mid.list.counts.asked ≤ bytes_allowed old = at.paid (omega (arith, few, names_new)) in
        let mark = ap (λ (c : MeterCounts). c.asked) mark_new in
        let cost : entry_cost new.list.source.size new.list.current ≡ 0 =
        ap (λ (z : ℕ). entry_cost z new.list.current) (counts.fetches.same_size ∙ at.fetches.fetches.same_size)
        ∙ ap (λ (e : Entry). entry_cost old.list.source.size e) (counts.current ∙ at.current)
        ∙ unlisted_cost old.list.source.size x.entry none in
        omega (arith, asked, cost, mark, mark_names, names_new);
    reached = omega (arith, names_new, at.names);
    more = omega (arith, names_new, at.names);
  }

  limit_new : new.list.limit ≡ 0
  limit_new = counted_same.limit ∙ kept.limit

  budget_new : new.list.counts.budget ≡ None
  budget_new = counted_same.budget ∙ kept.budget

  spent_new : new.list.counts.names + 1 < 2 ^ 128 → new.list.counts.asked ≤ bytes_allowed new
  spent_new few =
      let within : mid.mark.names ≤ new.list.counts.names = let same = ap (λ (c : MeterCounts). c.names) at.mark in omega (arith, same, names_new) in
      let most = paid_by mid.list.limit new.list.counts.asked (mid.mark.asked + entry_cost mid.list.source.size mid.list.current) mid.mark.names new.list.counts.names (at.same.limit ∙ kept.limit) (counts.spent few) within in
      rw (counts.mark, counts.current, counts.fetches.same_size) most

  module _ (stream : ℕ) (is : chosen_entry (state_of old) stream ≡ x) (fresh : is_failed old.list.stop ≡ false) where
    paid_at : Pays (listed (chosen_entry (state_of old) stream).entry) 0 (state_of old) (state_of new)
    paid_at = subst (λ (y : Numbered). Pays (listed y.entry) 0 (state_of old) (state_of new)) (sym is) paid

    unlisted_at : is_listed old.list.source.size (chosen_entry (state_of old) stream).entry ≡ false → Pays 0 0 (state_of old) (state_of new)
    unlisted_at none = unlisted (subst (λ (y : Numbered). is_listed old.list.source.size y.entry ≡ false) is none)

    never : {T : Type 0} (fault : SourceFault) → ended_with old.list.stop ≡ Some fault → T
    never fault told = absurd (let failed = failed_ended old.list.stop fault told in cc (failed, fresh))

module _ (x : Numbered) (old mid new : WalkerState) (kept : IsKept old) (at : IsAtEntry x old mid) where
  module _ (count : ℕ) (counts : CountsRecords mid (Ok count) new) (answered : (file : List ℕ) → mid.list.source.store.content ≡ Some file → IsAnsweredFor (records_answer file mid) (Ok count)) where
    count_is : (F : List ℕ) → old.list.source.store.content ≡ Some F → record_count F x.entry ≡ Ok count
    count_is F known = ap (record_count F) (sym at.current) ∙ told_count (mid.list.passed - 1) (record_count F mid.list.current) count (answered F (at.fetches.fetches.same_content ∙ known))

    left_new : records_to_give new.list ≡ count
    left_new = left_begun new.list.passed new.list.stop new.list.records (λ zero. let passed = counts.passed ∙ at.passed in omega (arith, passed, zero)) counts.stop ∙ counts.records

    pub begins_counted : (stream : ℕ) → chosen_entry (state_of old) stream ≡ x → is_failed old.list.stop ≡ false → Begins (state_of old) stream (Ok count) (state_of new)
    begins_counted stream is fresh = record {
      pays = paid_at x old mid new kept at (Ok count) counts stream is fresh;
      unlisted = unlisted_at x old mid new kept at (Ok count) counts stream is fresh;
      begun = (current_new x old mid new kept at (Ok count) counts ∙ sym is, left_new, counts.few);
      of_file = λ F known. subst (λ (y : Numbered). record_count F y.entry ≡ Ok count) (sym is) (count_is F known);
      counts = (
        new.list.standing,
        (
          subst (λ (z : ℕ). IsBegun z (chosen_entry (state_of old) stream).entry (Ok new.list.standing)) at.fetches.fetches.same_size
              (subst (λ (e : Entry). IsBegun mid.list.source.size e (Ok new.list.standing)) (at.current ∙ ap (λ (y : Numbered). y.entry) (sym is)) (counts.begins at.standing)),
          counts.stands,
        ),
      );
      fetches = λ none. Fetches_only count old.list.source new.list.source (fetched x old mid new kept at (Ok count) counts);
      told = tt;
      failed = ap ended_with counts.stop;
      repeats = λ fault told. never x old mid new kept at (Ok count) counts stream is fresh fault told;
    }

    pub kept_counted : ((file : List ℕ) → old.list.source.store.content ≡ Some file → x.entry ≡ entry_of file x.number) → IsKept new
    kept_counted of_file = record {
      limit = limit_new x old mid new kept at (Ok count) counts;
      budget = budget_new x old mid new kept at (Ok count) counts;
      unbudgeted = λ f is. absurd (let none = counts.stop in cc (is, none));
      within = let same = mark_names x old mid new kept at (Ok count) counts in let names = names_new x old mid new kept at (Ok count) counts in omega (arith, same, names);
      spent = spent_new x old mid new kept at (Ok count) counts;
      of_file = λ F known some.
          let before : old.list.source.store.content ≡ Some F = sym (fetched x old mid new kept at (Ok count) counts).fetches.same_content ∙ known in
          let xs = chosen_from F old.list.choice (x.number + 1) in
          let left : new.list.left ≡ Some (left_from F 0 x 0 xs) = counts.left ∙ ap (option_map (λ run. run)) (at.left F before (of_file F before)) in
          let all : 0 + records_to_give new.list ≡ count = omega (arith, left_new) in (
            0,
            xs,
            (
              subst (λ (y : Numbered). new.list.left ≡ Some (left_from F 0 y 0 xs)) (sym (current_new x old mid new kept at (Ok count) counts)) left,
              ap (record_count F) (counts.current ∙ at.current) ∙ count_is F before ∙ ap Ok (sym all),
            ),
          );
      unsought = λ some. ap seeks (counts.position ∙ at.position);
    }

  module _ (f : ListFault) (counts : CountsRecords mid (Err f) new) (answered : (file : List ℕ) → mid.list.source.store.content ≡ Some file → IsAnsweredFor (records_answer file mid) (Err f)) where
    unbudgeted_new : IsUnbudgeted f.kind
    unbudgeted_new = unbudgeted f new.list (budget_new x old mid new kept at (Err f) counts) counts.refused

    stopped_new : records_to_give new.list ≡ 0
    stopped_new = left_stopped new.list.passed new.list.stop (Some f) new.list.records counts.stop

    pub kept_refused : IsKept new
    kept_refused = record {
      limit = limit_new x old mid new kept at (Err f) counts;
      budget = budget_new x old mid new kept at (Err f) counts;
      unbudgeted = λ g is. let same : f ≡ g = let both = sym counts.stop ∙ is in cc both in subst (λ (h : ListFault). IsUnbudgeted h.kind) same unbudgeted_new;
      within = let same = mark_names x old mid new kept at (Err f) counts in let names = names_new x old mid new kept at (Err f) counts in omega (arith, same, names);
      spent = spent_new x old mid new kept at (Err f) counts;
      of_file = λ F known some. absurd (omega (arith, some, stopped_new));
      unsought = λ some. absurd (omega (arith, some, stopped_new));
    }

    pub begins_refused : (stream : ℕ) → chosen_entry (state_of old) stream ≡ x → is_failed old.list.stop ≡ false → Begins (state_of old) stream (Err (faults.List f)) (state_of new)
    begins_refused stream is fresh = record {
      pays = paid_at x old mid new kept at (Err f) counts stream is fresh;
      unlisted = unlisted_at x old mid new kept at (Err f) counts stream is fresh;
      begun = tt;
      of_file = λ F known own.
          let told = answered F (at.fetches.fetches.same_content ∙ known) (own_store_fault f.kind unbudgeted_new own) in
          (f, (subst (λ (y : Numbered). records_told F y ≡ Err f) (current_is x old mid new kept at (Err f) counts ∙ sym is) told, refl));
      counts = tt;
      fetches = λ none. fetches_err old.list.source mid.list.source new.list.source at.fetches {U = ℕ} (faults.List f) (record {
        fetches = record { count = _; fetches = counts.fetches };
        told = last_told mid.list.current f.kind mid.list.source new.list.source (counts.told at.stop).0.by counts.unchanged;
        good = λ file good. no_store_fault f.kind (counts.good file good);
        refusal = follows_fits mid.list.choice mid.list.entries mid.list.source.size mid.list.limit (cursor_in mid.list) f (cursor_in new.list) (counts.follows at.stop);
      });
      told = (f, (refl, unbudgeted_new, counts.unchanged));
      failed = ap ended_with counts.stop;
      repeats = λ fault told. never x old mid new kept at (Err f) counts stream is fresh fault told;
    }
