-- What requests leave of a walk: at a fault, at a stop, and behind a head that was read.
use Rattle.std.proofs.Common.{◌≡◌, ◌≤◌, ◌<◌, ◌+◌, ◌-◌, ◌⊎◌, ◌∙◌, ℕ, List, Option, None, Some, Result, Ok, Err, IfOk, IfErr, IfSome, arith, ap, inl, inr, length, refl, subst, sym}
use Rattle.mdmp_source.specs.Source.{FetchesAtMost}
use Rattle.mdmp_source.specs.SourceLaws.{fetches_then}
use Rattle.mdmp_source.specs.Store.{IsGood}
use Rattle.mdmp_wire.specs.declared.entry.Entry.{Entry}
use Rattle.mdmp_lister.specs.declared.fault.FaultKind.{FaultKind}
use Rattle.mdmp_lister.specs.declared.fault.FaultKind.TheVariants.{Source, Budget}
use Rattle.mdmp_lister.specs.declared.fault.ListFault.{ListFault}
use Rattle.mdmp_lister.specs.declared.item.StreamItem.{StreamItem}
use Rattle.mdmp_lister.specs.declared.stage.Stage.{Stage}
use Rattle.mdmp_lister.specs.declared.stage.Stage.TheVariants.{Bad, Between, Ended, Failed, Head, Records}
use Rattle.mdmp_lister.specs.declared.step.Step.{Step}
use Rattle.mdmp_lister.specs.declared.walk.Walk.{Walk}
use Rattle.mdmp_lister.specs.Costs.{IsUnreadBy, bad_name_cost, begun_at, given_spent, step_cost, stream_begun}
use Rattle.mdmp_lister.specs.Format.Listing.{Run, joined, nothing, only_fault, with_item}
use Rattle.mdmp_lister.specs.Meter.{Books, MeterState, Moves, Spends, counts_of}
use Rattle.mdmp_lister.specs.NextFetch.{IsStepPaid}
use Rattle.mdmp_lister.specs.Walk.Paying.{calls_owed, owed_of, unread_bytes}
use Rattle.mdmp_lister.specs.Walk.Reaching.{Reaches, given_once, told_once}
use Rattle.mdmp_lister.specs.Fault.{IsListFaultOf, IsOfStore, IsUnobtained}
use Rattle.mdmp_lister.specs.Following.{Cursor, Follows, GivesNextEntry, GivesNextRecord, GoesOn, IsBegun, MeetsFault, Standing}
use Rattle.mdmp_lister.specs.Following as following
use Rattle.mdmp_lister.specs.declared.choice.Choice.{Choice}
use Rattle.mdmp_lister.specs.declared.fault.Fault.{Fault}
use Rattle.mdmp_lister.specs.Walk.Requests.{Answered, HeadCounted, FaultMet, HeadRead, RecordsCounted, StepGiven, standpoint_of}
use Rattle.mdmp_lister.specs.Format.Kind.{kind_of}
use Rattle.mdmp_lister.specs.Stage.{IsNoStoreFault, IsStageAfter, fault_stage, records_left_in, stage_by, standing_of, stop_of}
use Rattle.mdmp_lister.specs.Step.{CurrentAfter, IsStepHeld, TakesRecord, current_by, passed_by, step_item, stream_told}
use Rattle.mdmp_lister.specs.Walk.{Advances, IsListing, IsSound, IsThrough, PassesTo, SameEntry, SameRoom, current_of, cursor_of, left_of, left_of_entry, rest_of, stage_work, work_of}
use Rattle.mdmp_lister.proofs.Bodies.{joined-with_item}
use Rattle.mdmp_lister.proofs.Cursors.{follows_read}
use Rattle.mdmp_lister.proofs.Costs.{stopped-unread, unread-within}
use Rattle.mdmp_lister.proofs.Ending.{left_of-ended, left_of-fault}
use Rattle.mdmp_lister.proofs.Fetches.{FetchesAtMost-none, FetchesAtMost-within, told_in_later}
use Rattle.mdmp_lister.proofs.Budgets.{fault_stage-over}
use Rattle.mdmp_lister.proofs.NextWalks.{next_then, past_paid, step_then}
use Rattle.mdmp_lister.proofs.Paying.{fault_stage-calls, fault_stage-owed, fault_stage-work, paid_named, within_named}
use Rattle.mdmp_lister.proofs.Soundness.{IsGood-after, IsSound-after, fault_stage-going, fault_stage-headed, fault_stage-staged, fault_stage-unfailed, fault_stage-windowed}

-- ---- stages

stage_by-stop : (f : ListFault) (kind : FaultKind) → stop_of (stage_by kind f) ≡ Some (Some f)
stage_by-stop f (Source fault) = refl
stage_by-stop f _ = refl

-- a fault is what is answered from then on
pub fault_stage-stop : (f : ListFault) → stop_of (fault_stage f) ≡ Some (Some f)
fault_stage-stop f = stage_by-stop f f.kind

stage_by-standing : (f : ListFault) (kind : FaultKind) → standing_of (stage_by kind f) ≡ following.through
stage_by-standing f (Source fault) = refl
stage_by-standing f _ = refl

stage_by-bad : (f : ListFault) (kind : FaultKind) → (IsUnobtained kind → ⊥) → Bad f ≡ stage_by kind f
stage_by-bad f (Source fault) not = absurd (not tt)
stage_by-bad f Budget not = absurd (not tt)
stage_by-bad f _ not = refl

stage_by-failed : (f : ListFault) (kind : FaultKind) → IsUnobtained kind → Failed f ≡ stage_by kind f
stage_by-failed f (Source fault) of = refl
stage_by-failed f Budget of = refl
stage_by-failed f _ of = absurd of

stage_by-good : (f : ListFault) (kind : FaultKind) → f.kind ≡ kind → IsNoStoreFault (stage_by kind f) → IsOfStore kind → ⊥
stage_by-good f (Source fault) same none of = none (subst IsOfStore (sym same) of)
stage_by-good f _ same none of = of

pub listing-going : (stage : Stage) → IsListing stage → stop_of stage ≡ None
listing-going Between listing = refl
listing-going (Records kind shape index offset) listing = refl
listing-going _ listing = absurd listing

pub through-going : (stage : Stage) → IsThrough stage → stop_of stage ≡ None
through-going Between through = refl
through-going (Records kind shape index offset) through = refl
through-going _ through = absurd through

pub through-none : (stage : Stage) → IsThrough stage → records_left_in stage ≡ 0
through-none Between through = refl
through-none (Records kind shape index offset) through = omega (arith, through)
through-none _ through = absurd through

pub stage-through : (F : List ℕ) (limit number : ℕ) (e : Entry) (stage : Stage) → IsThrough stage → left_of_entry F limit number e stage ≡ nothing
stage-through F limit number e Between through = refl
stage-through F limit number e (Records kind shape index offset) through =
    let none : shape.count - index ≡ 0 = omega (arith, through) in
    rw none refl
stage-through F limit number e _ through = absurd through

pub through-left : {S A : Type 0} (w : Walk S A) (file : List ℕ) → IsThrough w.stage → left_of w file ≡ rest_of w file
through-left w file through = ap (λ (run : Run). joined run (rest_of w file)) (stage-through file w.name.limit (w.next - 1) w.current w.stage through)

-- ---- where a walk stands

-- no record is left, so the next chosen entry comes
pub goes_through : (choice : Choice) (entries : List Entry) (z limit : ℕ) (c : Cursor) (stage : Stage) (answer : Result (Option Step) ListFault) (d : Cursor) → IsThrough stage
    → GivesNextEntry choice entries z limit c answer d → GoesOn choice entries z limit c (standing_of stage) answer d
goes_through choice entries z limit c Between answer d is gives = gives
goes_through choice entries z limit c (Records kind shape index offset) answer d is gives = (λ _. gives, λ some. absurd (omega (arith, is, some)))
goes_through choice entries z limit c _ answer d is gives = absurd is

module _ {S A : Type 0} (old new : Walk S A) (f : ListFault) (same : SameEntry old new) (at : new.stage ≡ fault_stage f) where
  pub fault_stands : cursor_of new ≡ record (cursor_of old) { standing = following.through }
  fault_stands = rw (same.next, same.current, at, stage_by-standing f f.kind) refl

  pub fault_meets : (index : Option ℕ) (fault : Fault) → IsListFaultOf (old.next - 1) index fault f → MeetsFault (cursor_of old) index fault (Err f) (cursor_of new)
  fault_meets index fault is = record { f = f; answer_is = refl; is = is; stands = fault_stands }

-- ---- a fault that is met

Moves-spent : (calls n limit : ℕ) (old new : MeterState) → Spends calls n limit old new → Moves 1 (counts_of old) (counts_of new)
Moves-spent calls n limit old new spends = record {
  more = spends.more;
  more_calls = spends.more_calls;
  more_names = spends.more_names;
  most_names = spends.one_name;
  same_aside = spends.same_aside;
  same_start = spends.same_start;
  same_budget = spends.same_budget;
}

-- a head has no name
pub Spends-booked : (calls n limit : ℕ) (old new : MeterState) → Books calls n old new → Spends calls n limit old new
Spends-booked calls n limit old new books = record {
  paid = λ small. rw books.same_names (omega (arith, books.asked));
  paid_fetched = λ small. rw books.same_names (omega (arith, books.most));
  paid_calls = λ small. rw books.same_names (omega (arith, books.most_calls));
  more = books.more;
  more_calls = books.more_calls;
  more_names = rw books.same_names (omega arith);
  one_name = rw books.same_names (omega arith);
  same_aside = books.same_aside;
  same_start = books.same_start;
  same_budget = books.same_budget;
}

module _ {S A : Type 0} (n calls spent : ℕ) (old new : Walk S A) (f : ListFault) where
  -- behind some fetches of the current entry, of which its head or a record is left
  pub answered_fault : IsSound old → 0 < old.next → stop_of old.stage ≡ None → 0 < stage_work old.stage
      → SameEntry old new → new.stage ≡ fault_stage f → FaultMet old f new
      → FetchesAtMost n old.meter.source new.meter.source → n ≤ spent + bad_name_cost old.name.limit f.kind
      → Spends calls spent old.name.limit old.meter new.meter → spent ≤ owed_of old.meter.source.size old.current old.window old.stage
      → calls ≤ calls_owed old.meter.source.size old.current old.window old.stage
      → ((file : List ℕ) → old.meter.source.store.content ≡ Some file → (IsUnobtained f.kind → ⊥) → current_of old file ≡ only_fault f)
      → ((file : List ℕ) → IsGood old.meter.source.store file → IsOfStore f.kind → ⊥)
      → Follows old.choice old.entries.items old.meter.source.size old.name.limit (cursor_of old) (Err f) (cursor_of new)
      → Answered old (Err f) new
  answered_fault sound begun going some same at met fetches within spends owed called left good follows =
      let none : unread_bytes new ≡ 0 = rw at (fault_stage-owed new.meter.source.size new.current new.window f) in
      record {
        sound = IsSound-after n old new sound fetches same
            (rw at (fault_stage-staged old.meter.source.size old.next old.current f begun))
            (rw at (fault_stage-windowed old.meter.source.store.content old.current new.window f))
            (λ file known. rw at (fault_stage-headed file old.current f))
            (λ end. absurd (fault_stage-going f (sym at ∙ end)))
            (λ file well. rw at (fault_stage-unfailed f (good file well)))
            (rw at (fault_stage-over _ f new.meter met.over))
            spends.more;
        same = same.room;
        listing = λ file known not. (ap (λ (run : Run). joined run (rest_of old file)) (left file known not), left_of-fault new file f at);
        given = tt;
        met = λ _. met;
        stage = at;
        passed = same.next;
        current = same.current;
        records = tt;
        follows = λ _. follows;
        rests = rw (same.room.entries, same.next, at, fault_stage-work f) (omega arith);
        fetches = FetchesAtMost-within n _ old.meter.source new.meter.source (omega (arith, within, owed, none)) fetches;
        counts = Moves-spent calls spent old.name.limit old.meter new.meter spends;
        spent = within_named calls spent 0 old new same.room.name spends (omega (arith, none, owed));
        named = tt;
        costs = tt;
        paid = λ allowed before paid. paid_named allowed before calls spent old new paid spends same fetches.same_size
            (rw (at, fault_stage-owed old.meter.source.size old.current new.window f) (omega (arith, owed)))
            (rw (at, fault_stage-calls old.meter.source.size old.current new.window f) (omega (arith, called)))
            (rw (at, fault_stage-work f) some);
        repeats = λ stop stopped. absurd (cc);
        good = good;
      }

-- ---- a step that is given

module _ {S A : Type 0} (n calls spent : ℕ) (old new : Walk S A) (step : Step) where
  -- from a record of the current entry, which is left of it
  pub answered_step : IsSound new → stop_of old.stage ≡ None → stop_of new.stage ≡ None → stage_work new.stage < stage_work old.stage
      → records_left_in old.stage ≡ records_left_in new.stage + 1
      → SameEntry old new → passed_by step old.next ≡ old.next → current_by step old.current ≡ old.current
      → IsStepHeld (length new.name.items) (kind_of old.current.stream_type) step
      → stream_told step ≡ None
      → FetchesAtMost n old.meter.source new.meter.source → n ≤ spent + step_cost step
      → Spends calls spent old.name.limit old.meter new.meter
      → owed_of old.meter.source.size old.current new.window new.stage + spent ≤ owed_of old.meter.source.size old.current old.window old.stage
      → calls_owed old.meter.source.size old.current new.window new.stage + calls ≤ calls_owed old.meter.source.size old.current old.window old.stage
      → Reaches (told_once step) old.meter new.meter
      → IsStepPaid (standpoint_of old) (Some step) new.meter.fetched (unread_bytes new)
      → ((file : List ℕ) → old.meter.source.store.content ≡ Some file → current_of old file ≡ with_item (step_item old.meter.source.size new.name.items step) (current_of new file))
      → Follows old.choice old.entries.items old.meter.source.size old.name.limit (cursor_of old) (Ok (Some step)) (cursor_of new)
      → Answered old (Ok (Some step)) new
  answered_step sound going on falls counted same passed stays held begins fetches within spends owed called named costs left follows =
      let less : work_of new < work_of old = rw (same.room.entries, same.next) (omega (arith, falls)) in
      let owes : unread_bytes new + spent ≤ unread_bytes old = rw (fetches.same_size, same.current) owed in
      let none : stream_begun old.meter.source.size (stream_told step) ≡ 0 = rw begins refl in
      record {
        sound = sound;
        same = same.room;
        listing = λ file known.
            let rest : rest_of old file ≡ rest_of new file = rw (same.room.choice, same.room.name, same.next) refl in
            ap (λ (run : Run). joined run (rest_of old file)) (left file known)
            ∙ joined-with_item (step_item old.meter.source.size new.name.items step) (current_of new file) (rest_of old file)
            ∙ ap (λ (run : Run). with_item (step_item old.meter.source.size new.name.items step) (joined (current_of new file) run)) rest;
        given = record { held = rw same.current held; begins = rw begins (omega (arith, owes)); head = rw begins tt; falls = less };
        met = λ _. tt;
        stage = on;
        passed = same.next ∙ sym passed;
        current = same.current ∙ sym stays;
        records = λ some. (begins, counted);
        follows = λ _. follows;
        rests = omega (arith, less);
        fetches = FetchesAtMost-within n _ old.meter.source new.meter.source (omega (arith, within, owes, none)) fetches;
        counts = Moves-spent calls spent old.name.limit old.meter new.meter spends;
        spent = within_named calls spent (stream_begun old.meter.source.size (stream_told step)) old new same.room.name spends (omega (arith, owes));
        named = named;
        costs = costs;
        paid = λ allowed before paid. paid_named allowed before calls spent old new paid spends same fetches.same_size owed called falls;
        repeats = λ stop stopped. absurd (cc);
        good = λ file good. tt;
      }

-- ---- a walk that has stopped

pub Moves-none : (n : ℕ) (a : MeterState) → Moves n (counts_of a) (counts_of a)
Moves-none n a = record { more = omega arith; more_calls = omega arith; more_names = omega arith; most_names = omega arith; same_aside = refl; same_start = refl; same_budget = refl }

module _ {S A : Type 0} (w : Walk S A) (sound : IsSound w) where
  same_room : SameRoom w w
  same_room = record { header_is = refl; entries = refl; choice = refl; listed = refl; window = refl; name = refl }

  answered_again : (f : ListFault) → w.stage ≡ fault_stage f → Answered w (Err f) w
  answered_again f at =
      let stopped : stop_of w.stage ≡ Some (Some f) = rw at (fault_stage-stop f) in
      record {
        sound = sound;
        same = same_room;
        listing = λ file known not. (left_of-fault w file f at, left_of-fault w file f at);
        given = tt;
        met = λ going. absurd (cc);
        stage = at;
        passed = refl;
        current = refl;
        records = tt;
        follows = λ going. absurd (cc);
        rests = omega arith;
        fetches = FetchesAtMost-within 0 _ w.meter.source w.meter.source (omega arith) (FetchesAtMost-none w.meter.source);
        counts = Moves-none 1 w.meter;
        spent = λ few. (omega arith, omega arith);
        named = tt;
        costs = tt;
        paid = λ allowed before paid. paid;
        repeats = λ stop same. (refl, sym stopped ∙ same);
        good = λ file good. stage_by-good f f.kind refl (rw at at (sound.unfailed file good));
      }

  pub answered_stopped : (f : ListFault) → (w.stage ≡ Bad f) ⊎ (w.stage ≡ Failed f) → Answered w (Err f) w
  answered_stopped f (inl at) = let staged = rw at at sound.staged in answered_again f (at ∙ stage_by-bad f f.kind staged.1)
  answered_stopped f (inr at) = answered_again f (at ∙ stage_by-failed f f.kind (rw at at sound.staged))

  pub answered_end : w.stage ≡ Ended → Answered w (Ok None) w
  answered_end at =
      let ok = w.entries.ok.0 in
      let over : length w.entries.items ≤ w.next = omega (arith, ok, sound.ended at) in
      let stopped : stop_of w.stage ≡ Some None = rw at refl in
      record {
        sound = sound;
        same = same_room;
        listing = λ file known. let none = left_of-ended w file at over (sound.directory file known) in (none, none);
        given = tt;
        met = λ going. tt;
        stage = stopped;
        passed = tt;
        current = refl;
        records = rw at refl;
        follows = λ going. absurd (cc);
        rests = omega arith;
        fetches = FetchesAtMost-within 0 _ w.meter.source w.meter.source (omega arith) (FetchesAtMost-none w.meter.source);
        counts = Moves-none 1 w.meter;
        spent = λ few. (omega arith, omega arith);
        named = omega arith;
        costs = past_paid (standpoint_of w) (rw at (λ is. cc));
        paid = λ allowed before paid. paid;
        repeats = λ stop same. (refl, sym stopped ∙ same);
        good = λ file good. tt;
      }

-- ---- a request behind a head that was read

Moves-booked : (calls m n : ℕ) (a b c : MeterState) → Books calls m a b → Moves n (counts_of b) (counts_of c) → Moves n (counts_of a) (counts_of c)
Moves-booked calls m n a b c first then = record {
  more = omega (arith, first.more, then.more);
  more_calls = omega (arith, first.more_calls, then.more_calls);
  more_names = omega (arith, first.same_names, then.more_names);
  most_names = omega (arith, first.same_names, then.most_names);
  same_aside = then.same_aside ∙ first.same_aside;
  same_start = then.same_start ∙ first.same_start;
  same_budget = then.same_budget ∙ first.same_budget;
}

IsUnreadBy-then : (z y a b c : ℕ) (stream : Option StreamItem) → y ≡ z → b ≤ a → IsUnreadBy y stream b c → IsUnreadBy z stream a c
IsUnreadBy-then z y a b c (Some x) size less is = rw size at is
IsUnreadBy-then z y a b c None size less is = omega (arith, less, is)

-- no record was left before a head was read
none_taken : (result : Result (Option Step) ListFault) (new : ℕ) → TakesRecord 0 result new
none_taken (Ok None) new = refl
none_taken (Ok (Some s)) new = λ some. absurd (omega (arith, some))
none_taken (Err f) new = tt

module _ {S A : Type 0} (old mid new : Walk S A) (head : HeadRead old mid) where
  same_then : SameRoom mid new → SameRoom old new
  same_then same = record {
    header_is = same.header_is ∙ head.same.room.header_is;
    entries = same.entries ∙ head.same.room.entries;
    choice = same.choice ∙ head.same.room.choice;
    listed = same.listed ∙ head.same.room.listed;
    window = same.window ∙ head.same.room.window;
    name = same.name ∙ head.same.room.name;
  }

  left_then : (file : List ℕ) → old.meter.source.store.content ≡ Some file → left_of mid file ≡ left_of old file
  left_then file known =
      let rest : rest_of mid file ≡ rest_of old file = rw (head.same.room.choice, head.same.room.name, head.same.next) refl in
      ap (λ (run : Run). joined run (rest_of mid file)) (head.left file known) ∙ ap (joined (current_of old file)) rest

  given_then : (result : Result (Option Step) ListFault) → IfOk result (λ given. IfSome given (λ step. StepGiven mid step new)) → IfOk result (λ given. IfSome given (λ step. StepGiven old step new))
  given_then (Ok (Some step)) given = record {
    held = given.held;
    begins = IsUnreadBy-then old.meter.source.size mid.meter.source.size (unread_bytes old) (unread_bytes mid) (unread_bytes new) (stream_told step) head.books.fetches.same_size head.owes given.begins;
    head = given.head;
    falls = omega (arith, given.falls, head.falls);
  }
  given_then (Ok None) given = tt
  given_then (Err f) given = tt

  met_then : (result : Result (Option Step) ListFault) → old.stage ≡ Head → IfErr result (λ f. FaultMet mid f new) → IfErr result (λ f. FaultMet old f new)
  met_then (Ok given) at met = tt
  met_then (Err f) at met = record {
    told = told_in_later old.current f _ old.meter.source mid.meter.source new.meter.source head.books.fetches (rw head.same.current at met.told);
    number = met.number ∙ head.same.next;
    named = (omega (arith, met.named.0, head.books.same_names), omega (arith, met.named.1, head.books.same_names));
    over = rw (sym head.same.room.window, sym head.same.room.name) met.over;
    next = next_then old mid head at f.kind f.offset f.size new.meter.fetched met.next;
  }

  named_then : (result : Result (Option Step) ListFault) → IfOk result (λ given. Reaches (given_once given) mid.meter new.meter) → IfOk result (λ given. Reaches (given_once given) old.meter new.meter)
  named_then (Ok given) named = rw head.books.same_names at named
  named_then (Err f) named = tt

  costs_then : (result : Result (Option Step) ListFault) → old.stage ≡ Head → IfOk result (λ given. IsStepPaid (standpoint_of mid) given new.meter.fetched (unread_bytes new))
      → IfOk result (λ given. IsStepPaid (standpoint_of old) given new.meter.fetched (unread_bytes new))
  costs_then (Ok given) at paid = step_then old mid head at given new.meter.fetched (unread_bytes new) paid
  costs_then (Err f) at paid = tt

  -- no more is unread behind it than behind the head, and the stream that it begins
  unread_then : (result : Result (Option Step) ListFault) → IfOk result (λ given. IfSome given (λ step. StepGiven mid step new)) → IsStageAfter result new.stage
      → unread_bytes new ≤ unread_bytes mid + stream_begun mid.meter.source.size (begun_at result)
  unread_then (Ok (Some step)) given at = unread-within mid.meter.source.size (unread_bytes mid) (unread_bytes new) (stream_told step) given.begins
  unread_then (Ok None) given at = omega (arith, stopped-unread new.meter.source.size new.current new.window new.stage None at)
  unread_then (Err f) given at = omega (arith, stopped-unread new.meter.source.size new.current new.window new.stage (Some f) (ap stop_of at ∙ fault_stage-stop f))

  pub answered_then : (result : Result (Option Step) ListFault) → old.stage ≡ Head → Answered mid result new → Answered old result new
  answered_then result at then =
      let z = old.meter.source.size in
      let begun : stream_begun mid.meter.source.size (begun_at result) ≡ stream_begun z (begun_at result) = rw head.books.fetches.same_size refl in
      let spent : given_spent mid.name.limit result ≡ given_spent old.name.limit result = rw head.same.room.name refl in
      let within = unread_then result then.given then.stage in
      record {
        sound = then.sound;
        same = same_then then.same;
        listing = λ file known.
            subst (λ run. Advances z new.name.items run result (left_of new file)) (left_then file known)
            (subst (λ size. Advances size new.name.items (left_of mid file) result (left_of new file)) head.books.fetches.same_size
            (then.listing file (head.books.fetches.same_content ∙ known)));
        given = given_then result then.given;
        met = λ going. met_then result at (then.met (listing-going mid.stage head.stage));
        stage = then.stage;
        passed = subst (λ next. PassesTo result next new.next) head.same.next then.passed;
        current = subst (λ current. CurrentAfter result current new.current) head.same.current then.current;
        records = rw at (none_taken result (records_left_in new.stage));
        follows = λ _.
            let next = then.follows (listing-going mid.stage head.stage) in
            let known = rw (head.same.room.choice, head.same.room.entries, head.books.fetches.same_size, head.same.room.name) at next in
            follows_read old.choice old.entries.items z old.name.limit (cursor_of old) (cursor_of mid) result (cursor_of new)
            (following.headed (rw at refl) head.begins head.same.next head.same.current) known;
        rests = omega (arith, then.rests, head.falls);
        fetches = FetchesAtMost-within _ _ old.meter.source new.meter.source (omega (arith, begun, spent, within, head.owes))
            (fetches_then _ _ old.meter.source mid.meter.source new.meter.source head.books.fetches then.fetches);
        counts = Moves-booked 1 _ 1 old.meter mid.meter new.meter head.books then.counts;
        spent = λ few.
            let behind = rw head.books.same_names at (then.spent few) in
            (omega (arith, behind.0, begun, head.books.asked, head.owes), omega (arith, behind.1, begun, head.books.most, head.owes));
        named = named_then result then.named;
        costs = costs_then result at then.costs;
        paid = λ allowed before paid. then.paid allowed before (head.paid allowed before paid);
        repeats = λ stop stopped. let going : stop_of old.stage ≡ None = rw at refl in absurd (cc);
        good = λ file good. then.good file (IsGood-after _ old.meter.source mid.meter.source file head.books.fetches good);
      }

-- ---- records that are counted

module _ {S A : Type 0} (old new : Walk S A) (count : ℕ) (at : old.stage ≡ Head) (head : HeadRead old new) (counted : HeadCounted old new) (is : count ≡ records_left_in new.stage) where
  pub counted_head : RecordsCounted old (Ok count) new
  counted_head = record {
    sound = head.sound;
    same = head.same;
    stage = (sym is, head.stage);
    left = λ file known ok. left_then old new new head file known;
    books = counted.books;
    owes = head.owes;
    of_file = λ file known was. counted.of_file file known;
    met = λ going. tt;
    next = λ going. tt;
    good = λ file good. tt;
    repeats = λ past. absurd (rw at at past);
    unchanged = λ _. counted.unchanged;
    rests = omega (arith, head.falls);
    begins = λ _. head.begins;
    follows = tt;
  }

-- a fault of the head stands in the place of a count
module _ {S A : Type 0} (old new : Walk S A) (f : ListFault) (at : old.stage ≡ Head) (answered : Answered old (Err f) new) (counted : HeadCounted old new) where
  pub counted_refused : RecordsCounted old (Err f) new
  counted_refused =
      let none : unread_bytes new ≡ 0 = rw answered.stage (fault_stage-owed new.meter.source.size new.current new.window f) in
      record {
        sound = answered.sound;
        same = record { room = answered.same; next = answered.passed; current = answered.current };
        stage = answered.stage;
        left = λ file known ok. absurd (cc);
        books = counted.books;
        owes = omega (arith, none);
        of_file = λ file known was. counted.of_file file known;
        met = λ going. ((answered.met going).told, (answered.met going).number);
        next = λ going. (answered.met going).next;
        good = answered.good;
        repeats = λ past. absurd (rw at at past);
        unchanged = λ _. counted.unchanged;
        rests = answered.rests;
        begins = tt;
        follows = answered.follows;
      }
