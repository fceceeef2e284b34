-- What the calls of a walker leave.
use Rattle.std.proofs.Common.{Bool, false, ◌≡◌, ◌≤◌, ◌<◌, ◌+◌, ◌-◌, ◌*◌, ◌^◌, ◌∙◌, ℕ, List, [], Option, None, Some, Result, Ok, Err, ap, arith, get_or, length, refl, slice_get, subst, sym, vec_len, max}
use Rattle.std.specs.Prelude.{IfErr, IfOk, IfSome, IsTrue}
use Rattle.std.proofs.Math.Nat.{add-sub_cancel}
use Rattle.std.proofs.lemmas.Option.{slice_get_read}
use Rattle.std.specs.Option.{option_map}
use Rattle.mdmp_source.specs.Source.{fault_of}
use Rattle.mdmp_source.specs.Store.{IsGood}
use Rattle.mdmp_source.specs.declared.fault.SourceFault.{SourceFault}
use Rattle.mdmp_wire.specs.declared.entry.Entry.{Entry}
use Rattle.mdmp_lister.proofs.Budgets.{fault_over}
use Rattle.mdmp_lister.specs.declared.choice.Choice.{Choice}
use Rattle.mdmp_lister.specs.declared.fault.FaultKind.{FaultKind}
use Rattle.mdmp_lister.specs.declared.fault.FaultKind.TheVariants.{Source, Budget}
use Rattle.mdmp_lister.specs.declared.fault.ListFault.{ListFault}
use Rattle.mdmp_lister.specs.declared.item.Item.{Item}
use Rattle.mdmp_lister.specs.declared.item.StreamItem.{StreamItem}
use Rattle.mdmp_lister.specs.declared.meter.MeterCounts.{MeterCounts}
use Rattle.mdmp_lister.specs.declared.position.Position.{Position}
use Rattle.mdmp_lister.specs.declared.position.Position.TheVariants.{Begun, Sought, Within}
use Rattle.mdmp_lister.specs.declared.stage.Stage.{Stage}
use Rattle.mdmp_lister.specs.declared.stage.Stage.TheVariants as stage
use Rattle.mdmp_lister.specs.declared.step.Step.{Step}
use Rattle.mdmp_lister.specs.declared.walk.Walk.{Walk}
use Rattle.mdmp_lister.specs.Costs.{IsUnreadBy, begun_at, stream_begun}
use Rattle.mdmp_lister.specs.Fault.{IsAnsweredFor, IsCaused, IsOfStore, IsUnobtained, TellsNoChange}
use Rattle.mdmp_lister.specs.Following.{begun, records_by}
use Rattle.mdmp_lister.specs.Format.Item.{plain}
use Rattle.mdmp_lister.specs.Format.Kind.{HasNoNames, kind_of}
use Rattle.mdmp_lister.specs.Format.Listing.{Run, entry_body, entry_of, joined, listing_from, listing_sought, records_told, stream_item, with_item}
use Rattle.mdmp_lister.specs.Format.Summary.{entry_begun}
use Rattle.mdmp_lister.specs.Lister.{AnswersNext, Gives, NextLeaves, ListerState, ReadsAside, standpoint_in, tail}
use Rattle.mdmp_lister.specs.Meter.{BooksAside, MeterState, counts_of, IsUnmade}
use Rattle.mdmp_lister.specs.Stage.{IsCounted, IsOverAt, IsUnended, StaysUnchanged, failure_of, records_left_in, stage_by, standing_of, stop_after, stop_of}
use Rattle.mdmp_lister.specs.Step.{CurrentAfter, IsNameHeld, IsStepOf, step_item, stream_told}
use Rattle.mdmp_lister.specs.Walk.{IsListing, IsPastHead, IsSound, IsStageCounted, IsStaged, left_of}
use Rattle.mdmp_lister.specs.Walk.Paying.{IsWithinSince, unread_bytes}
use Rattle.mdmp_lister.specs.Listed.{entry_cost, entry_cost_by}
use Rattle.mdmp_lister.specs.Walk.Positions.{AnsweredFrom, GivesSought, IsPositioned, IsWalked, left_in, mark_by, position_by, records_at_position, standing_in, stop_in, unread_in, work_in}
use Rattle.mdmp_lister.specs.Walk.Requests.{Answered, EntryTaken, RecordsCounted}
use Rattle.mdmp_lister.specs.Walker.{CountsRecords, GivesEntry, PassesStep, StepLeaves, WalkerState, begins, left_counted, passed_of, seeks, stop_counted}
use Rattle.mdmp_lister.proofs.Advancing.{becomes, of_run, option_map-then, passes, same_entries, same_rooms}
use Rattle.mdmp_lister.proofs.Asides.{aside_sound}
use Rattle.mdmp_lister.proofs.Beginning.{began, stream}
use Rattle.mdmp_lister.proofs.Bodies.{joined-with_item}
use Rattle.mdmp_lister.proofs.Classes.{classed-given, plain-step, step-told}
use Rattle.mdmp_lister.proofs.Ending.{left_of-fault}
use Rattle.mdmp_lister.proofs.Fetches.{FetchesAtMost-none, FetchesAtMost-within, good_caused, told_caused}
use Rattle.mdmp_lister.proofs.Leaving.{follows_fault, follows_item, follows_none, gives_fault, gives_item, gives_none, leaves_fault, leaves_item, leaves_none, listed_by, records_stand}
use Rattle.mdmp_lister.proofs.Naming.{names_raised}
use Rattle.mdmp_lister.proofs.NextWalks.{past_paid}
use Rattle.mdmp_lister.proofs.Requests.{Moves-none, fault_stage-stop, listing-going}
use Rattle.mdmp_lister.proofs.Summary.{begins_as}
use Rattle.mdmp_lister.proofs.Unchanged.{answer-unchanged, count-unchanged}

module _ {S A : Type 0} where
  -- a walk with a position, as those who walk see it
  abbrev pub walked_by : Position → Walk S A → ListerState
  walked_by p w = record (listed_by [] 0 w) {
    left = option_map (left_in p w) w.meter.source.store.content;
    stop = stop_in p w.stage;
    unread = unread_in p w;
    standing = standing_in p w.stage;
    records = records_at_position p w.stage;
    work = work_in p w;
  }

  pub walked_by-behind : (o : Option StreamItem) (w : Walk S A) → walked_by (position_by o) w ≡ listed_by [] 0 w
  walked_by-behind (Some x) w = refl
  walked_by-behind None w = refl

-- an entry of no type costs nothing
pub entry_cost-unused : (size : ℕ) (e : Entry) → e.stream_type ≡ 0 → entry_cost size e ≡ 0
unfolding entry_cost_by
entry_cost-unused size e none = rw none refl

-- ---- what is left where an entry is sought

module _ (F : List ℕ) (choice : Choice) (limit at : ℕ) (e : Entry) (is : e ≡ entry_of F at) where
  sought-first : listing_sought F choice limit at
      ≡ with_item (stream_item (record { number = at; entry = e })) (joined (entry_body F limit (record { number = at; entry = e })) (listing_from F choice limit (at + 1)))
  sought-first =
      rw is (joined-with_item (stream_item (record { number = at; entry = entry_of F at })) (entry_body F limit (record { number = at; entry = entry_of F at })) (listing_from F choice limit (at + 1)))

-- ---- the Stream item of an entry that was sought

module _ {S A : Type 0} (w : Walk S A) (at : ℕ) (e : Entry) (sound : IsSound w) (within : at < vec_len w.entries) (read : (d : Entry) → get_or w.entries.items at d ≡ e)
    (x : Item) (same : plain x ≡ step_item w.meter.source.size w.name.items (stream w at e)) where
  begun_entry : (file : List ℕ) → w.meter.source.store.content ≡ Some file → e ≡ entry_of file at
  begun_entry file known =
      let ok = w.entries.ok.0 in
      sym (read e) ∙ (sound.directory file known).each at e (omega (arith, ok, within))

  begun_left : (file : List ℕ) → w.meter.source.store.content ≡ Some file → left_in (Sought at) w file ≡ with_item (plain x) (left_of (began w at e) file)
  begun_left file known =
      rw (add-sub_cancel at 1, same) (sought-first file w.choice w.name.limit at e (begun_entry file known))

  begun_leaves : NextLeaves (walked_by (Sought at) w) (Ok (Some x)) (listed_by [] 0 (began w at e))
  begun_leaves =
      let z = w.meter.source.size in
      let buffer = w.name.items in
      let s = stream w at e in
      let begins = begins_as z buffer s x same in
      record {
        same = record { aside = refl; start = refl; budget = refl; header_is = refl; choice = refl; limit = refl; entries = refl; rooms = refl };
        spends = record {
          fetches = FetchesAtMost-within 0 _ w.meter.source w.meter.source (omega arith) (FetchesAtMost-none w.meter.source);
          costs = rw begins (past_paid (standpoint_in (walked_by (Sought at) w)) (λ is. cc));
          counts = Moves-none 1 w.meter;
          names = names_raised z buffer None s x w.meter.names w.meter.names tt same (omega arith);
          names_at_fault = λ _. tt;
          refused = tt;
          unread = rw begins refl;
        };
        stands = record {
          left = option_map-then (left_in (Sought at) w) (left_of (began w at e)) tail w.meter.source.store.content (λ file known. sym (ap tail (begun_left file known))) w.meter.source.store.content refl;
          stop = refl;
          repeats = λ stop stopped. absurd (cc);
          falls = omega (arith, within);
          rests = omega (arith, within);
        };
        places = record {
          passed = passes z buffer s x w.next (at + 1) same refl;
          current = becomes z buffer s x w.current e same refl;
          records = λ some. absurd (omega (arith, some));
          classed = classed-given z buffer e s x same tt;
          entry = λ _. tt;
        };
        told = λ _. tt;
        next = λ _. tt;
      }

  begun_gives : (left : Run) → (walked_by (Sought at) w).left ≡ Some left → Gives left (Ok (Some x))
  begun_gives = of_run (left_in (Sought at) w) (λ left. slice_get left.items 0 ≡ Some (plain x)) w.meter.source.store.content
      (λ file known. ap (λ (r : Run). slice_get r.items 0) (begun_left file known))

module _ {S A : Type 0} (w n : Walk S A) (at : ℕ) (s : Step) (taken : EntryTaken at w s n) (sound : IsSound w) (within : at < vec_len w.entries)
    (x : Item) (same : plain x ≡ step_item n.meter.source.size n.name.items s) where
  told : plain x ≡ step_item w.meter.source.size w.name.items (stream w at n.current)
  told =
      subst (λ (m : Walk S A). plain x ≡ step_item m.meter.source.size m.name.items (stream w at n.current)) taken.is
      (subst (λ (t : Step). plain x ≡ step_item n.meter.source.size n.name.items t) taken.step_is same)

  sought_leaves : NextLeaves (walked_by (Sought at) w) (Ok (Some x)) (listed_by [] 0 n)
  sought_leaves =
      subst (λ (m : Walk S A). NextLeaves (walked_by (Sought at) w) (Ok (Some x)) (listed_by [] 0 m)) (sym taken.is)
      (begun_leaves w at n.current sound within taken.entry x told)

  sought_gives : (left : Run) → (walked_by (Sought at) w).left ≡ Some left → Gives left (Ok (Some x))
  sought_gives = begun_gives w at n.current sound within taken.entry x told

-- ---- a request for the next item

module _ {S A : Type 0} (w n : Walk S A) where
  -- where no entry is sought its answer may come next, whatever the file holds
  pub none_follows : (p : Position) → AnsweredFrom p w (Ok None) n → stop_in p w.stage ≡ None → seeks p ≡ false → AnswersNext (walked_by p w) (Ok None) (listed_by [] 0 n)
  none_follows (Sought at) e going unsought = absurd (cc)
  none_follows Begun e going unsought = follows_none w n 0 [] [] e going
  none_follows Within e going unsought = follows_none w n 0 [] [] e going

  pub fault_follows : (p : Position) (f : ListFault) → AnsweredFrom p w (Err f) n → stop_in p w.stage ≡ None → seeks p ≡ false → AnswersNext (walked_by p w) (Err f) (listed_by [] 0 n)
  fault_follows (Sought at) f e going unsought = absurd (cc)
  fault_follows Begun f e going unsought = follows_fault w n 0 [] [] f e going
  fault_follows Within f e going unsought = follows_fault w n 0 [] [] f e going

  pub item_follows : (p : Position) (s : Step) (x : Item) → plain x ≡ step_item n.meter.source.size n.name.items s → AnsweredFrom p w (Ok (Some s)) n
      → stop_in p w.stage ≡ None → seeks p ≡ false → AnswersNext (walked_by p w) (Ok (Some x)) (listed_by [] 0 n)
  item_follows (Sought at) s x told e going unsought = absurd (cc)
  item_follows Begun s x told e going unsought = follows_item w n 0 [] [] s x e told going
  item_follows Within s x told e going unsought = follows_item w n 0 [] [] s x e told going

  pub none_leaves : (p : Position) → AnsweredFrom p w (Ok None) n → NextLeaves (walked_by p w) (Ok None) (listed_by [] 0 n)
  none_leaves (Sought at) e = let never = e.answer in absurd (cc)
  none_leaves Begun e = leaves_none w n 0 [] e
  none_leaves Within e = leaves_none w n 0 [] e

  pub none_gives : (p : Position) → AnsweredFrom p w (Ok None) n → (left : Run) → (walked_by p w).left ≡ Some left → Gives left (Ok None)
  none_gives (Sought at) e = let never = e.answer in absurd (cc)
  none_gives Begun e = gives_none w n 0 [] e
  none_gives Within e = gives_none w n 0 [] e

  pub fault_leaves : (p : Position) (f : ListFault) → AnsweredFrom p w (Err f) n → NextLeaves (walked_by p w) (Err f) (listed_by [] 0 n)
  fault_leaves (Sought at) f e = let never = e.answer in absurd (cc)
  fault_leaves Begun f e = leaves_fault w n 0 [] f e
  fault_leaves Within f e = leaves_fault w n 0 [] f e

  pub fault_gives : (p : Position) (f : ListFault) → AnsweredFrom p w (Err f) n → (left : Run) → (walked_by p w).left ≡ Some left → Gives left (Err f)
  fault_gives (Sought at) f e = let never = e.answer in absurd (cc)
  fault_gives Begun f e = gives_fault w n 0 [] f e
  fault_gives Within f e = gives_fault w n 0 [] f e

  pub fault_good : (p : Position) (f : ListFault) → AnsweredFrom p w (Err f) n → (file : List ℕ) → IsGood w.meter.source.store file → IsOfStore f.kind → ⊥
  fault_good (Sought at) f e = let never = e.answer in absurd (cc)
  fault_good Begun f e = e.good
  fault_good Within f e = e.good

  pub fault_refused : (p : Position) (f : ListFault) → AnsweredFrom p w (Err f) n → IsUnmade (max n.window.room n.name.limit) f.kind f.offset f.size (counts_of n.meter) n.meter.source.size
  fault_refused (Sought at) f e = let never = e.answer in absurd (cc)
  fault_refused Begun f e = fault_over _ f n.meter (rw e.stage at e.sound.refused)
  fault_refused Within f e = fault_over _ f n.meter (rw e.stage at e.sound.refused)

  module _ (s : Step) (x : Item) (told : plain x ≡ step_item n.meter.source.size n.name.items s) (sound : IsSound w) where
    taken_step : (at : ℕ) (e : GivesSought at w (Ok (Some s)) n) → EntryTaken at w s n
    taken_step at e = let same : e.step ≡ s = let is = e.answer in cc in subst (λ (t : Step). EntryTaken at w t n) same e.taken

    pub item_leaves : (p : Position) → IsPositioned p w → AnsweredFrom p w (Ok (Some s)) n → NextLeaves (walked_by p w) (Ok (Some x)) (listed_by [] 0 n)
    item_leaves (Sought at) placed e = sought_leaves w n at s (taken_step at e) sound placed.0 x told
    item_leaves Begun placed e = leaves_item w n 0 [] [] s x e told
    item_leaves Within placed e = leaves_item w n 0 [] [] s x e told

    pub item_gives : (p : Position) → IsPositioned p w → AnsweredFrom p w (Ok (Some s)) n → (left : Run) → (walked_by p w).left ≡ Some left → Gives left (Ok (Some x))
    item_gives (Sought at) placed e = sought_gives w n at s (taken_step at e) sound placed.0 x told
    item_gives Begun placed e = gives_item w n 0 [] [] s x e told
    item_gives Within placed e = gives_item w n 0 [] [] s x e told

  -- an answer that is given again
  pub stop_again : (p : Position) (r : Result (Option Step) ListFault) → AnsweredFrom p w r n → (stop : Option ListFault) → stop_in p w.stage ≡ Some stop → stop_after r ≡ Some stop
  stop_again (Sought at) r e stop stopped = absurd (cc)
  stop_again Begun r e stop stopped = (e.repeats stop stopped).1
  stop_again Within r e stop stopped = (e.repeats stop stopped).1

  -- of an entry that was sought its Stream item
  module _ (s : Step) (x : Item) (same : plain x ≡ step_item n.meter.source.size n.name.items s) where
    entry_given : (at : ℕ) → at < vec_len w.entries → GivesSought at w (Ok (Some s)) n → GivesEntry at w.entries.items (Ok (Some x))
    entry_given at within e =
        let ok = w.entries.ok.0 in
        let step : e.step ≡ s = let is = e.answer in cc in
        let is : s ≡ stream w at n.current = sym step ∙ e.taken.step_is in (
          n.current,
          (
            slice_get_read w.entries.items _ at n.current refl (omega (arith, ok, within)) (sym (e.taken.entry n.current)),
            same ∙ ap (step_item n.meter.source.size n.name.items) is,
          ),
        )

    pub given_sought : (p : Position) → IsPositioned p w → AnsweredFrom p w (Ok (Some s)) n → (at : ℕ) → p ≡ Sought at → GivesEntry at w.entries.items (Ok (Some x))
    given_sought (Sought number) placed e at is =
        let here : number ≡ at = cc in
        subst (λ (i : ℕ). GivesEntry i w.entries.items (Ok (Some x))) here (entry_given number placed.0 e)
    given_sought Begun placed e at is = absurd (cc)
    given_sought Within placed e at is = absurd (cc)

  -- which is the only answer then
  pub none_unsought : (p : Position) → AnsweredFrom p w (Ok None) n → (at : ℕ) → p ≡ Sought at → ⊥
  none_unsought (Sought number) e at is = let never = e.answer in cc
  none_unsought Begun e at is = cc
  none_unsought Within e at is = cc

  pub fault_unsought : (p : Position) (f : ListFault) → AnsweredFrom p w (Err f) n → (at : ℕ) → p ≡ Sought at → ⊥
  fault_unsought (Sought number) f e at is = let never = e.answer in cc
  fault_unsought Begun f e at is = cc
  fault_unsought Within f e at is = cc

-- ---- what was fetched since the Stream item before

begun-unread : (z old new : ℕ) (o : Option StreamItem) → IsUnreadBy z o old new → stream_begun z o ≤ new
begun-unread z old new (Some x) is = omega (arith, is)
begun-unread z old new None is = omega arith

current_going : (r : Result (Option Step) ListFault) (old new : Entry) → begun_at r ≡ None → CurrentAfter r old new → new ≡ old
current_going (Ok (Some s)) old new none now = now ∙ ap (λ o. entry_begun o old) none
current_going (Ok None) old new none now = now
current_going (Err f) old new none now = now

module _ {S A : Type 0} (w n : Walk S A) (mark : MeterCounts) (was : IsWithinSince mark.asked mark.fetched mark.names (entry_cost w.meter.source.size w.current) w) where
  answered_begun : (r : Result (Option Step) ListFault) → Answered w r n → stream_begun w.meter.source.size (begun_at r) ≤ unread_bytes n
  answered_begun (Ok (Some s)) e = begun-unread w.meter.source.size (unread_bytes w) (unread_bytes n) (stream_told s) e.given.begins
  answered_begun (Ok None) e = omega arith
  answered_begun (Err f) e = omega arith

  answered_spent : (r : Result (Option Step) ListFault) → Answered w r n → n.meter.names + 1 < 2 ^ 128
      → n.meter.asked + mark.names * (w.name.limit + 4) ≤ mark.asked + entry_cost w.meter.source.size w.current + n.meter.names * (w.name.limit + 4)
  answered_spent r e few =
      let before = was (omega (arith, few, e.counts.more_names)) in
      let now = rw e.same.name at (e.spent few) in
      omega (arith, before.0, now.0, answered_begun r e)

  answered_fetched : (r : Result (Option Step) ListFault) → Answered w r n → n.meter.names + 1 < 2 ^ 128
      → n.meter.fetched + mark.names * (w.name.limit + 4) ≤ mark.fetched + entry_cost w.meter.source.size w.current + n.meter.names * (w.name.limit + 4)
  answered_fetched r e few =
      let before = was (omega (arith, few, e.counts.more_names)) in
      let now = rw e.same.name at (e.spent few) in
      omega (arith, before.1, now.1, answered_begun r e)

  sought_meter : (at : ℕ) (s : Step) → EntryTaken at w s n → n.meter ≡ w.meter
  sought_meter at s taken = ap (λ (m : Walk S A). m.meter) taken.is

  pub request_spent : (p : Position) (r : Result (Option Step) ListFault) → AnsweredFrom p w r n → n.meter.names + 1 < 2 ^ 128
      → n.meter.asked + mark.names * (w.name.limit + 4) ≤ mark.asked + entry_cost w.meter.source.size w.current + n.meter.names * (w.name.limit + 4)
  request_spent (Sought at) r e few =
      let same = sought_meter at e.step e.taken in
      let before = was (rw same at few) in
      rw same (omega (arith, before.0))
  request_spent Begun r e few = answered_spent r e few
  request_spent Within r e few = answered_spent r e few

  pub request_fetched : (p : Position) (r : Result (Option Step) ListFault) → AnsweredFrom p w r n → n.meter.names + 1 < 2 ^ 128
      → n.meter.fetched + mark.names * (w.name.limit + 4) ≤ mark.fetched + entry_cost w.meter.source.size w.current + n.meter.names * (w.name.limit + 4)
  request_fetched (Sought at) r e few =
      let same = sought_meter at e.step e.taken in
      let before = was (rw same at few) in
      rw same (omega (arith, before.1))
  request_fetched Begun r e few = answered_fetched r e few
  request_fetched Within r e few = answered_fetched r e few

  within_going : (r : Result (Option Step) ListFault) → Answered w r n → begun_at r ≡ None → IsWithinSince mark.asked mark.fetched mark.names (entry_cost n.meter.source.size n.current) n
  within_going r e none few =
      let before = was (omega (arith, few, e.counts.more_names)) in
      let spent = rw e.same.name at (e.spent few) in
      let zero : stream_begun w.meter.source.size (begun_at r) ≡ 0 = rw none refl in
      let cost : entry_cost n.meter.source.size n.current ≡ entry_cost w.meter.source.size w.current = rw (e.fetches.same_size, current_going r w.current n.current none e.current) refl in
      let room : n.name.limit ≡ w.name.limit = e.same.name in
      rw room (omega (arith, before.0, spent.0, zero, cost), omega (arith, before.1, spent.1, zero, cost))

  -- ---- the walk behind it

  walked_answered : (r : Result (Option Step) ListFault) → Answered w r n → StaysUnchanged n.stage → IsWalked (position_by (begun_at r)) (mark_by (begun_at r) (counts_of n.meter) mark) n
  walked_answered (Ok None) e stays = record { sound = e.sound; placed = tt; unchanged = stays; within = within_going (Ok None) e refl }
  walked_answered (Err f) e stays = record { sound = e.sound; placed = tt; unchanged = stays; within = within_going (Err f) e refl }
  walked_answered (Ok (Some s)) e stays = behind (stream_told s) refl where
    behind : (o : Option StreamItem) → stream_told s ≡ o → IsWalked (position_by o) (mark_by o (counts_of n.meter) mark) n
    behind None none = record { sound = e.sound; placed = tt; unchanged = stays; within = within_going (Ok (Some s)) e none }
    behind (Some x) some =
        let head : n.stage ≡ stage.Head = rw some at e.given.head in
        let begins = rw some at e.given.begins in
        let current = rw some at e.current in
        let cost : entry_cost n.meter.source.size n.current ≡ stream_begun w.meter.source.size (Some x) = rw (e.fetches.same_size, current) refl in
        record {
          sound = e.sound;
          placed = (rw head tt, λ file known. rw head tt);
          unchanged = stays;
          within = λ few. (omega (arith, begins, cost), omega (arith, begins, cost));
        }

  walked_sought : (at : ℕ) (s : Step) → EntryTaken at w s n → IsWalked Begun (counts_of n.meter) n
  walked_sought at s taken =
      let head : n.stage ≡ stage.Head = ap (λ (m : Walk S A). m.stage) taken.is in
      let unread : unread_bytes n ≡ entry_cost n.meter.source.size n.current = rw head refl in
      record {
        sound = taken.sound;
        placed = (rw head tt, λ file known. rw head tt);
        unchanged = rw head tt;
        within = λ few. (omega (arith, unread), omega (arith, unread));
      }

  pub request_walked : (p : Position) (r : Result (Option Step) ListFault) → AnsweredFrom p w r n → StaysUnchanged n.stage → IsWalked (position_by (begun_at r)) (mark_by (begun_at r) (counts_of n.meter) mark) n
  request_walked (Sought at) r e stays = rw (e.answer, e.taken.step_is) (walked_sought at e.step e.taken)
  request_walked Begun r e stays = walked_answered r e stays
  request_walked Within r e stays = walked_answered r e stays

  pub request_unchanged : (p : Position) (r : Result (Option Step) ListFault) → AnsweredFrom p w r n → StaysUnchanged n.stage → IfErr r (λ f. TellsNoChange f.kind)
  request_unchanged (Sought at) r e stays = rw e.answer tt
  request_unchanged Begun r e stays = answer-unchanged r n.stage e.stage stays
  request_unchanged Within r e stays = answer-unchanged r n.stage e.stage stays

-- ---- records that are counted

stage_by-answer : (count : Result ℕ ListFault) (f : ListFault) (kind : FaultKind) → IsCounted count (stage_by kind f) → (IsUnobtained kind → ⊥) → count ≡ Err f
stage_by-answer count f (Source fault) counted not = absurd (not tt)
stage_by-answer count f Budget counted not = absurd (not tt)
stage_by-answer count f _ counted not = counted

counted_at : (wanted : Result ℕ ListFault) (count : ℕ) (at : Stage) → (records_left_in at ≡ count) × IsListing at → IsCounted wanted at → wanted ≡ Ok count
counted_at wanted count stage.Between is counted = counted ∙ ap Ok is.0
counted_at wanted count (stage.Records kind shape index offset) is counted = let same : shape.count ≡ count = omega (arith, counted.1, is.0) in counted.0 ∙ ap Ok same
counted_at wanted count _ is counted = absurd is.1

pub counted_answer : (wanted r : Result ℕ ListFault) (at : Stage) → IsStageCounted r at → IsCounted wanted at → IsAnsweredFor wanted r
counted_answer wanted (Ok count) at is counted = counted_at wanted count at is counted
counted_answer wanted (Err f) at is counted = λ not. stage_by-answer wanted f f.kind (subst (IsCounted wanted) is counted) not

count_left : (r : Result ℕ ListFault) (at : Stage) → IsStageCounted r at → IfOk r (λ count. records_left_in at ≡ count)
count_left (Ok count) at is = is.0
count_left (Err f) at is = tt

few_counted : (r : Result ℕ ListFault) (z next : ℕ) (e : Entry) (at : Stage) → IsStageCounted r at → IsStaged z next e at → IfOk r (λ count. count < 2 ^ 32)
few_counted (Ok count) z next e stage.Between is staged = omega (arith, is.0)
few_counted (Ok count) z next e (stage.Records kind shape index offset) is staged = omega (arith, is.0, staged.few)
few_counted (Ok count) z next e _ is staged = absurd is.1
few_counted (Err f) z next e at is staged = tt

stopped-past : (at : Stage) (stop : Option ListFault) → stop_of at ≡ Some stop → IsPastHead at
stopped-past stage.Head stop stopped = absurd (cc)
stopped-past _ stop stopped = tt

begun-past : (at : Stage) → (standing_of at ≡ begun → ⊥) → IsPastHead at
begun-past stage.Head past = past refl
begun-past _ past = tt

stands_counted : (r : Result ℕ ListFault) (at : Stage) → IfOk r (λ count. records_left_in at ≡ count) → IfOk r (λ count. count ≡ records_by (standing_of at))
stands_counted (Ok count) at is = sym is ∙ records_stand at
stands_counted (Err f) at is = tt

pub begun_position : (p : Position) → IsTrue (begins p) → p ≡ Begun
begun_position Begun is = refl
begun_position _ is = absurd (cc)

module _ {S A : Type 0} (w n : Walk S A) (mark : MeterCounts) (walked : IsWalked Begun mark w) (r : Result ℕ ListFault) (e : RecordsCounted w r n) where
  left_counts : (q : Result ℕ ListFault) → r ≡ q → (file : List ℕ) → w.meter.source.store.content ≡ Some file → left_of n file ≡ left_counted q (left_of w file)
  left_counts (Ok count) is file known = e.left file known (rw is refl)
  left_counts (Err f) is file known = left_of-fault n file f (rw is at e.stage)

  stop_counts : (q : Result ℕ ListFault) → r ≡ q → stop_of n.stage ≡ stop_counted q
  stop_counts (Ok count) is = let at = rw is at e.stage in listing-going n.stage at.1
  stop_counts (Err f) is = rw (rw is at e.stage) (fault_stage-stop f)

  refused_counts : (r : Result ℕ ListFault) → IsStageCounted r n.stage → IfErr r (λ f. IsUnmade (max n.window.room n.name.limit) f.kind f.offset f.size (counts_of n.meter) n.meter.source.size)
  refused_counts (Ok count) at = tt
  refused_counts (Err f) at = fault_over _ f n.meter (rw at at e.sound.refused)

  pub records_counted : CountsRecords (record { list = listed_by [] 0 w; position = Begun; mark = mark }) r (record { list = listed_by [] 0 n; position = Begun; mark = mark })
  records_counted = record {
    same = record {
      aside = e.books.same_aside;
      start = e.books.same_start;
      budget = e.books.same_budget;
      header_is = e.same.room.header_is;
      choice = e.same.room.choice;
      limit = e.same.room.name;
      entries = same_entries w n e.same.room;
      rooms = same_rooms w n 0 e.same.room;
    };
    refused = refused_counts r e.stage;
    passed = e.same.next;
    current = e.same.current;
    left = option_map-then (left_of w) (left_of n) (left_counted r) w.meter.source.store.content (left_counts r refl) n.meter.source.store.content e.books.fetches.same_content;
    stop = stop_counts r refl;
    records = count_left r n.stage e.stage;
    few = few_counted r n.meter.source.size n.next n.current n.stage e.stage e.sound.staged;
    fetches = e.books.fetches;
    unread = e.owes;
    counts = record {
      more = e.books.more;
      more_calls = e.books.more_calls;
      more_names = omega (arith, e.books.same_names);
      most_names = omega (arith, e.books.same_names);
      same_aside = e.books.same_aside;
      same_start = e.books.same_start;
      same_budget = e.books.same_budget;
    };
    spent = λ few.
        let before = walked.within (rw e.books.same_names at few) in
        rw e.books.same_names (omega (arith, before.0, e.books.asked, e.owes));
    fetched = λ few.
        let before = walked.within (rw e.books.same_names at few) in
        rw e.books.same_names (omega (arith, before.1, e.books.most, e.owes));
    told = e.met;
    next = e.next;
    good = e.good;
    unchanged = count-unchanged r n.stage e.stage (e.unchanged walked.unchanged);
    repeats = λ stop stopped. rw (e.repeats (stopped-past w.stage stop stopped)) refl;
    stands = stands_counted r n.stage (count_left r n.stage e.stage);
    again = λ past. rw (e.repeats (begun-past w.stage past)) refl;
    mark = refl;
    position = refl;
    rests = e.rests;
    begins = e.begins;
    follows = e.follows;
  }

  pub records_answered : (file : List ℕ) → w.meter.source.store.content ≡ Some file → IsAnsweredFor (records_told file (record { number = w.next - 1; entry = w.current })) r
  records_answered file known = counted_answer _ r n.stage e.stage (e.of_file file known (walked.placed.1 file known))

  pub records_walked : IsWalked Begun mark n
  records_walked = record {
    sound = e.sound;
    unchanged = e.unchanged walked.unchanged;
    placed = (
      rest r refl,
      λ file known.
          let was = sym e.books.fetches.same_content ∙ known in
          rw (e.same.next, e.same.current) (e.of_file file was (walked.placed.1 file was)),
    );
    within = λ few.
        let before = walked.within (rw e.books.same_names at few) in
        let cost : entry_cost n.meter.source.size n.current ≡ entry_cost w.meter.source.size w.current = rw (e.books.fetches.same_size, e.same.current) refl in
        let room : n.name.limit ≡ w.name.limit = e.same.room.name in
        rw (e.books.same_names, room) (omega (arith, before.0, e.books.asked, e.owes, cost), omega (arith, before.1, e.books.most, e.owes, cost));
  } where
    unended-listing : (at : Stage) → IsListing at → IsUnended at
    unended-listing stage.Between is = tt
    unended-listing (stage.Records kind shape index offset) is = tt
    unended-listing _ is = absurd is

    unended-fault : (f : ListFault) (kind : FaultKind) → IsUnended (stage_by kind f)
    unended-fault f (Source fault) = tt
    unended-fault f _ = tt

    rest : (q : Result ℕ ListFault) → r ≡ q → IsUnended n.stage
    rest (Ok count) is = unended-listing n.stage (rw is at e.stage).1
    rest (Err f) is = rw (rw is at e.stage) (unended-fault f f.kind)

-- ---- what is read aside

module _ {S A : Type 0} (w : Walk S A) (m : MeterState) where
  pub walked_by-aside : (p : Position) → m.source.size ≡ w.meter.source.size → m.source.store.content ≡ w.meter.source.store.content
      → walked_by p (record w { meter = m }) ≡ record (walked_by p w) { source = m.source; counts = counts_of m }
  walked_by-aside (Sought at) size content = rw content refl
  walked_by-aside Begun size content = rw (content, size) refl
  walked_by-aside Within size content = rw (content, size) refl

  positioned-aside : (p : Position) → m.source.store.content ≡ w.meter.source.store.content → IsPositioned p w → IsPositioned p (record w { meter = m })
  positioned-aside (Sought at) content placed = placed
  positioned-aside Begun content placed = (placed.0, λ file known. placed.1 file (sym content ∙ known))
  positioned-aside Within content placed = placed

module _ {S A : Type 0} {calls : ℕ} (n : ℕ) (p : Position) (mark : MeterCounts) (w new : Walk S A) (walked : IsWalked p mark w) (books : BooksAside calls n w.meter new.meter) (same : new ≡ record w { meter = new.meter }) where
  pub aside_walked : IsWalked p mark new
  aside_walked =
      let room : new.name.limit ≡ w.name.limit = ap (λ (v : Walk S A). v.name.limit) same in
      rw same (record {
        sound = rw (ap (λ (v : Walk S A). v.name) same) at (aside_sound n w new walked.sound books room);
        placed = positioned-aside w new.meter p books.fetches.same_content walked.placed;
        unchanged = walked.unchanged;
        within = rw (books.fetches.same_size, books.spends.same_asked, books.spends.same_fetched, books.spends.same_names) walked.within;
      })

  pub aside_leaves : {T : Type 0} (r : Result T SourceFault) → IsCaused (fault_of r) w.meter.source new.meter.source → ReadsAside calls n r (walked_by p w) (walked_by p new)
  aside_leaves r caused = record {
    same = ap (walked_by p) same ∙ walked_by-aside w new.meter p books.fetches.same_size books.fetches.same_content;
    aside = books.spends;
    fetches = books.fetches;
    source_calls = books.source_calls;
    told = told_caused w.meter.source new.meter.source r caused;
    good = λ file good. good_caused w.meter.source new.meter.source r file caused good;
  }

-- ---- an entry that has begun

at_head : {S A : Type 0} (w n : Walk S A) (at : ℕ) (s : Step) (o : Option StreamItem) → EntryTaken at w s n → IfSome o (λ _. n.stage ≡ stage.Head)
at_head w n at s (Some x) taken = ap (λ m. m.stage) taken.is
at_head w n at s None taken = tt

module _ {S A : Type 0} (w n : Walk S A) where
  head_behind : (p : Position) (s : Step) → AnsweredFrom p w (Ok (Some s)) n → IfSome (stream_told s) (λ _. n.stage ≡ stage.Head)
  head_behind (Sought at) s e = at_head w n at e.step (stream_told s) e.taken
  head_behind Begun s e = e.given.head
  head_behind Within s e = e.given.head

  begun_by_head : (o : Option StreamItem) → IfSome o (λ _. n.stage ≡ stage.Head) → IfSome o (λ _. standing_in (position_by o) n.stage ≡ begun)
  begun_by_head (Some x) is = ap standing_of is
  begun_by_head None is = tt

  pub begun_behind : (p : Position) (s : Step) → AnsweredFrom p w (Ok (Some s)) n → IfSome (stream_told s) (λ _. standing_in (position_by (stream_told s)) n.stage ≡ begun)
  begun_behind p s e = begun_by_head (stream_told s) (head_behind p s e)

-- ---- an item as it was read

module _ {S A : Type 0} (w n : Walk S A) (mark : MeterCounts) where
  held_from : (p : Position) (s : Step) → AnsweredFrom p w (Ok (Some s)) n → IsNameHeld (length n.name.items) s
  held_from (Sought at) s e =
      let is : e.step ≡ s = let same = e.answer in cc in
      subst (λ (t : Step). IsNameHeld (length n.name.items) t) is (rw e.taken.step_is tt)
  held_from Begun s e = e.given.held.0
  held_from Within s e = e.given.held.0

  abbrev walker_was : Position → WalkerState
  walker_was p = record { list = walked_by p w; position = p; mark = mark }

  abbrev walker_is : Result (Option Step) ListFault → WalkerState
  walker_is r = record { list = walked_by (position_by (begun_at r)) n; position = position_by (begun_at r); mark = mark_by (begun_at r) (counts_of n.meter) mark }

  pub step_leaves : (p : Position) (r : Result (Option Step) ListFault) → IsWalked p mark w → AnsweredFrom p w r n → IfErr r (λ f. TellsNoChange f.kind) → (HasNoNames (kind_of w.current.stream_type) → n.meter.names ≡ w.meter.names) → StepLeaves (walker_was p) r (walker_is r)
  step_leaves p (Ok None) walked e unchanged nameless = record {
    answer = Ok None;
    told = refl;
    leaves = record { list = none_leaves w n p e; position = refl; mark = refl; spent = request_spent w n mark walked.within p (Ok None) e; fetched = request_fetched w n mark walked.within p (Ok None) e; unchanged = tt; nameless = nameless; follows = none_follows w n p e; begins = tt };
    gives = none_gives w n p e;
    sought = λ number is. none_unsought w n p e number is;
  }
  step_leaves p (Err f) walked e unchanged nameless = record {
    answer = Err f;
    told = refl;
    leaves = record { list = fault_leaves w n p f e; position = refl; mark = refl; spent = request_spent w n mark walked.within p (Err f) e; fetched = request_fetched w n mark walked.within p (Err f) e; unchanged = unchanged; nameless = nameless; follows = fault_follows w n p f e; begins = tt };
    gives = fault_gives w n p f e;
    sought = λ number is. fault_unsought w n p f e number is;
  }
  step_leaves p (Ok (Some s)) walked e unchanged nameless =
      let z = n.meter.source.size in
      let buffer = n.name.items in
      let x : Item = step_item z buffer s in
      let same : plain x ≡ step_item z buffer s = plain-step z buffer s in
      let begins = begins_as z buffer s x same in
      let held : IsNameHeld (length buffer) s = held_from p s e in
      record {
        answer = Ok (Some x);
        told = (x, (refl, step-told z buffer s held));
        leaves = record {
          list = subst (λ (v : ListerState). NextLeaves (walked_by p w) (Ok (Some x)) v) (sym (walked_by-behind (stream_told s) n)) (item_leaves w n s x same walked.sound p walked.placed e);
          position = rw begins refl;
          mark = rw begins refl;
          spent = request_spent w n mark walked.within p (Ok (Some s)) e;
          fetched = request_fetched w n mark walked.within p (Ok (Some s)) e;
          unchanged = tt;
          nameless = nameless;
          follows = λ going unsought. subst (λ (v : ListerState). AnswersNext (walked_by p w) (Ok (Some x)) v) (sym (walked_by-behind (stream_told s) n)) (item_follows w n p s x same e going unsought);
          begins = rw begins (begun_behind w n p s e);
        };
        gives = item_gives w n s x same walked.sound p walked.placed e;
        sought = given_sought w n s x same p walked.placed e;
      }

  pub step_good : (p : Position) (r : Result (Option Step) ListFault) → AnsweredFrom p w r n → (file : List ℕ) → IsGood w.meter.source.store file → IfErr r (λ f. IsOfStore f.kind → ⊥)
  step_good p (Ok given) e file good = tt
  step_good p (Err f) e file good = fault_good w n p f e file good

  pub step_kinded : (p : Position) (r : Result (Option Step) ListFault) → AnsweredFrom p w r n → IfOk r (λ given. IfSome given (IsStepOf (kind_of n.current.stream_type)))
  step_kinded p (Err f) e = tt
  step_kinded p (Ok None) e = tt
  step_kinded (Sought at) (Ok (Some s)) e =
      let is : e.step ≡ s = let same = e.answer in cc in
      subst (λ (t : Step). IsStepOf (kind_of n.current.stream_type) t) is (rw e.taken.step_is tt)
  step_kinded Begun (Ok (Some s)) e = e.given.held.1
  step_kinded Within (Ok (Some s)) e = e.given.held.1

  pub step_refused : (p : Position) (r : Result (Option Step) ListFault) → AnsweredFrom p w r n
      → IfErr r (λ f. IsUnmade (max n.window.room n.name.limit) f.kind f.offset f.size (counts_of n.meter) n.meter.source.size)
  step_refused p (Ok given) e = tt
  step_refused p (Err f) e = fault_refused w n p f e

  -- a step that is dropped
  pub step_passes : (p : Position) (r : Result (Option Step) ListFault) (passed : Result Bool ListFault) → passed ≡ passed_of r → IsWalked p mark w → AnsweredFrom p w r n
      → IfErr r (λ f. TellsNoChange f.kind) → (HasNoNames (kind_of w.current.stream_type) → n.meter.names ≡ w.meter.names) → PassesStep (walker_was p) passed (walker_is r)
  step_passes p r passed is walked e unchanged nameless = record {
    given = r;
    passed = is;
    leaves = step_leaves p r walked e unchanged nameless;
    repeats = stop_again w n p r e;
    good = step_good p r e;
    refused = step_refused p r e;
    kind = step_kinded p r e;
  }

-- ---- a budget that is lifted

module _ {S A : Type 0} (w : Walk S A) where
  -- the meter of a walk without the budget
  abbrev unbudgeted_meter : MeterState
  unbudgeted_meter = record w.meter { budget = None; asked = w.meter.fetched }

  unfailed-over : (most : ℕ) (stage : Stage) (m : MeterState) → failure_of stage ≡ None → IsOverAt most stage m
  unfailed-over most stage m none = rw none tt

  pub lifted_walked : (p : Position) (mark : MeterCounts) → IsWalked p mark w → failure_of w.stage ≡ None → w.meter.fetched ≤ w.meter.asked → IsWalked p mark (record w { meter = unbudgeted_meter })
  lifted_walked p mark walked unfailed within =
      let old = walked.sound in
      record {
        sound = record {
          sized = old.sized;
          window = old.window;
          small = old.small;
          few = old.few;
          whole = old.whole;
          listed = old.listed;
          placed = old.placed;
          staged = old.staged;
          holding = old.holding;
          headed = old.headed;
          ended = old.ended;
          directory = old.directory;
          header_is = old.header_is;
          unfailed = old.unfailed;
          refused = unfailed-over _ w.stage unbudgeted_meter unfailed;
          opened = old.opened;
        };
        placed = positioned-aside w unbudgeted_meter p refl walked.placed;
        unchanged = walked.unchanged;
        within = λ few. (let before = walked.within few in (omega (arith, before.0, within), before.1));
      }

  -- all else that is seen of it stays
  pub lifted_leaves : (p : Position) (m : MeterState) → m ≡ unbudgeted_meter
      → walked_by p (record w { meter = m }) ≡ record (walked_by p w) { counts = record (counts_of w.meter) { budget = None; asked = w.meter.fetched } }
  lifted_leaves p m is = ap (λ n. walked_by p (record w { meter = n })) is ∙ walked_by-aside w unbudgeted_meter p refl refl
