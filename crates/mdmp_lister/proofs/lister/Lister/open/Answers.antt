use Rattle.std.proofs.Common.{◌≡◌, ◌∙◌, ◌≤◌, ◌+◌, ◌*◌, ℕ, List, None, Option, Some, Result, Ok, Err, ap, arith, inl, inr, length, refl, rules, subst, sym, true, vec_capacity}
use Rattle.mdmp_wire.specs.declared.header.Header.{Header}
use Rattle.mdmp_wire.specs.Header.{header_at}
use Rattle.std.proofs.lemmas.Bool.{le-ltb, lt-ltb}
use Rattle.mdmp_source.specs.Source.{SourceState, FetchesAtMost}
use Rattle.mdmp_source.specs.SourceLaws.{fetches_then}
use Rattle.mdmp_lister.specs.declared.choice.Choice.{Choice}
use Rattle.mdmp_lister.specs.declared.fault.FetchFault.{FetchFault}
use Rattle.mdmp_lister.specs.declared.fault.FetchFault.TheVariants as fetch
use Rattle.mdmp_lister.specs.declared.fault.OpenFault.{OpenFault}
use Rattle.mdmp_lister.specs.declared.fault.OpenFault.TheVariants.{Memory, MemoryLimit, TooManyRanges}
use Rattle.mdmp_lister.specs.declared.limits.Limits.{Limits}
use Rattle.mdmp_lister.specs.declared.stage.Stage.TheVariants.{Between}
use Rattle.mdmp_lister.specs.declared.walk.Walk.{Walk}
use Rattle.mdmp_lister.specs.Calls.{AskedRoom, ForMap, ForWalk, TellsLacking, TellsListsLacking}
use Rattle.mdmp_lister.specs.Fault.{IsCaused}
use Rattle.mdmp_lister.specs.Format.Bounds.{held_bound}
use Rattle.mdmp_lister.specs.Format.Numbers.{range_count}
use Rattle.mdmp_lister.specs.Format.Refusal.{directory_refusal, most_ranges, opening_fault}
use Rattle.mdmp_lister.specs.Memory.{TellsMemory, is_within, opening_fault_within}
use Rattle.mdmp_lister.specs.Meter.{IsBooked, KeepsTo, counts_of}
use Rattle.mdmp_lister.specs.NextFetch.{TellsNextOpening}
use Rattle.mdmp_lister.specs.Opening.{IsOfHead, IsOpenRefusal, IsOpeningOver, refusal_of_fetch, unread_of}
use Rattle.mdmp_lister.specs.Refused.{IsRefusedLister}
use Rattle.mdmp_lister.specs.StreamHead.{heads_ahead, opening_bytes}
use Rattle.mdmp_lister.specs.Walk.{CountsRanges, IsNewWalk}
use Rattle.mdmp_lister.specs.Walk.Mapping.{IsMapped}
use Rattle.mdmp_lister.proofs.Budgets.{over_fetched}
use Rattle.mdmp_lister.proofs.Advancing.{IsCaused-counted, IsHandedBack-counted, KeepsToBudget-counted}
use Rattle.mdmp_lister.proofs.Fetches.{not_unread, unread_caused}
use Rattle.mdmp_lister.proofs.Memory.{lister_within, tells_memory-fetch, tells_memory-walk}
use Rattle.mdmp_lister.proofs.Openings.{heads-next, next-counted, opened_just, opened_new}
use Rattle.mdmp_lister.proofs.Paying.{bounded_new}
use Rattle.mdmp_lister.proofs.Refusals.{IsHandedBack_bare, not_of_head, not_of_memory, open_refusal, refusal_of-directory, refusal_of_fetch-any, refusal_of_fetch-caused, refusal_of_fetch-long}
use Rattle.mdmp_lister.proofs.lister.Lister.open.Goals as goal

-- a file whose header and directory have no fault, and whose chosen lists have so many ranges, may be opened
few_ranges : (file : List ℕ) (choice : Choice) (count : ℕ) → directory_refusal file ≡ None → count ≡ range_count file choice → count ≤ most_ranges → opening_fault file choice ≡ None
few_ranges file choice count opens is few = rw (opens, ← is, le-ltb most_ranges count few) refl

pub returns-then-count-gt-MOST_RANGES-clause-opens : goal.returns-then-count-gt-MOST_RANGES-clause-opens
returns-then-count-gt-MOST_RANGES-clause-opens g c = λ file known.
    let new = c.in_ok-walk.ensures.new in
    let count = c.in-Ok.count in
    let is : count ≡ range_count file c.args.choice = c.in-Ok.ensures.count file (new.spends.fetches.same_content ∙ known) ∙ ap (range_count file) new.choice_is in
    rw (c.refused-then-count-gt-MOST_RANGES.ensures.made, new.reads.opens file known, ← is, lt-ltb most_ranges count (omega arith)) refl

pub returns-in-Ok-ask_map-clause-opens : goal.returns-in-Ok-ask_map-clause-opens
returns-in-Ok-ask_map-clause-opens g c = λ file known.
    let new = c.in_ok-walk.ensures.new in
    few_ranges file c.args.choice c.in-Ok.count (new.reads.opens file known) (c.in-Ok.ensures.count file (new.spends.fetches.same_content ∙ known) ∙ ap (range_count file) new.choice_is) (omega arith)

pub returns-in-Ok-ask_map-clause-new : goal.returns-in-Ok-ask_map-clause-new
returns-in-Ok-ask_map-clause-new g c =
    let new = c.in_ok-walk.ensures.new in
    let counts = c.in-Ok.ensures in
    let books = counts.books in
    let room = counts.same.room in
    let w = c.in_ok-walk.walk in
    let heads : heads_ahead w.choice w.meter.source.size w.entries.items ≡ heads_ahead c.args.choice c.args.source.size w.entries.items =
    ap (λ (c : Choice). heads_ahead c w.meter.source.size w.entries.items) new.choice_is ∙ ap (λ z. heads_ahead c.args.choice z w.entries.items) new.spends.fetches.same_size in
    let free : c.in-Ok-ask_map.map.room ≡ c.in-Ok.count = search rules in
    let n = c.count_ranges.new.self in
    let ok = n.entries.ok.0 in
    let all : n.meter.fetched ≡ 32 + 12 * length n.entries.items + heads_ahead n.choice n.meter.source.size n.entries.items =
    omega (arith, ok, opened_just c.args.source c.args.choice c.args.limits w n c.in-Ok.count new counts) in
    let just : n.meter.fetched ≡ opening_bytes c.args.choice c.args.source.size n.entries.items = rw (room.choice ∙ new.choice_is, books.fetches.same_size ∙ new.spends.fetches.same_size) at all in
    let kept : KeepsTo c.args.limits.budget n.meter.fetched = rw (c.counts-counts.ensures.value, books.same_budget ∙ new.budget) at c.counts-counts.ensures.kept.kept in
    record {
      list = record {
        same_content = books.fetches.same_content ∙ new.spends.fetches.same_content;
        steady = (counts.caused.once.0 ∙ new.spends.steady.0, counts.caused.once.1 ∙ new.spends.steady.1);
        counts = record { budget_is = books.same_budget ∙ new.budget; names = books.same_names ∙ new.spends.names; aside = books.same_aside ∙ new.spends.aside; start = books.same_start ∙ new.spends.start };
        kept = kept;
        read = record {
          header_is = λ file known. counts.sound.header_is file (books.fetches.same_content ∙ new.spends.fetches.same_content ∙ known);
          directory = λ file known. counts.sound.directory file (books.fetches.same_content ∙ new.spends.fetches.same_content ∙ known);
          checked = rw room.header_is new.reads.checked;
          inside = rw room.header_is new.reads.placed;
          count = omega (arith, counts.sound.whole, c.count_ranges.new.self.entries.ok.0);
        };
        asked = record { choice_is = room.choice ∙ new.choice_is; limit_is = room.name ∙ new.name; window_room = room.window ∙ new.window; entry_room = rw (room.entries, room.header_is) new.reads.room };
        whole = refl;
        memory =
            let n = c.count_ranges.new.self in
            let window : n.window.room ≡ c.args.limits.window = room.window ∙ new.window in
            let name : n.name.limit ≡ c.args.limits.name = room.name ∙ new.name in
            let entries : vec_capacity n.entries ≡ n.header.number_of_streams = rw (room.entries, room.header_is) new.reads.room in
            rw (window, name, entries, free) (search rules);
        given = record {
          left = rw (room.choice ∙ new.choice_is, room.name ∙ new.name, counts.stage ∙ new.stage, counts.same.next ∙ new.next, books.fetches.same_content ∙ new.spends.fetches.same_content) (search rules);
          stop = rw (counts.stage, new.stage) refl;
          passed = counts.same.next ∙ new.next;
          standing = rw (counts.stage, new.stage) refl;
          unread = rw (counts.stage, new.stage) refl;
          ranges = search rules;
        };
      };
      fetches = rw (room.header_is, room.entries) (fetches_then _ _ _ _ _ new.spends.fetches (subst (λ k. FetchesAtMost k w.meter.source c.count_ranges.new.self.meter.source) heads books.fetches));
      fetched = just;
      opening = λ file known.
          let content = books.fetches.same_content ∙ new.spends.fetches.same_content ∙ known in
          let whole : n.meter.source.size ≡ length file = rw content at counts.sound.sized in
          let size : c.args.source.size ≡ length file = sym (books.fetches.same_size ∙ new.spends.fetches.same_size) ∙ whole in
          record {
            entries = n.entries.items;
            directory = counts.sound.directory file content;
            kept = subst (KeepsTo c.args.limits.budget) (just ∙ ap (λ z. opening_bytes c.args.choice z n.entries.items) size) kept;
          };
      calls = rw room.header_is (omega (arith, books.source_calls, new.spends.calls, new.reads.entries));
      range_room = λ file known. free ∙ counts.count file (new.spends.fetches.same_content ∙ known) ∙ ap (range_count file) new.choice_is;
      few = omega (arith, free);
    }

pub returns-in_err-walk-clause-opens : goal.returns-in_err-walk-clause-opens
returns-in_err-walk-clause-opens g c = λ file known.
    let refused = c.in_err-walk.field-0.0 in
    let is : c.from_residual.result ≡ Err refused = search rules in
    rw is (refusal_of-directory file c.args.choice c.args.source.size refused.fault c.in_err-walk.ensures.refused.refusal (c.in_err-walk.ensures.refused.opens file known))

pub returns-in-Err-clause-opens : goal.returns-in-Err-clause-opens
returns-in-Err-clause-opens g c = λ file known. rw (c.refused.ensures.made, c.from.ensures) (refusal_of_fetch-any file c.args.choice c.in-Err.fault)

pub returns-in-Err-ask_map-clause-opens : goal.returns-in-Err-ask_map-clause-opens
returns-in-Err-ask_map-clause-opens g c = λ file known. rw c.refused-in-Err-ask_map.ensures.made (c.in_ok-walk.ensures.new.reads.opens file known)

-- ---- a refusal

module _ {S A : Type 0} (source : SourceState) (choice : Choice) (limits : Limits) (w n : Walk S A) where
  -- a lister is refused behind the heads: for bytes of them that were not obtained, or for what they count
  refused_behind : (result : Result ℕ FetchFault) → IsNewWalk source choice limits w → CountsRanges w result n → IsBooked n.meter.source (counts_of n.meter) → KeepsTo n.meter.budget n.meter.fetched
      → (fault : OpenFault) → (IsOfHead fault → ⊥) → IsOpenRefusal source.size fault
      → (fault ≡ Memory → (file : List ℕ) → source.store.content ≡ Some file → opening_fault_within limits file choice ≡ None)
      → TellsMemory limits source fault n.meter.source → IsCaused (unread_of fault) source n.meter.source
      → IsOpeningOver 16 fault n.meter → TellsNextOpening (Some choice) limits source fault n.meter.source
      → IsRefusedLister choice limits source fault n.meter.source
  refused_behind result new counts booked kept fault late refusal memory over caused passed next = record {
    refusal = refusal;
    memory = λ same. inr (memory same);
    over = over;
    handed_back = IsHandedBack-counted source choice limits w n result fault new counts late;
    fetches = record {
      cause = unread_caused fault source n.meter.source caused;
      good = λ file good. not_unread fault (caused.good file good);
      kept = KeepsToBudget-counted source choice limits w n result new counts booked kept fault passed;
      next = next;
    };
  }

pub returns-in_err-walk-clause-refused : goal.returns-in_err-walk-clause-refused
returns-in_err-walk-clause-refused g c =
    let refused = c.in_err-walk.field-0.0 in
    let fault = refused.fault in
    let left = refused.source in
    let of = c.in_err-walk.ensures in
    let is : c.from_residual.result ≡ Err refused = search rules in
    rw is (record {
      refusal = open_refusal c.args.source.size fault of.refused.refusal;
      memory = λ same. inl (of.refused.memory same);
      over = tells_memory-walk c.args.limits c.args.source left fault of.over;
      handed_back = IsHandedBack_bare c.args.choice c.args.source fault left of.refused.handed_back;
      fetches = record { cause = of.refused.cause; good = of.refused.good; kept = of.kept; next = next-counted c.args.limits c.args.source (Some c.args.choice) fault left of.next };
    })

pub returns-in-Err-clause-refused : goal.returns-in-Err-clause-refused
returns-in-Err-clause-refused g c =
    let new = c.in_ok-walk.ensures.new in
    let n = c.count_ranges.new.self in
    let fault = c.in-Err.fault in
    let counts = c.in-Err.ensures in
    let refused = c.refused.ensures in
    rw (refused.made, c.from.ensures)
    (refused_behind c.args.source c.args.choice c.args.limits c.in_ok-walk.walk n (Err fault) new counts refused.booked refused.kept (refusal_of_fetch fault)
    (not_of_head fault) (refusal_of_fetch-long c.args.source.size fault new.reads.long) (λ memory. absurd (not_of_memory fault memory)) (tells_memory-fetch c.args.limits c.args.source n.meter.source fault)
    (refusal_of_fetch-caused fault c.args.source n.meter.source (IsCaused-counted c.args.source c.args.choice c.args.limits c.in_ok-walk.walk n (Err fault) new counts))
    (over_fetched 16 fault n.meter counts.refused) (heads-next c.args.source c.args.choice c.args.limits c.in_ok-walk.walk n fault new counts refused.booked refused.kept))

pub returns-then-count-gt-MOST_RANGES-clause-refused : goal.returns-then-count-gt-MOST_RANGES-clause-refused
returns-then-count-gt-MOST_RANGES-clause-refused g c =
    let new = c.in_ok-walk.ensures.new in
    let counts = c.in-Ok.ensures in
    let count = c.in-Ok.count in
    let refused = c.refused-then-count-gt-MOST_RANGES.ensures in
    rw refused.made
    (refused_behind c.args.source c.args.choice c.args.limits c.in_ok-walk.walk c.count_ranges.new.self (Ok count) new counts refused.booked refused.kept (TooManyRanges count)
    (λ of. of) (new.reads.long, omega arith) (λ same. cc) tt (IsCaused-counted c.args.source c.args.choice c.args.limits c.in_ok-walk.walk c.count_ranges.new.self (Ok count) new counts) tt tt)

pub returns-then-not-holds-clause-refused : goal.returns-then-not-holds-clause-refused
returns-then-not-holds-clause-refused g c =
    let new = c.in_ok-walk.ensures.new in
    let counts = c.in-Ok.ensures in
    let count = c.in-Ok.count in
    let held = c.held-held.result in
    let refused = c.refused-then-not-holds.ensures in
    rw refused.made
    (refused_behind c.args.source c.args.choice c.args.limits c.in_ok-walk.walk c.count_ranges.new.self (Ok count) new counts refused.booked refused.kept (MemoryLimit held)
    (λ of. of) new.reads.long (λ same. cc) (search rules) (IsCaused-counted c.args.source c.args.choice c.args.limits c.in_ok-walk.walk c.count_ranges.new.self (Ok count) new counts) tt tt)

pub returns-in-Err-ask_map-clause-refused : goal.returns-in-Err-ask_map-clause-refused
returns-in-Err-ask_map-clause-refused g c =
    let new = c.in_ok-walk.ensures.new in
    let n = c.count_ranges.new.self in
    let counts = c.in-Ok.ensures in
    let count = c.in-Ok.count in
    let refused = c.refused-in-Err-ask_map.ensures in
    rw refused.made
    (refused_behind c.args.source c.args.choice c.args.limits c.in_ok-walk.walk n (Ok count) new counts refused.booked refused.kept Memory
    (λ of. of) new.reads.long
    (λ same file known.
    let counted : count ≡ range_count file c.args.choice = counts.count file (new.spends.fetches.same_content ∙ known) ∙ ap (range_count file) new.choice_is in
    let header : n.header ≡ header_at file 0 = counts.sound.header_is file (counts.books.fetches.same_content ∙ new.spends.fetches.same_content ∙ known) in
    let holds : is_within c.args.limits.memory (held_bound c.args.limits.window c.args.limits.name n.header.number_of_streams count) ≡ true = search rules in
    lister_within c.args.limits file c.args.choice n.header count (c.in_ok-walk.ensures.within file known) header counted (omega arith) holds)
    tt (IsCaused-counted c.args.source c.args.choice c.args.limits c.in_ok-walk.walk n (Ok count) new counts) tt tt)

-- ---- memory

module _ {A : Type 0} (may_lack : A → Limits → AskedRoom → Type 0) (alloc : A) (limits : Limits) (choice : Choice) (content : Option (List ℕ)) where
  -- a lister is lacking what a walk is
  lists_lacking : (fault : OpenFault) → TellsListsLacking may_lack alloc limits choice content fault → TellsLacking may_lack alloc limits choice content fault
  lists_lacking Memory lacking = (ForWalk lacking.0, lacking.1)
  lists_lacking _ _ = tt

  -- a fetch that failed is no want of memory
  fetch_lacking : (fault : FetchFault) → TellsLacking may_lack alloc limits choice content (refusal_of_fetch fault)
  fetch_lacking (fetch.Source fault) = tt
  fetch_lacking (fetch.Budget offset size) = tt

pub returns-in_err-walk-clause-lacks : goal.returns-in_err-walk-clause-lacks
returns-in_err-walk-clause-lacks g c =
    let refused = c.in_err-walk.field-0.0 in
    let is : c.from_residual.result ≡ Err refused = search rules in
    rw is (lists_lacking g.A.AskedAllocator.may_lack c.args.alloc c.args.limits c.args.choice c.args.source.store.content refused.fault c.in_err-walk.ensures.lacks)

pub returns-in-Err-clause-lacks : goal.returns-in-Err-clause-lacks
returns-in-Err-clause-lacks g c = rw (c.refused.ensures.made, c.from.ensures) (fetch_lacking g.A.AskedAllocator.may_lack c.args.alloc c.args.limits c.args.choice c.args.source.store.content c.in-Err.fault)

pub returns-in-Err-ask_map-clause-lacks : goal.returns-in-Err-ask_map-clause-lacks
returns-in-Err-ask_map-clause-lacks g c =
    let new = c.in_ok-walk.ensures.new in
    let n = c.count_ranges.new.self in
    let counts = c.in-Ok.ensures in
    let count = c.in-Ok.count in
    rw c.refused-in-Err-ask_map.ensures.made (
      ForMap n.header.number_of_streams count,
      record {
        allowed = (omega arith, search rules);
        of_file = λ file known.
            let header : n.header ≡ header_at file 0 = counts.sound.header_is file (counts.books.fetches.same_content ∙ new.spends.fetches.same_content ∙ known) in (
              ap (λ (h : Header). h.number_of_streams) header,
              counts.count file (new.spends.fetches.same_content ∙ known) ∙ ap (range_count file) new.choice_is,
            );
        refused = search rules;
      },
    )

-- ---- the map of the lister

pub invariant_of-result : goal.invariant_of-result
invariant_of-result g c =
    let new = c.in_ok-walk.ensures.new in
    let counts = c.in-Ok.ensures in
    let count = c.in-Ok.count in
    let n = c.count_ranges.new.self in
    let map = c.in-Ok-ask_map.map in
    let free : map.room ≡ count = search rules in
    let stage : n.stage ≡ Between = counts.stage ∙ new.stage in
    let known_count : (file : List ℕ) → n.meter.source.store.content ≡ Some file → map.room ≡ range_count file n.choice =
    λ file known. rw counts.same.room.choice (free ∙ counts.count file (sym counts.books.fetches.same_content ∙ known)) in
    let mapped : IsMapped n map = record {
      sound = counts.sound;
      room = record {
        ahead = rw stage (omega arith);
        owed = λ file known. rw (stage, counts.same.next ∙ new.next) (search (rules, known_count file known));
      };
      inside = search rules;
      bounded = bounded_new c.in_ok-walk.walk n c.args.source c.args.choice c.args.limits (Ok count) new counts;
      opened = opened_new c.args.source c.args.choice c.args.limits c.in_ok-walk.walk n count new counts;
      counted = known_count;
    } in
    mapped
