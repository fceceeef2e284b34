-- Entries judged one behind the other, and how a check of them ends.
use Rattle.std.proofs.Common.{◌≡◌, ◌≤◌, ◌<◌, ◌+◌, ◌-◌, ◌++◌, ◌∷◌, [], ◌∙◌, ℕ, List, Option, Some, None, Result, Ok, Err, IfErr, arith, ap, append_assoc, append-nil, refl, subst, sym, max}
use Rattle.std.proofs.lemmas.List.{length-map, map-append}
use Rattle.std.proofs.lemmas.List.Concat.{flat_map-append}
use Rattle.std.proofs.lemmas.List.Elements.{All-append, All-cons, All-nil}
use Rattle.std.proofs.lemmas.List.Sums.{sum_by-append, sum_by-cons}
use Rattle.std.specs.Option.{option_map}
use Rattle.std.specs.Prelude.{All, length, map, slice_get, sum_by}
use Rattle.mdmp_source.specs.Source.{FetchesAtMost}
use Rattle.mdmp_source.specs.SourceLaws.{fetches_then}
use Rattle.mdmp_source.specs.Store.{IsGood}
use Rattle.mdmp_map.specs.Map.{MapState}
use Rattle.mdmp_lister.proofs.Budgets.{fault_over}
use Rattle.mdmp_lister.specs.declared.choice.Choice.{Choice}
use Rattle.mdmp_lister.specs.declared.fault.ListFault.{ListFault}
use Rattle.mdmp_lister.specs.Fault.{IsOfStore}
use Rattle.mdmp_lister.specs.declared.item.Item.{Item}
use Rattle.mdmp_lister.specs.declared.sink.RunFault.{RunFault}
use Rattle.mdmp_lister.specs.declared.sink.RunFault.TheVariants as run
use Rattle.mdmp_lister.specs.declared.sink.Stopped.{Stopped}
use Rattle.mdmp_lister.specs.declared.stage.Stage.TheVariants.{Between}
use Rattle.mdmp_lister.specs.declared.step.Step.{Step}
use Rattle.mdmp_lister.specs.declared.verdict.Verdict.{Verdict}
use Rattle.mdmp_lister.specs.declared.walk.Walk.{Walk}
use Rattle.mdmp_lister.specs.Check.{AreFirstVerdicts, AreNextVerdicts, IsNextVerdict, IsVerdict, MayBeJudged, check_cost, fault_cost, ReadsFirst, behind_judged, items_of, left_checked, names_at, names_judged}
use Rattle.mdmp_wire.specs.declared.entry.Entry.{Entry}
use Rattle.mdmp_lister.specs.Following.{Cursor, IsChosenBehind, NoneChosenBehind, Standing}
use Rattle.mdmp_lister.specs.Following as following
use Rattle.mdmp_lister.specs.Format.Listing.{Numbered, Run, entry_body, chosen, chosen_from, entries_from, entry_count, entry_listing, listing_from, nothing, only_chosen, only_fault, stream_item, verdicts}
use Rattle.mdmp_lister.specs.Format.Numbers.{maybe_name, names_of}
use Rattle.mdmp_lister.specs.Format.Ranges.{ranges_of}
use Rattle.mdmp_lister.specs.Lister.{ListerState, standpoint_in}
use Rattle.mdmp_lister.specs.NextFetch.{Standpoint, TellsSomeFetch}
use Rattle.mdmp_lister.specs.Costs.{bad_name_cost, item_cost, items_cost, stream_begun}
use Rattle.mdmp_lister.specs.Format.Summary.{summary_of}
use Rattle.mdmp_lister.specs.Meter.{MeterState, Moves, counts_of, IsUnmade}
use Rattle.mdmp_lister.specs.Sink.{Taken, TakenToStop, TellsRunFetch, names_of_all}
use Rattle.mdmp_lister.specs.Stage.{standing_of, stop_after_run, stop_of}
use Rattle.mdmp_lister.specs.Walk.{IsSound, IsStaged, left_of, SameRoom, current_of, cursor_of, left_of_entry, work_of}
use Rattle.mdmp_lister.specs.Walk.Checking.{EntriesChecked, EntryBegun, EntryJudged, FailedIn, IsStageChecked, JudgesFirst, NoneLeft, judged_cost, verdict_on}
use Rattle.mdmp_lister.specs.Walk.Mapping.{IsMapped}
use Rattle.mdmp_lister.specs.Walk.Owing.{HasRoom, count_told}
use Rattle.mdmp_lister.specs.Walk.Paying.{owed_of, unread_bytes}
use Rattle.mdmp_lister.specs.Listed.{entry_cost}
use Rattle.mdmp_lister.specs.NamesFetched.{FetchesNames}
use Rattle.mdmp_lister.specs.Walk.Requests.{EntrySkipped, StepTaken, standpoint_of}
use Rattle.mdmp_lister.proofs.Costs.{stopped-unread}
use Rattle.mdmp_lister.proofs.Ending.{left_of-ended, left_of-fault}
use Rattle.mdmp_lister.proofs.Fetches.{FetchesAtMost-none, FetchesAtMost-within, told_in_later}
use Rattle.mdmp_lister.proofs.Spending.{items_cost-append}
use Rattle.mdmp_lister.proofs.Judging.{moves_then, names_of_all-append, ranges_none, ranges_then, same_room_then}
use Rattle.mdmp_lister.proofs.Mapping.{kept, same_file}
use Rattle.mdmp_lister.proofs.NamesFetched.{names_more, names_none}
use Rattle.mdmp_lister.proofs.Paying.{bounded_then}
use Rattle.mdmp_lister.proofs.Requests.{Moves-none, fault_stage-stop, through-left}
use Rattle.mdmp_lister.proofs.Soundness.{IsGood-after}

-- ---- lists, one longer

pub behind_judged-more : (vs : List Verdict) (v : Verdict) (next : ℕ) → behind_judged (vs ++ v ∷ []) next ≡ v.entry + 1
behind_judged-more [] v next = refl
behind_judged-more (x ∷ xs) v next = behind_judged-more xs v (x.entry + 1)

-- and a verdict more may be that on the next chosen entry
module _ (choice : Choice) (entries : List Entry) (z limit : ℕ) where
  AreNextVerdicts-more : (vs : List Verdict) (v : Verdict) (next : ℕ) → AreNextVerdicts choice entries z limit next vs
      → IsNextVerdict choice entries z limit (behind_judged vs next) v → AreNextVerdicts choice entries z limit next (vs ++ v ∷ [])
  AreNextVerdicts-more [] v next follow is = (is, tt)
  AreNextVerdicts-more (x ∷ xs) v next follow is = (follow.0, AreNextVerdicts-more xs v (x.entry + 1) follow.1 is)

-- an entry has no name of its own
names_begun : (x : Numbered) (ys : List Item) → names_of_all (stream_item x ∷ ys) ≡ names_of_all ys
names_begun x ys = let all = sum_by-cons names_of (stream_item x) ys in omega (arith, all)

names_judged-begun : (xs ys : List Item) (x : Numbered) (vs : List Verdict) → names_judged (xs ++ stream_item x ∷ ys) vs ≡ names_judged xs vs + names_of_all ys
names_judged-begun xs ys x vs =
    let all = names_of_all-append xs (stream_item x ∷ ys) in
    omega (arith, all, names_begun x ys)

names_judged-more : (xs ys : List Item) (x : Numbered) (vs : List Verdict) (v : Verdict)
    → names_judged (xs ++ stream_item x ∷ ys) (vs ++ v ∷ []) ≡ names_judged xs vs + (names_of_all ys + names_at v.fault)
names_judged-more xs ys x vs v =
    let f : Verdict → ℕ = λ w. names_at w.fault in
    let items = names_of_all-append xs (stream_item x ∷ ys) in
    let all = sum_by-append f vs (v ∷ []) in
    let one = sum_by-cons f v [] in
    omega (arith, items, names_begun x ys, all, one)

-- nor is a byte fetched for one
named_stream : (x : Numbered) (a b : ℕ) → a ≤ b → FetchesNames 1 (stream_item x ∷ []) a b
named_stream x a b later = let one = sum_by-cons item_cost (stream_item x) [] in omega (arith, one, later)

-- ---- entries judged so far

-- the first of some entries, those before the ones that are left
pub record FirstJudged (F : List ℕ) (limit : ℕ) (entries left : List Numbered) (verdicts : List Verdict) (items : List Item) : Type 0 where
  pub judged : List Numbered
  pub in_order : entries ≡ judged ++ left
  pub verdicts_are : verdicts ≡ map (verdict_on F limit) judged
  pub items_are : items ≡ items_of F limit judged

FirstJudged-more : (F : List ℕ) (limit : ℕ) (entries left behind : List Numbered) (verdicts : List Verdict) (items : List Item) (x : Numbered)
    → FirstJudged F limit entries left verdicts items → left ≡ x ∷ behind
    → FirstJudged F limit entries behind (verdicts ++ verdict_on F limit x ∷ []) (items ++ (entry_listing F limit x).items)
FirstJudged-more F limit entries left behind verdicts items x first next =
    let f : Numbered → List Item = λ y. (entry_listing F limit y).items in
    record {
      judged = first.judged ++ x ∷ [];
      in_order = first.in_order ∙ ap (λ (ys : List Numbered). first.judged ++ ys) next ∙ sym (append_assoc first.judged (x ∷ []) behind);
      verdicts_are = ap (λ (vs : List Verdict). vs ++ verdict_on F limit x ∷ []) first.verdicts_are ∙ sym (map-append (verdict_on F limit) first.judged (x ∷ []));
      items_are = ap (λ (ys : List Item). ys ++ f x) first.items_are
          ∙ ap (λ (ys : List Item). items_of F limit first.judged ++ ys) (sym (append-nil (f x)))
          ∙ sym (flat_map-append f first.judged (x ∷ []));
    }

module _ {S A : Type 0} where
  pub record SoFar (verdicts : List Verdict) (items : List Item) (old : Walk S A) (m : MapState) (new : Walk S A) (n : MapState) : Type 0 where
    pub each : All IsVerdict verdicts
    pub of_file : (file : List ℕ) → old.meter.source.store.content ≡ Some file
        → FirstJudged file old.name.limit (chosen_from file old.choice old.next) (chosen_from file old.choice new.next) verdicts items
    pub mapped : IsMapped new n
    pub same : SameRoom old new
    pub between : new.stage ≡ Between
    pub ranges : n ≡ record m { ranges = m.ranges ++ ranges_of items }
    pub passed : new.next ≡ behind_judged verdicts old.next
    pub counts : Moves (names_judged items verdicts) (counts_of old.meter) (counts_of new.meter)
    pub names : old.meter.names + names_judged items verdicts ≤ new.meter.names
    pub named : FetchesNames 1 items old.meter.fetched new.meter.fetched
    pub fetches : FetchesAtMost (check_cost old.meter.source.size old.name.limit items verdicts) old.meter.source new.meter.source
    pub rests : work_of new ≤ work_of old
    pub follow : AreNextVerdicts old.choice old.entries.items old.meter.source.size old.name.limit old.next verdicts

  pub none_judged : (w : Walk S A) (m : MapState) → IsMapped w m → w.stage ≡ Between → SoFar [] [] w m w m
  none_judged w m old between = record {
    each = All-nil IsVerdict;
    of_file = λ file known. record { judged = []; in_order = refl; verdicts_are = refl; items_are = refl };
    mapped = old;
    same = record { header_is = refl; entries = refl; choice = refl; listed = refl; window = refl; name = refl };
    between = between;
    ranges = ranges_none m;
    passed = refl;
    counts = Moves-none 0 w.meter;
    names = omega arith;
    named = names_none 1 w.meter.fetched;
    fetches = FetchesAtMost-none w.meter.source;
    rests = omega arith;
    follow = tt;
  }

  less_room : (room given : ℕ) (w : Walk S A) → HasRoom room given w → HasRoom room 0 w
  less_room room given w has = record { ahead = omega (arith, has.ahead); owed = λ file known. omega (arith, has.owed file known) }

  -- the next entry was begun
  pub begun_mapped : (w ns : Walk S A) (m : MapState) (step : Step) → IsMapped w m → StepTaken w (Ok (Some step)) ns → IsMapped ns m
  begun_mapped w ns m step old taken =
      let e = taken.answered in
      kept w ns m old e.sound (same_file _ w ns e.fetches e.same e.counts.more) (less_room _ (count_told step) ns (taken.room _ old.room)) (bounded_then w ns old.bounded e.paid e.same e.fetches.same_size)

  -- what is left of an entry was dropped
  skipped_mapped : (w sk : Walk S A) (m : MapState) → IsMapped w m → EntrySkipped w sk → sk ≡ record w { stage = Between } → IsMapped sk m
  skipped_mapped w sk m old skipped moved =
      let size = ap (λ (v : Walk S A). v.meter.source.size) moved in
      kept w sk m old skipped.sound (record { size = size; content = ap (λ (v : Walk S A). v.meter.source.store.content) moved; choice = ap (λ (v : Walk S A). v.choice) moved; entries = ap (λ (v : Walk S A). v.entries) moved; more = rw moved (omega arith) })
      (skipped.room _ old.room)
      (bounded_then w sk old.bounded skipped.paid (rw moved (record { header_is = refl; entries = refl; choice = refl; listed = refl; window = refl; name = refl })) size)

-- the current entry and its number
abbrev pub entry_in : {S A : Type 0} → Walk S A → Numbered
entry_in w = record { number = w.next - 1; entry = w.current }

-- ---- one turn

module _ {S A : Type 0} (verdicts : List Verdict) (items : List Item) (old w ns j : Walk S A) (m p q : MapState) (so_far : SoFar verdicts items old m w p)
    (step : Step) (taken : StepTaken w (Ok (Some step)) ns) (begun : EntryBegun w ns) where
  known_now : (file : List ℕ) → old.meter.source.store.content ≡ Some file → ns.meter.source.store.content ≡ Some file
  known_now file known = taken.answered.fetches.same_content ∙ so_far.fetches.same_content ∙ known

  next_is : (file : List ℕ) → old.meter.source.store.content ≡ Some file → chosen_from file old.choice w.next ≡ entry_in ns ∷ chosen_from file old.choice ns.next
  next_is file known =
      subst (λ choice. chosen_from file choice w.next ≡ entry_in ns ∷ chosen_from file choice ns.next) so_far.same.choice
      (begun.first file (so_far.fetches.same_content ∙ known))

  -- what is left of the entry is its body
  body_is : (file : List ℕ) → current_of ns file ≡ entry_body file old.name.limit (entry_in ns)
  body_is file =
      ap (λ stage. left_of_entry file ns.name.limit (ns.next - 1) ns.current stage) begun.stage
      ∙ ap (λ limit. entry_body file limit (entry_in ns)) (taken.answered.same.name ∙ so_far.same.name)

  -- which stands in the directory
  current_begun : slice_get old.entries.items (ns.next - 1) ≡ Some ns.current
  current_begun = subst (λ es. slice_get es (ns.next - 1) ≡ Some ns.current) (ap (λ es. es.items) (taken.answered.same.entries ∙ so_far.same.entries)) begun.entry

  -- and is the next one that was chosen, whatever the file holds
  chosen_begun : IsChosenBehind old.choice old.entries.items (behind_judged verdicts old.next) (ns.next - 1) ns.current
  chosen_begun =
      subst (λ n. IsChosenBehind old.choice old.entries.items n (ns.next - 1) ns.current) so_far.passed
      (subst (λ (es : List Entry). IsChosenBehind old.choice es w.next (ns.next - 1) ns.current) (ap (λ es. es.items) so_far.same.entries)
      (subst (λ (o : Choice). IsChosenBehind o w.entries.items w.next (ns.next - 1) ns.current) so_far.same.choice begun.chosen))

  current_kept : (v : Walk S A) → v.next ≡ ns.next → v.current ≡ ns.current → slice_get old.entries.items (v.next - 1) ≡ Some v.current
  current_kept v next current = ap (λ i. slice_get old.entries.items (i - 1)) next ∙ current_begun ∙ ap Some (sym current)

  -- what was fetched of it, beside what was before
  fetched_judged : (result : Result (Option ListFault) ListFault) (judged : EntryJudged ns p result j q) (vs : List Verdict) (end : ℕ)
      → judged_cost old.name.limit result ≡ sum_by (λ v. fault_cost old.name.limit v.fault) vs + end
      → FetchesAtMost (check_cost old.meter.source.size old.name.limit (items ++ stream_item (entry_in ns) ∷ judged.items) (verdicts ++ vs) + end) old.meter.source j.meter.source
  fetched_judged result judged vs end is =
      let z = old.meter.source.size in
      let limit = old.name.limit in
      let size : ns.meter.source.size ≡ z = ap (λ (m : MeterState). m.source.size) begun.meter ∙ so_far.fetches.same_size in
      let name : ns.name.limit ≡ limit = taken.answered.same.name ∙ so_far.same.name in
      let js = judged.items in
      let x = stream_item (entry_in ns) in
      let first : items_cost z (x ∷ js) ≡ entry_cost z ns.current + items_cost z js = omega (arith, sum_by-cons (λ y. item_cost y + stream_begun z (summary_of y).stream) x js) in
      let unread : unread_bytes ns ≡ entry_cost z ns.current =
      ap (owed_of ns.meter.source.size ns.current ns.window) begun.stage ∙ ap (λ n. entry_cost n ns.current) size in
      let same : items_cost ns.meter.source.size js ≡ items_cost z js = ap (λ n. items_cost n js) size in
      let cost : judged_cost ns.name.limit result ≡ judged_cost limit result = ap (λ n. judged_cost n result) name in
      let more = sum_by-append (λ v. fault_cost limit v.fault) verdicts vs in
      let then : FetchesAtMost (unread_bytes ns + items_cost ns.meter.source.size js + judged_cost ns.name.limit result) w.meter.source j.meter.source =
      subst (λ (m : MeterState). FetchesAtMost (unread_bytes ns + items_cost ns.meter.source.size js + judged_cost ns.name.limit result) m.source j.meter.source) begun.meter judged.fetches in
      FetchesAtMost-within _ (check_cost z limit (items ++ x ∷ js) (verdicts ++ vs) + end) old.meter.source j.meter.source
      (omega (arith, items_cost-append z items (x ∷ js), first, unread, same, cost, more, is))
      (fetches_then _ _ old.meter.source w.meter.source j.meter.source so_far.fetches then)

  -- the names of its items
  named_judged : (result : Result (Option ListFault) ListFault) (judged : EntryJudged ns p result j q) → FetchesNames 1 (items ++ stream_item (entry_in ns) ∷ judged.items) old.meter.fetched j.meter.fetched
  named_judged result judged =
      let begun_here : ns.meter.fetched ≡ w.meter.fetched = ap (λ (m : MeterState). m.fetched) begun.meter in
      let entry : FetchesNames 1 (stream_item (entry_in ns) ∷ []) w.meter.fetched ns.meter.fetched = named_stream (entry_in ns) w.meter.fetched ns.meter.fetched (omega (arith, begun_here)) in
      names_more items (stream_item (entry_in ns) ∷ judged.items) old.meter.fetched w.meter.fetched j.meter.fetched so_far.named
      (names_more (stream_item (entry_in ns) ∷ []) judged.items w.meter.fetched ns.meter.fetched j.meter.fetched entry judged.named)

  pub current_judged : (fault : Option ListFault) (judged : EntryJudged ns p (Ok fault) j q) (sk : Walk S A) → EntrySkipped j sk
      → slice_get old.entries.items (sk.next - 1) ≡ Some sk.current
  current_judged fault judged sk skipped =
      let moved : sk ≡ record j { stage = Between } = skipped.skips judged.at_end.0 in
      current_kept sk (ap (λ (v : Walk S A). v.next) moved ∙ judged.same.next) (ap (λ (v : Walk S A). v.current) moved ∙ judged.same.current)

  taken_begun : 0 < ns.next
  taken_begun = subst (λ stage. IsStaged ns.meter.source.size ns.next ns.current stage) begun.stage taken.answered.sound.staged

  -- it may be judged so in any file
  may_begun : (fault : Option ListFault) → EntryJudged ns p (Ok fault) j q
      → IsNextVerdict old.choice old.entries.items old.meter.source.size old.name.limit (behind_judged verdicts old.next) (record { entry = ns.next - 1; fault = fault })
  may_begun fault judged =
      let same : SameRoom old ns = same_room_then old w ns so_far.same taken.answered.same in
      let size : ns.meter.source.size ≡ old.meter.source.size = taken.answered.fetches.same_size ∙ so_far.fetches.same_size in
      let number : ns.next ≡ ns.next - 1 + 1 = omega (arith, taken_begun) in
      let here : cursor_of ns ≡ record { passed = ns.next - 1 + 1; current = ns.current; standing = following.begun } =
      ap (λ stage. record { passed = ns.next; current = ns.current; standing = standing_of stage }) begun.stage
      ∙ ap (λ n. record { passed = n; current = ns.current; standing = following.begun }) number in
      record {
        entry = ns.current;
        first = chosen_begun;
        judged = subst (λ (c : Cursor). MayBeJudged old.choice old.entries.items old.meter.source.size old.name.limit c fault) here
            (subst (λ z. MayBeJudged old.choice old.entries.items z old.name.limit (cursor_of ns) fault) size
            (subst (λ n. MayBeJudged old.choice old.entries.items ns.meter.source.size n (cursor_of ns) fault) same.name
            (subst (λ (es : List Entry). MayBeJudged old.choice es ns.meter.source.size ns.name.limit (cursor_of ns) fault) (ap (λ es. es.items) same.entries)
            (subst (λ (o : Choice). MayBeJudged o ns.entries.items ns.meter.source.size ns.name.limit (cursor_of ns) fault) same.choice judged.may))));
      }

  pub more_judged : (fault : Option ListFault) (judged : EntryJudged ns p (Ok fault) j q) (sk : Walk S A) → EntrySkipped j sk
      → SoFar (verdicts ++ record { entry = ns.next - 1; fault = fault } ∷ []) (items ++ stream_item (entry_in ns) ∷ judged.items) old m sk q
  more_judged fault judged sk skipped =
      let moved : sk ≡ record j { stage = Between } = skipped.skips judged.at_end.0 in
      let next : sk.next ≡ ns.next = ap (λ (v : Walk S A). v.next) moved ∙ judged.same.next in
      let names = names_judged-more items judged.items (entry_in ns) verdicts (record { entry = ns.next - 1; fault = fault }) in
      let same : SameRoom old j = same_room_then old w j so_far.same (same_room_then w ns j taken.answered.same judged.same.room) in
      let v : Verdict = record { entry = ns.next - 1; fault = fault } in
      let one = sum_by-cons (λ (x : Verdict). fault_cost old.name.limit x.fault) v [] in
      let fetched : FetchesAtMost (check_cost old.meter.source.size old.name.limit (items ++ stream_item (entry_in ns) ∷ judged.items) (verdicts ++ v ∷ [])) old.meter.source j.meter.source =
      FetchesAtMost-within _ _ old.meter.source j.meter.source (omega arith) (fetched_judged (Ok fault) judged (v ∷ []) 0 (omega (arith, one))) in
      record {
        each = All-append IsVerdict verdicts (record { entry = ns.next - 1; fault = fault } ∷ []) so_far.each
            (All-cons IsVerdict (record { entry = ns.next - 1; fault = fault }) [] (rw judged.same.next at judged.at_end.1) (All-nil IsVerdict));
        of_file = λ file known.
            let left = judged.left file (known_now file known) in
            let is : entry_body file old.name.limit (entry_in ns) ≡ record { items = judged.items; fault = fault } = sym (body_is file) ∙ left in
            rw (next, ← ap (λ (run : Run). run.items) is, ← ap (λ (run : Run). run.fault) is)
            (FirstJudged-more file old.name.limit _ _ (chosen_from file old.choice ns.next) verdicts items (entry_in ns) (so_far.of_file file known) (next_is file known));
        mapped = skipped_mapped j sk q judged.mapped skipped moved;
        same = rw moved (record { header_is = same.header_is; entries = same.entries; choice = same.choice; listed = same.listed; window = same.window; name = same.name });
        between = ap (λ (v : Walk S A). v.stage) moved;
        ranges = ranges_then items (stream_item (entry_in ns) ∷ judged.items) m p q so_far.ranges judged.ranges;
        passed = next ∙ omega (arith, behind_judged-more verdicts (record { entry = ns.next - 1; fault = fault }) old.next, taken_begun);
        counts = rw moved (moves_then (names_judged items verdicts) (names_of_all judged.items + names_at fault) _ old.meter w.meter j.meter (omega (arith, names)) so_far.counts (rw begun.meter at judged.counts));
        names = rw moved (omega (arith, names, so_far.names, rw begun.meter at judged.names));
        named = rw moved (named_judged (Ok fault) judged);
        fetches = rw moved fetched;
        rests = omega (arith, so_far.rests, taken.answered.rests, judged.rests, skipped.rests);
        follow = AreNextVerdicts-more old.choice old.entries.items old.meter.source.size old.name.limit verdicts (record { entry = ns.next - 1; fault = fault }) old.next so_far.follow (may_begun fault judged);
      }

  -- the store failed in the next entry
  pub failed_judged : {K : Type 0} (sink : K → Verdict → Result (Unit {0}) Stopped → K → Type 0) (k l : K) (f : ListFault) → EntryJudged ns p (Err f) j q → Taken sink k verdicts l
      → EntriesChecked sink old m k (Err (run.At f)) j q l
  failed_judged sink k l f judged handed =
      let failed = judged.at_end in
      let names = names_judged-begun items judged.items (entry_in ns) verdicts in
      let fetches = so_far.fetches in
      let same : SameRoom old j = same_room_then old w j so_far.same (same_room_then w ns j taken.answered.same judged.same.room) in
      record {
        verdicts = verdicts;
        items = items ++ stream_item (entry_in ns) ∷ judged.items;
        handed = handed;
        each = so_far.each;
        of_file = λ file known.
            let first = so_far.of_file file known in
            let left = judged.left file (known_now file known) in
            record {
              judged = first.judged;
              left = chosen_from file old.choice w.next;
              in_order = first.in_order;
              verdicts_are = first.verdicts_are;
              begun = stream_item (entry_in ns) ∷ judged.items;
              items_are = ap (λ (xs : List Item). xs ++ stream_item (entry_in ns) ∷ judged.items) first.items_are;
              ends = record {
                next = entry_in ns;
                behind = chosen_from file old.choice ns.next;
                first = next_is file known;
                entry = omega (arith, failed.number, judged.same.next);
                more = left.0;
                begun = ap (λ (run : Run). stream_item (entry_in ns) ∷ run.items) (sym (body_is file)) ∙ ap (λ (xs : List Item). stream_item (entry_in ns) ∷ xs) left.1;
              };
            };
        mapped = judged.mapped;
        same = same;
        ranges = ranges_then items (stream_item (entry_in ns) ∷ judged.items) m p q so_far.ranges judged.ranges;
        stage = failed.stage;
        passed = sym failed.number;
        current = current_kept j judged.same.next judged.same.current;
        counts = moves_then (names_judged items verdicts) (names_of_all judged.items + maybe_name f.kind) _ old.meter w.meter j.meter (omega (arith, names)) so_far.counts (rw begun.meter at judged.counts);
        names = omega (arith, names, so_far.names, rw begun.meter at judged.names);
        named = named_judged (Err f) judged;
        fetches = rw append-nil at (fetched_judged (Err f) judged [] (bad_name_cost old.name.limit f.kind) (omega arith));
        failed = λ x is.
            let same : f ≡ x = cc in
            subst (λ y. FailedIn old y j) same (record {
              of = failed.of;
              stage = failed.stage;
              told = told_in_later j.current f _ old.meter.source w.meter.source j.meter.source fetches (rw begun.meter at failed.told);
              number = failed.number;
              next = failed.next;
              unreliable = λ file good. (rw begun.meter at failed.unreliable) file (IsGood-after _ old.meter.source w.meter.source file fetches good);
            });
        rests = omega (arith, so_far.rests, taken.answered.rests, judged.rests);
        follow = so_far.follow;
        ends =
            let number : ns.next - 1 ≡ f.entry = omega (arith, failed.number, judged.same.next) in
            (ns.current, subst (λ i. IsChosenBehind old.choice old.entries.items (behind_judged verdicts old.next) i ns.current) number chosen_begun);
      }

-- ---- how a check ends

module _ {S A : Type 0} (verdicts : List Verdict) (items : List Item) (old w : Walk S A) (m p : MapState) (so_far : SoFar verdicts items old m w p)
    {K : Type 0} (sink : K → Verdict → Result (Unit {0}) Stopped → K → Type 0) (k l : K) where
  -- the sink wanted no more
  pub stopped_judged : TakenToStop sink k verdicts l → slice_get old.entries.items (w.next - 1) ≡ Some w.current → EntriesChecked sink old m k (Err run.Stopped) w p l
  stopped_judged handed current = record {
    verdicts = verdicts;
    items = items;
    handed = handed;
    each = so_far.each;
    of_file = λ file known.
        let first = so_far.of_file file known in
        record {
          judged = first.judged;
          left = chosen_from file old.choice w.next;
          in_order = first.in_order;
          verdicts_are = first.verdicts_are;
          begun = [];
          items_are = first.items_are ∙ sym (append-nil _);
          ends = refl;
        };
    mapped = so_far.mapped;
    same = so_far.same;
    ranges = so_far.ranges;
    stage = so_far.between;
    passed = so_far.passed;
    current = current;
    counts = moves_then (names_judged items verdicts) 0 _ old.meter w.meter w.meter (omega arith) so_far.counts (Moves-none 0 w.meter);
    names = so_far.names;
    named = so_far.named;
    fetches = FetchesAtMost-within _ _ old.meter.source w.meter.source (omega arith) so_far.fetches;
    failed = λ f is. absurd (cc);
    rests = so_far.rests;
    follow = so_far.follow;
    ends = tt;
  }

  -- no entry is left
  pub ended_judged : (e : Walk S A) → StepTaken w (Ok None) e → NoneLeft w e → Taken sink k verdicts l → EntriesChecked sink old m k (Ok tt) e p l
  ended_judged e taken end handed =
      let a = taken.answered in
      record {
        verdicts = verdicts;
        items = items;
        handed = handed;
        each = so_far.each;
        of_file = λ file known.
            let first = so_far.of_file file known in
            record {
              judged = first.judged;
              left = [];
              in_order = first.in_order
                  ∙ ap (λ (xs : List Numbered). first.judged ++ xs)
                  (subst (λ choice. chosen_from file choice w.next ≡ []) so_far.same.choice (end.none file (so_far.fetches.same_content ∙ known)));
              verdicts_are = first.verdicts_are;
              begun = [];
              items_are = first.items_are ∙ sym (append-nil _);
              ends = (refl, refl);
            };
        mapped = kept w e p so_far.mapped a.sound (same_file _ w e a.fetches a.same a.counts.more) (taken.room _ so_far.mapped.room) (bounded_then w e so_far.mapped.bounded a.paid a.same a.fetches.same_size);
        same = same_room_then old w e so_far.same a.same;
        ranges = so_far.ranges;
        stage = end.stage;
        passed = tt;
        current = tt;
        counts = rw end.meter (moves_then (names_judged items verdicts) 0 _ old.meter w.meter w.meter (omega arith) so_far.counts (Moves-none 0 w.meter));
        names = rw end.meter so_far.names;
        named = rw end.meter so_far.named;
        fetches = rw end.meter (FetchesAtMost-within _ _ old.meter.source w.meter.source (omega arith) so_far.fetches);
        failed = tt;
        rests = omega (arith, so_far.rests, a.rests);
        follow = so_far.follow;
        ends =
            subst (NoneChosenBehind old.choice old.entries.items) so_far.passed
            (subst (λ (es : List Entry). NoneChosenBehind old.choice es w.next) (ap (λ es. es.items) so_far.same.entries)
            (subst (λ (o : Choice). NoneChosenBehind o w.entries.items w.next) so_far.same.choice end.none_chosen));
      }

-- ---- what a check leaves of a lister

all_chosen : (F : List ℕ) (choice : Choice) → chosen_from F choice 0 ≡ chosen F choice
all_chosen F choice = let all : entry_count F - 0 ≡ entry_count F = omega arith in ap (λ n. only_chosen choice (entries_from F n 0)) all

module _ (F : List ℕ) (limit : ℕ) (entries : List Numbered) (verdicts : List Verdict) (items : List Item) where
  first_verdicts : (result : Result (Unit {0}) RunFault) → JudgesFirst F limit entries verdicts items result → AreFirstVerdicts (map (verdict_on F limit) entries) verdicts result
  first_verdicts (Ok done) judges =
      ap (λ (xs : List Numbered). map (verdict_on F limit) xs) (judges.in_order ∙ ap (λ (xs : List Numbered). judges.judged ++ xs) judges.ends.0 ∙ append-nil judges.judged) ∙ sym judges.verdicts_are
  first_verdicts (Err fault) judges = (
    map (verdict_on F limit) judges.left,
    ap (λ (xs : List Numbered). map (verdict_on F limit) xs) judges.in_order
        ∙ map-append (verdict_on F limit) judges.judged judges.left
        ∙ ap (λ (vs : List Verdict). vs ++ map (verdict_on F limit) judges.left) (sym judges.verdicts_are),
  )

  first_read : (result : Result (Unit {0}) RunFault) → JudgesFirst F limit entries verdicts items result → ReadsFirst F limit entries (length verdicts) items result
  first_read result judges = record {
    judged = judges.judged;
    left = judges.left;
    in_order = judges.in_order;
    count = sym (ap (λ (vs : List Verdict). length vs) judges.verdicts_are ∙ length-map judges.judged (verdict_on F limit));
    begun = judges.begun;
    items_are = judges.items_are;
    ends = judges.ends;
  }

option_map_each : (f g : List ℕ → Run) (content : Option (List ℕ)) → ((file : List ℕ) → content ≡ Some file → f file ≡ g file) → option_map f content ≡ option_map g content
option_map_each f g None each = refl
option_map_each f g (Some file) each = ap Some (each file refl)

module _ {S A K : Type 0} (sink : K → Verdict → Result (Unit {0}) Stopped → K → Type 0) (old new : Walk S A) (m n : MapState) (k l : K) where
  pub verdicts_of_file : (result : Result (Unit {0}) RunFault) (checked : EntriesChecked sink old m k result new n l) → old.next ≡ 0 → (file : List ℕ) → old.meter.source.store.content ≡ Some file
      → AreFirstVerdicts (verdicts file old.choice old.name.limit) checked.verdicts result
  verdicts_of_file result checked first file known =
      let all : chosen_from file old.choice old.next ≡ chosen file old.choice = ap (λ i. chosen_from file old.choice i) first ∙ all_chosen file old.choice in
      subst (λ xs. AreFirstVerdicts (map (verdict_on file old.name.limit) xs) checked.verdicts result) all
      (first_verdicts file old.name.limit (chosen_from file old.choice old.next) checked.verdicts checked.items result (checked.of_file file known))

  pub items_of_file : (result : Result (Unit {0}) RunFault) (checked : EntriesChecked sink old m k result new n l) → old.next ≡ 0 → (file : List ℕ) → old.meter.source.store.content ≡ Some file
      → ReadsFirst file old.name.limit (chosen file old.choice) (length checked.verdicts) checked.items result
  items_of_file result checked first file known =
      let all : chosen_from file old.choice old.next ≡ chosen file old.choice = ap (λ i. chosen_from file old.choice i) first ∙ all_chosen file old.choice in
      subst (λ xs. ReadsFirst file old.name.limit xs (length checked.verdicts) checked.items result) all
      (first_read file old.name.limit (chosen_from file old.choice old.next) checked.verdicts checked.items result (checked.of_file file known))

  pub good_checked : (result : Result (Unit {0}) RunFault) → EntriesChecked sink old m k result new n l → (file : List ℕ) → IsGood old.meter.source.store file
      → IfErr result (λ r. (f : ListFault) → r ≡ run.At f → IsOfStore f.kind → ⊥)
  good_checked (Ok done) checked file good = tt
  good_checked (Err r) checked file good = λ f is. (checked.failed f is).unreliable file good

  pub next_checked : (result : Result (Unit {0}) RunFault) (v : ListerState) → EntriesChecked sink old m k result new n l → standpoint_in v ≡ standpoint_of new → v.counts.fetched ≡ new.meter.fetched
      → TellsRunFetch result v
  next_checked (Ok done) v checked stands fetched = tt
  next_checked (Err run.Stopped) v checked stands fetched = tt
  next_checked (Err (run.At f)) v checked stands fetched =
      let failed = checked.failed f refl in
      subst (λ (s : Standpoint). TellsSomeFetch s f.kind f.offset f.size v.counts.fetched) (sym stands)
      (subst (λ n. TellsSomeFetch (standpoint_of new) f.kind f.offset f.size n) (sym fetched) failed.next)

-- by the stage behind it
module _ {S A : Type 0} (w : Walk S A) where
  pub stop_checked : (result : Result (Unit {0}) RunFault) → IsStageChecked result w.stage → stop_of w.stage ≡ stop_after_run result
  stop_checked (Ok done) at = ap stop_of at
  stop_checked (Err run.Stopped) at = ap stop_of at
  stop_checked (Err (run.At f)) at = ap stop_of at ∙ fault_stage-stop f

  over_same : (f h : ListFault) → run.At h ≡ run.At f → IsUnmade (max w.window.room w.name.limit) h.kind h.offset h.size (counts_of w.meter) w.meter.source.size
      → IsUnmade (max w.window.room w.name.limit) f.kind f.offset f.size (counts_of w.meter) w.meter.source.size
  over_same f h is over =
      let same : h ≡ f = cc in
      subst (λ (x : ListFault). IsUnmade (max w.window.room w.name.limit) x.kind x.offset x.size (counts_of w.meter) w.meter.source.size) same over

  pub refused_checked : (result : Result (Unit {0}) RunFault) → IsStageChecked result w.stage → IsSound w
      → IfErr result (λ r. (f : ListFault) → r ≡ run.At f → IsUnmade (max w.window.room w.name.limit) f.kind f.offset f.size (counts_of w.meter) w.meter.source.size)
  refused_checked (Ok done) at sound = tt
  refused_checked (Err run.Stopped) at sound = λ f is. absurd (cc)
  refused_checked (Err (run.At h)) at sound = λ f is. over_same f h is (fault_over _ h w.meter (rw at at sound.refused))

  pub standing_checked : (result : Result (Unit {0}) RunFault) → IsStageChecked result w.stage → result ≡ Err run.Stopped → standing_of w.stage ≡ following.through
  standing_checked (Ok done) at is = absurd (cc)
  standing_checked (Err run.Stopped) at is = ap standing_of at
  standing_checked (Err (run.At f)) at is = absurd (cc)

  pub unread_checked : (z : ℕ) (result : Result (Unit {0}) RunFault) → IsStageChecked result w.stage → owed_of z w.current w.window w.stage ≡ 0
  unread_checked z (Ok done) at = ap (owed_of z w.current w.window) at
  unread_checked z (Err run.Stopped) at = ap (owed_of z w.current w.window) at
  unread_checked z (Err (run.At f)) at = stopped-unread z w.current w.window w.stage (Some f) (stop_checked (Err (run.At f)) at)

  abbrev pub run_checked : Result (Unit {0}) RunFault → List ℕ → Run
  run_checked (Ok done) file = nothing
  run_checked (Err run.Stopped) file = listing_from file w.choice w.name.limit w.next
  run_checked (Err (run.At f)) file = only_fault f

  left_of-checked : IsSound w → (result : Result (Unit {0}) RunFault) → IsStageChecked result w.stage → (file : List ℕ) → w.meter.source.store.content ≡ Some file → left_of w file ≡ run_checked result file
  left_of-checked sound (Ok done) at file known =
      let ok = w.entries.ok.0 in
      left_of-ended w file at (omega (arith, ok, sound.ended at)) (sound.directory file known)
  left_of-checked sound (Err run.Stopped) at file known = through-left w file (rw at tt)
  left_of-checked sound (Err (run.At f)) at file known = left_of-fault w file f at

  pub left_by : IsSound w → (result : Result (Unit {0}) RunFault) → IsStageChecked result w.stage
      → option_map (left_of w) w.meter.source.store.content ≡ option_map (run_checked result) w.meter.source.store.content
  left_by sound result at = option_map_each (left_of w) (run_checked result) w.meter.source.store.content (left_of-checked sound result at)

  -- which is what a check leaves
  pub left_told : IsSound w → (result : Result (Unit {0}) RunFault) (v : ListerState) → IsStageChecked result w.stage
      → v.source ≡ w.meter.source → v.choice ≡ w.choice → v.limit ≡ w.name.limit → v.passed ≡ w.next → option_map (left_of w) w.meter.source.store.content ≡ left_checked result v
  left_told sound (Ok done) v at source choice limit passed = left_by sound (Ok done) at ∙ rw source refl
  left_told sound (Err (run.At f)) v at source choice limit passed = left_by sound (Err (run.At f)) at ∙ rw source refl
  left_told sound (Err run.Stopped) v at source choice limit passed = left_by sound (Err run.Stopped) at ∙ rw (source, choice, limit, passed) refl
