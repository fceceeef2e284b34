-- What a pass over all entries fetches, a look at a time.
use Rattle.std.proofs.Common.{◌≡◌, ◌≤◌, ◌+◌, ◌*◌, ◌∙◌, ℕ, List, [], ◌∷◌, Option, None, Some, Result, Ok, Err, ap, arith, drop, refl, subst, sym, true, false}
use Rattle.std.proofs.lemmas.List.Sums.{sum_by-cons}
use Rattle.std.specs.Prelude.{sum_by}
use Rattle.mdmp_source.specs.Extent.{extent_of}
use Rattle.mdmp_source.specs.declared.location.Extent.{Extent}
use Rattle.mdmp_source.specs.declared.location.Extent.TheVariants.{Empty, Absent, Inside, Outside}
use Rattle.mdmp_source.specs.declared.location.Location.{Location}
use Rattle.mdmp_wire.specs.declared.system.SystemRecord.{SystemRecord}
use Rattle.mdmp_source.specs.Store.{IsGood}
use Rattle.mdmp_lister.proofs.Fetches.{FetchesAtMost-within}
use Rattle.mdmp_lister.specs.declared.fault.ListFault.{ListFault}
use Rattle.mdmp_lister.specs.declared.item.Item.{Item}
use Rattle.mdmp_lister.specs.declared.meter.Amount.{Amount}
use Rattle.mdmp_lister.specs.declared.meter.MeterCounts.{MeterCounts}
use Rattle.mdmp_lister.specs.declared.position.Position.{Position}
use Rattle.mdmp_lister.specs.declared.position.Position.TheVariants.{Begun, Sought, Within}
use Rattle.mdmp_lister.specs.declared.sink.Stopped.{Stopped}
use Rattle.mdmp_lister.specs.Listed.{cost_of, entry_cost}
use Rattle.mdmp_lister.specs.Lister.{IsSameLister, ListerState}
use Rattle.mdmp_lister.specs.NamesFetched.{FetchesNames}
use Rattle.mdmp_lister.specs.Walker.{WalkerState, is_failed, is_sought, seeks}
use Rattle.mdmp_summary.specs.Passes.{MakesPass}
use Rattle.mdmp_summary.specs.Spending.{CountsNames, IsBegunAfter, KeepsSettled, LookPaid, PassPaid, PaysLook, PaysPasses, ReadsContext, ReadsNoneSince, ReadsOutside, RisesByNames, SpendsPasses, ahead, ahead_after, all_listed, context_amount, context_cost, room_for_name, next_number, settled}
use Rattle.mdmp_summary.specs.Summing.{SpendsCrash, SpendsSummary, SpendsToFault, contexts_for, passes_for}
use Rattle.mdmp_summary.specs.Visiting.{IsAtMost, IsUnreadVisit, IsVisitFault, RisesOutside, Visits, nothing_read}
use Rattle.mdmp_summary.specs.Walking.{IsSameListing, KeepsItsBudget}
use Rattle.mdmp_summary.specs.declared.summary.Crash.{Crash}
use Rattle.mdmp_summary.specs.declared.summary.FileSummary.{FileSummary}
use Rattle.mdmp_summary.specs.declared.summary.SummaryFault.{SummaryFault}
use Rattle.mdmp_summary.specs.declared.summary.SummaryFault.TheVariants as faults
use Rattle.mdmp_summary.specs.declared.visiting.VisitEnd.{VisitEnd}
use Rattle.mdmp_summary.specs.declared.visiting.VisitFault.{VisitFault}
use Rattle.mdmp_summary.specs.declared.visiting.VisitFault.TheVariants as visit_faults
use Rattle.mdmp_summary.proofs.Paying.{at_most_same, at_most_then, few_names, rises_then}

-- ---- a pass so far

-- what may be counted of all entries
pub record PassedBy (count : MeterCounts → ℕ) (old now : WalkerState) : Type 0 where
  pub rises : RisesByNames (room_for_name old) (settled count old + 1 * all_listed old) old.mark.names (settled count now + ahead now) now.mark.names
  pub kept : KeepsSettled count old → KeepsSettled count now

pub record HasPassed (old now : WalkerState) : Type 0 where
  pub outside : IsAtMost old.list.counts.aside now.list.counts.aside
  -- an entry is sought, or one was begun since
  pub begun : IsBegunAfter old.list.counts.aside now
  pub more_names : old.list.counts.names ≤ now.list.counts.names
  pub asked : CountsNames now → PassedBy (λ c. c.asked) old now
  pub fetched : CountsNames now → PassedBy (λ c. c.fetched) old now

-- the first entry was sought
module _ (old new : WalkerState) (stays : new.list ≡ record old.list { left = new.list.left; stop = new.list.stop; unread = new.list.unread; standing = new.list.standing; records = new.list.records; work = new.list.work })
    (mark : new.mark ≡ old.mark) (position : new.position ≡ Sought 0) where
  sought_by : (count : MeterCounts → ℕ) → PassedBy count old new
  sought_by count =
      let one : settled count new ≡ settled count old = λ i. count (mark i) + entry_cost (stays i).source.size (stays i).current in
      let all : ahead new ≡ all_listed old = λ i. cost_of (stays i).choice (stays i).source.size (drop (next_number (position i) (stays i).passed) (stays i).entries) in
      let names : new.mark.names * room_for_name old ≡ old.mark.names * room_for_name old = ap (λ (m : MeterCounts). m.names * room_for_name old) mark in
      record {
        rises = omega (arith, one, all, names);
        kept = λ kept. subst (λ (m : MeterCounts). RisesByNames (new.list.limit + 4) (count m + entry_cost new.list.source.size new.list.current) m.names (count new.list.counts) new.list.counts.names) (sym mark)
            (subst (λ (l : ListerState). RisesByNames (l.limit + 4) (count old.mark + entry_cost l.source.size l.current) old.mark.names (count l.counts) l.counts.names) (sym stays) kept);
      }

  pub passed_sought : HasPassed old new
  passed_sought = record {
    outside = let same = ap (λ (l : ListerState). l.counts.aside) stays in at_most_same old.list.counts.aside old.list.counts.aside new.list.counts.aside same (record { bytes = omega arith; calls = omega arith });
    begun = λ not. let sought : seeks new.position ≡ true = ap seeks position in absurd (cc);
    more_names = let same = ap (λ (l : ListerState). l.counts.names) stays in omega (arith, same);
    asked = λ few. sought_by (λ c. c.asked);
    fetched = λ few. sought_by (λ c. c.fetched);
  }

-- ---- a look more

module _ (old now mid : WalkerState) (same : now.list.limit ≡ old.list.limit) where
  look_then : {E : Type 0} (count : MeterCounts → ℕ) (result : Result (Unit {0}) E) → PassedBy count old now → LookPaid count now result mid
      → RisesByNames (room_for_name old) (settled count old + 1 * all_listed old) old.mark.names (settled count mid + ahead_after result mid) mid.mark.names
  look_then count result so_far look =
      rises_then (room_for_name old) (settled count old + 1 * all_listed old) old.mark.names (settled count now + ahead now) now.mark.names (settled count mid + ahead_after result mid) mid.mark.names so_far.rises
      (subst (λ l. RisesByNames (l + 4) (settled count now + ahead now) now.mark.names (settled count mid + ahead_after result mid) mid.mark.names) same look.rises)

  end_by : {E : Type 0} (count : MeterCounts → ℕ) (result : Result (Unit {0}) E) → PassedBy count old now → LookPaid count now result mid → PassPaid count 1 old mid
  end_by count result so_far look =
      let rises = look_then count result so_far look in
      record { rises = omega (arith, rises); kept = λ kept. look.kept }

  pub passed_end : {E : Type 0} (result : Result (Unit {0}) E) → HasPassed old now → PaysLook now result mid → PaysPasses 1 old mid
  passed_end result so_far look =
      record {
        more_names = omega (arith, so_far.more_names, look.more_names);
        asked = λ few. end_by (λ c. c.asked) result (so_far.asked (few_names now.list.counts.names mid.list.counts.names look.more_names few)) (look.asked few);
        fetched = λ few. end_by (λ c. c.fetched) result (so_far.fetched (few_names now.list.counts.names mid.list.counts.names look.more_names few)) (look.fetched few);
      }

  -- an entry that is skipped
  module _ {E : Type 0} (e : E) (new : WalkerState) (skips : IsSameLister mid.list new.list) (source : new.list.source ≡ mid.list.source) (counts : new.list.counts ≡ mid.list.counts)
      (passed : new.list.passed ≡ mid.list.passed) (current : new.list.current ≡ mid.list.current) (mark : new.mark ≡ mid.mark) (position : is_sought mid ≡ false) (still : is_sought new ≡ false) where
    number_still : (p : Position) (n : ℕ) → seeks p ≡ false → next_number p n ≡ n
    number_still (Sought number) n not = absurd (cc)
    number_still Begun n not = refl
    number_still Within n not = refl

    skip_by : (count : MeterCounts → ℕ) → PassedBy count old now → LookPaid count now (Err e) mid → PassedBy count old new
    skip_by count so_far look =
        let rises = look_then count (Err e) so_far look in
        let at : next_number new.position new.list.passed ≡ next_number mid.position mid.list.passed =
        number_still new.position new.list.passed still ∙ passed ∙ sym (number_still mid.position mid.list.passed position) in
        let one : settled count new ≡ settled count mid = λ i. count (mark i) + entry_cost (source i).size (current i) in
        let rest : ahead new ≡ ahead mid = λ i. cost_of (skips.choice i) (source i).size (drop (at i) (skips.entries i)) in
        let names : new.mark.names * room_for_name old ≡ mid.mark.names * room_for_name old = ap (λ (m : MeterCounts). m.names * room_for_name old) mark in
        record {
          rises = omega (arith, rises, one, rest, names);
          kept = λ kept.
              subst (λ l. RisesByNames (l + 4) (settled count new) new.mark.names (count new.list.counts) new.list.counts.names) (sym skips.limit)
              (subst (λ n. RisesByNames (room_for_name mid) n new.mark.names (count new.list.counts) new.list.counts.names) (sym one)
              (subst (λ (m : MeterCounts). RisesByNames (room_for_name mid) (settled count mid) m.names (count new.list.counts) new.list.counts.names) (sym mark)
              (subst (λ (c : MeterCounts). RisesByNames (room_for_name mid) (settled count mid) mid.mark.names (count c) c.names) (sym counts) look.kept)));
        }

    pub passed_skip : HasPassed old now → PaysLook now (Err e) mid → HasPassed old new
    passed_skip so_far look =
        let same_names = ap (λ (c : MeterCounts). c.names) counts in
        record {
          outside = at_most_same old.list.counts.aside mid.list.counts.aside new.list.counts.aside (ap (λ (c : MeterCounts). c.aside) counts)
              (at_most_then old.list.counts.aside now.list.counts.aside mid.list.counts.aside so_far.outside look.outside);
          begun = λ not. at_most_same old.list.counts.aside mid.mark.aside new.mark.aside (ap (λ (m : MeterCounts). m.aside) mark) (look.begun old.list.counts.aside so_far.outside so_far.begun);
          more_names = omega (arith, so_far.more_names, look.more_names, same_names);
          asked = λ few.
              let few_mid : CountsNames mid = omega (arith, few, same_names) in
              skip_by (λ c. c.asked) (so_far.asked (few_names now.list.counts.names mid.list.counts.names look.more_names few_mid)) (look.asked few_mid);
          fetched = λ few.
              let few_mid : CountsNames mid = omega (arith, few, same_names) in
              skip_by (λ c. c.fetched) (so_far.fetched (few_names now.list.counts.names mid.list.counts.names look.more_names few_mid)) (look.fetched few_mid);
        }

-- ---- a pass after which nothing more is looked at

done_by : (count : MeterCounts → ℕ) (old now : WalkerState) → PassedBy count old now → PassPaid count 1 old now
done_by count old now so_far = record { rises = let rises = so_far.rises in omega (arith, rises); kept = so_far.kept }

pub passed_done : (old now : WalkerState) → HasPassed old now → PaysPasses 1 old now
passed_done old now so_far = record {
  more_names = so_far.more_names;
  asked = λ few. done_by (λ c. c.asked) old now (so_far.asked few);
  fetched = λ few. done_by (λ c. c.fetched) old now (so_far.fetched few);
}

-- ---- nothing, and a context

none_by : (count : MeterCounts → ℕ) (v : WalkerState) → PassPaid count 1 v v
none_by count v = record { rises = omega arith; kept = λ kept. kept }

pub pays_none : (v : WalkerState) → PaysPasses 1 v v
pays_none v = record {
  more_names = omega arith;
  asked = λ few. none_by (λ c. c.asked) v;
  fetched = λ few. none_by (λ c. c.fetched) v;
}

-- a pass of which nothing is read outside the listing
none_of_all : (xs : List Item) → sum_by (λ x. 0) xs ≡ 0
none_of_all [] = refl
none_of_all (x ∷ xs) = let more = sum_by-cons (λ (y : Item). 0) x xs in let rest = none_of_all xs in omega (arith, more, rest)

pub spends_pass : (items : List Item) (old new : WalkerState) → PaysPasses 1 old new → RisesOutside (λ item. nothing_read) items old.list.counts.aside new.list.counts.aside → SpendsPasses 1 0 old new
spends_pass items old new pays outside = record {
  more_names = pays.more_names;
  asked = pays.asked;
  fetched = pays.fetched;
  aside = let bytes = outside.bytes in omega (arith, bytes, none_of_all items);
  aside_calls = let calls = outside.calls in omega (arith, calls, none_of_all items);
}

-- so nothing was since an entry that it began
pub none_since : (items : List Item) (old new : WalkerState) → RisesOutside (λ item. nothing_read) items old.list.counts.aside new.list.counts.aside → IsAtMost old.list.counts.aside new.mark.aside → ReadsNoneSince new
none_since items old new outside begun = record {
  bytes = let more = outside.bytes in let least = begun.bytes in omega (arith, more, least, none_of_all items);
  calls = let more = outside.calls in let least = begun.calls in omega (arith, more, least, none_of_all items);
}

module _ {K T B : Type 0} {taken : K → Item → Result (Unit {0}) Stopped → K → Type 0} {looked : Option (List ℕ) → ℕ → K → Result (Unit {0}) VisitEnd → K → Type 0} {k l : K} {old new : WalkerState} where
  -- a visitor that reads nothing has made a pass, up to the end
  pub pass_made : {told : T} {bad : B} → PaysPasses 1 old new → KeepsItsBudget old.list new.list → Visits taken looked (λ item. nothing_read) old.list k (Ok bad) new.list l → is_failed new.list.stop ≡ false → MakesPass old (Ok told) new
  pass_made pays keeps visits going = record {
    spends = spends_pass visits.items old new pays visits.outside;
    keeps = keeps;
    named = λ file known. subst (λ (xs : List Item). FetchesNames 1 xs old.list.counts.fetched new.list.counts.fetched) (sym (visits.all file known)) visits.named;
    going = going;
    fault = tt;
    good = λ file good. tt;
    none = tt;
  }

  -- or to an error
  pub pass_failed : {fault : VisitFault} {f : ListFault} → PaysPasses 1 old new → KeepsItsBudget old.list new.list → Visits {K = K} {T = B} taken looked (λ item. nothing_read) old.list k (Err fault) new.list l → IsAtMost old.list.counts.aside new.mark.aside
      → fault ≡ visit_faults.List f → IsVisitFault old.list new.list fault → ((file : List ℕ) → IsGood old.list.source.store file → IsUnreadVisit fault → ⊥) → MakesPass {T = T} old (Err f) new
  pass_failed pays keeps visits begun is fault good = record {
    spends = spends_pass visits.items old new pays visits.outside;
    keeps = keeps;
    named = λ file known. tt;
    going = tt;
    fault = subst (IsVisitFault old.list new.list) is fault;
    good = λ file of. subst (λ (f : VisitFault). IsUnreadVisit f → ⊥) is (good file of);
    none = none_since visits.items old new visits.outside begun;
  }

-- what keeps to fewer bytes outside the listing keeps to more
outside_within : (less more : Amount) (old new : WalkerState) → IsAtMost less more → ReadsOutside less old new → ReadsOutside more old new
outside_within less more old new few reads = record {
  same = reads.same;
  aside = record {
    aside = let bytes = reads.aside.aside in let fits = few.bytes in omega (arith, bytes, fits);
    more = reads.aside.more;
    aside_calls = let calls = reads.aside.aside_calls in let fits = few.calls in omega (arith, calls, fits);
    more_aside_calls = reads.aside.more_aside_calls;
    same_fetched = reads.aside.same_fetched;
    same_calls = reads.aside.same_calls;
    same_names = reads.aside.same_names;
    same_start = reads.aside.same_start;
    same_budget = reads.aside.same_budget;
    same_asked = reads.aside.same_asked;
  };
  fetches = FetchesAtMost-within less.bytes more.bytes old.list.source new.list.source few.bytes reads.fetches;
}

context_few : (system : Option SystemRecord) (at : Location) (class : Extent) → IsAtMost (context_amount system at class) context_cost
context_few None at class = record { bytes = omega arith; calls = omega arith }
context_few (Some system) at Inside = record { bytes = omega arith; calls = omega arith }
context_few (Some system) at Empty = record { bytes = omega arith; calls = omega arith }
context_few (Some system) at Absent = record { bytes = omega arith; calls = omega arith }
context_few (Some system) at Outside = record { bytes = omega arith; calls = omega arith }

-- so a context costs no more than 272 bytes and a call
pub context_within : (system : Option SystemRecord) (at : Location) (old new : WalkerState) → ReadsContext system at old new → ReadsOutside context_cost old new
context_within system at old new reads =
    let class = extent_of at old.list.source.size in
    outside_within (context_amount system at class) context_cost old new (context_few system at class) reads

module _ (old new : WalkerState) (reads : ReadsOutside context_cost old new) where
  read_by : (count : MeterCounts → ℕ) → count new.list.counts ≡ count old.list.counts → PassPaid count 0 old new
  read_by count same =
      let size = reads.fetches.same_size in
      let names = reads.aside.same_names in
      let one : settled count new ≡ settled count old = λ i. count (reads.same i).mark + entry_cost (size i) (reads.same i).list.current in
      let before : new.mark.names * room_for_name old ≡ old.mark.names * room_for_name old = λ i. (reads.same i).mark.names * room_for_name old in
      record {
        rises = omega (arith, one, before);
        kept = λ kept.
            let limit : new.list.limit ≡ old.list.limit = λ i. (reads.same i).list.limit in
            let after : new.list.counts.names * room_for_name old ≡ old.list.counts.names * room_for_name old = ap (λ n. n * room_for_name old) names in
            let known : RisesByNames (room_for_name old) (settled count old) old.mark.names (count old.list.counts) old.list.counts.names = kept in
            let now : RisesByNames (room_for_name old) (settled count new) new.mark.names (count new.list.counts) new.list.counts.names = omega (arith, known, one, before, after, same) in
            subst (λ l. RisesByNames (l + 4) (settled count new) new.mark.names (count new.list.counts) new.list.counts.names) (sym limit) now;
      }

  pub spends_read : SpendsPasses 0 1 old new
  spends_read = record {
    more_names = let names = reads.aside.same_names in omega (arith, names);
    asked = λ few. read_by (λ c. c.asked) reads.aside.same_asked;
    fetched = λ few. read_by (λ c. c.fetched) reads.aside.same_fetched;
    aside = let more = reads.aside.aside in omega (arith, more);
    aside_calls = let more = reads.aside.aside_calls in omega (arith, more);
  }

-- ---- one after the other

module _ (m n k a b : ℕ) (both : (cost : ℕ) → m * cost + n * cost ≡ k * cost) (old mid new : WalkerState) (same : IsSameListing old.list mid.list) where
  then_by : (count : MeterCounts → ℕ) → PassPaid count m old mid → PassPaid count n mid new → PassPaid count k old new
  then_by count first then =
      let fetches = same.same_file.fetches in
      let all : n * all_listed mid ≡ n * all_listed old = λ i. n * cost_of (same.choice i) (fetches.same_size i) (same.entries i) in
      let rises = first.rises in
      let sum = both (all_listed old) in
      let next = subst (λ l. RisesByNames (l + 4) (settled count mid + n * all_listed mid) mid.mark.names (settled count new) new.mark.names) same.limit then.rises in
      record {
        rises = omega (arith, all, sum, rises, next);
        kept = λ kept. then.kept (first.kept kept);
      }

  pub spends_then : SpendsPasses m a old mid → SpendsPasses n b mid new → SpendsPasses k (a + b) old new
  spends_then first then = record {
    more_names = let one = first.more_names in let two = then.more_names in omega (arith, one, two);
    asked = λ names. then_by (λ c. c.asked) (first.asked (few_names mid.list.counts.names new.list.counts.names then.more_names names)) (then.asked names);
    fetched = λ names. then_by (λ c. c.fetched) (first.fetched (few_names mid.list.counts.names new.list.counts.names then.more_names names)) (then.fetched names);
    aside = let one = first.aside in let two = then.aside in omega (arith, one, two);
    aside_calls = let one = first.aside_calls in let two = then.aside_calls in omega (arith, one, two);
  }

-- the passes of a crash, and of a summary
pub crash_spends : (old mid new : WalkerState) → IsSameListing old.list mid.list → SpendsPasses 0 1 old mid → SpendsPasses 1 0 mid new → SpendsPasses 1 1 old new
crash_spends old mid new same first then = spends_then 0 1 1 1 0 (λ cost. omega arith) old mid new same first then

pub summary_spends : (old mid new : WalkerState) → IsSameListing old.list mid.list → SpendsPasses 1 0 old mid → SpendsPasses 1 1 mid new → SpendsPasses 2 1 old new
summary_spends old mid new same first then = spends_then 1 1 2 0 1 (λ cost. omega arith) old mid new same first then

-- and those before an error
pub fault_spends : (fault : SummaryFault) (old mid new : WalkerState) → IsSameListing old.list mid.list → SpendsPasses 1 0 old mid → SpendsCrash (Err fault) mid new → SpendsToFault fault old new
fault_spends (faults.Opening fault) old mid new same first then = absurd then
fault_spends (faults.List fault) old mid new same first then = (summary_spends old mid new same first then.0, then.1)
fault_spends (faults.Source fault) old mid new same first then = spends_then 1 0 1 0 1 (λ cost. omega arith) old mid new same first then

-- what was made for a crash, or for none, was made for a summary that has it
pub crash_paid : (summary : FileSummary) (crash : Option Crash) (old new : WalkerState) → summary.crash ≡ crash → SpendsPasses (passes_for crash) (contexts_for crash) old new → SpendsSummary (Ok summary) old new
crash_paid summary crash old new is spends = subst (λ (c : Option Crash). SpendsPasses (passes_for c) (contexts_for c) old new) (sym is) spends
