-- What a reading fetches, one step after the other.
use Rattle.std.proofs.Common.{◌≡◌, ◌∙◌, ◌≤◌, ◌+◌, [], ◌∷◌, ◌++◌, ℕ, suc, List, drop, length, Option, None, Some, Result, Ok, Err, ap, arith, inl, inr, refl, slice_get, subst, sym}
use Rattle.std.specs.Prelude.{IfErr, IfOk, max, option_map}
use Rattle.mdmp_source.specs.Count.{raised}
use Rattle.mdmp_source.specs.Fault.{fault_at}
use Rattle.mdmp_source.specs.Source.{FetchesAtMost, FetchesSome, SourceState}
use Rattle.mdmp_source.specs.SourceLaws.{fetches_then}
use Rattle.mdmp_source.specs.declared.fault.SourceFault.{SourceFault}
use Rattle.mdmp_lister.specs.Calls.{IsOutOfMemory}
use Rattle.mdmp_lister.specs.declared.choice.Choice.{Choice}
use Rattle.mdmp_lister.specs.declared.fault.FaultKind.{FaultKind}
use Rattle.mdmp_lister.specs.declared.fault.FaultKind.TheVariants as kinds
use Rattle.mdmp_lister.specs.declared.fault.ListFault.{ListFault}
use Rattle.mdmp_lister.specs.declared.fault.OpenFault.{OpenFault}
use Rattle.mdmp_lister.specs.declared.fault.OpenFault.TheVariants as opening
use Rattle.mdmp_lister.specs.declared.item.Item.{Item}
use Rattle.mdmp_lister.specs.declared.limits.Limits.{Limits}
use Rattle.mdmp_lister.specs.declared.meter.Amount.{Amount}
use Rattle.mdmp_lister.specs.declared.name.Name.{Name}
use Rattle.mdmp_lister.specs.declared.name.Name.TheVariants.{Long}
use Rattle.mdmp_lister.specs.declared.step.ItemRead.{ItemRead}
use Rattle.mdmp_lister.specs.declared.step.ItemRead.TheVariants as reads
use Rattle.mdmp_lister.specs.Format.Directory.{IsDirectory}
use Rattle.mdmp_lister.specs.Format.Listing.{Run, listing, nothing}
use Rattle.mdmp_lister.specs.Format.Name.{plain_name}
use Rattle.mdmp_lister.specs.Counts.{AreSpent, numbers_of}
use Rattle.mdmp_lister.specs.Lister.{IsNewLister, ListerLeaves, ListerState, NextLeaves, Rooms, left_after, standpoint_in}
use Rattle.mdmp_lister.specs.Meter.{IsBooked, IsUnmade, KeepsTo, SpendsAside}
use Rattle.mdmp_lister.specs.NextFetch.{TellsNextOpening}
use Rattle.mdmp_lister.specs.Opening.{IsHandedBack, KeepsToBudget}
use Rattle.mdmp_lister.proofs.Fetches.{FetchesAtMost-none, told_in_later}
use Rattle.mdmp_dump.specs.declared.fault.ReadFault.{ReadFault}
use Rattle.mdmp_dump.specs.declared.fault.ReadFault.TheVariants as faults
use Rattle.mdmp_dump.specs.declared.reader.Reader.{Reader}
use Rattle.mdmp_dump.specs.declared.reader.Told.{Told}
use Rattle.mdmp_dump.specs.Keeping.{AreAmong, IsAtEntry, IsOpeningEnd, IsSameReading, KeepsStep, KeepsOn, KeepsReading, KeepsTill, TellsFetch, TellsListed, TellsListing, TellsPart, TellsReadEnd, WasLeft, standing_at}
use Rattle.mdmp_dump.specs.Keeping.IsReadBy.{in_turn, refused}
use Rattle.mdmp_dump.specs.ItemsRead.{ReadsInTurn}
use Rattle.mdmp_dump.specs.Reading.{FindsRead, IsNameTaken, IsOneLeft, listed_within, read_within}
use Rattle.mdmp_dump.specs.Refusal.{AsksByte, ReadStep, Refuse, Take, TakesByte, item_steps, name_steps, refusal_of}
use Rattle.mdmp_dump.proofs.ItemsRead.{all_in_turn, reads_within}
use Rattle.mdmp_dump.proofs.NextReads.{fault_at_entry, goes_on_at, some_fetch}

same_none : (v : ListerState) → IsSameReading v v
same_none v = record { rooms = refl; limit = refl; choice = refl; entries = refl; content = refl; size = refl; start = refl; budget = refl }

same_then : (a b c : ListerState) → IsSameReading a b → IsSameReading b c → IsSameReading a c
same_then a b c first then = record {
  rooms = then.rooms ∙ first.rooms;
  limit = then.limit ∙ first.limit;
  choice = then.choice ∙ first.choice;
  entries = then.entries ∙ first.entries;
  content = then.content ∙ first.content;
  size = then.size ∙ first.size;
  start = then.start ∙ first.start;
  budget = then.budget ∙ first.budget;
}

-- a name that is refused is no fault of bytes that were not obtained
long_ends : (left : ℕ) (old : SourceState) (v : ListerState) (e k : ℕ) (name : Name) (fault : ReadFault) → name_steps e k name ≡ Refuse fault ∷ [] → TellsFetch fault left old v
long_ends left old v e k (Long bytes) fault is = let same : faults.NameTooLong e k bytes ≡ fault = cc in subst (λ (f : ReadFault). TellsFetch f left old v) same tt
long_ends left old v e k _ fault is = absurd (cc)

-- nor of a part
long_part : (steps : List ReadStep) (v : ListerState) (e k : ℕ) (name : Name) (fault : ReadFault) → name_steps e k name ≡ Refuse fault ∷ [] → TellsPart steps fault v
long_part steps v e k (Long bytes) fault is = let same : faults.NameTooLong e k bytes ≡ fault = cc in subst (λ (f : ReadFault). TellsPart steps f v) same tt
long_part steps v e k _ fault is = absurd (cc)

-- ---- what is left of the listing

among_none : (xs : List Item) → AreAmong xs xs
among_none xs index item is = (index, is)

among_then : (xs ys zs : List Item) → AreAmong ys xs → AreAmong zs ys → AreAmong zs xs
among_then xs ys zs first then index item is = let at = then index item is in first at.0 item at.1

among_tail : (xs : List Item) → AreAmong (drop 1 xs) xs
among_tail [] index item is = absurd (cc is)
among_tail (x ∷ xs) index item is = (suc index, is)

among_after : (result : Result (Option Item) ListFault) (run : Run) → AreAmong (left_after result run).items run.items
among_after (Ok None) run index item is = (index, is)
among_after (Ok (Some given)) run index item is = among_tail run.items index item is
among_after (Err f) run index item is = absurd (cc is)

left_same : (a b : Option Run) → b ≡ a → WasLeft a b
left_same a b same run is = (run, (same ∙ is, among_none run.items))

left_then : (a b c : Option Run) → WasLeft a b → WasLeft b c → WasLeft a c
left_then a b c first then run is =
    let mid = first run is in
    let last = then mid.0 mid.1.0 in
    (last.0, (last.1.0, among_then run.items mid.0.items last.0.items mid.1.1 last.1.1))

-- an item that is left was left before
pub one_left_before : (a b : ListerState) (item : Item) → WasLeft a.left b.left → IsOneLeft b item → IsOneLeft a item
one_left_before a b item left one run is =
    let rest = left run is in
    let at = one rest.0 rest.1.0 in
    rest.1.1 at.0 item at.1

-- ---- a byte of a part

takes_behind : (xs ys : List ReadStep) (at : ℕ) → TakesByte ys at → TakesByte (xs ++ ys) at
takes_behind [] ys at takes = takes
takes_behind (Refuse fault ∷ xs) ys at takes = takes_behind xs ys at takes
takes_behind (Take e k offset size ∷ xs) ys at takes = inr (takes_behind xs ys at takes)

takes_before : (xs ys : List ReadStep) (at : ℕ) → TakesByte xs at → TakesByte (xs ++ ys) at
takes_before [] ys at takes = absurd takes
takes_before (Refuse fault ∷ xs) ys at takes = takes_before xs ys at takes
takes_before (Take e k offset size ∷ xs) ys at (inl within) = inl within
takes_before (Take e k offset size ∷ xs) ys at (inr takes) = inr (takes_before xs ys at takes)

part_behind : (xs ys : List ReadStep) (fault : ReadFault) (v : ListerState) → TellsPart ys fault v → TellsPart (xs ++ ys) fault v
part_behind xs ys (faults.Source fault) v (inl takes) = inl (takes_behind xs ys (fault_at fault) takes)
part_behind xs ys (faults.Source fault) v (inr left) = inr left
part_behind xs ys fault v told = tt

part_before : (xs ys : List ReadStep) (fault : ReadFault) (v : ListerState) → TellsPart xs fault v → TellsPart (xs ++ ys) fault v
part_before xs ys (faults.Source fault) v (inl takes) = inl (takes_before xs ys (fault_at fault) takes)
part_before xs ys (faults.Source fault) v (inr left) = inr left
part_before xs ys fault v told = tt

part_any : (steps : List ReadStep) (fault : ReadFault) (v : ListerState) → TellsPart [] fault v → TellsPart steps fault v
part_any steps (faults.Source fault) v (inl takes) = absurd takes
part_any steps (faults.Source fault) v (inr left) = inr left
part_any steps fault v told = tt

-- an item that is left asks for it
asks_later : (a b : ListerState) (at : ℕ) → WasLeft a.left b.left → b.source.size ≡ a.source.size → ((run : Run) → b.left ≡ Some run → AsksByte run.items b.source.size at)
    → (run : Run) → a.left ≡ Some run → AsksByte run.items a.source.size at
asks_later a b at left size asks run is =
    let rest = left run is in
    let asked = asks rest.0 rest.1.0 in
    let place = rest.1.1 asked.index asked.item asked.is in
    record { index = place.0; item = asked.item; is = place.1; byte = subst (λ (z : ℕ). TakesByte (item_steps z asked.item) at) size asked.byte }

part_later : (steps : List ReadStep) (fault : ReadFault) (a b : ListerState) → WasLeft a.left b.left → b.source.size ≡ a.source.size → TellsPart steps fault b → TellsPart steps fault a
part_later steps (faults.Source fault) a b left size (inl takes) = inl takes
part_later steps (faults.Source fault) a b left size (inr asks) = inr (asks_later a b (fault_at fault) left size asks)
part_later steps fault a b left size told = tt

-- or one that was left asks what these steps do
pub asked_part : (steps : List ReadStep) (fault : ReadFault) (v : ListerState)
    → ((run : Run) → v.left ≡ Some run → (index : ℕ) × (item : Item) × ((slice_get run.items index ≡ Some item) × (item_steps v.source.size item ≡ steps)))
    → TellsPart steps fault v → TellsPart [] fault v
asked_part steps (faults.Source fault) v asks (inl takes) = inr (λ run is.
    let asked = asks run is in
    record { index = asked.0; item = asked.1; is = asked.2.0; byte = subst (λ (s : List ReadStep). TakesByte s (fault_at fault)) (sym asked.2.1) takes })
asked_part steps (faults.Source fault) v asks (inr left) = inr left
asked_part steps fault v asks told = tt

-- what is told behind some fetches is told by them all
listed_later : (kind : FaultKind) (f : ListFault) (a b : SourceState) (v : ListerState) → FetchesSome a b → TellsListed kind f b v → TellsListed kind f a v
listed_later kinds.Budget f a b v some told = told
listed_later (kinds.Source fault) f a b v some told = record { chosen = told.chosen; told = told_in_later v.current f some.count a b v.source some.fetches told.told }
listed_later kind f a b v some told = tt

fetch_later : (fault : ReadFault) (m n : ℕ) (a b : SourceState) (v : ListerState) → n ≤ m → FetchesSome a b → TellsFetch fault n b v → TellsFetch fault m a v
fetch_later (faults.Opening fault) m n a b v less some ends = ends
fetch_later (faults.List fault) m n a b v less some ends = (ends.0, listed_later fault.kind fault a b v some ends.1)
fetch_later (faults.Source fault) m n a b v less some ends = omega (arith, less, ends)
fetch_later fault m n a b v less some ends = tt

module _ {S A : Type 0} where
  pub keeps_none : (old : Reader S A) → KeepsOn old old
  keeps_none old = record { same = same_none old.lister; few = omega arith; less = omega arith; fetches = record { count = 0; fetches = FetchesAtMost-none old.lister.source }; at = λ at. at; left = left_same old.lister.left old.lister.left refl }

  pub keeps_then : (a b c : Reader S A) → KeepsOn a b → KeepsOn b c → KeepsOn a c
  keeps_then a b c first then = record {
    same = same_then a.lister b.lister c.lister first.same then.same;
    few = omega (arith, first.few, then.few);
    less = omega (arith, first.less, then.less);
    fetches = record {
      count = first.fetches.count + then.fetches.count;
      fetches = fetches_then first.fetches.count then.fetches.count a.lister.source b.lister.source c.lister.source first.fetches.fetches then.fetches.fetches;
    };
    at = λ at. then.at (first.at at);
    left = left_then a.lister.left b.lister.left c.lister.left first.left then.left;
  }

  pub keeps_err : {steps : List ReadStep} (a b c : Reader S A) → KeepsOn a b → (fault : ReadFault) → KeepsTill steps fault b c → KeepsTill steps fault a c
  keeps_err {steps = steps} a b c first fault then = record {
    same = same_then a.lister b.lister c.lister first.same then.same;
    few = omega (arith, first.few, then.few);
    ends = λ at. fetch_later fault a.left b.left a.lister.source b.lister.source c.lister first.less first.fetches (then.ends (first.at at));
    part = part_later steps fault a.lister b.lister first.left first.same.size then.part;
  }

  -- a fault that is none of the listing
  pub keeps_till : {steps : List ReadStep} (a b : Reader S A) (fault : ReadFault) → TellsFetch fault a.left a.lister.source b.lister → TellsPart steps fault a.lister → KeepsOn a b → KeepsTill steps fault a b
  keeps_till a b fault ends part on = record { same = on.same; few = omega (arith, on.few); ends = λ at. ends; part = part }

  pub keeps_memory : {steps : List ReadStep} (a b : Reader S A) → KeepsOn a b → KeepsTill steps faults.Memory a b
  keeps_memory a b on = keeps_till a b faults.Memory tt tt on

  -- the same of other steps
  pub told_part : (steps more : List ReadStep) (fault : ReadFault) (a b : Reader S A) → (TellsPart steps fault a.lister → TellsPart more fault a.lister) → KeepsTill steps fault a b → KeepsTill more fault a b
  told_part steps more fault a b part till = record { same = till.same; few = till.few; ends = till.ends; part = part till.part }

  pub keeps_any : (steps : List ReadStep) (fault : ReadFault) (a b : Reader S A) → KeepsTill [] fault a b → KeepsTill steps fault a b
  keeps_any steps fault a b keeps = told_part [] steps fault a b (part_any steps fault a.lister) keeps

  pub keeps_before : (steps more : List ReadStep) (fault : ReadFault) (a b : Reader S A) → KeepsTill steps fault a b → KeepsTill (steps ++ more) fault a b
  keeps_before steps more fault a b keeps = told_part steps (steps ++ more) fault a b (part_before steps more fault a.lister) keeps

  -- one step behind another
  pub keeps_later : {T : Type 0} (steps more : List ReadStep) (result : Result T ReadFault) (a b c : Reader S A) → KeepsOn a b → KeepsStep more result b c → KeepsStep (steps ++ more) result a c
  keeps_later steps more (Ok x) a b c first then = keeps_then a b c first then
  keeps_later steps more (Err fault) a b c first then = told_part more (steps ++ more) fault a c (part_behind steps more fault a.lister) (keeps_err a b c first fault then)

  -- a request for the next item fetches nothing beside the listing
  module _ (old new : Reader S A) (left : new.left ≡ old.left) (going : old.lister.stop ≡ None) where
    same_list : (result : Result (Option Item) ListFault) → NextLeaves old.lister result new.lister → IsSameReading old.lister new.lister
    same_list result list = record {
      rooms = list.same.rooms;
      limit = list.same.limit;
      choice = list.same.choice;
      entries = list.same.entries;
      content = list.spends.fetches.same_content;
      size = list.spends.fetches.same_size;
      start = list.same.start;
      budget = list.same.budget;
    }

    same_few : (result : Result (Option Item) ListFault) → NextLeaves old.lister result new.lister → new.lister.counts.aside.bytes + new.left ≤ old.lister.counts.aside.bytes + old.left
    same_few result list = omega (arith, left, ap (λ (a : Amount). a.bytes) list.same.aside)

    pub keeps_next : (result : Result (Option Item) ListFault) → ListerLeaves old.lister result new.lister → KeepsOn old new
    keeps_next result leaves = record {
      same = same_list result leaves.list;
      few = same_few result leaves.list;
      less = omega (arith, left);
      fetches = record { count = _; fetches = leaves.list.spends.fetches };
      at = goes_on_at old.lister going result new.lister leaves;
      left = λ run is. (left_after result run, (leaves.list.stands.left ∙ ap (option_map (left_after result)) is, among_after result run));
    }

    -- and if it is not answered, that is told of the current entry
    pub keeps_refused : (f : ListFault) → ListerLeaves old.lister (Err f) new.lister → KeepsTill [] (faults.List f) old new
    keeps_refused f leaves = record {
      same = same_list (Err f) leaves.list;
      few = omega (arith, same_few (Err f) leaves.list);
      ends = λ at. (leaves.list.spends.refused, fault_at_entry old.lister going f new.lister leaves.list at);
      part = tt;
    }

  -- bytes that are read beside it are taken off
  module _ (old new : Reader S A) {calls n : ℕ} (size : ℕ) (lister : new.lister ≡ record old.lister { source = new.lister.source; counts = new.lister.counts })
      (aside : SpendsAside calls size old.lister.counts new.lister.counts) (fetches : FetchesAtMost n old.lister.source new.lister.source) (fits : size ≤ old.left) where
    same_aside : IsSameReading old.lister new.lister
    same_aside = record {
      rooms = ap (λ (v : ListerState). v.rooms) lister;
      limit = ap (λ (v : ListerState). v.limit) lister;
      choice = ap (λ (v : ListerState). v.choice) lister;
      entries = ap (λ (v : ListerState). v.entries) lister;
      content = fetches.same_content;
      size = fetches.same_size;
      start = aside.same_start;
      budget = aside.same_budget;
    }

    pub keeps_taken : new.left + size ≡ old.left → KeepsOn old new
    keeps_taken left = record {
      same = same_aside;
      few = omega (arith, aside.aside, left);
      less = omega (arith, left);
      fetches = record { count = _; fetches = fetches };
      at = λ at. subst IsAtEntry (sym lister) at;
      left = left_same old.lister.left new.lister.left (ap (λ (v : ListerState). v.left) lister);
    }

    pub keeps_untaken : {steps : List ReadStep} (fault : ReadFault) → TellsFetch fault old.left old.lister.source new.lister → TellsPart steps fault old.lister → KeepsTill steps fault old new
    keeps_untaken fault ends part = record { same = same_aside; few = omega (arith, aside.aside, fits); ends = λ at. ends; part = part }

  -- what is found of an item that was read
  named_keeps : (a b : Reader S A) → KeepsOn a b → (e k : ℕ) (name : Name) (fault : ReadFault) → IsNameTaken (name_steps e k name) name (Err fault) → KeepsTill [] fault a b
  named_keeps a b on e k name faults.Memory of = keeps_memory a b on
  named_keeps a b on e k name fault of = keeps_till a b fault (long_ends a.left a.lister.source b.lister e k name fault of) (long_part [] a.lister e k name fault of) on

  pub keeps_found : {Z : Type 0} (item : ItemRead) (a b : Reader S A) → KeepsOn a b → (result : Result (Told Z) ReadFault) → FindsRead item result → KeepsStep [] result a b
  keeps_found (reads.Stream x) a b on (Ok y) of = on
  keeps_found (reads.Stream x) a b on (Err fault) of = absurd (cc of)
  keeps_found (reads.Record r name) a b on (Ok y) of = on
  keeps_found (reads.Record r name) a b on (Err fault) of = named_keeps a b on r.entry r.index (plain_name name) fault of

-- ---- as a caller sees it

-- while the file was opened
opened_ends : (choice : Choice) (limits : Limits) (parts : ℕ) (old : SourceState) (fetched : ℕ) (fault : OpenFault) (new : SourceState) → IsOpeningEnd choice limits old fetched fault new
    → TellsReadEnd choice limits parts old fetched (refusal_of fault) new
opened_ends choice limits parts old fetched opening.Memory new of = tt
opened_ends choice limits parts old fetched fault new of = of

pub opening_keeps : {T : Type 0} (choice : Choice) (limits : Limits) (parts : ℕ) (old : SourceState) (fault : OpenFault) (new : SourceState) → KeepsToBudget limits old fault new
    → TellsNextOpening (Some choice) limits old fault new → IsHandedBack choice old fault new → (fault ≡ opening.Memory → IsOutOfMemory limits choice old new)
    → KeepsReading {T = T} choice limits parts (Err (refusal_of fault)) old new
opening_keeps choice limits parts old fault new keeps next handed_back memory = record {
  fetched = keeps.fetched;
  aside = 0;
  by = refused fault refl (record { over = keeps.over; next = next; handed_back = handed_back; memory = memory }) refl;
  spent = keeps.spent ∙ ap (raised old.fetched) (let h : keeps.fetched ≡ keeps.fetched + 0 = omega arith in h);
  kept = keeps.kept;
  few = omega arith;
  ends = opened_ends choice limits parts old keeps.fetched fault new (record { over = keeps.over; next = next; handed_back = handed_back; memory = memory });
}

-- while it was listed
module _ {S A : Type 0} (choice : Choice) (limits : Limits) (parts : ℕ) (old : SourceState) (first new : Reader S A) (source : SourceState)
    (opened : IsNewLister old choice limits first.lister) (left : first.left ≡ parts) (sized : (file : List ℕ) → old.store.content ≡ Some file → old.size ≡ length file)
    (source_is : source ≡ new.lister.source) (spent : AreSpent new.lister (numbers_of new.lister)) (booked : IsBooked source new.lister.counts) (kept : KeepsTo new.lister.counts.budget new.lister.counts.fetched) where
  -- nothing was passed yet
  begins_at : IsAtEntry first.lister
  begins_at = λ going number is. (let none = opened.list.given.passed in absurd (omega (arith, is, none)))

  module _ (same : IsSameReading first.lister new.lister) (few : new.lister.counts.aside.bytes ≤ first.lister.counts.aside.bytes + first.left) where
    budget_is : new.lister.counts.budget ≡ limits.budget
    budget_is = same.budget ∙ opened.list.counts.budget_is

    started : new.lister.counts.start.bytes ≡ old.fetched
    started = ap (λ (a : Amount). a.bytes) (same.start ∙ opened.list.counts.start)

    aside_few : new.lister.counts.aside.bytes ≤ parts
    aside_few = omega (arith, few, left, ap (λ (a : Amount). a.bytes) opened.list.counts.aside)

    keeps_reading : {T : Type 0} (result : Result T ReadFault) (turns : ReadsInTurn [] result [] first.lister new.lister)
        → IfOk result (λ _. (file : List ℕ) → old.store.content ≡ Some file → turns.items ≡ (listing file choice limits.name).items) → IfErr result (λ fault. TellsReadEnd choice limits parts old new.lister.counts.fetched fault source)
        → KeepsReading choice limits parts result old source
    keeps_reading result turns whole ends = record {
      fetched = new.lister.counts.fetched;
      aside = new.lister.counts.aside.bytes;
      by = in_turn (record {
        opened = first.lister;
        is_new = opened;
        last = new.lister;
        reads = turns;
        whole = whole;
        source = source_is;
        booked = booked;
        fetched_is = refl;
        aside_is = refl;
        spent = spent;
      });
      spent = booked.bytes ∙ ap (λ (n : ℕ). raised n (new.lister.counts.fetched + new.lister.counts.aside.bytes)) started;
      kept = rw (← budget_is) kept;
      few = aside_few;
      ends = ends;
    }

    content_is : new.lister.source.store.content ≡ old.store.content
    content_is = same.content ∙ opened.list.same_content

    size_is : new.lister.source.size ≡ old.size
    size_is = same.size ∙ opened.fetches.same_size

    window_is : new.lister.rooms.window ≡ limits.window
    window_is = ap (λ (r : Rooms). r.window) same.rooms ∙ opened.list.asked.window_room

    limit_is : new.lister.limit ≡ limits.name
    limit_is = same.limit ∙ opened.list.asked.limit_is

    directory_is : (file : List ℕ) → old.store.content ≡ Some file → IsDirectory file new.lister.entries
    directory_is file known = rw same.entries (opened.list.read.directory file known)

    choice_is : new.lister.choice ≡ choice
    choice_is = same.choice ∙ opened.list.asked.choice_is

    listing_ends : (f : ListFault) (kind : FaultKind) → IsUnmade (max new.lister.rooms.window new.lister.limit) kind f.offset f.size new.lister.counts new.lister.source.size
        → TellsListed kind f first.lister.source new.lister → TellsListing choice limits old new.lister.counts.fetched kind f source
    listing_ends f kinds.Budget is told = record {
      passes = rw (← budget_is) is.passes;
      inside = rw (← size_is) is.inside;
      most = rw (← window_is, ← limit_is) is.few;
      next = record {
        entries = new.lister.entries;
        directory = directory_is;
        entry = new.lister.current;
        chosen = rw (← choice_is) told.chosen;
        next = some_fetch (standpoint_in new.lister) (standing_at limits old new.lister.current) kinds.Budget f.offset f.size new.lister.counts.fetched
            (sym content_is) (sym size_is) (sym window_is) (sym limit_is) refl told.next;
      };
    }
    listing_ends f (kinds.Source fault) is told = record {
      entries = new.lister.entries;
      directory = directory_is;
      entry = new.lister.current;
      chosen = rw (← choice_is) told.chosen;
      told = rw source_is (told_in_later new.lister.current f _ old first.lister.source new.lister.source opened.fetches told.told);
    }
    listing_ends f kind is told = tt

    told_ends : (budget : Option ℕ) (f : ListFault) (kind : FaultKind) → f.kind ≡ kind → TellsListing choice limits old new.lister.counts.fetched kind f source
        → TellsReadEnd choice limits parts old new.lister.counts.fetched (listed_within budget kind f) source
    told_ends None f kinds.Budget is ends = tt
    told_ends None f kind is ends = subst (λ (k : FaultKind). TellsListing choice limits old new.lister.counts.fetched k f source) (sym is) ends
    told_ends (Some most) f kind is ends = subst (λ (k : FaultKind). TellsListing choice limits old new.lister.counts.fetched k f source) (sym is) ends

    -- the items of a known file that are left first are all of its listing
    asks_in_file : (at : ℕ) → ((run : Run) → first.lister.left ≡ Some run → AsksByte run.items first.lister.source.size at)
        → (file : List ℕ) → old.store.content ≡ Some file → AsksByte (listing file choice limits.name).items (length file) at
    asks_in_file at asks file known =
        let asked = asks (listing file choice limits.name) (opened.list.given.left ∙ (rw known refl)) in
        rw (opened.fetches.same_size, sized file known) at asked

    part_in_file : (fault : SourceFault) → TellsPart [] (faults.Source fault) first.lister → (file : List ℕ) → old.store.content ≡ Some file
        → AsksByte (listing file choice limits.name).items (length file) (fault_at fault)
    part_in_file fault (inl takes) = absurd takes
    part_in_file fault (inr asks) = asks_in_file (fault_at fault) asks

    ends_by : (budget : Option ℕ) (fault : ReadFault) → TellsFetch fault first.left first.lister.source new.lister → TellsPart [] fault first.lister
        → TellsReadEnd choice limits parts old new.lister.counts.fetched (read_within budget fault) source
    ends_by budget (faults.Opening f) ends part = absurd ends
    ends_by budget (faults.List f) ends part = told_ends budget f f.kind refl (listing_ends f f.kind ends.0 ends.1)
    ends_by budget (faults.Source f) ends part = record { some = omega (arith, left, ends); byte = part_in_file f part }
    ends_by budget fault ends part = tt

  pub reading_keeps : {T : Type 0} (x : T) → KeepsOn first new → ReadsInTurn [] (Ok x) [] first.lister new.lister → ((file : List ℕ) → old.store.content ≡ Some file → new.lister.left ≡ Some nothing)
      → KeepsReading choice limits parts (Ok x) old source
  reading_keeps x on turns none =
      keeps_reading on.same (omega (arith, on.few)) (Ok x) turns
      (λ file known. all_in_turn x first.lister new.lister (listing file choice limits.name) turns (opened.list.given.left ∙ (rw known refl)) (none file known)) tt

  pub reading_ends : {T U : Type 0} (fault : ReadFault) → KeepsTill [] fault first new → ReadsInTurn {T = U} [] (Err fault) [] first.lister new.lister
      → KeepsReading {T = T} choice limits parts (Err (read_within limits.budget fault)) old source
  reading_ends fault till turns =
      keeps_reading till.same till.few (Err (read_within limits.budget fault)) (reads_within limits.budget fault first.lister new.lister (budget_is till.same till.few) turns) tt (ends_by till.same till.few limits.budget fault (till.ends begins_at) till.part)
