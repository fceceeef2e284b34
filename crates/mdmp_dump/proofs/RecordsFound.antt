-- The records of a stream, which a walker gives with their places.
use Rattle.std.proofs.Common.{◌≡◌, ◌∙◌, ◌≤◌, ◌<◌, ◌+◌, ◌-◌, ◌*◌, ◌⊎◌, ℕ, Bool, true, false, List, length, slice_get, Option, Some, None, Result, Ok, Err, arith, ap, refl, sym, subst, inl, inr, if◌then◌else◌}
use Rattle.std.specs.Prelude.{◌==◌, IfErr, IfOk, IfSome, MatchResult, option_map}
use Rattle.mdmp_source.specs.Source.{FetchesSome, SourceState}
use Rattle.mdmp_source.specs.Store.{AreBytes, IsGood, IsOfBytes, IsSizeOf}
use Rattle.mdmp_source.specs.declared.fault.SourceFault.TheVariants.{Changed}
use Rattle.mdmp_wire.specs.AnyRecord.{name_rva}
use Rattle.mdmp_wire.specs.declared.any_record.AnyRecord.{AnyRecord}
use Rattle.mdmp_wire.specs.declared.entry.Entry.{Entry}
use Rattle.mdmp_lister.proofs.Bodies.{joined-with_item, records-faulted, records-given}
use Rattle.mdmp_lister.specs.Fault.{IsOfStore, IsUnobtained}
use Rattle.mdmp_lister.specs.declared.fault.Fault.{Fault}
use Rattle.mdmp_lister.specs.declared.fault.ListFault.{ListFault}
use Rattle.mdmp_lister.specs.declared.item.Item.{Item}
use Rattle.mdmp_lister.specs.declared.item.StreamItem.{StreamItem}
use Rattle.mdmp_lister.specs.declared.kind.StreamKind.{StreamKind}
use Rattle.mdmp_lister.specs.declared.kind.StreamKind.TheVariants as kinds
use Rattle.mdmp_lister.specs.declared.meter.Amount.{Amount}
use Rattle.mdmp_lister.specs.declared.meter.MeterCounts.{MeterCounts}
use Rattle.mdmp_lister.specs.declared.name.Name.{Name}
use Rattle.mdmp_lister.specs.declared.step.RecordRead.{RecordRead}
use Rattle.mdmp_lister.specs.declared.step.Step.{Step}
use Rattle.mdmp_lister.specs.declared.step.Step.TheVariants as step
use Rattle.mdmp_lister.specs.declared.item.Item.TheVariants as items
use Rattle.mdmp_lister.specs.Step.{IsStepOf, TellsItem}
use Rattle.mdmp_lister.specs.declared.shape.Shape.{Shape}
use Rattle.mdmp_lister.specs.Format.Classes.{IsStream}
use Rattle.mdmp_lister.specs.Format.Item.{item_at, item_of, kind_told, name_of, named, offset_in, plain, record_at}
use Rattle.mdmp_lister.specs.Format.Kind.{HasNoNames, has_names, kind_of, type_of_kind}
use Rattle.mdmp_lister.specs.Format.KindLaws.{type_of-kind}
use Rattle.mdmp_lister.specs.Format.Listing.{Numbered, Run, items_from, joined, list_fault, only_fault, with_item}
use Rattle.mdmp_lister.specs.Format.Shape.{known_count, location_fault, record_count, records_in, shape_of}
use Rattle.mdmp_lister.specs.Format.Summary.{number_behind, entry_begun, summary_of}
use Rattle.mdmp_lister.specs.FaultLaws.{next_fits}
use Rattle.mdmp_lister.specs.Lister.{Gives, IsSameLister, tail}
use Rattle.mdmp_lister.specs.Meter.{Moves}
use Rattle.mdmp_lister.specs.Listed.{entry_cost}
use Rattle.mdmp_lister.specs.Walk.Positions.{mark_by, position_by}
use Rattle.mdmp_lister.specs.Walker.{IsSpentSince, StepLeaves, WalkerLeaves, WalkerState, is_sought, seeks}
use Rattle.mdmp_dump.specs.declared.fault.ReadFault.{ReadFault}
use Rattle.mdmp_dump.specs.declared.fault.ReadFault.TheVariants as faults
use Rattle.mdmp_dump.specs.declared.found_record.FoundRecord.{FoundRecord}
use Rattle.mdmp_dump.specs.declared.view.Kind.TheVariants as view
use Rattle.mdmp_dump.specs.EntryWalk.{FindsNext, FindsRow, GivesNext, IsFoundIn, IsRowFound, Pays, ended_by, kind_by, name_cost, name_cost_by, row_told}
use Rattle.mdmp_dump.specs.FileRefusal.{IsOfWalk, IsUnbudgeted}
use Rattle.mdmp_dump.specs.Finding.{FindsRecord, FindsSeen, IsFittingOf, IsFoundInside, IsOfPlaces, IsOfRecord, seen_in}
use Rattle.mdmp_dump.specs.FoundRecord.{AreIn}
use Rattle.mdmp_dump.specs.Left.{RowGiven, body_from, left_from, run_of}
use Rattle.mdmp_dump.specs.Reading.{IsLastTold, IsReadRefusal, store_fault}
use Rattle.mdmp_dump.specs.Refusal.{item_steps}
use Rattle.mdmp_dump.specs.Seen.{Seen}
use Rattle.mdmp_dump.specs.Shape.{type_told}
use Rattle.mdmp_dump.specs.Walking.{NeverByBudget, HasLeft, IsKept, current_entry, ended_with, left_by, records_to_give, state_of}
use Rattle.mdmp_dump.proofs.EntryBegun.{last_told, left_begun, left_stopped, no_store_fault, own_store_fault, paid_by, plain_stream, walk_same, unbudgeted}
use Rattle.mdmp_dump.proofs.Founding.{record_found}
use Rattle.mdmp_dump.proofs.Left.{row_given}
use Rattle.mdmp_dump.proofs.Limits.{refused_under}
use Rattle.mdmp_dump.proofs.Taking.{Fetches_only}

-- ---- types and kinds

pub names_or_none : (t : ℕ) → HasNoNames (kind_of t) ⊎ (name_cost t ≡ 4)
names_or_none t = by (kind_of t) where
  named : (has : Bool) (cost : ℕ) → cost ≡ (if has then 4 else 0) → (has ≡ false) ⊎ (cost ≡ 4)
  named true cost is = inr is
  named false cost is = inl refl

  by : (kind : Option StreamKind) → HasNoNames kind ⊎ (name_cost_by kind ≡ 4)
  by None = inl tt
  by (Some kind) = named (has_names kind) _ refl

-- the kind of a view, of the records of such a stream
known_by : (t : ℕ) (w : AnyRecord) → kind_of t ≡ Some (kind_told w) → kind_by t ≡ view.Known (type_told w)
known_by t w is = ap kind_by (type_of-kind t (kind_told w) is) ∙ of_kind (kind_told w) where
  of_kind : (kind : StreamKind) → kind_by (type_of_kind kind) ≡ view.Known (type_of_kind kind)
  of_kind kinds.Threads = refl
  of_kind _ = refl

-- ---- an item, by the record that it tells

no_stream : (item : Item) → (summary_of item).stream ≡ None → IsStream (plain item) → ⊥
no_stream item none stream =
    let is = plain_stream item stream.0 stream.1 in
    let some : (summary_of item).stream ≡ Some stream.0 = ap (λ (x : Item). (summary_of x).stream) is in
    cc (none, some)

-- what is found of it is of its stream's kind
pub found_in : (z t : ℕ) (w : AnyRecord) (f : FoundRecord) → kind_of t ≡ Some (kind_told w) → IsFittingOf w f → AreIn z f.parts → IsFoundIn z t f
found_in z t w f known fits inside = record { kind_is = known_by t f.wire (known ∙ ap Some (sym fits.0)); inside = inside; bytes = fits.1 }

-- ---- while records are left

some_left : (passed records : ℕ) (b : Bool) → (passed == 0) ≡ b → 0 < (if b then 0 else records) → ((if b then 0 else records) ≡ records) × (passed ≡ 0 → ⊥)
some_left passed records true fresh none = absurd (omega (arith, none))
some_left passed records false begun some = (refl, λ fresh. let none : (0 == 0) ≡ false = subst (λ (n : ℕ). (n == 0) ≡ false) fresh begun in cc none)

pub left_some : (passed : ℕ) (stop : Option (Option ListFault)) (records : ℕ) → 0 < left_by passed stop records → (stop ≡ None) × ((left_by passed stop records ≡ records) × (passed ≡ 0 → ⊥))
left_some passed None records some = (refl, some_left passed records (passed == 0) refl some)
left_some passed (Some stop) records some = absurd (omega (arith, some))

-- while some are left the answer is not the end
pub none_given : (old new : WalkerState) → 0 < records_to_give old.list → WalkerLeaves old (Ok None) new → ⊥
none_given old new left leaves =
    let some = left_some old.list.passed old.list.stop old.list.records left in
    let none = leaves.list.places.records in
    omega (arith, left, some.1.0, none)

-- of a known file they have a shape
pub record Counted (F : List ℕ) (e : Entry) (n : ℕ) : Type 0 where
  pub placed : location_fault (length F) e ≡ None
  pub kind : StreamKind
  pub known : kind_of e.stream_type ≡ Some kind
  pub shape : Shape
  pub shaped : shape_of F e.location.rva e.location.size kind ≡ Ok shape
  pub count : shape.count ≡ n

module _ (F : List ℕ) (e : Entry) (n : ℕ) (some : 0 < n) where
  counted_shape : (kind : StreamKind) → location_fault (length F) e ≡ None → kind_of e.stream_type ≡ Some kind → (r : Result Shape Fault) → shape_of F e.location.rva e.location.size kind ≡ r → records_in r ≡ Ok n → Counted F e n
  counted_shape kind placed known (Ok shape) shaped is = record { placed = placed; kind = kind; known = known; shape = shape; shaped = shaped; count = cc is }
  counted_shape kind placed known (Err f) shaped is = absurd (cc is)

  counted_kind : location_fault (length F) e ≡ None → (kind : Option StreamKind) → kind_of e.stream_type ≡ kind → known_count F e.location.rva e.location.size kind ≡ Ok n → Counted F e n
  counted_kind placed (Some kind) known is = counted_shape kind placed known (shape_of F e.location.rva e.location.size kind) refl is
  counted_kind placed None known is = absurd (let none : 0 ≡ n = cc is in omega (arith, some, none))

  counted_place : (outside : Option Fault) → location_fault (length F) e ≡ outside → record_count F e ≡ Ok n → Counted F e n
  counted_place None placed is = counted_kind placed (kind_of e.stream_type) refl (rw placed at is)
  counted_place (Some f) placed is = absurd (let other : Err f ≡ Ok n = rw placed at is in cc other)

  pub counted : record_count F e ≡ Ok n → Counted F e n
  counted is = counted_place (location_fault (length F) e) refl is

-- ---- a name with a fault

named_fault : (r : Result Name Fault) (item : Name → Item) (f : Fault) → named r item ≡ Err f → r ≡ Err f
named_fault (Ok n) item f is = absurd (cc is)
named_fault (Err g) item f is = ap Err (cc is)

name_refused : (F : List ℕ) (limit : ℕ) (rva : Option ℕ) (f : Fault) → name_of F 0 rva ≡ Err f → name_of F limit rva ≡ Err f
name_refused F limit None f is = absurd (cc is)
name_refused F limit (Some rva) f is = refused_under F rva 0 limit f is

item_refused : (F : List ℕ) (limit e k at o : ℕ) (kind : StreamKind) (f : Fault) → item_at F 0 e k at o kind ≡ Err f → item_at F limit e k at o kind ≡ Err f
item_refused F limit e k at o kind f is =
    let name = name_refused F limit (name_rva (record_at kind F o)) f (named_fault (name_of F 0 (name_rva (record_at kind F o))) (λ n. item_of (length F) e k (offset_in F at k kind) (record_at kind F o) n) f is) in
    ap (λ (r : Result Name Fault). named r (λ n. item_of (length F) e k (offset_in F at k kind) (record_at kind F o) n)) name

-- the fault with which what is left begins is that of the next record
module _ (F : List ℕ) (limit : ℕ) (x : Numbered) (k : ℕ) (xs : List Numbered) (n : ℕ) (c : Counted F x.entry n) (within : k < n) (f : ListFault) where
  abbrev place : ℕ
  place = x.entry.location.rva + c.shape.first + k * c.shape.stride

  body : body_from F 0 x k ≡ items_from F 0 x.number x.entry.location.rva c.kind c.shape (c.shape.count - k) k
  body = rw (c.placed, c.known, c.shaped) refl

  within_shape : k < c.shape.count
  within_shape = let count = c.count in omega (arith, within, count)

  fault_by : left_from F 0 x k xs ≡ only_fault f → (r : Result Item Fault) → item_at F 0 x.number k x.entry.location.rva place c.kind ≡ r
      → (g : Fault) × ((item_at F 0 x.number k x.entry.location.rva place c.kind ≡ Err g) × (f ≡ list_fault x.number (Some k) g))
  fault_by left (Ok item) is =
      let rest = items_from F 0 x.number x.entry.location.rva c.kind c.shape (c.shape.count - (k + 1)) (k + 1) in
      let row : left_from F 0 x k xs ≡ with_item item (joined rest (run_of F 0 xs)) =
      ap (λ (run : Run). joined run (run_of F 0 xs)) (body ∙ records-given F 0 x.number x.entry.location.rva c.kind c.shape k within_shape item is) ∙ joined-with_item item rest (run_of F 0 xs) in
      let first : Some item ≡ None = ap (λ (run : Run). slice_get run.items 0) (sym row ∙ left) in
      absurd (cc first)
  fault_by left (Err g) is =
      let row : left_from F 0 x k xs ≡ only_fault (list_fault x.number (Some k) g) =
      ap (λ (run : Run). joined run (run_of F 0 xs)) (body ∙ records-faulted F 0 x.number x.entry.location.rva c.kind c.shape k within_shape g is) in
      let same : Some (list_fault x.number (Some k) g) ≡ Some f = ap (λ (run : Run). run.fault) (sym row ∙ left) in
      (g, (is, sym (cc same)))

  pub row_refused : IsUnbudgeted f.kind → ((IsUnobtained f.kind → ⊥) → left_from F 0 x k xs ≡ only_fault f) → FindsRow F limit x k (Err (faults.List f))
  row_refused unbudgeted gives = record {
    kind = c.kind;
    shape = c.shape;
    kind_is = c.known;
    shape_is = c.shaped;
    within = within_shape;
    finds = λ not.
        let g = fault_by (gives (own_store_fault f.kind unbudgeted not)) (item_at F 0 x.number k x.entry.location.rva place c.kind) refl in
        ap (row_told F x.number k) (item_refused F limit x.number k x.entry.location.rva place c.kind g.0 g.1.0) ∙ ap (λ (h : ListFault). Some (faults.List h)) (sym g.1.1);
  }

-- and what is found of the item that was given is found of it
row_found : (F : List ℕ) (e k : ℕ) (r : Result Item Fault) (item : Item) (seen : Seen) (result : Result FoundRecord ReadFault) → r ≡ Ok item → FindsSeen F (item_steps (length F) item) seen result → IsRowFound F e k r seen result
row_found F e k r item seen (Ok f) is found = (ap (row_told F e k) is ∙ found.0, found.1)
row_found F e k r item seen (Err fault) is found = λ own. ap (row_told F e k) is ∙ found own

-- ---- what an answer leaves

-- no entry was begun
pub record Stays (old new : WalkerState) : Type 0 where
  pub same : IsSameLister old.list new.list
  pub fetches : FetchesSome old.list.source new.list.source
  pub mark : new.mark ≡ old.mark
  pub current : new.list.current ≡ old.list.current
  pub passed : new.list.passed ≡ old.list.passed
  pub counts : Moves 1 old.list.counts new.list.counts
  pub spent : IsSpentSince old new.list.counts
  pub nameless : HasNoNames (kind_of old.list.current.stream_type) → new.list.counts.names ≡ old.list.counts.names
  pub unsought : is_sought new ≡ false

pub stays_record : (old new : WalkerState) (item : Item) → (summary_of item).stream ≡ None → WalkerLeaves old (Ok (Some item)) new → Stays old new
stays_record old new item none leaves = record {
  same = leaves.list.same;
  fetches = record { count = _; fetches = leaves.list.spends.fetches };
  mark = leaves.mark ∙ ap (λ (s : Option StreamItem). mark_by s new.list.counts old.mark) none;
  current = leaves.list.places.current ∙ ap (λ (s : Option StreamItem). entry_begun s old.list.current) none;
  passed = leaves.list.places.passed ∙ ap (λ (s : Option StreamItem). number_behind s old.list.passed) none;
  counts = leaves.list.spends.counts;
  spent = leaves.spent;
  nameless = leaves.nameless;
  unsought = ap seeks (leaves.position ∙ ap position_by none);
}

pub stays_fault : (old new : WalkerState) (f : ListFault) → WalkerLeaves old (Err f) new → Stays old new
stays_fault old new f leaves = record {
  same = leaves.list.same;
  fetches = record { count = _; fetches = leaves.list.spends.fetches };
  mark = leaves.mark;
  current = leaves.list.places.current;
  passed = leaves.list.places.passed;
  counts = leaves.list.spends.counts;
  spent = leaves.spent;
  nameless = leaves.nameless;
  unsought = ap seeks leaves.position;
}

module _ (old new : WalkerState) (kept : IsKept old) (stays : Stays old new) where
  names_most : 4 * new.list.counts.names ≤ 4 * old.list.counts.names + name_cost old.list.current.stream_type
  names_most = by (names_or_none old.list.current.stream_type) where
    by : HasNoNames (kind_of old.list.current.stream_type) ⊎ (name_cost old.list.current.stream_type ≡ 4) → 4 * new.list.counts.names ≤ 4 * old.list.counts.names + name_cost old.list.current.stream_type
    by (inl none) = let same = stays.nameless none in omega (arith, same)
    by (inr some) = let most = stays.counts.most_names in omega (arith, some, most)

  cost_same : entry_cost new.list.source.size new.list.current ≡ entry_cost old.list.source.size old.list.current
  cost_same = λ i. entry_cost (stays.fetches.fetches.same_size i) (stays.current i)

  mark_asked : new.mark.asked ≡ old.mark.asked
  mark_asked = ap (λ (c : MeterCounts). c.asked) stays.mark

  mark_names : new.mark.names ≡ old.mark.names
  mark_names = ap (λ (c : MeterCounts). c.names) stays.mark

  pub pays : Pays 0 (name_cost old.list.current.stream_type) (state_of old) (state_of new)
  pays = record {
    same = walk_same old new stays.same stays.fetches;
    aside = ap (λ (a : Amount). a.bytes) stays.same.aside;
    allowed = λ few. let more = stays.counts.more_names in omega (arith, names_most, cost_same, mark_asked, mark_names, kept.within, more);
    reached = names_most;
    more = stays.counts.more_names;
  }

  pub current_same : current_entry new.list ≡ current_entry old.list
  current_same = λ i. record { number = stays.passed i - 1; entry = stays.current i }

  -- it is kept where what is left is
  pub kept_by : NeverByBudget new.list.stop → ((file : List ℕ) → new.list.source.store.content ≡ Some file → 0 < records_to_give new.list → HasLeft file new.list) → IsKept new
  kept_by unbudgeted left = record {
    limit = stays.same.limit ∙ kept.limit;
    budget = stays.same.budget ∙ kept.budget;
    unbudgeted = unbudgeted;
    within = let more = stays.counts.more_names in omega (arith, mark_names, kept.within, more);
    spent = λ few.
        let within : old.mark.names ≤ new.list.counts.names = let more = stays.counts.more_names in omega (arith, kept.within, more) in
        let most = paid_by old.list.limit new.list.counts.asked (old.mark.asked + entry_cost old.list.source.size old.list.current) old.mark.names new.list.counts.names kept.limit (stays.spent few) within in
        omega (arith, most, cost_same, mark_asked, mark_names);
    of_file = left;
    unsought = λ some. stays.unsought;
  }

-- ---- a record

-- want of memory, a refusal of the record, or a change of the store
ends_not : (fault : ReadFault) → IsOfPlaces fault → ended_by {T = FoundRecord} (Err fault) ≡ None
ends_not (faults.List f) of_places = absurd of_places
ends_not fault of_places = refl

record_fault : (fault : ReadFault) → IsOfRecord fault → store_fault fault ≡ None
record_fault (faults.NameTooLong e k n) is = refl
record_fault (faults.PartOutside e k part offset n) is = refl
record_fault fault is = absurd is

-- it tells of the store that it has changed, or nothing
places_told : (fault : ReadFault) (old new : SourceState) → IsOfPlaces fault → ((IsOfRecord fault → ⊥) → old.store.content ≡ None) → IfSome (store_fault fault) (λ of_store. IsLastTold of_store old new)
places_told (faults.Source (Changed at)) old new is unknown = unknown (λ never. never)
places_told (faults.NameTooLong e k n) old new is unknown = tt
places_told (faults.PartOutside e k part offset n) old new is unknown = tt
places_told fault old new is unknown = absurd is

-- a refusal of the record is no want of memory
able_of : (fault : ReadFault) → IsOfRecord fault → fault ≡ faults.Memory → ⊥
able_of fault of_record is = subst IsOfRecord is of_record

places_of_walk : (fault : ReadFault) → IsOfPlaces fault → IsOfWalk fault
places_of_walk (faults.Opening f) is = absurd is
places_of_walk (faults.PartsTooLarge e k) is = absurd is
places_of_walk (faults.List f) is = absurd is
places_of_walk fault is = tt

places_refused : (size : ℕ) (fault : ReadFault) → IsOfPlaces fault → IsReadRefusal size fault
places_refused size (faults.Opening f) is = absurd is
places_refused size (faults.List f) is = absurd is
places_refused size fault is = tt

module _ (old new : WalkerState) (kept : IsKept old) (left : 0 < records_to_give old.list) (item : Item) (leaves : WalkerLeaves old (Ok (Some item)) new) where
  went : ((summary_of item).stream ≡ None) × (old.list.records ≡ new.list.records + 1)
  went =
      let some = left_some old.list.passed old.list.stop old.list.records left in
      leaves.list.places.records (omega (arith, left, some.1.0))

  pub stays : Stays old new
  stays = stays_record old new item went.0 leaves

  fewer_left : records_to_give old.list ≡ records_to_give new.list + 1
  fewer_left =
      let some = left_some old.list.passed old.list.stop old.list.records left in
      let same = stays.passed in
      let now = left_begun new.list.passed new.list.stop new.list.records (λ fresh. some.1.1 (sym same ∙ fresh)) leaves.list.stands.stop in
      omega (arith, some.1.0, now, went.1)

  -- of a known file it is the next of those that are left
  module _ (gives : (left : Run) → old.list.left ≡ Some left → slice_get left.items 0 ≡ Some (plain item)) (F : List ℕ) (known : old.list.source.store.content ≡ Some F) where
    had : HasLeft F old.list
    had = kept.of_file F known left

    shaped : Counted F old.list.current (had.0 + records_to_give old.list)
    shaped = counted F old.list.current (had.0 + records_to_give old.list) (omega (arith, left)) had.2.1

    given : RowGiven F 0 (current_entry old.list) had.0 had.1 shaped.kind (plain item)
    given = row_given F 0 (current_entry old.list) had.0 had.1 shaped.kind (plain item) shaped.known (no_stream item went.0) (gives (left_from F 0 (current_entry old.list) had.0 had.1) had.2.0)

    left_behind : HasLeft F new.list
    left_behind =
        let rest : new.list.left ≡ Some (left_from F 0 (current_entry old.list) (had.0 + 1) had.1) = leaves.list.stands.left ∙ ap (option_map tail) had.2.0 ∙ ap Some given.rest in
        let count : had.0 + records_to_give old.list ≡ had.0 + 1 + records_to_give new.list = omega (arith, fewer_left) in (
          had.0 + 1,
          had.1,
          (
            subst (λ (y : Numbered). new.list.left ≡ Some (left_from F 0 y (had.0 + 1) had.1)) (sym (current_same old new kept stays)) rest,
            ap (record_count F) stays.current ∙ had.2.1 ∙ ap Ok count,
          ),
        )

    module _ (r : RecordRead) (tells : TellsItem new.list.source.size (step.Record r) item) (of : IsStepOf (kind_of new.list.current.stream_type) (step.Record r)) (limit : ℕ) (result : Result FoundRecord ReadFault) (finds : IsFoundInside F limit r result) where
      abbrev offset : ℕ
      offset = old.list.current.location.rva + given.shape.first + had.0 * given.shape.stride

      found : FindsRecord F limit (current_entry old.list).number had.0 old.list.current.location.rva offset shaped.kind result × IfErr result IsOfRecord
      found =
          let kind_is : kind_of new.list.current.stream_type ≡ Some shaped.kind = ap (λ (e : Entry). kind_of e.stream_type) stays.current ∙ shaped.known in
          record_found F limit (current_entry old.list).number had.0 old.list.current.location.rva offset shaped.kind r item new.list.source.size given.is_item tells
          (subst (λ (kind : Option StreamKind). IsStepOf kind (step.Record r)) kind_is of) result finds

      found_next : FindsNext F limit (state_of old) result
      found_next = (
        had.0,
        (
          had.2.1,
          record {
            kind = shaped.kind;
            shape = given.shape;
            kind_is = shaped.known;
            shape_is = given.shaped;
            within = given.within;
            finds = row_found F (current_entry old.list).number had.0 _ found.0.0 (seen_in shaped.kind F old.list.current.location.rva had.0 offset) result found.0.1.0 found.0.1.1;
          },
        ),
      )

  pub kept_record : ((left : Run) → old.list.left ≡ Some left → slice_get left.items 0 ≡ Some (plain item)) → IsKept new
  kept_record gives = kept_by old new kept stays (λ f is. absurd (let none = leaves.list.stands.stop in cc (is, none))) (λ F known some. left_behind gives F (sym stays.fetches.fetches.same_content ∙ known))

  module _ (gives : (left : Run) → old.list.left ≡ Some left → slice_get left.items 0 ≡ Some (plain item)) (r : RecordRead) (tells : TellsItem new.list.source.size (step.Record r) item)
      (of : IsStepOf (kind_of new.list.current.stream_type) (step.Record r)) (limit size : ℕ) (size_is : size ≡ old.list.source.size)
      (sized : IsSizeOf old.list.source.store.content size) (bytes : IsOfBytes old.list.source.store.content) where
    abbrev Finds : Result FoundRecord ReadFault → Type 0
    Finds result = (F : List ℕ) → length F ≡ size → AreBytes F → IsFoundInside F limit r result

    inside_of : (result : Result FoundRecord ReadFault) → Finds result → (F : List ℕ) → old.list.source.store.content ≡ Some F → IsFoundInside F limit r result
    inside_of result finds F known =
        let length_is : size ≡ length F = subst (λ (c : Option (List ℕ)). IsSizeOf c size) known sized in
        finds F (sym length_is) (bytes F known)

    of_known : (result : Result FoundRecord ReadFault) → Finds result → (F : List ℕ) → old.list.source.store.content ≡ Some F → FindsNext F limit (state_of old) result
    of_known result finds F known = found_next gives F known r tells of limit result (inside_of result finds F known)

    refused_known : (fault : ReadFault) → Finds (Err fault) → (F : List ℕ) → old.list.source.store.content ≡ Some F → IsOfRecord fault
    refused_known fault finds F known = (found gives F known r tells of limit (Err fault) (inside_of (Err fault) finds F known)).1

    unknown : (fault : ReadFault) → Finds (Err fault) → (IsOfRecord fault → ⊥) → (content : Option (List ℕ)) → old.list.source.store.content ≡ content → old.list.source.store.content ≡ None
    unknown fault finds not None is = is
    unknown fault finds not (Some F) is = absurd (not (refused_known fault finds F is))

    gives_found : (f : FoundRecord) → Finds (Ok f) → IsFittingOf r.fields f → AreIn size f.parts → GivesNext (state_of old) limit (Ok f) (state_of new)
    gives_found f finds fits inside = record {
      pays = pays old new kept stays;
      goes = (current_same old new kept stays, fewer_left);
      found = found_in old.list.source.size old.list.current.stream_type r.fields f (sym (ap (λ (e : Entry). kind_of e.stream_type) stays.current) ∙ of.0) fits (subst (λ (z : ℕ). AreIn z f.parts) size_is inside);
      of_file = of_known (Ok f) finds;
      told = tt;
      able = λ F known. tt;
      fetches = Fetches_only f old.list.source new.list.source stays.fetches;
      failed = ap ended_with leaves.list.stands.stop;
    }

    gives_refused : (fault : ReadFault) → Finds (Err fault) → IsOfPlaces fault → GivesNext (state_of old) limit (Err fault) (state_of new)
    gives_refused fault finds of_places = record {
      pays = pays old new kept stays;
      goes = tt;
      found = tt;
      of_file = of_known (Err fault) finds;
      told = places_of_walk fault of_places;
      able = λ F known. able_of fault (refused_known fault finds F known);
      fetches = record {
        fetches = stays.fetches;
        told = places_told fault old.list.source new.list.source of_places (λ not. unknown fault finds not old.list.source.store.content refl);
        good = λ F good. record_fault fault (refused_known fault finds F good.known);
        refusal = places_refused old.list.source.size fault of_places;
      };
      failed = ap ended_with leaves.list.stands.stop ∙ sym (ends_not fault of_places);
    }

    pub gives_next : (result : Result FoundRecord ReadFault) → Finds result → MatchResult result (IsFittingOf r.fields) IsOfPlaces → IfOk result (λ f. AreIn size f.parts)
        → GivesNext (state_of old) limit result (state_of new)
    gives_next (Ok f) finds fits inside = gives_found f finds fits inside
    gives_next (Err fault) finds fits inside = gives_refused fault finds fits

-- ---- a fault

-- the next record is refused, or the store failed
module _ (old new : WalkerState) (kept : IsKept old) (left : 0 < records_to_give old.list) (f : ListFault) (leaves : WalkerLeaves old (Err f) new) where
  stopped : records_to_give new.list ≡ 0
  stopped = left_stopped new.list.passed new.list.stop (Some f) new.list.records leaves.list.stands.stop

  unbudgeted_new : IsUnbudgeted f.kind
  unbudgeted_new = unbudgeted f new.list (leaves.list.same.budget ∙ kept.budget) leaves.list.spends.refused

  stop_new : NeverByBudget new.list.stop
  stop_new g is = let same : f ≡ g = let both = sym leaves.list.stands.stop ∙ is in cc both in subst (λ (h : ListFault). IsUnbudgeted h.kind) same unbudgeted_new

  pub kept_fault : IsKept new
  kept_fault = kept_by old new kept (stays_fault old new f leaves) stop_new (λ F known some. absurd (omega (arith, some, stopped)))

  pub gives_fault : ((left : Run) → old.list.left ≡ Some left → (IsUnobtained f.kind → ⊥) → left ≡ only_fault f) → ((file : List ℕ) → IsGood old.list.source.store file → IsOfStore f.kind → ⊥)
      → (limit : ℕ) → GivesNext (state_of old) limit (Err (faults.List f)) (state_of new)
  gives_fault gives good limit =
      let going = (left_some old.list.passed old.list.stop old.list.records left).0 in
      let stays = stays_fault old new f leaves in
      record {
        pays = pays old new kept stays;
        goes = tt;
        found = tt;
        of_file = λ F known.
            let had = kept.of_file F known left in
            let shaped = counted F old.list.current (had.0 + records_to_give old.list) (omega (arith, left)) had.2.1 in (
              had.0,
              (
                had.2.1,
                row_refused F limit (current_entry old.list) had.0 had.1 (had.0 + records_to_give old.list) shaped (omega (arith, left)) f unbudgeted_new
                    (gives (left_from F 0 (current_entry old.list) had.0 had.1) had.2.0),
              ),
            );
        told = (unbudgeted_new, leaves.unchanged);
        able = λ F known is. cc is;
        fetches = record {
          fetches = stays.fetches;
          told = last_told old.list.current f.kind old.list.source new.list.source (leaves.list.told going).by leaves.unchanged;
          good = λ F is. no_store_fault f.kind (good F is);
          refusal = next_fits old.list f new.list (leaves.follows going (kept.unsought left));
        };
        failed = ap ended_with leaves.list.stands.stop;
      }

-- ---- a record as it was read

module _ (old new : WalkerState) (kept : IsKept old) (left : 0 < records_to_give old.list) where
  -- while records are left one is given
  pub never_none : StepLeaves old (Ok None) new → ⊥
  never_none leaves = none_given old new left (subst (λ (answer : Result (Option Item) ListFault). WalkerLeaves old answer new) leaves.told leaves.leaves)

  module _ (s : Step) (leaves : StepLeaves old (Ok (Some s)) new) where
    item_leaves : WalkerLeaves old (Ok (Some leaves.told.0)) new
    item_leaves = subst (λ (answer : Result (Option Item) ListFault). WalkerLeaves old answer new) leaves.told.1.0 leaves.leaves

    item_gives : (run : Run) → old.list.left ≡ Some run → slice_get run.items 0 ≡ Some (plain leaves.told.0)
    item_gives run is = subst (λ (answer : Result (Option Item) ListFault). Gives run answer) leaves.told.1.0 (leaves.gives run is)

    pub step_kept : IsKept new
    step_kept = kept_record old new kept left leaves.told.0 item_leaves item_gives

    pub step_same : IsSameLister old.list new.list
    step_same = item_leaves.list.same

    pub step_stays : Stays old new
    step_stays = stays old new kept left leaves.told.0 item_leaves

  pub never_stream : (x : StreamItem) → StepLeaves old (Ok (Some (step.Stream x))) new → ⊥
  never_stream x leaves =
      let went = went old new kept left leaves.told.0 (item_leaves (step.Stream x) leaves) in
      let none : (summary_of (items.Stream x)).stream ≡ None = sym (ap (λ (item : Item). (summary_of item).stream) leaves.told.1.1) ∙ went.0 in
      cc none

  pub step_gives : (r : RecordRead) (leaves : StepLeaves old (Ok (Some (step.Record r))) new) → IsStepOf (kind_of new.list.current.stream_type) (step.Record r) → (limit size : ℕ) → size ≡ old.list.source.size
      → IsSizeOf old.list.source.store.content size → IsOfBytes old.list.source.store.content → (result : Result FoundRecord ReadFault)
      → ((F : List ℕ) → length F ≡ size → AreBytes F → IsFoundInside F limit r result) → MatchResult result (IsFittingOf r.fields) IsOfPlaces → IfOk result (λ f. AreIn size f.parts)
      → GivesNext (state_of old) limit result (state_of new)
  step_gives r leaves of limit size size_is sized bytes =
      gives_next old new kept left leaves.told.0 (item_leaves (step.Record r) leaves) (item_gives (step.Record r) leaves) r leaves.told.1.1 of limit size size_is sized bytes

  module _ (f : ListFault) (leaves : StepLeaves old (Err f) new) where
    fault_leaves : WalkerLeaves old (Err f) new
    fault_leaves = subst (λ (answer : Result (Option Item) ListFault). WalkerLeaves old answer new) leaves.told leaves.leaves

    pub step_refused : ((file : List ℕ) → IsGood old.list.source.store file → IsOfStore f.kind → ⊥) → (limit : ℕ) → GivesNext (state_of old) limit (Err (faults.List f)) (state_of new)
    step_refused good limit = gives_fault old new kept left f fault_leaves (λ run is. subst (λ (answer : Result (Option Item) ListFault). Gives run answer) leaves.told (leaves.gives run is)) good limit

    pub refused_kept : IsKept new
    refused_kept = kept_fault old new kept left f fault_leaves

    pub refused_same : IsSameLister old.list new.list
    refused_same = fault_leaves.list.same
