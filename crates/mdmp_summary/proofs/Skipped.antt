-- A stream whose records are passed over, since they have no names and a visitor has no use for them.
use Rattle.std.proofs.Common.{◌≡◌, ◌≤◌, ◌+◌, ◌-◌, ◌*◌, ◌∙◌, ℕ, zero, suc, List, [], ◌∷◌, Option, Some, None, Result, Ok, Err, IsTrue, false, length, ap, arith, inl, inr, refl, sym}
use Rattle.std.specs.Option.{option_map}
use Rattle.mdmp_lister.specs.declared.fault.Fault.{Fault}
use Rattle.mdmp_lister.specs.declared.fault.ListFault.{ListFault}
use Rattle.mdmp_lister.specs.declared.item.Item.{Item}
use Rattle.mdmp_lister.specs.declared.kind.StreamKind.{StreamKind}
use Rattle.mdmp_lister.specs.declared.kind.StreamKind.TheVariants as kinds
use Rattle.mdmp_lister.specs.declared.meter.MeterCounts.{MeterCounts}
use Rattle.mdmp_lister.specs.declared.position.Position.{Position}
use Rattle.mdmp_lister.specs.declared.position.Position.TheVariants.{Begun, Sought, Within}
use Rattle.mdmp_lister.specs.declared.shape.Shape.{Shape}
use Rattle.mdmp_lister.specs.declared.sink.Stopped.{Stopped}
use Rattle.mdmp_lister.specs.Fault.{IsAnsweredFor, IsUnobtained}
use Rattle.mdmp_lister.specs.Format.Item.{item_at}
use Rattle.mdmp_lister.specs.Format.Kind.{has_names, kind_of}
use Rattle.mdmp_lister.specs.Format.Listing.{Numbered, Run, count_listed, entry_body, item_then, items_from, joined, listing_from, only_fault, records_of, records_told, shaped}
use Rattle.mdmp_lister.specs.Format.Shape.{known_count, location_fault, records_in, shape_of}
use Rattle.mdmp_lister.specs.Lister.{KeepsGiven, SkipsEntry}
use Rattle.mdmp_lister.specs.Sink.{give_all}
use Rattle.mdmp_lister.specs.Walker.{CountsRecords, WalkerState, begins, is_sought, records_answer, seeks}
use Rattle.mdmp_summary.specs.Skipping.{HasBegun, IsBetween, PassesOver, StaysInEntry, left_begun, next_in}
use Rattle.mdmp_summary.specs.Spending.{next_number}
use Rattle.mdmp_lister.specs.NamesFetched.{names_bytes}
use Rattle.mdmp_summary.specs.Visiting.{HasNoUse, IsOfKind, VisitedAll}
use Rattle.mdmp_summary.specs.declared.visiting.VisitEnd.{VisitEnd}
use Rattle.mdmp_lister.proofs.NamesFetched.{names_none}
use Rattle.mdmp_summary.proofs.NamesFetched.{names_idle, nameless_more}
use Rattle.mdmp_summary.proofs.Told.{next_listing, same_listing_none, same_listing_then, skipped_listing}

-- ---- records without names

-- some items are records of one kind
abbrev AreRecordsOf : StreamKind → List Item → Type 0
AreRecordsOf kind [] = Unit {0}
AreRecordsOf kind (x ∷ xs) = IsOfKind kind x × AreRecordsOf kind xs

-- a run of them has no error
record IsRunOf (kind : StreamKind) (run : Run) : Type 0 where
  fault : run.fault ≡ None
  records : AreRecordsOf kind run.items

abbrev IsGoodOf : StreamKind → Result Item Fault → Type 0
IsGoodOf kind (Ok x) = IsOfKind kind x
IsGoodOf kind (Err f) = ⊥

-- a record without a name has no error
nameless_good : (F : List ℕ) (limit e k at o : ℕ) (kind : StreamKind) → has_names kind ≡ false → IsGoodOf kind (item_at F limit e k at o kind)
nameless_good F limit e k at o kinds.Threads not = refl
nameless_good F limit e k at o kinds.Memory not = refl
nameless_good F limit e k at o kinds.Exception not = refl
nameless_good F limit e k at o kinds.Memory64 not = refl
nameless_good F limit e k at o kinds.MemoryInfo not = refl
nameless_good F limit e k at o _ not = absurd (cc)

one_more : (e k : ℕ) (kind : StreamKind) (item : Result Item Fault) (rest : Run) → IsGoodOf kind item → IsRunOf kind rest → IsRunOf kind (item_then e k item rest)
one_more e k kind (Ok x) rest is of = record { fault = of.fault; records = (is, of.records) }
one_more e k kind (Err f) rest is of = absurd is

run_from : (F : List ℕ) (limit e at : ℕ) (kind : StreamKind) (shape : Shape) (n k : ℕ) → has_names kind ≡ false → IsRunOf kind (items_from F limit e at kind shape n k)
run_from F limit e at kind shape zero k not = record { fault = refl; records = tt }
run_from F limit e at kind shape (suc n) k not =
    one_more e k kind (item_at F limit e k at (at + shape.first + k * shape.stride) kind) _ (nameless_good F limit e k at (at + shape.first + k * shape.stride) kind not) (run_from F limit e at kind shape n (k + 1) not)

-- the bytes of no name are theirs
nameless_all : (kind : StreamKind) → has_names kind ≡ false → (xs : List Item) → AreRecordsOf kind xs → names_bytes xs ≡ 0
nameless_all kind not [] are = refl
nameless_all kind not (x ∷ xs) (is, are) = nameless_more kind x xs not is (nameless_all kind not xs are)

-- ---- an entry whose head was read

module _ (F : List ℕ) (limit : ℕ) (x : Numbered) where
  -- it has a good head, and its records no names
  module _ (kind : StreamKind) (not : has_names kind ≡ false) (count : ℕ) where
    run_of_shape : (shape : Result Shape Fault) → count_listed x.number (records_in shape) ≡ Ok count → IsRunOf kind (shaped F limit x.number x.entry.location.rva kind shape)
    run_of_shape (Ok shape) told = run_from F limit x.number x.entry.location.rva kind shape shape.count 0 not
    run_of_shape (Err f) told = absurd (cc)

    run_of_kind : (o : Option StreamKind) → o ≡ Some kind → count_listed x.number (known_count F x.entry.location.rva x.entry.location.size o) ≡ Ok count
        → IsRunOf kind (records_of F limit x.number x.entry.location.rva x.entry.location.size o)
    run_of_kind o same told = rw same (run_of_shape (shape_of F x.entry.location.rva x.entry.location.size kind) (rw same at told))

    run_of_body : (outside : Option Fault) → outside ≡ location_fault (length F) x.entry → kind_of x.entry.stream_type ≡ Some kind → records_told F x ≡ Ok count → IsRunOf kind (entry_body F limit x)
    run_of_body None inside is told = rw (← inside) (run_of_kind (kind_of x.entry.stream_type) is (rw (← inside) at told))
    run_of_body (Some f) outside is told = let never = rw (← outside) at told in absurd (cc)

  -- its head has an error
  module _ (f : ListFault) where
    bad_shape : (kind : StreamKind) (shape : Result Shape Fault) → count_listed x.number (records_in shape) ≡ Err f → shaped F limit x.number x.entry.location.rva kind shape ≡ only_fault f
    bad_shape kind (Ok shape) told = absurd (cc)
    bad_shape kind (Err g) told = ap only_fault (cc)

    bad_kind : (o : Option StreamKind) → count_listed x.number (known_count F x.entry.location.rva x.entry.location.size o) ≡ Err f
        → records_of F limit x.number x.entry.location.rva x.entry.location.size o ≡ only_fault f
    bad_kind (Some kind) told = bad_shape kind (shape_of F x.entry.location.rva x.entry.location.size kind) told
    bad_kind None told = absurd (cc)

    bad_body : (outside : Option Fault) → outside ≡ location_fault (length F) x.entry → records_told F x ≡ Err f → entry_body F limit x ≡ only_fault f
    bad_body None inside told = rw (← inside) (bad_kind (kind_of x.entry.stream_type) (rw (← inside) at told))
    bad_body (Some g) outside told = let same = rw (← outside) at told in rw (← outside) (ap only_fault (cc))

-- ---- runs one after the other

joined_parts : (items : List Item) (fault : Option ListFault) (next : Run) → fault ≡ None → joined (record { items = items; fault = fault }) next ≡ give_all items next
joined_parts items None next none = refl
joined_parts items (Some f) next none = absurd (cc)

joined_good : (run next : Run) → run.fault ≡ None → joined run next ≡ give_all run.items next
joined_good run next none = joined_parts run.items run.fault next none

-- the error of its head is all that is left
joined_bad : (F : List ℕ) (limit : ℕ) (x : Numbered) (f : ListFault) (next : Run) → records_told F x ≡ Err f → joined (entry_body F limit x) next ≡ only_fault f
joined_bad F limit x f next told = ap (λ (run : Run). joined run next) (bad_body F limit x f (location_fault (length F) x.entry) refl told)

-- ---- positions

pub next_unsought : (p : Position) (passed : ℕ) → seeks p ≡ false → next_number p passed ≡ passed
next_unsought (Sought at) passed not = absurd (cc)
next_unsought Begun passed not = refl
next_unsought Within passed not = refl

pub begun_unsought : (p : Position) → IsTrue (begins p) → seeks p ≡ false
begun_unsought (Sought at) is = absurd (cc)
begun_unsought Begun is = refl
begun_unsought Within is = absurd (cc)

-- an entry that was skipped is over
pub between_skipped : (old new : WalkerState) → SkipsEntry old.list new.list → KeepsGiven old.list new.list → is_sought new ≡ false → IsBetween new
between_skipped old new skips keeps unsought =
    let next : next_in new ≡ old.list.passed = next_unsought new.position new.list.passed unsought ∙ keeps.passed in
    skips.left ∙ (λ i. option_map (λ file. listing_from file (sym keeps.same.choice i) (sym keeps.same.limit i) (sym next i)) (sym keeps.source i).store.content)

-- ---- what a visitor has no use for

unused_all : {K : Type 0} (taken : K → Item → Result (Unit {0}) Stopped → K → Type 0) (looked : Option (List ℕ) → ℕ → K → Result (Unit {0}) VisitEnd → K → Type 0) (k : K) (kind : StreamKind)
    → HasNoUse taken looked k kind → (xs : List Item) → AreRecordsOf kind xs → (content : Option (List ℕ)) (limit : ℕ) → VisitedAll taken (looked content limit) k xs k
unused_all taken looked k kind none [] are content limit = refl
unused_all taken looked k kind none (x ∷ xs) (is, are) content limit = (k, (none content limit x is, unused_all taken looked k kind none xs are content limit))

pub nothing_passed : {K : Type 0} (taken : K → Item → Result (Unit {0}) Stopped → K → Type 0) (looked : Option (List ℕ) → ℕ → K → Result (Unit {0}) VisitEnd → K → Type 0) (k : K) (old : WalkerState)
    → old.list.stop ≡ None → PassesOver taken looked k old old
nothing_passed taken looked k old going = record {
  items = [];
  unused = λ content limit. refl;
  named = names_none 1 old.list.counts.fetched;
  left = λ left is. (left, (is, refl));
  follows = inl refl;
  stays = record {
    same = same_listing_none old.list;
    going = going;
    current = refl;
    next = refl;
    sought = refl;
    mark = refl;
    aside = refl;
    names = refl;
    rests = omega arith;
  };
}

-- the head of its stream was read, and then the entry was skipped
module _ (old mid new : WalkerState) (kind : StreamKind) (count : ℕ) (begun : HasBegun old kind) (counted : CountsRecords old (Ok count) mid)
    (skips : SkipsEntry mid.list new.list) (keeps : KeepsGiven mid.list new.list) (mark : new.mark ≡ mid.mark) (unsought : is_sought new ≡ false) where
  skipped_stays : StaysInEntry old new
  skipped_stays =
      let names = counted.counts in
      let next : next_in new ≡ next_in old =
      next_unsought new.position new.list.passed unsought ∙ keeps.passed ∙ counted.passed ∙ sym (next_unsought old.position old.list.passed (begun_unsought old.position begun.begun)) in
      record {
        same = same_listing_then old.list mid.list new.list (next_listing _ old.list mid.list counted.same counted.fetches) (skipped_listing mid.list new.list keeps.same keeps.source);
        going = skips.stop;
        current = keeps.current ∙ counted.current;
        next = next;
        sought = unsought ∙ sym (begun_unsought old.position begun.begun);
        mark = mark ∙ counted.mark;
        aside = ap (λ (c : MeterCounts). c.aside) keeps.counts ∙ counted.counts.same_aside;
        names = let same = ap (λ (c : MeterCounts). c.names) keeps.counts in omega (arith, same, names.more_names, names.most_names);
        rests = let rests = keeps.rests in omega (arith, rests, counted.rests);
      }

  skipped_later : old.list.counts.fetched ≤ new.list.counts.fetched
  skipped_later = let more = counted.counts.more in let same = ap (λ (c : MeterCounts). c.fetched) keeps.counts in omega (arith, more, same)

  module _ {K : Type 0} (taken : K → Item → Result (Unit {0}) Stopped → K → Type 0) (looked : Option (List ℕ) → ℕ → K → Result (Unit {0}) VisitEnd → K → Type 0) (k : K)
      (not : has_names kind ≡ false) (none : HasNoUse taken looked k kind)
      (told : (file : List ℕ) → old.list.source.store.content ≡ Some file → records_told file (record { number = old.list.passed - 1; entry = old.list.current }) ≡ Ok count) where
    passed_by : (content : Option (List ℕ)) → old.list.source.store.content ≡ content → PassesOver taken looked k old new
    passed_by None unknown =
        let nothing_left = begun.left ∙ ap (option_map (left_begun old.list)) unknown in
        record {
          items = [];
          unused = λ content limit. refl;
          named = names_idle [] old.list.counts.fetched new.list.counts.fetched refl skipped_later;
          left = λ left is. absurd (cc);
          follows = inr (between_skipped mid new skips keeps unsought);
          stays = skipped_stays;
        }
    passed_by (Some F) known =
        let x : Numbered = record { number = old.list.passed - 1; entry = old.list.current } in
        let body = run_of_body F old.list.limit x kind not count (location_fault (length F) old.list.current) refl begun.kind_is (told F known) in
        let run = entry_body F old.list.limit x in
        let rest = listing_from F old.list.choice old.list.limit old.list.passed in
        let same = counted.same in
        let content = counted.fetches.same_content ∙ known in
        record {
          items = run.items;
          unused = unused_all taken looked k kind none run.items body.records;
          named = names_idle run.items old.list.counts.fetched new.list.counts.fetched (nameless_all kind not run.items body.records) skipped_later;
          left = λ left is.
              let all : left ≡ joined run rest = let known_left = begun.left ∙ ap (option_map (left_begun old.list)) known in cc in
              (rest, (skips.left ∙ (λ i. option_map (λ file. listing_from file (same.choice i) (same.limit i) (counted.passed i)) (content i)), all ∙ joined_good run rest body.fault));
          follows = inr (between_skipped mid new skips keeps unsought);
          stays = skipped_stays;
        }

    pub skipped_passed : PassesOver taken looked k old new
    skipped_passed = passed_by old.list.source.store.content refl

-- the head of its stream has an error
module _ (old : WalkerState) (kind : StreamKind) (f : ListFault) (begun : HasBegun old kind)
    (told : (file : List ℕ) → old.list.source.store.content ≡ Some file → IsAnsweredFor {X = ℕ} (records_answer file old) (Err f)) where
  head_by : (content : Option (List ℕ)) → old.list.source.store.content ≡ content → (left : Run) → old.list.left ≡ Some left → (IsUnobtained f.kind → ⊥) → left ≡ only_fault f
  head_by None unknown left is obtained = let nothing_left = begun.left ∙ ap (option_map (left_begun old.list)) unknown in absurd (cc)
  head_by (Some F) known left is obtained =
      let x : Numbered = record { number = old.list.passed - 1; entry = old.list.current } in
      let all : left ≡ left_begun old.list F = let known_left = begun.left ∙ ap (option_map (left_begun old.list)) known in cc in
      all ∙ joined_bad F old.list.limit x f (listing_from F old.list.choice old.list.limit old.list.passed) (told F known obtained)

  pub head_left : (left : Run) → old.list.left ≡ Some left → (IsUnobtained f.kind → ⊥) → left ≡ only_fault f
  head_left = head_by old.list.source.store.content refl
