-- What refuses a view of some entries, one behind the other, and of one of them, record by record.
use Rattle.std.proofs.Common.{◌≡◌, ◌∙◌, ◌+◌, ◌-◌, ◌*◌, ◌<◌, ◌++◌, ℕ, zero, suc, List, [], ◌∷◌, length, get_or, Bool, true, false, Option, Some, None, Result, Ok, Err, ap, refl, sym, subst, arith, flat_map, option_map, if◌then◌else◌}
use Rattle.std.proofs.lemmas.Grind.{flat_map-append}
use Rattle.mdmp_lister.specs.declared.choice.Choice.{Choice}
use Rattle.mdmp_lister.specs.declared.fault.Fault.{Fault}
use Rattle.mdmp_lister.specs.declared.fault.ListFault.{ListFault}
use Rattle.mdmp_lister.specs.declared.fault.OpenFault.{OpenFault}
use Rattle.mdmp_lister.specs.declared.fault.OpenFault.TheVariants as opening
use Rattle.mdmp_lister.specs.declared.item.Item.{Item}
use Rattle.mdmp_lister.specs.declared.kind.StreamKind.{StreamKind}
use Rattle.mdmp_lister.specs.declared.shape.Shape.{Shape}
use Rattle.mdmp_lister.specs.Format.Item.{item_at}
use Rattle.mdmp_lister.specs.Format.Kind.{kind_of}
use Rattle.mdmp_lister.specs.Format.Listing.{Numbered, Run, entry_body, chosen, count_listed, entry_listing, joined, list_fault, only_fault, records_told, stream_item, with_item}
use Rattle.mdmp_lister.specs.Format.Refusal.{directory_refusal}
use Rattle.mdmp_lister.specs.Format.Shape.{known_count, location_fault, record_count, records_in, shape_of}
use Rattle.mdmp_lister.specs.Opening.{IsBareRefusal}
use Rattle.mdmp_lister.proofs.Bodies.{records-given, records-faulted}
use Rattle.mdmp_dump.specs.declared.fault.ReadFault.{ReadFault}
use Rattle.mdmp_dump.specs.declared.fault.ReadFault.TheVariants as faults
use Rattle.mdmp_dump.specs.declared.found_record.FoundRecord.{FoundRecord}
use Rattle.mdmp_dump.specs.EntryWalk.{FindsRow, IsRowFound, no_entry}
use Rattle.mdmp_dump.specs.FileRefusal.{IsOfOpening, IsViewRefusal, body_told, entry_told, first_told, opened_told, run_told, view_refusal}
use Rattle.mdmp_dump.specs.Left.{body_from, records_from, run_of, shaped_from}
use Rattle.mdmp_dump.specs.Reading.{IsOwn, IsReadRefusal}
use Rattle.mdmp_dump.specs.Refusal.{ReadStep, Refuse, Take, item_steps, refusal_of}
use Rattle.mdmp_dump.specs.Seen.{Seen, nothing_seen}
use Rattle.mdmp_dump.proofs.Opened.{TellsNone}
use Rattle.mdmp_dump.proofs.Left.{body_from-all, body_from-shaped}
use Rattle.mdmp_dump.proofs.Unrefused.{IsQuiet, joined_quiet, told_last}

-- ---- steps

-- steps of which none is refused refuse nothing of what comes behind them
pub told_behind : (xs ys : List ReadStep) (last : Option ReadFault) → IsQuiet xs → first_told (xs ++ ys) last ≡ first_told ys last
unfolding first_told
told_behind [] ys last quiet = refl
told_behind (Refuse fault ∷ xs) ys last quiet = absurd (cc quiet)
told_behind (Take e k offset size ∷ xs) ys last quiet = told_behind xs ys last quiet

-- and the first that is refused is the first of all
pub told_before : (xs ys : List ReadStep) (last : Option ReadFault) (fault : ReadFault) → first_told xs None ≡ Some fault → first_told (xs ++ ys) last ≡ Some fault
unfolding first_told
told_before [] ys last fault told = absurd (cc told)
told_before (Refuse other ∷ xs) ys last fault told = told
told_before (Take e k offset size ∷ xs) ys last fault told = told_before xs ys last fault told

pub fault_first : (F : List ℕ) (fault : ListFault) → run_told F (only_fault fault) ≡ Some (faults.List fault)
unfolding first_told
fault_first F fault = refl

nothing_first : first_told [] None ≡ None
unfolding first_told
nothing_first = refl

-- ---- runs, one behind the other

module _ (F : List ℕ) (next : Run) where
  passed_by : (items : List Item) (fault : Option ListFault) → run_told F (record { items = items; fault = fault }) ≡ None
      → run_told F (joined (record { items = items; fault = fault }) next) ≡ run_told F next
  passed_by items None none =
      ap (λ (steps : List ReadStep). first_told steps (option_map faults.List next.fault)) (flat_map-append (item_steps (length F)) items next.items)
      ∙ told_behind (flat_map (item_steps (length F)) items) (flat_map (item_steps (length F)) next.items) (option_map faults.List next.fault) none
  passed_by items (Some fault) none = absurd (told_last (flat_map (item_steps (length F)) items) (faults.List fault) none)

  pub joined_passed : (first : Run) → run_told F first ≡ None → run_told F (joined first next) ≡ run_told F next
  joined_passed first none = passed_by first.items first.fault none

  refused_by : (items : List Item) (fault : Option ListFault) (told : ReadFault) → run_told F (record { items = items; fault = fault }) ≡ Some told
      → run_told F (joined (record { items = items; fault = fault }) next) ≡ Some told
  refused_by items None told is =
      ap (λ (steps : List ReadStep). first_told steps (option_map faults.List next.fault)) (flat_map-append (item_steps (length F)) items next.items)
      ∙ told_before (flat_map (item_steps (length F)) items) (flat_map (item_steps (length F)) next.items) (option_map faults.List next.fault) told is
  refused_by items (Some fault) told is = is

  pub joined_refused : (first : Run) (told : ReadFault) → run_told F first ≡ Some told → run_told F (joined first next) ≡ Some told
  joined_refused first told is = refused_by first.items first.fault told is

-- ---- entries, one behind the other

module _ (F : List ℕ) (limit : ℕ) where
  -- where none of them is refused, nothing is
  pub none_told : (xs : List Numbered) → ((k : ℕ) → k < length xs → entry_told F limit (get_or xs k no_entry) ≡ None) → run_told F (run_of F limit xs) ≡ None
  none_told [] each = nothing_first
  none_told (x ∷ xs) each =
      joined_passed F (run_of F limit xs) (entry_listing F limit x) (each 0 (omega arith))
      ∙ none_told xs (λ k within. each (suc k) (omega (arith, within)))

  -- the first that is refused refuses all
  pub one_told : (xs : List Numbered) (j : ℕ) (fault : ReadFault) → ((k : ℕ) → k < j → entry_told F limit (get_or xs k no_entry) ≡ None)
      → j < length xs → entry_told F limit (get_or xs j no_entry) ≡ Some fault → run_told F (run_of F limit xs) ≡ Some fault
  one_told [] j fault each within is = absurd (omega (arith, within))
  one_told (x ∷ xs) zero fault each within is = joined_refused F (run_of F limit xs) (entry_listing F limit x) fault is
  one_told (x ∷ xs) (suc j) fault each within is =
      joined_passed F (run_of F limit xs) (entry_listing F limit x) (each 0 (omega arith))
      ∙ one_told xs j fault (λ k before. each (suc k) (omega (arith, before))) (omega (arith, within)) is

  -- where nothing is refused, none of them is
  pub each_quiet : (xs : List Numbered) → run_told F (run_of F limit xs) ≡ None → (k : ℕ) → k < length xs → entry_told F limit (get_or xs k no_entry) ≡ None
  each_quiet [] none k within = absurd (omega (arith, within))
  each_quiet (x ∷ xs) none zero within = (joined_quiet F (entry_listing F limit x) (run_of F limit xs) none).0
  each_quiet (x ∷ xs) none (suc k) within = each_quiet xs (joined_quiet F (entry_listing F limit x) (run_of F limit xs) none).1 k (omega (arith, within))

-- a file whose directory is not refused is refused for what its entries are
pub opened_run : (F : List ℕ) (choice : Choice) (limit : ℕ) → directory_refusal F ≡ None → view_refusal F choice limit ≡ run_told F (run_of F limit (chosen F choice))
opened_run F choice limit opens = ap (opened_told F choice limit) opens

opens_by : (F : List ℕ) (choice : Choice) (limit : ℕ) (fault : Option OpenFault) → opened_told F choice limit fault ≡ None → fault ≡ None
opens_by F choice limit None none = refl
opens_by F choice limit (Some fault) none = absurd (cc none)

pub view_opens : (F : List ℕ) (choice : Choice) (limit : ℕ) → view_refusal F choice limit ≡ None → directory_refusal F ≡ None
view_opens F choice limit none = opens_by F choice limit (directory_refusal F) none

-- ---- an entry whose records were counted

module _ (F : List ℕ) (x : Numbered) (n : ℕ) (counts : record_count F x.entry ≡ Ok n) where
  placed_by : (outside : Option Fault) → location_fault (length F) x.entry ≡ outside → location_fault (length F) x.entry ≡ None
  placed_by None placed = placed
  placed_by (Some fault) placed = let wrong : Err fault ≡ Ok n = rw placed at counts in absurd (cc wrong)

  -- its location has no fault
  pub counted_placed : location_fault (length F) x.entry ≡ None
  counted_placed = placed_by (location_fault (length F) x.entry) refl

  -- and its records are those that were counted
  pub known_counted : known_count F x.entry.location.rva x.entry.location.size (kind_of x.entry.stream_type) ≡ Ok n
  known_counted = rw counted_placed at counts

  module _ (kind : StreamKind) (shape : Shape) (known : kind_of x.entry.stream_type ≡ Some kind) (shaped : shape_of F x.entry.location.rva x.entry.location.size kind ≡ Ok shape) where
    -- a stream of this shape has as many
    pub shape_counted : shape.count ≡ n
    shape_counted =
        let same : Ok shape.count ≡ Ok n = rw (known, shaped) at known_counted in
        cc same

-- ---- one entry

-- its Stream item is not refused
taken_quiet : (b : Bool) (e offset size : ℕ) → IsQuiet (if b then Take e 0 offset size ∷ [] else [])
unfolding first_told
taken_quiet true e offset size = refl
taken_quiet false e offset size = refl

module _ (F : List ℕ) (limit : ℕ) (x : Numbered) where
  pub entry_begins : entry_told F limit x ≡ body_told F limit x 0
  entry_begins =
      told_behind (item_steps (length F) (stream_item x)) (flat_map (item_steps (length F)) (entry_body F limit x).items) (option_map faults.List (entry_body F limit x).fault) (taken_quiet _ x.number x.entry.location.rva x.entry.location.size)
      ∙ ap (run_told F) (sym (body_from-all F limit x (location_fault (length F) x.entry) refl))

  -- ---- the fault in the place of its records

  refused_by_shape : (kind : StreamKind) (shape : Result Shape Fault) (f : ListFault) → count_listed x.number (records_in shape) ≡ Err f
      → run_told F (shaped_from F limit x.number x.entry.location.rva kind 0 shape) ≡ Some (faults.List f)
  refused_by_shape kind (Ok shape) f is = absurd (cc is)
  refused_by_shape kind (Err fault) f is =
      let same : list_fault x.number None fault ≡ f = cc is in
      fault_first F (list_fault x.number None fault) ∙ ap (λ (told : ListFault). Some (faults.List told)) same

  refused_by_kind : (kind : Option StreamKind) (f : ListFault) → count_listed x.number (known_count F x.entry.location.rva x.entry.location.size kind) ≡ Err f
      → run_told F (records_from F limit x.number x.entry.location.rva x.entry.location.size 0 kind) ≡ Some (faults.List f)
  refused_by_kind (Some kind) f is = refused_by_shape kind (shape_of F x.entry.location.rva x.entry.location.size kind) f is
  refused_by_kind None f is = absurd (cc is)

  refused_by_place : (outside : Option Fault) → location_fault (length F) x.entry ≡ outside → (f : ListFault) → records_told F x ≡ Err f → body_told F limit x 0 ≡ Some (faults.List f)
  refused_by_place None placed f is = rw placed (refused_by_kind (kind_of x.entry.stream_type) f (rw placed at is))
  refused_by_place (Some fault) placed f is =
      let told : count_listed x.number (Err fault) ≡ Err f = rw placed at is in
      let same : list_fault x.number None fault ≡ f = cc told in
      rw placed (fault_first F (list_fault x.number None fault) ∙ ap (λ (other : ListFault). Some (faults.List other)) same)

  pub count_refused : (f : ListFault) → records_told F x ≡ Err f → entry_told F limit x ≡ Some (faults.List f)
  count_refused f is = entry_begins ∙ refused_by_place (location_fault (length F) x.entry) refl f is

  counted_by : (count : Result ℕ Fault) → record_count F x.entry ≡ count → entry_told F limit x ≡ None → (n : ℕ) × (record_count F x.entry ≡ Ok n)
  counted_by (Ok n) is none = (n, is)
  counted_by (Err fault) is none =
      let told : entry_told F limit x ≡ Some (faults.List (list_fault x.number None fault)) = count_refused (list_fault x.number None fault) (ap (count_listed x.number) is) in
      absurd (cc)

  -- an entry that is not refused has a count of records
  pub counted : entry_told F limit x ≡ None → (n : ℕ) × (record_count F x.entry ≡ Ok n)
  counted none = counted_by (record_count F x.entry) refl none

  -- ---- its records, one after the other

  module _ (n : ℕ) (counts : record_count F x.entry ≡ Ok n) where
    module _ (kind : StreamKind) (shape : Shape) (known : kind_of x.entry.stream_type ≡ Some kind) (shaped : shape_of F x.entry.location.rva x.entry.location.size kind ≡ Ok shape) where
      module _ (k : ℕ) (within : k < shape.count) where
        given_by : (item : Item) → item_at F limit x.number k x.entry.location.rva (x.entry.location.rva + shape.first + k * shape.stride) kind ≡ Ok item
            → body_from F limit x k ≡ with_item item (body_from F limit x (k + 1))
        given_by item is =
            body_from-shaped F limit x [] (counted_placed F x n counts) kind known shape shaped k
            ∙ records-given F limit x.number x.entry.location.rva kind shape k within item is
            ∙ ap (with_item item) (sym (body_from-shaped F limit x [] (counted_placed F x n counts) kind known shape shaped (k + 1)))

        faulted_by : (fault : Fault) → item_at F limit x.number k x.entry.location.rva (x.entry.location.rva + shape.first + k * shape.stride) kind ≡ Err fault
            → body_from F limit x k ≡ only_fault (list_fault x.number (Some k) fault)
        faulted_by fault is =
            body_from-shaped F limit x [] (counted_placed F x n counts) kind known shape shaped k
            ∙ records-faulted F limit x.number x.entry.location.rva kind shape k within fault is

        module _ (seen : Seen) where
          passed_item : (f : FoundRecord) (item : Result Item Fault) → item_at F limit x.number k x.entry.location.rva (x.entry.location.rva + shape.first + k * shape.stride) kind ≡ item
              → IsRowFound F x.number k item seen (Ok f) → body_told F limit x k ≡ body_told F limit x (k + 1)
          passed_item f (Ok item) is found =
              let rest = body_from F limit x (k + 1) in
              ap (run_told F) (given_by item is)
              ∙ told_behind (item_steps (length F) item) (flat_map (item_steps (length F)) rest.items) (option_map faults.List rest.fault) found.0
          passed_item f (Err fault) is found = absurd (cc (found.0))

          refused_item : (told : ReadFault) (item : Result Item Fault) → item_at F limit x.number k x.entry.location.rva (x.entry.location.rva + shape.first + k * shape.stride) kind ≡ item
              → IsRowFound F x.number k item seen (Err told) → (IsOwn told → ⊥) → body_told F limit x k ≡ Some told
          refused_item told (Ok item) is found own =
              let rest = body_from F limit x (k + 1) in
              ap (run_told F) (given_by item is)
              ∙ told_before (item_steps (length F) item) (flat_map (item_steps (length F)) rest.items) (option_map faults.List rest.fault) told (found own)
          refused_item told (Err fault) is found own = ap (run_told F) (faulted_by fault is) ∙ fault_first F (list_fault x.number (Some k) fault) ∙ found own

    module _ (k : ℕ) where
      -- a record that is found is one of them
      pub row_within : (result : Result FoundRecord ReadFault) → FindsRow F limit x k result → k < n
      row_within result finds = subst (λ (m : ℕ). k < m) (shape_counted F x n counts finds.kind finds.shape finds.kind_is finds.shape_is) finds.within

      -- and nothing of it is refused
      pub row_passed : (f : FoundRecord) → FindsRow F limit x k (Ok f) → body_told F limit x k ≡ body_told F limit x (k + 1)
      row_passed f finds = passed_item finds.kind finds.shape finds.kind_is finds.shape_is k finds.within _ f _ refl finds.finds

      -- the first that is refused refuses all that is left
      pub row_refused : (fault : ReadFault) → FindsRow F limit x k (Err fault) → (IsOwn fault → ⊥) → body_told F limit x k ≡ Some fault
      row_refused fault finds own = refused_item finds.kind finds.shape finds.kind_is finds.shape_is k finds.within nothing_seen fault _ refl finds.finds own

    through_shape : (kind : StreamKind) (shape : Result Shape Fault) → records_in shape ≡ Ok n → run_told F (shaped_from F limit x.number x.entry.location.rva kind n shape) ≡ None
    through_shape kind (Ok shape) is =
        let count : shape.count ≡ n = cc is in
        let none : shape.count - n ≡ 0 = omega (arith, count) in
        rw none nothing_first
    through_shape kind (Err fault) is = absurd (cc is)

    through_kind : (kind : Option StreamKind) → known_count F x.entry.location.rva x.entry.location.size kind ≡ Ok n
        → run_told F (records_from F limit x.number x.entry.location.rva x.entry.location.size n kind) ≡ None
    through_kind (Some kind) is = through_shape kind (shape_of F x.entry.location.rva x.entry.location.size kind) is
    through_kind None is = nothing_first

    -- behind all of them nothing is refused
    pub rows_passed : body_told F limit x n ≡ None
    rows_passed = rw (counted_placed F x n counts) (through_kind (kind_of x.entry.stream_type) (known_counted F x n counts))

-- ---- whatever the bytes

-- a walk that could not be opened
pub bare_refusal : (budget : Option ℕ) (size : ℕ) (fault : OpenFault) → (budget ≡ None → TellsNone fault) → IsBareRefusal size fault → IsViewRefusal budget size (refusal_of fault)
bare_refusal budget size opening.Memory none is = tt
bare_refusal budget size (opening.Budget offset len) none is = (λ no. none no offset len refl, is)
bare_refusal budget size fault none is = is

-- and one that was refused
pub walk_refusal : (budget : Option ℕ) (size : ℕ) (fault : ReadFault) → IsOfOpening budget fault → IsReadRefusal size fault → IsViewRefusal budget size fault
walk_refusal budget size (faults.Opening (opening.Budget offset len)) is fits = (is, fits)
walk_refusal budget size (faults.Opening f) is fits = absurd is
walk_refusal budget size (faults.List f) is fits = (fits, is.0)
walk_refusal budget size fault is fits = is
