-- What a request for an item settles.
use Rattle.std.proofs.Common.{◌≡◌, ◌∙◌, ◌+◌, ◌-◌, ◌*◌, ◌<◌, ◌≤◌, arith, length-append, ℕ, List, [], ◌∷◌, ◌++◌, length, slice_get, Option, Some, None, Result, Ok, Err, ap, refl, subst, sym}
use Rattle.std.specs.Prelude.{IfOk, flat_map, option_map}
use Rattle.mdmp_lister.specs.declared.fault.ListFault.{ListFault}
use Rattle.mdmp_lister.specs.declared.item.Item.{Item}
use Rattle.mdmp_lister.specs.Fault.{IsUnobtained}
use Rattle.mdmp_lister.specs.Format.Listing.{Numbered, Run, list_fault, nothing, only_fault}
use Rattle.mdmp_lister.specs.Format.Shape.{location_fault, shape_of}
use Rattle.mdmp_lister.specs.declared.fault.Fault.{Fault}
use Rattle.mdmp_lister.specs.declared.item.StreamItem.{StreamItem}
use Rattle.mdmp_lister.specs.Lister.{ListerState, current_after, tail}
use Rattle.mdmp_dump.specs.declared.fault.ReadFault.{ReadFault}
use Rattle.mdmp_dump.specs.declared.fault.ReadFault.TheVariants as faults
use Rattle.mdmp_lister.specs.declared.item.Item.TheVariants as items
use Rattle.mdmp_lister.specs.declared.kind.StreamKind.{StreamKind}
use Rattle.mdmp_lister.specs.Format.Classes.{IsStream as IsStreamItem}
use Rattle.mdmp_lister.specs.Format.Kind.{kind_of}
use Rattle.mdmp_dump.specs.declared.reader.Reader.{Reader}
use Rattle.mdmp_dump.specs.declared.reader.Told.{Told}
use Rattle.mdmp_dump.specs.declared.reader.Told.TheVariants as tolds
use Rattle.mdmp_dump.specs.Keeping.{KeepsOn, KeepsTill, WasLeft}
use Rattle.mdmp_dump.proofs.Keeping.{asked_part, keeps_err, one_left_before, told_part}
use Rattle.mdmp_dump.specs.Left.{IsGiven, AreAllGiven, RowGiven, left_from, run_of}
use Rattle.mdmp_dump.specs.Reading.{AreRows, HasOneRecord, IsFoundOrBehind, IsLeftBehind, IsNameTaken, IsNextStream, IsWanting, NoRowFirst, FindsRead, IsFirstLeft, IsGoing, IsRecordFound, IsRow, IsToldGoing, ListingGoesOn, TakesSteps, Settles, owed, refusal_found, refusal_in}
use Rattle.mdmp_dump.specs.LaysOut.{HasRecords}
use Rattle.mdmp_dump.specs.RecordParts.{ArePartsOf, IsReadAt}
use Rattle.mdmp_dump.specs.declared.record_parts.RecordParts.{RecordParts}
use Rattle.mdmp_lister.specs.declared.shape.Shape.{Shape}
use Rattle.mdmp_lister.proofs.Heads.{listed-inside}
use Rattle.mdmp_dump.proofs.Budget.{inside_is}
use Rattle.mdmp_dump.proofs.More.{each_more}
use Rattle.mdmp_dump.proofs.Left.{all_given, no_row_first, row_given, stream_given}
use Rattle.mdmp_dump.proofs.Refusal.{refusal-end}
use Rattle.mdmp_dump.specs.Refusal.{Refuse, ReadStep, first_refusal, item_steps, name_steps, parts_asked, record_steps}
use Rattle.mdmp_wire.specs.AnyRecord.{name_rva, slot_at, slot_name}
use Rattle.mdmp_wire.specs.declared.any_record.AnyRecord.{AnyRecord}
use Rattle.mdmp_wire.specs.declared.entry.Entry.{Entry}
use Rattle.mdmp_lister.specs.Format.Summary.{Summary, entry_begun}
use Rattle.mdmp_lister.proofs.Summary.{summary_of-item_of}
use Rattle.mdmp_wire.specs.declared.any_record.AnyRecord.TheVariants as any
use Rattle.mdmp_lister.specs.declared.name.Name.{Name}
use Rattle.mdmp_lister.specs.declared.step.ItemRead.{ItemRead}
use Rattle.mdmp_lister.specs.declared.step.ItemRead.TheVariants as reads
use Rattle.mdmp_lister.specs.declared.step.RecordRead.{RecordRead}
use Rattle.mdmp_lister.specs.Format.Item.{item_of, name_of, plain}
use Rattle.mdmp_lister.specs.Format.Name.{plain_name}
use Rattle.mdmp_lister.specs.ItemRead.{IsReadOf, item_read}
use Rattle.mdmp_lister.proofs.Classes.{plain-named}
use Rattle.mdmp_dump.proofs.Names.{slot_name_stands}
use Rattle.mdmp_dump.proofs.RecordItems.{Told as ItemTold, item_asks, name_asked, name_by, read_asks, read_at, refused_first, told_is}

-- a fault that is next is what is owed
pub fault-owed : (file : List ℕ) (left : ℕ) (run : Run) (f : ListFault) → ((IsUnobtained f.kind → ⊥) → run ≡ only_fault f) → (IsWanting (faults.List f) → ⊥)
    → owed file left None (Some run) ≡ Some (faults.List f)
fault-owed file left run f given own =
    ap (λ (r : Run). owed file left None (Some r)) (given own) ∙ refusal-end left (Some (faults.List f))

-- ---- an item

first-of : (items : List Item) (item : Item) → slice_get items 0 ≡ Some item → (rest : List Item) × (items ≡ item ∷ rest)
first-of [] item is = absurd (cc is)
first-of (x ∷ rest) item is = (rest, ap (λ (y : Item). y ∷ rest) (cc is))

-- its own steps are owed first
pub item-owed : (file : List ℕ) (left : ℕ) (run : Run) (item : Item) → slice_get run.items 0 ≡ Some item
    → owed file left None (Some run) ≡ refusal_in file left (item_steps (length file) item) (Some (tail run))
item-owed file left run item first =
    let rest = first-of run.items item first in
    let is : run ≡ record { items = item ∷ rest.0; fault = run.fault } = λ i. record { items = rest.1 i; fault = run.fault } in
    rw is refl

-- ---- where the listing goes on

-- an item of a record begins no entry
same_entry : (z e k far : ℕ) (w : AnyRecord) (name : Name) (old new : Entry) → new ≡ current_after (item_of z e k far w name) old → new ≡ old
same_entry z e k far w name old new is = is ∙ ap (λ (s : Summary). entry_begun s.stream old) (summary_of-item_of z e k far w name)

-- a record that was read is of the kind of the entry in which the listing stood
pub read_kind : (z t : ℕ) (kind : StreamKind) (item : ItemRead) (old new : Entry) → new ≡ current_after (item_read z item) old → kind_of t ≡ Some kind → old.stream_type ≡ t
    → IsReadOf (kind_of new.stream_type) item → IsReadOf (Some kind) item
read_kind z t kind (reads.Stream x) old new is known type of = tt
read_kind z t kind (reads.Record r name) old new is known type of =
    let same : kind_of new.stream_type ≡ Some kind = ap (λ (e : Entry). kind_of e.stream_type) (same_entry z r.entry r.index r.offset r.fields name old new is) ∙ ap kind_of type ∙ known in
    subst (λ (k : Option StreamKind). IsReadOf k (reads.Record r name)) same of

pub found_going : {Z : Type 0} (z : ℕ) (item : ItemRead) (old new : ListerState) → ListingGoesOn old new → new.current ≡ current_after (item_read z item) old.current
    → ((run : Run) → old.left ≡ Some run → slice_get run.items 0 ≡ Some (plain (item_read z item))) → (result : Result (Told Z) ReadFault) → FindsRead item result → IfOk result (λ told. IsToldGoing old told new)
found_going z (reads.Stream x) old new on is first result finds = rw finds (on, ap (λ (e : Entry). e.stream_type) is, λ run left. (0, first run left))
found_going z (reads.Record r name) old new on is first (Ok (tolds.Record found units)) finds = (on, same_entry z r.entry r.index r.offset r.fields name old.current new.current is)
found_going z (reads.Record r name) old new on is first (Ok (tolds.Behind next)) finds = absurd finds
found_going z (reads.Record r name) old new on is first (Err fault) finds = tt

-- behind what was read before
pub going_before : (old mid : ListerState) (next : Option StreamItem) (new : ListerState) → mid.work ≤ old.work → WasLeft old.left mid.left → IsGoing mid next new → IsGoing old next new
going_before old mid None new rests left going = tt
going_before old mid (Some item) new rests left going = ((going.0.0, omega (arith, rests, going.0.1)), going.1, one_left_before old mid (items.Stream item) left going.2)

-- a record that is found is the first item that was left
pub found_first : {Z : Type 0} (item : ItemRead) (v : ListerState) → ((run : Run) → v.left ≡ Some run → slice_get run.items 0 ≡ Some (plain (item_read v.source.size item)))
    → (result : Result (Told Z) ReadFault) → FindsRead item result → IfOk result (IsFirstLeft v)
found_first (reads.Stream x) v first result finds = rw finds tt
found_first (reads.Record r name) v first (Ok (tolds.Record found units)) finds =
    let z = v.source.size in
    rw finds.0 (λ run left. (
      item_of z r.entry r.index r.offset r.fields (plain_name name),
      (
        first run left ∙ ap Some (plain-named z r.entry r.index r.offset r.fields name),
        item_asks z r.entry r.index r.offset r.fields (plain_name name) ∙ name_asked z r (plain_name name) finds.1.0,
      ),
    ))
found_first (reads.Record r name) v first (Ok (tolds.Behind next)) finds = absurd finds
found_first (reads.Record r name) v first (Err fault) finds = tt

-- ---- the end

-- nothing is owed behind the end
pub end-given : (file : List ℕ) (limit : ℕ) (x : Numbered) (k : ℕ) (xs : List Numbered) → left_from file limit x k xs ≡ nothing
    → IsGiven file x k × IsLeftBehind file limit xs None (Some (left_from file limit x k xs))
end-given file limit x k xs none =
    let all = all_given file limit x k xs none in
    (all.0, (left_from file limit x k xs, (refl, (all.1, none))))

-- ---- a record

refused-by : (fault : ReadFault) (left : ℕ) (steps : List ReadStep) (last : Option ReadFault) → first_refusal left 0 (Refuse fault ∷ steps) last ≡ Some fault
unfolding first_refusal
refused-by fault left steps last = refl

-- the item of a record is none of an entry
not_stream : (z e k far : ℕ) (w : AnyRecord) (name : Name) → IsStreamItem (item_of z e k far w name) → ⊥
not_stream z e k far (any.Thread r) name stream = let is = stream.1 in cc is
not_stream z e k far _ name stream = let is = stream.1 in cc is

module _ (file : List ℕ) (limit : ℕ) (x : Numbered) (k : ℕ) (xs : List Numbered) (kind : StreamKind) (known : kind_of x.entry.stream_type ≡ Some kind) (left z : ℕ) where
  abbrev pub run_first : Run
  run_first = left_from file limit x k xs

  -- ---- of a record that was read, with its name

  module _ (r : RecordRead) (name : Name) (of : IsReadOf (Some kind) (reads.Record r name)) (first : slice_get run_first.items 0 ≡ Some (plain (item_read z (reads.Record r name)))) where
    abbrev item : Item
    item = item_of z r.entry r.index r.offset r.fields (plain_name name)

    is_first : slice_get run_first.items 0 ≡ Some item
    is_first = first ∙ ap Some (plain-named z r.entry r.index r.offset r.fields name)

    given : RowGiven file limit x k xs kind item
    given = row_given file limit x k xs kind item known (not_stream z r.entry r.index r.offset r.fields (plain_name name)) is_first

    asked : owed file left None (Some run_first) ≡ refusal_in file left (record_steps (length file) r.entry r.index r.offset r.fields (plain_name name)) (Some (tail run_first))
    asked =
        item-owed file left run_first item is_first
        ∙ ap (λ (s : List ReadStep). refusal_in file left s (Some (tail run_first))) (read_asks file limit x.number k x.entry.location.rva _ kind r (plain_name name) z given.is_item of.0.0)

    record_given : (units : Option (List ℕ)) → IsNameTaken (name_steps r.entry r.index (plain_name name)) (plain_name name) (Ok units)
        → IsRecordFound file limit x k xs kind r units (Some (tail run_first)) × (owed file left None (Some run_first) ≡ refusal_in file left (parts_asked (length file) r) (Some (tail run_first)))
    record_given units taken =
        let is = told_is file limit x.number k x.entry.location.rva _ kind r (plain_name name) z given.is_item of.0.0 in
        let at = read_at file limit x.number k x.entry.location.rva _ kind r (plain_name name) z given.is_item of.0.0 in
        let named : name_of file limit (slot_name (slot_at r.fields 0)) ≡ Ok is.0 = ap (λ (w : AnyRecord). name_of file limit (name_rva w)) at.fields ∙ is.1.0 in
        let same : name_by (slot_name (slot_at r.fields 0)) (plain_name name) ≡ name_by (slot_name (slot_at r.fields 0)) is.0 =
        ap (λ (t : ItemTold). t.name) is.1.1 ∙ sym (ap (λ (w : AnyRecord). name_by (name_rva w) is.0) at.fields) in (
          record {
            item = item;
            given = given;
            is = at;
            named = slot_name_stands file limit (slot_at r.fields 0) is.0 (plain_name name) units named same taken.1;
            rest = ap (λ (run : Run). Some run) given.rest;
          },
          asked ∙ ap (λ (s : List ReadStep). refusal_in file left s (Some (tail run_first))) (name_asked (length file) r (plain_name name) taken.0),
        )

    name_fails : (fault : ReadFault) → IsNameTaken (name_steps r.entry r.index (plain_name name)) (plain_name name) (Err fault) → (IsWanting fault → ⊥) → owed file left None (Some run_first) ≡ Some fault
    name_fails faults.Memory refused own = absurd (own tt)
    name_fails fault refused own =
        let front = refused_first (length file) fault r (plain_name name) of.0.1 of.1 refused in
        asked ∙ (rw front.1 (refused-by fault left _ _))

  -- ---- what is found of the first item, and what is owed then

  pub found-given : {Z : Type 0} (item : ItemRead) → IsReadOf (Some kind) item → slice_get run_first.items 0 ≡ Some (plain (item_read z item)) → (result : Result (Told Z) ReadFault) → FindsRead item result
      → IfOk result (λ t. IsFoundOrBehind file limit x k xs kind t (Some (tail run_first)))
      × Settles (owed file left None (Some run_first)) result (λ t. refusal_found file left t (Some (tail run_first)))
  found-given (reads.Stream stream) of first result is =
      let behind = stream_given file limit x k xs stream first in
      rw is ((behind.0, (tail run_first, (refl, behind.1))), item-owed file left run_first (items.Stream stream) first)
  found-given (reads.Record r name) of first (Ok (tolds.Record found units)) is =
      rw is.0 (record_given r name of first units is.1)
  found-given (reads.Record r name) of first (Ok (tolds.Behind next)) is = absurd is
  found-given (reads.Record r name) of first (Err fault) is = (tt, name_fails r name of first fault is)

-- ---- its parts

module _ {S A T : Type 0} (file : List ℕ) (limit : ℕ) (x : Numbered) (k : ℕ) (xs : List Numbered) (kind : StreamKind)
    (IsAt : List ℕ → ℕ → ℕ → ℕ → T → Type 0) (old : Option ReadFault) (mid : Reader S A) (r : RecordRead) (name : Option (List ℕ))
    (is : IsRecordFound file limit x k xs kind r name mid.lister.left) (owes : old ≡ refusal_in file mid.left (parts_asked (length file) r) mid.lister.left)
    (sized : mid.lister.source.size ≡ length file) (new : Reader S A) where
  abbrev left_behind : Run
  left_behind = left_from file limit x (k + 1) xs

  settled : {U : Type 0} {result : Result U ReadFault} → TakesSteps (parts_asked mid.lister.source.size r) mid result new → Settles old result (λ _. owed file new.left None (Some left_behind))
  settled {result = result} takes =
      let here : TakesSteps (parts_asked (length file) r) mid result new = subst (λ (z : ℕ). TakesSteps (parts_asked z r) mid result new) sized takes in
      let same : old ≡ first_refusal mid.left 0 (parts_asked (length file) r ++ flat_map (item_steps (length file)) left_behind.items) (option_map faults.List left_behind.fault) = owes ∙ (rw is.rest refl) in
      subst (λ (o : Option ReadFault). Settles o result (λ _. owed file new.left None (Some left_behind))) (sym same) (here.settles _ _)

  -- a record was read whose parts were, with its name
  pub parts-read : (parts : RecordParts A) → ArePartsOf file r.offset r.fields parts → parts.name ≡ name
      → IsReadAt kind file x.entry.location.rva k (x.entry.location.rva + is.given.shape.first + k * is.given.shape.stride) r.fields parts
  parts-read parts are named = record { far = r.offset; is = is.is; name = rw named is.named; parts = are }

  -- its value is the row, and the next one stands behind it
  pub row-read : {U : Type 0} (one : U) (row : T) → TakesSteps (parts_asked mid.lister.source.size r) mid (Ok one) new
      → IsAt file x.entry.location.rva k (x.entry.location.rva + is.given.shape.first + k * is.given.shape.stride) row
      → (IsRow file x kind (IsAt file x.entry.location.rva) k row × (new.lister.left ≡ Some left_behind)) × (old ≡ owed file new.left None new.lister.left)
  row-read one row takes stands =
      let left : new.lister.left ≡ Some left_behind = ap (λ (l : ListerState). l.left) takes.same ∙ is.rest in
      (((is.given.shape, (is.given.shaped, (is.given.within, stands))), left), rw left (settled takes))

  -- or it is refused
  pub row-refused : {U : Type 0} (fault : ReadFault) → TakesSteps {T = U} (parts_asked mid.lister.source.size r) mid (Err fault) new → (IsWanting fault → ⊥) → old ≡ Some fault
  row-refused fault takes own = settled takes own

-- they were not all read: the record asks for the byte at which reading stopped
pub parts_untaken : {S A : Type 0} (old mid new : Reader S A) → KeepsOn old mid → (r : RecordRead)
    → ((run : Run) → old.lister.left ≡ Some run → (item : Item) × ((slice_get run.items 0 ≡ Some item) × (item_steps old.lister.source.size item ≡ parts_asked old.lister.source.size r)))
    → (fault : ReadFault) → KeepsTill (parts_asked mid.lister.source.size r) fault mid new → KeepsTill [] fault old new
parts_untaken old mid new on r first fault till =
    let steps = parts_asked mid.lister.source.size r in
    told_part steps [] fault old new
    (asked_part steps fault old.lister (λ run left.
    let asked = first run left in
    (0, asked.0, (asked.1.0, asked.1.1 ∙ ap (λ (z : ℕ). parts_asked z r) (sym on.same.size)))))
    (keeps_err old mid new on fault till)

-- ---- all records of an entry

module _ {T : Type 0} (file : List ℕ) (x : Numbered) (kind : StreamKind) (IsAt : ℕ → ℕ → T → Type 0) where
  pub rows-none : AreRows file x kind IsAt []
  rows-none shape shaped = (omega arith, tt)

  -- one more behind them
  pub rows-more : (rows : List T) (row : T) → AreRows file x kind IsAt rows → IsRow file x kind IsAt (length rows) row → AreRows file x kind IsAt (rows ++ row ∷ [])
  rows-more rows row before is = λ shape shaped.
      let same : is.0 ≡ shape = let e : Ok is.0 ≡ Ok shape = sym is.1.0 ∙ shaped in cc e in
      let within : length rows < shape.count = subst (λ (s : Shape). length rows < s.count) same is.1.1.0 in
      let at = subst (λ (s : Shape). IsAt (length rows) (x.entry.location.rva + s.first + length rows * s.stride) row) same is.1.1.1 in
      let front : length rows ≡ 0 + length rows = omega arith in
      let at_front = subst (λ (n : ℕ). IsAt n (x.entry.location.rva + shape.first + n * shape.stride) row) front at in
      (omega (arith, within, length-append rows (row ∷ [])), each_more IsAt (x.entry.location.rva + shape.first) shape.stride 0 rows row (before shape shaped).1 at_front)

  -- and those of a stream whose records were all given
  pub rows-all : (rows : List T) → kind_of x.entry.stream_type ≡ Some kind → AreRows file x kind IsAt rows → IsGiven file x (length rows)
      → HasRecords file x.entry.location kind IsAt rows
  rows-all rows known are given =
      let through = subst (λ (k : Option StreamKind). AreAllGiven file x (length rows) k) known given.through in
      let each = are through.0 through.1.0 in
      record {
        inside = inside_is file x.entry.location.rva x.entry.location.size (length file) (listed-inside (length file) x.entry kind given.placed known) refl;
        shape = through.0;
        shaped = through.1.0;
        count = omega (arith, each.0, through.1.1);
        each = each.1;
      }

-- ---- behind the last record

module _ (file : List ℕ) (limit : ℕ) (x : Numbered) (k : ℕ) (xs : List Numbered) (kind : StreamKind) (known : kind_of x.entry.stream_type ≡ Some kind)
    (shape : Shape) (shaped : shape_of file x.entry.location.rva x.entry.location.size kind ≡ Ok shape) (all : shape.count ≤ k) where
  no-row-by : (item : Item) (outside : Option Fault) → location_fault (length file) x.entry ≡ outside
      → slice_get (left_from file limit x k xs).items 0 ≡ Some item → IsStreamItem item
  no-row-by item None inside first =
      let none : shape.count - k ≡ 0 = omega (arith, all) in
      let same : left_from file limit x k xs ≡ run_of file limit xs = rw (inside, known, shaped, none) refl in
      no_row_first file limit xs item (ap (λ (run : Run). slice_get run.items 0) (sym same) ∙ first)
  no-row-by item (Some f) outside first =
      let same : left_from file limit x k xs ≡ only_fault (list_fault x.number None f) = rw outside refl in
      let none : slice_get (left_from file limit x k xs).items 0 ≡ None = ap (λ (run : Run). slice_get run.items 0) same in
      absurd (cc)

  -- no record comes first
  pub no-row-after : NoRowFirst (left_from file limit x k xs)
  no-row-after item first = no-row-by item (location_fault (length file) x.entry) refl first

-- what stands behind an entry, where no record of it is next
pub behind-given : (file : List ℕ) (limit : ℕ) (x : Numbered) (k : ℕ) (xs : List Numbered) (next : Option StreamItem) (new : Option Run)
    → IsNextStream (left_from file limit x k xs) next new → IsGiven file x k × IsLeftBehind file limit xs next new
behind-given file limit x k xs (Some s) new gives =
    let all = stream_given file limit x k xs s gives.0 in
    (all.0, (tail (left_from file limit x k xs), (gives.1, all.1)))
behind-given file limit x k xs None new gives =
    let all = all_given file limit x k xs gives.0 in
    (all.0, (left_from file limit x k xs, (gives.1, (all.1, gives.0))))

-- the one record of an entry, and what stands behind it
module _ {T : Type 0} (file : List ℕ) (limit : ℕ) (x : Numbered) (xs : List Numbered) (kind : StreamKind) (IsAt : ℕ → ℕ → T → Type 0)
    (known : kind_of x.entry.stream_type ≡ Some kind) (one : HasOneRecord file x kind) (row : T) (is : IsRow file x kind IsAt 0 row) where
  pub no-row-after-one : NoRowFirst (left_from file limit x 1 xs)
  no-row-after-one = no-row-after file limit x 1 xs kind known is.0 is.1.0 (omega (arith, one is.0 is.1.0))

  pub one-read : IsGiven file x 1 → HasRecords file x.entry.location kind IsAt (row ∷ [])
  one-read given = rows-all file x kind IsAt (row ∷ []) known (rows-more file x kind IsAt [] row (rows-none file x kind IsAt) is) given
